-- The codes of the faults, and what the calls on a sheet answer. Assumes nothing.
use Rattle.std.specs.Prelude.{ℕ, cond, ◌&&◌, List, length, Some, None, Ok, Err, Option, Result, nat_le, nat_lt}
use Rattle.analysis.specs.Ranges.{kept_cost, wrong_field}
use Rattle.analysis.specs.declared.row.Row.{Row}
use Rattle.mapping.specs.Sheets.{has_number}
use Rattle.mapping.specs.declared.fault.MapFault.{MapFault}
use Rattle.mapping.specs.declared.fault.MapFault.TheVariants.{Room, Unschedulable}
use Rattle.mapping.specs.declared.fault.SheetFault.{SheetFault}
use Rattle.mapping.specs.declared.fault.SheetFault.TheVariants.{Range, Standing, Full, Missing}

-- ---- codes and fields

-- the code of each fault of a sheet
abbrev pub sheet_code : SheetFault → ℕ
sheet_code (Range field) = 3
sheet_code Standing = 4
sheet_code Full = 5
sheet_code Missing = 6

-- the field that it names, 0 where it names none
abbrev pub sheet_field : SheetFault → ℕ
sheet_field (Range field) = field
sheet_field Standing = 1
sheet_field Full = 0
sheet_field Missing = 1

-- the code of each fault of a mapping
abbrev pub map_code : MapFault → ℕ
map_code Room = 11
map_code Unschedulable = 12

-- a mapping's fault names no field
abbrev pub map_field : MapFault → ℕ
map_field Room = 0
map_field Unschedulable = 0

-- ---- outcomes

-- a call is accepted, or refused with a code and the field that it names, 0 where it names none
pub data Outcome : Type 0 where
  accepted : Outcome
  refused : ℕ → ℕ → Outcome

-- the code's answer, by what it says
abbrev pub outcome_of : {X : Type 0} → Result X SheetFault → Outcome
outcome_of (Ok x) = accepted
outcome_of (Err e) = refused (sheet_code e) (sheet_field e)

-- refused where a field is wrong, else the rest
abbrev pub unless_wrong : Option ℕ → Outcome → Outcome
unless_wrong None rest = rest
unless_wrong (Some field) rest = refused 3 field

-- what an entry is answered with: its ranges come first, then its number, then whether a place is free
abbrev pub enter_outcome : Row → List Row → Outcome
enter_outcome r t =
    unless_wrong (wrong_field kept_cost r) (cond (has_number r.number t) (refused 4 1) (cond (nat_lt (length t) 128) accepted (refused 5 0)))

-- what a strike is answered with: the number's range comes first, then whether it stands
abbrev pub strike_outcome : ℕ → List Row → Outcome
strike_outcome n t = cond (nat_le 1 n && nat_le n 65535) (cond (has_number n t) accepted (refused 6 1)) (refused 3 1)
