-- Refusals: from which part, with which code and field. Assumes nothing.
use Rattle.std.specs.Prelude.{ℕ, List, ◌++◌, codes, decimal}
use Rattle.layers.specs.Outcomes.{layer_code, layer_field}
use Rattle.mapping.specs.Faults.{map_code, map_field, sheet_code, sheet_field}
use Rattle.reading.specs.Says.{read_code, text_code, text_field}
use Rattle.script.specs.declared.fault.BeginFault.{BeginFault}
use Rattle.script.specs.declared.fault.BeginFault.TheVariants.{Memory, Refused}
use Rattle.script.specs.declared.fault.Fault.{Fault}
use Rattle.script.specs.declared.fault.Fault.TheVariants as f
use Rattle.script.specs.declared.fault.SessionFault.TheVariants.{Room}

-- the part that refuses
pub data Part : Type 0 where
  reader text sheet layer mapping session : Part

-- a refusal: the part that it came from, its code, and the field that it names, 0 where it names none
pub record Refusal : Type 0 where
  pub part : Part
  pub code : ℕ
  pub field : ℕ

-- the refusal of each fault
abbrev pub refusal_of : Fault → Refusal
refusal_of (f.Reader e) = record { part = reader; code = read_code e; field = 0 }
refusal_of (f.Text e) = record { part = text; code = text_code e; field = text_field e }
refusal_of (f.Sheet e) = record { part = sheet; code = sheet_code e; field = sheet_field e }
refusal_of (f.Layer e) = record { part = layer; code = layer_code e; field = layer_field e }
refusal_of (f.Mapping e) = record { part = mapping; code = map_code e; field = map_field e }
refusal_of (f.Session Room) = record { part = session; code = 14; field = 0 }

-- how a fault is printed
abbrev pub fault_text : Fault → List ℕ
fault_text e = codes "refused with code " ++ decimal (refusal_of e).code ++ codes ", field " ++ decimal (refusal_of e).field

-- how it is printed why a session does not begin
abbrev pub begin_text : BeginFault → List ℕ
begin_text (Refused e) = fault_text e
begin_text Memory = codes "there is no memory for a session"
