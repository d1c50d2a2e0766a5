-- What a sheet keeps of its rows, and where a number stands among them. Assumes nothing.
use Rattle.std.specs.Prelude.{ℕ, Bool, List, is_none, ◌==◌, nat_eq}
use Rattle.ordered.specs.Tests.{apart, first_place}
use Rattle.std.specs.List.{list_all, list_any}
use Rattle.analysis.specs.Ranges.{kept_cost, wrong_field}
use Rattle.analysis.specs.declared.row.Row.{Row}

-- where the first row of a number stands; the length where none does
abbrev pub place_of : ℕ → List Row → ℕ
place_of n t = first_place (λ s. nat_eq s.number n) t

-- whether a row has the number
abbrev pub has_number : ℕ → List Row → Bool
has_number n t = list_any (λ s. nat_eq s.number n) t

-- every value of the row is in its range
abbrev pub row_in_range : Row → Bool
row_in_range r = is_none (wrong_field kept_cost r)

-- every value of every row is in its range
abbrev pub in_ranges : List Row → Bool
in_ranges t = list_all row_in_range t

-- the second row has the number of the first
abbrev pub same_number : Row → Row → Bool
same_number r s = s.number == r.number

-- no two rows have one number
abbrev pub distinct : List Row → Bool
distinct t = apart same_number t
