-- The value of a number field. Assumes nothing.
use Rattle.std.specs.Prelude.{ℕ, ◌+◌, ◌-◌, ◌*◌, Bool, cond, not, ◌&&◌, ◌||◌, List, [], ◌∷◌, length, Some, None, Option, ◌==◌, nat_le, slice_index}
use Rattle.std.specs.Option.{unwrap_or}
use Rattle.std.specs.Char.{is_ascii_digit}

-- the number that digits write after the number n; none where a byte is no digit
abbrev pub reading : ℕ → List ℕ → Option ℕ
reading n [] = Some n
reading n (c ∷ cs) = cond (is_ascii_digit c) (reading (n * 10 + (c - 48)) cs) None

-- 1 to 7 bytes, the first of them no zero unless it is the only one
abbrev pub sized : List ℕ → Bool
sized bs = nat_le 1 (length bs) && (nat_le (length bs) 7 && (length bs == 1 || not (slice_index bs 0 == 48)))

-- the number that a field writes; none where it is no number field
abbrev pub number : List ℕ → Option ℕ
number bs = cond (sized bs) (reading 0 bs) None

-- the same, and 0 where it is no number field
abbrev pub value : List ℕ → ℕ
value bs = unwrap_or (number bs) 0
