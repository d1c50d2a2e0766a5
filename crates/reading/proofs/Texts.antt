-- Number fields and the texts of numbers. Assumes nothing.
use Rattle.std.proofs.Common.{◌≡◌, ℕ, ◌+◌, ◌-◌, ◌*◌, ◌^◌, ◌<◌, ◌≤◌, Bool, true, false, cond, ◌&&◌, List, [], ◌∷◌, length, get_or, Some, None, decimal, Option, unwrap_or, sym, refl, ap, ◌∙◌, ⊎_elim, arith, rules}
use native.Mathlib.Nat.{pow-le-pow_right}
use Rattle.std.proofs.lemmas.Fmt.{digits_decimal, digits_value-decimal, length-decimal-le, decimal_nonempty, first_decimal, decimal_digit, decimal-digits_value}
use Rattle.std.proofs.lemmas.Str.Parse.{IsNumeralModel, numerals_by_fold, digits_value_short}
use Rattle.std.proofs.lemmas.Bool.{cond-true, cases_eq, and_parts}
use Rattle.std.proofs.lemmas.Bool.Decides.{nat_tests}
use Rattle.std.specs.Char.{is_ascii_digit}
use Rattle.std.specs.Str.{all_ascii_digits}
use Rattle.reading.specs.Laws.{TextReads, NumberTexts}
use Rattle.reading.specs.Numbers.{reading, sized, number, value}

abbrev folded : ℕ → List ℕ → ℕ
folded n [] = n
folded n (c ∷ cs) = folded (n * 10 + (c - 48)) cs

own : IsNumeralModel (λ ds. all_ascii_digits ds ≡ true) (folded 0)
own = numerals_by_fold _ (search rules) folded (search rules)

reading_digits : (n : ℕ) (cs : List ℕ) → all_ascii_digits cs ≡ true → reading n cs ≡ Some (folded n cs)
reading_digits n [] h = refl
reading_digits n (c ∷ cs) h =
    let p = and_parts (is_ascii_digit c) (all_ascii_digits cs) h in
    cond-true (is_ascii_digit c) _ None p.0 ∙ reading_digits (n * 10 + (c - 48)) cs p.1

text_sized : (n : ℕ) → n < 10 ^ 7 → sized (decimal n) ≡ true
text_sized n h =
    let short : length (decimal n) ≤ 7 = length-decimal-le 7 n (omega arith) h (omega arith) in
    let some : 0 < length (decimal n) = decimal_nonempty n (omega arith) in
    ⊎_elim
    (λ z. let one : length (decimal n) ≡ 1 = ap length (decimal_digit n (omega arith)) in grind (arith, nat_tests))
    (λ nz. let first : 48 < get_or (decimal n) 0 0 = first_decimal n (omega arith) (omega arith) in grind (arith, nat_tests))
    (cases_eq n 0)

pub text_reads : TextReads
text_reads n h =
    let big : n < 2 ^ 64 = omega arith in
    cond-true (sized (decimal n)) _ None (text_sized n h) ∙ reading_digits 0 (decimal n) (digits_decimal own n big) ∙ ap Some (digits_value-decimal own n big)

digits_reading : (m : ℕ) (cs : List ℕ) (n : ℕ) → reading m cs ≡ Some n → (all_ascii_digits cs ≡ true) × (folded m cs ≡ n)
digits_reading m [] n h = (refl, cc)
digits_reading m (c ∷ cs) n h = by (λ e. digits_reading (m * 10 + (c - 48)) cs n e) (is_ascii_digit c) h
  where
    by : (reading (m * 10 + (c - 48)) cs ≡ Some n → (all_ascii_digits cs ≡ true) × (folded (m * 10 + (c - 48)) cs ≡ n)) → (t : Bool) → cond t (reading (m * 10 + (c - 48)) cs) None ≡ Some n → (t && all_ascii_digits cs ≡ true) × (folded (m * 10 + (c - 48)) cs ≡ n)
    by more true e = more e
    by more false e = let z : ◌≡◌ {A = ℕ} 0 1 = cc in absurd (omega arith)

sized_front : (bs : List ℕ) → sized bs ≡ true → (0 < length bs) × (length bs ≤ 7) × (get_or bs 0 0 ≡ 48 → length bs ≡ 1)
sized_front bs e = (grind (arith, nat_tests, e), grind (arith, nat_tests, e), λ z. grind (arith, nat_tests, e, z))

pub number_texts : NumberTexts
number_texts bs n = by (sized bs) refl
  where
    by : (t : Bool) → sized bs ≡ t → cond t (reading 0 bs) None ≡ Some n → (n < 10 ^ 7) × (bs ≡ decimal n)
    by false s e = let z : ◌≡◌ {A = ℕ} 0 1 = cc in absurd (omega arith)
    by true s e =
        let front = sized_front bs s in
        let read = digits_reading 0 bs n e in
        let below : folded 0 bs < 10 ^ 7 = digits_value_short own bs 7 read.0 front.1 in
        let back : decimal (folded 0 bs) ≡ bs = decimal-digits_value own bs read.0 front.0 front.2 (omega arith) in
        (omega (arith, read.1), sym back ∙ ap decimal read.1)

pub value_below : (bs : List ℕ) → value bs < 10 ^ 7
value_below bs = by (number bs) refl
  where
    by : (o : Option ℕ) → number bs ≡ o → unwrap_or o 0 < 10 ^ 7
    by None e = omega arith
    by (Some n) e = (number_texts bs n e).0

-- what the loop of `number_of` has read of a number field stays small
pub ten_fits : (bs : List ℕ) (v i : ℕ) → true ≡ sized bs → v < 10 ^ i → i < length bs → v < 1000000
ten_fits bs v i s h k =
    let short : length bs ≤ 7 = grind (arith, nat_tests, s) in
    let below : i ≤ 6 = omega arith in
    let ten : 0 < 10 = omega arith in
    let p : 10 ^ i ≤ 10 ^ 6 = pow-le-pow_right ten below in
    omega arith
