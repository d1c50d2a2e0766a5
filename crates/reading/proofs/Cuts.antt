-- Where a list is cut at its first b. Assumes nothing.
use Rattle.std.proofs.Common.{◌≡◌, ℕ, suc, ◌+◌, ◌-◌, ◌<◌, ◌≤◌, true, false, cond, eqb, List, [], ◌∷◌, map, length, take, drop, position, ◌==◌, Some, None, Option, sym, refl, ap, ◌∙◌, add-one, arith, length-drop}
use lib.ListN.{length-map}
use Rattle.std.specs.List.{position_or_len}
use Rattle.std.proofs.lemmas.List.Recursion.{is_position_or_len}
use Rattle.std.proofs.lemmas.Bool.Decides.{nat_tests}
use Rattle.std.proofs.lemmas.List.{drop_all, take_rest, drop-drop}
use Rattle.reading.specs.declared.field.Field.{Field}
use Rattle.reading.specs.Reading.{text, spots_in, texts_in}
use Rattle.reading.specs.Lines.{on_first, lines_of, fields_of, spots, before, after, Spot}

abbrev pub spotted : ℕ → List ℕ → Spot
spotted p f = record { place = p; text = f }

module _ (b : ℕ) where
  pub take_before : (xs : List ℕ) → take (length (before b xs)) xs ≡ before b xs
  take_before [] = refl
  take_before (c ∷ cs) =
      elim (eqb c b) as (λ t. take (length (cond t [] (c ∷ before b cs))) (c ∷ cs) ≡ cond t [] (c ∷ before b cs)) [ true ↦ refl | false ↦ ap (λ l. c ∷ l) (take_before cs) ]

  drop_after : (xs : List ℕ) → drop (suc (length (before b xs))) xs ≡ after b xs
  drop_after [] = refl
  drop_after (c ∷ cs) =
      elim (eqb c b) as (λ t. drop (suc (length (cond t [] (c ∷ before b cs)))) (c ∷ cs) ≡ cond t cs (after b cs)) [ true ↦ refl | false ↦ drop_after cs ]

  pub drop_before : (xs : List ℕ) → drop (length (before b xs) + 1) xs ≡ after b xs
  drop_before xs = rw add-one (drop_after xs)

  pub after_none : (xs : List ℕ) → length xs ≤ length (before b xs) → (before b xs ≡ xs) × (after b xs ≡ [])
  after_none [] h = (refl, refl)
  after_none (c ∷ cs) h =
      (elim (eqb c b) as (λ t. suc (length cs) ≤ length (cond t [] (c ∷ before b cs)) → (cond t [] (c ∷ before b cs) ≡ c ∷ cs) × (cond t cs (after b cs) ≡ [])) [ true ↦ λ h. absurd (omega arith) | false ↦ λ h. let p = after_none cs (omega arith) in (ap (λ l. c ∷ l) p.0, p.1) ]) h

-- what `position` tells of the first b
module _ (b : ℕ) (xs : List ℕ) where
  counts : length (before b xs) ≡ position_or_len (λ x. x == b) xs
  counts = is_position_or_len (λ l. length (before b l)) (λ x. x == b) refl step xs
    where
      step : (x : ℕ) (l : List ℕ) → length (before b (x ∷ l)) ≡ cond (x == b) 0 (1 + length (before b l))
      step x l = elim (eqb x b) as (λ t. length (cond t [] (x ∷ before b l)) ≡ cond t 0 (1 + length (before b l))) [ true ↦ refl | false ↦ omega arith ]

  pub found : (n : ℕ) → Some n ≡ position (λ x. x == b) xs → (n ≡ length (before b xs)) × (n < length xs)
  found n e = let m = counts in grind (arith, nat_tests, m, e)

  pub missing : None ≡ position (λ x. x == b) xs → length xs ≤ length (before b xs)
  missing e = let m = counts in grind (arith, nat_tests, m, e)

pub line_cut : (xs : List ℕ) → 0 < length xs → lines_of xs ≡ before 10 xs ∷ lines_of (after 10 xs)
line_cut [] h = absurd (omega arith)
line_cut (c ∷ []) h = elim (eqb c 10) as (λ t. cond t ([] ∷ []) ((c ∷ []) ∷ []) ≡ cond t [] (c ∷ []) ∷ lines_of (cond t [] [])) [ true ↦ refl | false ↦ refl ]
line_cut (c ∷ d ∷ cs) h =
    elim (eqb c 10) as (λ t. cond t ([] ∷ lines_of (d ∷ cs)) (on_first c (lines_of (d ∷ cs))) ≡ cond t [] (c ∷ before 10 (d ∷ cs)) ∷ lines_of (cond t (d ∷ cs) (after 10 (d ∷ cs)))) [ true ↦ refl | false ↦ ap (on_first c) (line_cut (d ∷ cs) (omega arith)) ]

pub field_some : (xs : List ℕ) → length (before 44 xs) < length xs → fields_of xs ≡ before 44 xs ∷ fields_of (after 44 xs)
field_some [] h = absurd (omega arith)
field_some (c ∷ cs) h =
    (elim (eqb c 44) as (λ t. length (cond t [] (c ∷ before 44 cs)) < suc (length cs) → cond t ([] ∷ fields_of cs) (on_first c (fields_of cs)) ≡ cond t [] (c ∷ before 44 cs) ∷ fields_of (cond t cs (after 44 cs))) [ true ↦ λ h. refl | false ↦ λ h. ap (on_first c) (field_some cs (omega arith)) ]) h

pub field_none : (xs : List ℕ) → length xs ≤ length (before 44 xs) → fields_of xs ≡ xs ∷ []
field_none [] h = refl
field_none (c ∷ cs) h =
    (elim (eqb c 44) as (λ t. suc (length cs) ≤ length (cond t [] (c ∷ before 44 cs)) → cond t ([] ∷ fields_of cs) (on_first c (fields_of cs)) ≡ (c ∷ cs) ∷ []) [ true ↦ λ h. absurd (omega arith) | false ↦ λ h. ap (on_first c) (field_none cs (omega arith)) ]) h

-- front is the line at the place p, which a reader goes q bytes on to leave
pub record NextLine (xs : List ℕ) (p : ℕ) (front : List ℕ) (q : ℕ) : Type 0 where
  pub text : front ≡ before 10 (drop p xs)
  pub rest : drop (p + q) xs ≡ after 10 (drop p xs)
  pub further : 0 < q
  pub within : p + q ≤ length xs

module _ (xs : List ℕ) (p : ℕ) (h : p < length xs) where
  whole : take (length xs - p) (drop p xs) ≡ drop p xs
  whole = take_rest xs p

  long : length (drop p xs) ≡ length xs - p
  long = length-drop p xs

  pub line_found : (n : ℕ) → Some n ≡ position (λ x. x == 10) (take (length xs - p) (drop p xs)) → NextLine xs p (take n (take (length xs - p) (drop p xs))) (n + 1)
  line_found n e =
      let at = found 10 (drop p xs) n (rw whole at e) in
      record {
        text = rw (whole, at.0) (take_before 10 (drop p xs));
        rest = sym (drop-drop (n + 1) p xs) ∙ rw at.0 (drop_before 10 (drop p xs));
        further = omega arith;
        within = omega (arith, long);
      }

  pub line_missing : None ≡ position (λ x. x == 10) (take (length xs - p) (drop p xs)) → NextLine xs p (take (length xs - p) (drop p xs)) (length (take (length xs - p) (drop p xs)))
  line_missing e =
      let none = after_none 10 (drop p xs) (missing 10 (drop p xs) (rw whole at e)) in
      let all : length (take (length xs - p) (drop p xs)) ≡ length xs - p = ap length whole ∙ long in
      record {
        text = whole ∙ sym none.0;
        rest = drop_all _ xs (omega (arith, all)) ∙ sym none.1;
        further = omega (arith, all);
        within = omega (arith, all);
      }

  pub lines_after : (front : List ℕ) (q : ℕ) → NextLine xs p front q → lines_of (drop p xs) ≡ front ∷ lines_of (drop (p + q) xs)
  lines_after front q k = line_cut (drop p xs) (omega (arith, long)) ∙ sym (λ i. k.text i ∷ lines_of (k.rest i))

pub field_missing : (p : ℕ) (xs : List ℕ) → None ≡ position (λ x. x == 44) xs → spotted p xs ∷ [] ≡ spots p (fields_of xs)
field_missing p xs e = rw (field_none xs (missing 44 xs e)) refl

pub field_found : (p : ℕ) (xs : List ℕ) (n : ℕ) → Some n ≡ position (λ x. x == 44) xs → spotted p (take n xs) ∷ spots (p + n + 1) (fields_of (take (length xs - (n + 1)) (drop (n + 1) xs))) ≡ spots p (fields_of xs)
field_found p xs n e =
    let at = found 44 xs n e in
    rw (take_rest xs (n + 1)) (rw (field_some xs (omega arith)) (rw at.0 (rw (take_before 44 xs, drop_before 44 xs) refl)))

pub fields_any : (xs : List ℕ) → 0 < length (fields_of xs)
fields_any [] = omega arith
fields_any (c ∷ cs) =
    elim (eqb c 44) as (λ t. 0 < length (cond t ([] ∷ fields_of cs) (on_first c (fields_of cs)))) [ true ↦ omega arith | false ↦ on (fields_of cs) ]
  where
    on : (ls : List (List ℕ)) → 0 < length (on_first c ls)
    on [] = omega arith
    on (l ∷ ls) = omega arith

pub texts_spots : (p : ℕ) (fs : List (List ℕ)) → map (λ s. s.text) (spots p fs) ≡ fs
texts_spots p [] = refl
texts_spots p (f ∷ fs) = ap (λ l. f ∷ l) (texts_spots (p + length f + 1) fs)

pub texts_in_is : (o : Option Field) → texts_in o ≡ map (λ s. s.text) (spots_in o)
texts_in_is None = refl
texts_in_is (Some f) = sym (texts_spots f.place (fields_of (text f)))

-- what is left of a line has a field
pub spots_any : (f : Field) → 0 < length (spots_in (Some f))
spots_any f =
    let count : length (fields_of (text f)) ≡ length (spots_in (Some f)) = ap length (texts_in_is (Some f)) ∙ length-map (spots_in (Some f)) (λ s. s.text) in
    omega (arith, count, fields_any (text f))
