-- The laws of lines and fields. Assumes nothing.
use Rattle.std.proofs.Common.{◌≡◌, ℕ, suc, ◌<◌, ◌≤◌, Bool, true, false, cond, eqb, List, [], ◌∷◌, ◌++◌, length, sym, refl, ap, ◌∙◌, arith, eqb-true}
use borrow.Author.Tests.{eqb-false}
use Rattle.std.specs.List.{flat_map, AllByRecursion}
use Rattle.reading.specs.Laws.{ended, Lacks, LinesJoin, LinesLackEnds, LinesFew, FieldsJoin, FieldsLackCommas}
use Rattle.reading.specs.Lines.{on_first, lines_of, fields_of}
use Rattle.reading.proofs.Cuts.{line_cut, fields_any}

-- a byte before the first of some pieces, of which there is one
on_join : (b c : ℕ) (ls : List (List ℕ)) → 0 < length ls → flat_map (λ l. l ++ (b ∷ [])) (on_first c ls) ≡ c ∷ flat_map (λ l. l ++ (b ∷ [])) ls
on_join b c [] h = absurd (omega arith)
on_join b c (l ∷ ls) h = refl

lines_any : (c : ℕ) (cs : List ℕ) → 0 < length (lines_of (c ∷ cs))
lines_any c cs = let more : 0 < length (c ∷ cs) = omega arith in rw (line_cut (c ∷ cs) more) (omega arith)

pub lines_join : LinesJoin
lines_join [] = refl
lines_join (c ∷ []) = by (eqb c 10) refl
  where
    by : (t : Bool) → eqb c 10 ≡ t → flat_map (λ l. l ++ (10 ∷ [])) (cond t ([] ∷ []) ((c ∷ []) ∷ [])) ≡ cond t (c ∷ []) (c ∷ 10 ∷ [])
    by true e = ap (λ n. n ∷ []) (sym (eqb-true c 10 e))
    by false e = refl
lines_join (c ∷ d ∷ ds) = by (lines_join (d ∷ ds)) (eqb c 10) refl
  where
    by : flat_map (λ l. l ++ (10 ∷ [])) (lines_of (d ∷ ds)) ≡ ended (d ∷ ds) → (t : Bool) → eqb c 10 ≡ t → flat_map (λ l. l ++ (10 ∷ [])) (cond t ([] ∷ lines_of (d ∷ ds)) (on_first c (lines_of (d ∷ ds)))) ≡ c ∷ ended (d ∷ ds)
    by more true e = (λ i. sym (eqb-true c 10 e) i ∷ more i)
    by more false e = on_join 10 c (lines_of (d ∷ ds)) (lines_any d ds) ∙ ap (λ l. c ∷ l) more

on_lacks : (b c : ℕ) → (c ≡ b → ⊥) → (ls : List (List ℕ)) → AllByRecursion (Lacks b) ls → AllByRecursion (Lacks b) (on_first c ls)
on_lacks b c h [] a = ((h, tt), tt)
on_lacks b c h (l ∷ ls) a = ((h, a.0), a.1)

pub lines_lack_ends : LinesLackEnds
lines_lack_ends [] = tt
lines_lack_ends (c ∷ cs) = by (lines_lack_ends cs) (eqb c 10) refl
  where
    by : AllByRecursion (Lacks 10) (lines_of cs) → (t : Bool) → eqb c 10 ≡ t → AllByRecursion (Lacks 10) (cond t ([] ∷ lines_of cs) (on_first c (lines_of cs)))
    by more true e = (tt, more)
    by more false e = on_lacks 10 c (eqb-false c 10 e) (lines_of cs) more

pub fields_join : FieldsJoin
fields_join [] = refl
fields_join (c ∷ cs) = by (fields_join cs) (eqb c 44) refl
  where
    by : flat_map (λ l. l ++ (44 ∷ [])) (fields_of cs) ≡ cs ++ (44 ∷ []) → (t : Bool) → eqb c 44 ≡ t → flat_map (λ l. l ++ (44 ∷ [])) (cond t ([] ∷ fields_of cs) (on_first c (fields_of cs))) ≡ c ∷ (cs ++ (44 ∷ []))
    by more true e = (λ i. sym (eqb-true c 44 e) i ∷ more i)
    by more false e = on_join 44 c (fields_of cs) (fields_any cs) ∙ ap (λ l. c ∷ l) more

pub fields_lack_commas : FieldsLackCommas
fields_lack_commas [] = (tt, tt)
fields_lack_commas (c ∷ cs) = by (fields_lack_commas cs) (eqb c 44) refl
  where
    by : AllByRecursion (Lacks 44) (fields_of cs) → (t : Bool) → eqb c 44 ≡ t → AllByRecursion (Lacks 44) (cond t ([] ∷ fields_of cs) (on_first c (fields_of cs)))
    by more true e = (tt, more)
    by more false e = on_lacks 44 c (eqb-false c 44 e) (fields_of cs) more

on_few : (c : ℕ) (ls : List (List ℕ)) (n : ℕ) → length ls ≤ n → length (on_first c ls) ≤ suc n
on_few c [] n h = omega arith
on_few c (l ∷ ls) n h = omega arith

pub lines_few : LinesFew
lines_few [] = omega arith
lines_few (c ∷ cs) =
    let more = lines_few cs in
    elim (eqb c 10) as (λ t. length (cond t ([] ∷ lines_of cs) (on_first c (lines_of cs))) ≤ suc (length cs)) [ true ↦ omega arith | false ↦ on_few c (lines_of cs) (length cs) more ]
