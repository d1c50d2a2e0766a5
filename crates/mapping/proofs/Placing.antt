-- The marks as members are placed.
use Rattle.std.proofs.Common.{◌≡◌, ℕ, zero, suc, ◌+◌, ◌<◌, ◌≤◌, Bool, true, false, cond, eqb, List, [], ◌∷◌, length, get_or, sym, refl, ap, ◌∙◌, subst, arith}
use Rattle.std.specs.List.{AllByRecursion}
use Rattle.std.proofs.ByRecursion.{All-weaker}
use Rattle.std.proofs.lemmas.Bool.{eq-eqb, or_left, or_right}
use Rattle.analysis.specs.declared.row.Mark.{Mark}
use Rattle.analysis.specs.declared.row.Mark.TheVariants.{Above, Below}
use Rattle.analysis.specs.declared.row.Row.{Row}
use Rattle.mapping.specs.Plans.{all_above, has_place, placed, placed_from, unplaced}
use Rattle.mapping.specs.declared.round.Candidate.{Candidate}
use Rattle.mapping.proofs.Monotone.{below≢above}

-- ---- all rows unplaced

pub length_all_above : (t : List Row) → length (all_above t) ≡ length t
length_all_above [] = refl
length_all_above (r ∷ t) = ap suc (length_all_above t)

pub all_above_at : (t : List Row) (k : ℕ) → k < length t → get_or (all_above t) k Below ≡ Above
all_above_at [] k l = absurd (omega arith)
all_above_at (r ∷ t) zero l = refl
all_above_at (r ∷ t) (suc k) l = all_above_at t k (omega arith)

pub unplaced_all_above : (t : List Row) → unplaced (all_above t) ≡ length t
unplaced_all_above [] = refl
unplaced_all_above (r ∷ t) = ap suc (unplaced_all_above t)

-- ---- how many are unplaced

pub some_free : (m : List Mark) → (unplaced m ≡ 0 → ⊥) → (k : ℕ) × ((k < length m) × (get_or m k Below ≡ Above))
some_free [] h = absurd (h refl)
some_free (Above ∷ m) h = (0, (omega arith, refl))
some_free (Below ∷ m) h = let f : (k : ℕ) × ((k < length m) × (get_or m k Below ≡ Above)) = some_free m h in (suc f.0, (omega (arith, f.1.0), f.1.1))

pub none_free : (m : List Mark) (k : ℕ) → unplaced m ≡ 0 → get_or m k Below ≡ Above → ⊥
none_free [] k h e = below≢above e
none_free (Above ∷ m) k h e = omega arith
none_free (Below ∷ m) zero h e = below≢above e
none_free (Below ∷ m) (suc k) h e = none_free m k h e

-- ---- once members are placed

length_placed_from : (cs : List Candidate) (b : ℕ) (m : List Mark) → length (placed_from cs b m) ≡ length m
length_placed_from cs b [] = refl
length_placed_from cs b (x ∷ m) = ap suc (length_placed_from cs (suc b) m)

pub length_placed : (cs : List Candidate) (m : List Mark) → length (placed cs m) ≡ length m
length_placed cs m = length_placed_from cs 0 m

placed_from_at :
    (cs : List Candidate) (b : ℕ) (m : List Mark) (k : ℕ) → get_or (placed_from cs b m) k Below ≡ cond (has_place (b + k) cs) Below (get_or m k Below)
placed_from_at cs b [] k = elim (has_place (b + k) cs) as (λ h. Below ≡ cond h Below Below) [ true ↦ refl | false ↦ refl ]
placed_from_at cs b (x ∷ m) zero = let z : b ≡ b + 0 = omega arith in ap (λ n. cond (has_place n cs) Below x) z
placed_from_at cs b (x ∷ m) (suc k) =
    let s : suc b + k ≡ b + suc k = omega arith in
    placed_from_at cs (suc b) m k ∙ ap (λ n. cond (has_place n cs) Below (get_or m k Below)) s

placed_at : (cs : List Candidate) (m : List Mark) (k : ℕ) → get_or (placed cs m) k Below ≡ cond (has_place k cs) Below (get_or m k Below)
placed_at cs m k =
    let z : 0 + k ≡ k = omega arith in
    placed_from_at cs 0 m k ∙ ap (λ n. cond (has_place n cs) Below (get_or m k Below)) z

free_cond : (h : Bool) (x : Mark) → cond h Below x ≡ Above → (h ≡ false) × (x ≡ Above)
free_cond true x e = absurd (below≢above e)
free_cond false x e = (refl, e)

-- what is unplaced afterwards was so before, and is no member's
pub still_free :
    (cs : List Candidate) (m : List Mark) (k : ℕ) → get_or (placed cs m) k Below ≡ Above → (has_place k cs ≡ false) × (get_or m k Below ≡ Above)
still_free cs m k e = free_cond (has_place k cs) (get_or m k Below) (sym (placed_at cs m k) ∙ e)

pub stays_free :
    (cs : List Candidate) (m : List Mark) (k : ℕ) → has_place k cs ≡ false → get_or m k Below ≡ Above → get_or (placed cs m) k Below ≡ Above
stays_free cs m k h e = placed_at cs m k ∙ ap (λ b. cond b Below (get_or m k Below)) h ∙ e

fewer_free : (cs : List Candidate) (b : ℕ) (m : List Mark) → unplaced (placed_from cs b m) ≤ unplaced m
fewer_free cs b [] = omega arith
fewer_free cs b (Above ∷ m) =
    let h : unplaced (placed_from cs (suc b) m) ≤ unplaced m = fewer_free cs (suc b) m in
    elim (has_place b cs) as (λ x. unplaced (cond x Below Above ∷ placed_from cs (suc b) m) ≤ suc (unplaced m)) [
      | true ↦ omega arith
      | false ↦ omega arith
    ]
fewer_free cs b (Below ∷ m) =
    let h : unplaced (placed_from cs (suc b) m) ≤ unplaced m = fewer_free cs (suc b) m in
    elim (has_place b cs) as (λ x. unplaced (cond x Below Below ∷ placed_from cs (suc b) m) ≤ unplaced m) [ true ↦ h | false ↦ h ]

less_free :
    (cs : List Candidate) (b : ℕ) (m : List Mark) (k : ℕ) → has_place (b + k) cs ≡ true → get_or m k Below ≡ Above →
    unplaced (placed_from cs b m) < unplaced m
less_free cs b [] k h e = absurd (below≢above e)
less_free cs b (Below ∷ m) zero h e = absurd (below≢above e)
less_free cs b (Above ∷ m) zero h e =
    let z : b + 0 ≡ b = omega arith in
    let g : true ≡ has_place b cs = sym h ∙ ap (λ n. has_place n cs) z in
    subst (λ x. unplaced (cond x Below Above ∷ placed_from cs (suc b) m) < suc (unplaced m)) g (omega (arith, fewer_free cs (suc b) m))
less_free cs b (Above ∷ m) (suc k) h e =
    let s : b + suc k ≡ suc b + k = omega arith in
    let l : unplaced (placed_from cs (suc b) m) < unplaced m =
    less_free cs (suc b) m k (subst (λ n. has_place n cs ≡ true) s h) e
    in
    elim (has_place b cs) as (λ x. unplaced (cond x Below Above ∷ placed_from cs (suc b) m) < suc (unplaced m)) [
      | true ↦ omega arith
      | false ↦ omega arith
    ]
less_free cs b (Below ∷ m) (suc k) h e =
    let s : b + suc k ≡ suc b + k = omega arith in
    let l : unplaced (placed_from cs (suc b) m) < unplaced m =
    less_free cs (suc b) m k (subst (λ n. has_place n cs ≡ true) s h) e
    in
    elim (has_place b cs) as (λ x. unplaced (cond x Below Below ∷ placed_from cs (suc b) m) < unplaced m) [ true ↦ l | false ↦ l ]

pub less_unplaced :
    (cs : List Candidate) (m : List Mark) (k : ℕ) → has_place k cs ≡ true → get_or m k Below ≡ Above → unplaced (placed cs m) < unplaced m
less_unplaced cs m k h e = let z : k ≡ 0 + k = omega arith in less_free cs 0 m k (subst (λ n. has_place n cs ≡ true) z h) e

-- ---- each member's place is a member's

pub own_places : (cs : List Candidate) → AllByRecursion (λ c. has_place c.at cs ≡ true) cs
own_places [] = tt
own_places (c ∷ cs) = (
  or_left (eqb c.at c.at) (has_place c.at cs) (eq-eqb c.at c.at refl),
  All-weaker (λ d. has_place d.at cs ≡ true) (λ d. has_place d.at (c ∷ cs) ≡ true)
      (λ d h. or_right (eqb c.at d.at) (has_place d.at cs) h)
      cs
      (own_places cs),
)
