-- A plan, one task after another. Assumes nothing.
use Rattle.std.proofs.Common.{◌≡◌, ℕ, zero, suc, ◌+◌, ◌-◌, ◌<◌, ◌≤◌, Bool, true, false, cond, ◌||◌, eqb, List, [], ◌∷◌, ◌++◌, length, length-append, get_or, Some, None, Option, sym, refl, ap, ◌∙◌, append_assoc, add-one, arith}
use Rattle.analysis.specs.Questions.{Meaning}
use Rattle.analysis.specs.declared.row.Mark.{Mark}
use Rattle.analysis.specs.declared.row.Mark.TheVariants.{Above, Below}
use Rattle.analysis.specs.declared.row.Row.{Row}
use Rattle.analysis.specs.declared.row.Verdict.{Verdict}
use Rattle.analysis.specs.declared.row.Verdict.TheVariants.{OnTime, Late}
use Rattle.mapping.specs.Plans.{before_rest, candidates, candidates_from, has_place, if_on_time, if_unplaced, kept, last_of, lines_from, members, placed, placed_from, plan_from, takes, unplaced}
use Rattle.mapping.specs.Replies.{last_task}
use Rattle.mapping.specs.declared.plan.PlanLine.{PlanLine}
use Rattle.mapping.specs.declared.plan.Rule.{Rule}
use Rattle.mapping.specs.declared.round.Candidate.{Candidate}
use Rattle.mapping.proofs.Candidates.{each_candidate}
use Rattle.mapping.proofs.Placements.{both_below, placed_none, placed_skip}
use Rattle.mapping.specs.Lines.{no_line}
use Rattle.std.specs.List.{AllByRecursion, slice_get}
use Rattle.std.proofs.lemmas.Option.{slice_get-get_or}
use Rattle.std.proofs.lemmas.Bool.{cond-false, cond-true, eq-eqb, ne_eqb, or_from}

-- ---- each member takes one row off the unplaced

kept_place : (f : ℕ → Bool) (k : ℕ) (cs : List Candidate) → AllByRecursion (λ c. suc k ≤ c.at) cs → has_place k (kept f cs) ≡ false
kept_place f k [] e = refl
kept_place f k (c ∷ cs) e =
    let more = kept_place f k cs e.1 in
    let ne : c.at ≡ k → ⊥ = λ d. omega (arith, e.0) in
    let P : Bool → Type 0 = λ b. has_place k (cond b (c ∷ kept f cs) (kept f cs)) ≡ false in
    elim (f c.row.period) as P [ true ↦ or_from (eqb c.at k) (has_place k (kept f cs)) (ne_eqb c.at k ne) more | false ↦ more ]

abbrev Left : List Candidate → ℕ → List Mark → Type 0
Left cs k m = unplaced (placed_from cs k m) + length cs ≡ unplaced m

left_none : (rest : List Candidate) (k : ℕ) (m : List Mark) → has_place k rest ≡ false → Left rest (suc k) m → Left rest k (Above ∷ m)
left_none rest k m h l =
    let e : unplaced (placed_from rest k (Above ∷ m)) ≡ suc (unplaced (placed_from rest (suc k) m)) =
    ap (λ (b : Bool). unplaced (cond b Below Above ∷ placed_from rest (suc k) m)) h in
    omega (arith, e, l)

left_one : (c : Candidate) (rest : List Candidate) (m : List Mark) → Left rest (suc c.at) m → Left (c ∷ rest) c.at (Above ∷ m)
left_one c rest m l =
    let e : unplaced (placed_from (c ∷ rest) c.at (Above ∷ m)) ≡ unplaced (placed_from (c ∷ rest) (suc c.at) m) =
    ap (λ (b : Bool). unplaced (cond (b || has_place c.at rest) Below Above ∷ placed_from (c ∷ rest) (suc c.at) m)) (eq-eqb c.at c.at refl) in
    let d = ap (λ (u : List Mark). unplaced u) (placed_skip c rest (suc c.at) m (omega arith)) in
    omega (arith, e, d, l)

left_here :
    (f : ℕ → Bool) (x : Mark) (y : Verdict) (k : ℕ) (r : Row) (cs : List Candidate) (m : List Mark) → has_place k (kept f cs) ≡ false →
    Left (kept f cs) (suc k) m → Left (kept f (if_unplaced x (if_on_time k r y) ++ cs)) k (x ∷ m)
left_here f Above (OnTime w) k r cs m h l =
    let c : Candidate = record { at = k; row = r; response = w } in
    let P : Bool → Type 0 = λ b. Left (cond b (c ∷ kept f cs) (kept f cs)) k (Above ∷ m) in
    elim (f r.period) as P [ true ↦ left_one c (kept f cs) m l | false ↦ left_none (kept f cs) k m h l ]
left_here f Above Late k r cs m h l = left_none (kept f cs) k m h l
left_here f Below y k r cs m h l =
    let e = ap (λ (z : Mark). unplaced (z ∷ placed_from (kept f cs) (suc k) m)) (both_below (has_place k (kept f cs))) in
    omega (arith, e, l)

left_kept : (f : ℕ → Bool) (ask : ℕ → Verdict) (k : ℕ) (t : List Row) (m : List Mark) → Left (kept f (candidates_from ask k t m)) k m
left_kept f ask k [] m = omega (arith, ap (λ (u : List Mark). unplaced u) (placed_none k m))
left_kept f ask k (r ∷ t) [] = omega arith
left_kept f ask k (r ∷ t) (x ∷ m) =
    left_here f x (ask k) k r (candidates_from ask (suc k) t m) m
    (kept_place f k (candidates_from ask (suc k) t m) (each_candidate (λ c. suc k ≤ c.at) ask (suc k) t m (λ j w l e q. omega arith)))
    (left_kept f ask (suc k) t m)

members_as : (rule : Rule) (cs : List Candidate) → (f : ℕ → Bool) × (members rule cs ≡ kept f cs)
members_as rule [] = (λ n. true, refl)
members_as rule (c ∷ cs) = (takes rule (last_of c cs).row.period (c ∷ cs), refl)

pub left_members : (v : Meaning) (rule : Rule) (t : List Row) (m : List Mark) → Left (members rule (candidates v t m)) 0 m
left_members v rule t m =
    let a = members_as rule (candidates v t m) in
    rw a.1 (left_kept a.0 (v t m) 0 t m)

-- ---- the rest of a plan

-- lines before the rest of a plan
abbrev pub ahead : List PlanLine → Option (List PlanLine) → Option (List PlanLine)
ahead ls None = None
ahead ls (Some rest) = Some (ls ++ rest)

pub ahead_none : (p : Option (List PlanLine)) → ahead [] p ≡ p
ahead_none None = refl
ahead_none (Some ls) = refl

ahead_ahead : (a b : List PlanLine) (p : Option (List PlanLine)) → ahead a (ahead b p) ≡ ahead (a ++ b) p
ahead_ahead a b None = refl
ahead_ahead a b (Some ls) = ap (λ (l : List PlanLine). Some l) (sym (append_assoc a b ls))

before_is : (task : ℕ) (cs : List Candidate) (p : Option (List PlanLine)) → 0 < length cs → before_rest task cs p ≡ ahead (lines_from task 1 cs) p
before_is task [] p h = absurd (omega arith)
before_is task (c ∷ cs) None h = refl
before_is task (c ∷ cs) (Some ls) h = refl

plan_step :
    (v : Meaning) (rule : Rule) (t : List Row) (task fuel fuel' : ℕ) (m : List Mark) → fuel ≡ suc fuel' → 0 < unplaced m →
    plan_from fuel v rule t task m ≡
    before_rest task (members rule (candidates v t m)) (plan_from fuel' v rule t (suc task) (placed (members rule (candidates v t m)) m))
plan_step v rule t task fuel fuel' m e h =
    let ne : unplaced m ≡ 0 → ⊥ = λ z. omega arith in
    ap (λ (n : ℕ). plan_from n v rule t task m) e ∙ cond-false _ _ _ (ne_eqb (unplaced m) 0 ne)

pub plan_done : (v : Meaning) (rule : Rule) (t : List Row) (task fuel : ℕ) (m : List Mark) → unplaced m ≡ 0 → plan_from fuel v rule t task m ≡ Some []
plan_done v rule t task zero m e = cond-true _ _ _ (eq-eqb (unplaced m) 0 e)
plan_done v rule t task (suc fuel) m e = cond-true _ _ _ (eq-eqb (unplaced m) 0 e)

-- the next task is written
pub plan_on :
    (v : Meaning) (rule : Rule) (t : List Row) (task fuel fuel' : ℕ) (m : List Mark) (ls ls' : List PlanLine) (whole : Option (List PlanLine)) →
    fuel ≡ suc fuel' → 0 < unplaced m → 0 < length (members rule (candidates v t m)) → ls' ≡ ls ++ lines_from task 1 (members rule (candidates v t m)) →
    ahead ls (plan_from fuel v rule t task m) ≡ whole →
    ahead ls' (plan_from fuel' v rule t (task + 1) (placed (members rule (candidates v t m)) m)) ≡ whole
plan_on v rule t task fuel fuel' m ls ls' whole e h l a i =
    let ms = members rule (candidates v t m) in
    let rest = plan_from fuel' v rule t (suc task) (placed ms m) in
    let one : ahead ls' (plan_from fuel' v rule t (task + 1) (placed ms m)) ≡ ahead (ls ++ lines_from task 1 ms) rest =
    ap (λ (k : ℕ). ahead ls' (plan_from fuel' v rule t k (placed ms m))) (add-one task) ∙ ap (λ (u : List PlanLine). ahead u rest) a in
    let two : ahead (ls ++ lines_from task 1 ms) rest ≡ ahead ls (plan_from fuel v rule t task m) =
    sym (ahead_ahead ls (lines_from task 1 ms) rest) ∙
    ap (λ (p : Option (List PlanLine)). ahead ls p) (sym (before_is task ms rest l) ∙ sym (plan_step v rule t task fuel fuel' m e h)) in
    one ∙ two ∙ i

lines_count : (task place : ℕ) (cs : List Candidate) → length (lines_from task place cs) ≡ length cs
lines_count task place [] = refl
lines_count task place (c ∷ cs) = ap suc (lines_count task (suc place) cs)

-- a member has one line
pub lines_length : (ls : List PlanLine) (task : ℕ) (cs : List Candidate) → length (ls ++ lines_from task 1 cs) ≡ length ls + length cs
lines_length ls task cs = omega (arith, length-append ls (lines_from task 1 cs), lines_count task 1 cs)

last_get : (n : ℕ) (l : PlanLine) (ls : List PlanLine) → (get_or (l ∷ ls) (length ls) no_line).task ≡ last_task n (l ∷ ls)
last_get n l [] = refl
last_get n l (k ∷ ls) = last_get l.task k ls

-- the last line has the last task
pub last_line : (ls : List PlanLine) (l : PlanLine) → Some l ≡ slice_get ls (length ls - 1) → l.task ≡ last_task 0 ls
last_line [] l e = let z : ◌≡◌ {A = ℕ} 0 1 = cc in absurd (omega arith)
last_line (k ∷ ls) l e =
    let at : length (k ∷ ls) - 1 ≡ length ls = omega arith in
    let n = slice_get-get_or (k ∷ ls) (length ls) no_line (omega arith) in
    let s : l ≡ get_or (k ∷ ls) (length ls) no_line = cc in
    ap (λ (x : PlanLine). x.task) s ∙ last_get 0 k ls
