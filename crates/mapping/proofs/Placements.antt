-- The members of a task, one candidate after another. Assumes nothing.
use Rattle.std.proofs.Common.{◌≡◌, ℕ, zero, suc, ◌+◌, ◌<◌, Bool, true, false, cond, List, [], ◌∷◌, ◌++◌, length, get_or, drop, set, refl, ap, append_assoc, add-one, arith, drop-cons}
use Rattle.analysis.specs.declared.row.Mark.{Mark}
use Rattle.analysis.specs.declared.row.Mark.TheVariants.{Below}
use Rattle.mapping.specs.Plans.{has_place, lines_from, placed, placed_from}
use Rattle.mapping.specs.Rounds.{goes, led, no_candidate}
use Rattle.mapping.specs.declared.plan.PlanLine.{PlanLine}
use Rattle.mapping.specs.declared.round.Candidate.{Candidate}
use Rattle.mapping.specs.declared.round.Lead.{Lead}
use Rattle.std.proofs.lemmas.Bool.{eq-eqb, ne_eqb}

-- whether the candidate at a place goes with the lead
abbrev pub goes_at : Lead → List Candidate → ℕ → Bool
goes_at l cs i = goes l.rule l.period l.divisor (get_or cs i no_candidate).row.period

pub led_then :
    (l : Lead) (cs : List Candidate) (i : ℕ) → i < length cs → goes_at l cs i ≡ true →
    led l (drop i cs) ≡ get_or cs i no_candidate ∷ led l (drop (i + 1) cs)
led_then l cs i h e = rw (add-one, drop-cons cs i no_candidate, e)

pub led_else :
    (l : Lead) (cs : List Candidate) (i : ℕ) → i < length cs → goes_at l cs i ≡ false → led l (drop i cs) ≡ led l (drop (i + 1) cs)
led_else l cs i h e = rw (add-one, drop-cons cs i no_candidate, e)

-- the line of a candidate
abbrev pub line : ℕ → ℕ → Candidate → PlanLine
line task place c = record { task = task; place = place; number = c.row.number; response = c.response }

-- one more line behind those that stand
pub lines_more :
    (task n : ℕ) (ls all : List PlanLine) (c : Candidate) (these rest : List Candidate) → these ≡ c ∷ rest →
    ls ++ lines_from task (suc n) these ≡ all → (ls ++ line task (n + 1) c ∷ []) ++ lines_from task (suc (n + 1)) rest ≡ all
lines_more task n ls all c these rest t a =
    let next : suc (n + 1) ≡ suc (suc n) = omega arith in
    let here : n + 1 ≡ suc n = omega arith in
    let these_are : lines_from task (suc n) these ≡ line task (suc n) c ∷ lines_from task (suc (suc n)) rest =
    ap (λ (u : List Candidate). lines_from task (suc n) u) t in
    let one = append_assoc ls (line task (n + 1) c ∷ []) (lines_from task (suc (n + 1)) rest) in
    let two : (line task (n + 1) c ∷ []) ++ lines_from task (suc (n + 1)) rest ≡ line task (n + 1) c ∷ lines_from task (suc (n + 1)) rest = refl in
    cc

-- a candidate whose place lies before k marks nothing from k on
pub placed_skip : (c : Candidate) (cs : List Candidate) (k : ℕ) (m : List Mark) → c.at < k → placed_from (c ∷ cs) k m ≡ placed_from cs k m
placed_skip c cs k [] h = refl
placed_skip c cs k (x ∷ m) h =
    let ne : c.at ≡ k → ⊥ = λ e. omega arith in
    rw (ne_eqb c.at k ne) (ap (λ (u : List Mark). cond (has_place k cs) Below x ∷ u) (placed_skip c cs (suc k) m (omega arith)))

pub both_below : (b : Bool) → cond b Below Below ≡ Below
both_below true = refl
both_below false = refl

placed_set : (c : Candidate) (cs : List Candidate) (k j : ℕ) (m : List Mark) → c.at ≡ k + j → placed_from (c ∷ cs) k m ≡ placed_from cs k (set m j Below)
placed_set c cs k zero [] e = refl
placed_set c cs k (suc j) [] e = refl
placed_set c cs k zero (x ∷ m) e =
    let same : c.at ≡ k = omega arith in
    rw (eq-eqb c.at k same, both_below (has_place k cs)) (ap (λ (u : List Mark). Below ∷ u) (placed_skip c cs (suc k) m (omega arith)))
placed_set c cs k (suc j) (x ∷ m) e =
    let ne : c.at ≡ k → ⊥ = λ d. omega arith in
    rw (ne_eqb c.at k ne) (ap (λ (u : List Mark). cond (has_place k cs) Below x ∷ u) (placed_set c cs (suc k) j m (omega arith)))

pub placed_more : (c : Candidate) (cs : List Candidate) (m : List Mark) → placed (c ∷ cs) m ≡ placed cs (set m c.at Below)
placed_more c cs m = placed_set c cs 0 c.at m (omega arith)

pub placed_none : (k : ℕ) (m : List Mark) → placed_from [] k m ≡ m
placed_none k [] = refl
placed_none k (x ∷ m) = ap (λ (u : List Mark). x ∷ u) (placed_none (suc k) m)
