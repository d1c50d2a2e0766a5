-- The plan of a mapping by its steps, from the lowest task upwards. Assumes nothing.
-- The rows that no task has yet are marked above, and the rows that one has below.
use Rattle.std.specs.Prelude.{ℕ, zero, suc, ◌%◌, min, Bool, false, cond, ◌||◌, List, [], ◌∷◌, ◌++◌, length, Some, None, Option, ◌==◌}
use Rattle.analysis.specs.Questions.{Meaning}
use Rattle.analysis.specs.declared.row.Mark.{Mark}
use Rattle.analysis.specs.declared.row.Mark.TheVariants.{Above, Below}
use Rattle.analysis.specs.declared.row.Row.{Row}
use Rattle.analysis.specs.declared.row.Verdict.{Verdict}
use Rattle.analysis.specs.declared.row.Verdict.TheVariants.{OnTime, Late}
use Rattle.mapping.specs.declared.plan.PlanLine.{PlanLine}
use Rattle.mapping.specs.declared.plan.Rule.{Rule}
use Rattle.mapping.specs.declared.plan.Rule.TheVariants.{Equal, Divided}
use Rattle.mapping.specs.declared.round.Candidate.{Candidate}

-- the row at k as a candidate, where it is on time
abbrev pub if_on_time : ℕ → Row → Verdict → List Candidate
if_on_time k r (OnTime w) = record { at = k; row = r; response = w } ∷ []
if_on_time k r Late = []

-- the candidates at a mark: none where a task has the row
abbrev pub if_unplaced : Mark → List Candidate → List Candidate
if_unplaced Above cs = cs
if_unplaced Below cs = []

-- the candidates among the rows of a part of the table that begins at k, in sheet order
abbrev pub candidates_from : (ℕ → Verdict) → ℕ → List Row → List Mark → List Candidate
candidates_from ask k [] m = []
candidates_from ask k (r ∷ t) [] = []
candidates_from ask k (r ∷ t) (x ∷ m) = if_unplaced x (if_on_time k r (ask k)) ++ candidates_from ask (suc k) t m

-- the candidates of a table at the marks, in sheet order
abbrev pub candidates : Meaning → List Row → List Mark → List Candidate
candidates v t m = candidates_from (v t m) 0 t m

-- the last candidate, which is the lead
abbrev pub last_of : Candidate → List Candidate → Candidate
last_of c [] = c
last_of c (d ∷ ds) = last_of d ds

-- the shortest period of a candidate that divides p, or p
abbrev pub shortest_divisor : ℕ → List Candidate → ℕ
shortest_divisor p [] = p
shortest_divisor p (c ∷ cs) = cond (p % c.row.period == 0) (min c.row.period (shortest_divisor p cs)) (shortest_divisor p cs)

-- whether a candidate of period q goes into the task of a lead of period p
abbrev pub takes : Rule → ℕ → List Candidate → ℕ → Bool
takes Equal p cs q = q == p
takes Divided p cs q = q % shortest_divisor p cs == 0

-- the candidates whose periods go
abbrev pub kept : (ℕ → Bool) → List Candidate → List Candidate
kept goes [] = []
kept goes (c ∷ cs) = cond (goes c.row.period) (c ∷ kept goes cs) (kept goes cs)

-- the members of the next task, in sheet order
abbrev pub members : Rule → List Candidate → List Candidate
members rule [] = []
members rule (c ∷ cs) = kept (takes rule (last_of c cs).row.period (c ∷ cs)) (c ∷ cs)

-- the lines of a task's members, from a place on
abbrev pub lines_from : ℕ → ℕ → List Candidate → List PlanLine
lines_from task place [] = []
lines_from task place (c ∷ cs) =
    record { task = task; place = place; number = c.row.number; response = c.response } ∷ lines_from task (suc place) cs

-- some of the candidates is the row at k
abbrev pub has_place : ℕ → List Candidate → Bool
has_place k [] = false
has_place k (c ∷ cs) = c.at == k || has_place k cs

-- a part of the marks that begins at k, once the members are placed
abbrev pub placed_from : List Candidate → ℕ → List Mark → List Mark
placed_from cs k [] = []
placed_from cs k (x ∷ m) = cond (has_place k cs) Below x ∷ placed_from cs (suc k) m

-- the marks once the members are placed
abbrev pub placed : List Candidate → List Mark → List Mark
placed cs m = placed_from cs 0 m

-- how many rows no task has yet
abbrev pub unplaced : List Mark → ℕ
unplaced [] = 0
unplaced (Above ∷ m) = suc (unplaced m)
unplaced (Below ∷ m) = unplaced m

-- a task's lines before the rest of the plan; None where the task has no member
abbrev pub before_rest : ℕ → List Candidate → Option (List PlanLine) → Option (List PlanLine)
before_rest task [] rest = None
before_rest task (c ∷ cs) None = None
before_rest task (c ∷ cs) (Some ls) = Some (lines_from task 1 (c ∷ cs) ++ ls)

-- the plan from a task on, over at most n tasks; None where rows are left and none of them is a candidate
abbrev pub plan_from : ℕ → Meaning → Rule → List Row → ℕ → List Mark → Option (List PlanLine)
plan_from zero v rule t task m = cond (unplaced m == 0) (Some []) None
plan_from (suc n) v rule t task m =
    let cs = members rule (candidates v t m) in
    cond (unplaced m == 0) (Some []) (before_rest task cs (plan_from n v rule t (suc task) (placed cs m)))

-- the marks before the first task
abbrev pub all_above : List Row → List Mark
all_above [] = []
all_above (r ∷ t) = Above ∷ all_above t

-- the plan for a table; None where the mapping is unschedulable
abbrev pub plan : Meaning → Rule → List Row → Option (List PlanLine)
plan v rule t = plan_from (length t) v rule t 1 (all_above t)
