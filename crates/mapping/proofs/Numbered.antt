-- Lines that are numbered from 1 without a gap, by task and then by place.
use Rattle.std.proofs.Common.{◌≡◌, ℕ, zero, suc, ◌<◌, List, [], ◌∷◌, ◌++◌, length, get_or, refl, inl, inr, arith}
use Rattle.mapping.specs.Lines.{Follows, no_line}
use Rattle.mapping.specs.Plans.{lines_from}
use Rattle.mapping.specs.declared.round.Candidate.{Candidate}
use Rattle.mapping.specs.declared.plan.PlanLine.{PlanLine}
use Rattle.mapping.proofs.Members.{Filled}

-- each line follows the one before it
abbrev pub Chain : PlanLine → List PlanLine → Type 0
Chain l [] = Unit {0}
Chain l (x ∷ xs) = Follows l x × Chain x xs

-- the lines begin with place 1 of the task
abbrev pub Begins : ℕ → List PlanLine → Type 0
Begins task [] = Unit {0}
Begins task (l ∷ ls) = ((l.task ≡ task) × (l.place ≡ 1)) × Chain l ls

chain_next : (l : PlanLine) (ls : List PlanLine) → Begins (suc l.task) ls → Chain l ls
chain_next l [] b = tt
chain_next l (x ∷ xs) b = (inr (b.0.0, b.0.1), b.1)

chain_lines :
    (task p : ℕ) (c : Candidate) (cs : List Candidate) (ls : List PlanLine) → Begins (suc task) ls →
    Chain (record { task = task; place = p; number = c.row.number; response = c.response }) (lines_from task (suc p) cs ++ ls)
chain_lines task p c [] ls b = chain_next (record { task = task; place = p; number = c.row.number; response = c.response }) ls b
chain_lines task p c (d ∷ ds) ls b = (inl (refl, refl), chain_lines task (suc p) d ds ls b)

pub begins_more : (task : ℕ) (cs : List Candidate) (ls : List PlanLine) → Filled cs → Begins (suc task) ls → Begins task (lines_from task 1 cs ++ ls)
begins_more task [] ls f b = absurd f
begins_more task (c ∷ cs) ls f b = ((refl, refl), chain_lines task 1 c cs ls b)

-- ---- by the places of lines

chain_at : (l : PlanLine) (ls : List PlanLine) (k : ℕ) → Chain l ls → k < length ls → Follows (get_or (l ∷ ls) k no_line) (get_or ls k no_line)
chain_at l [] k h s = absurd (omega arith)
chain_at l (x ∷ xs) zero h s = h.0
chain_at l (x ∷ xs) (suc k) h s = chain_at x xs k h.1 (omega arith)

pub begins_first : (task : ℕ) (ls : List PlanLine) → Begins task ls → 0 < length ls → ((get_or ls 0 no_line).task ≡ task) × ((get_or ls 0 no_line).place ≡ 1)
begins_first task [] b l = absurd (omega arith)
begins_first task (x ∷ xs) b l = b.0

pub begins_at : (task : ℕ) (ls : List PlanLine) (k : ℕ) → Begins task ls → suc k < length ls → Follows (get_or ls k no_line) (get_or ls (suc k) no_line)
begins_at task [] k b l = absurd (omega arith)
begins_at task (x ∷ xs) k b l = chain_at x xs k b.1 (omega arith)
