-- The marks that a mapping begins with, and what it leaves in the room. Assumes nothing.
use Rattle.std.proofs.Common.{◌≡◌, ℕ, zero, suc, ◌≤◌, List, [], ◌∷◌, ◌++◌, length, take, replicate, sym, refl, ap, ◌∙◌, subst, arith}
use Rattle.analysis.specs.Questions.{Meaning, row_at}
use Rattle.analysis.specs.declared.row.Mark.{Mark}
use Rattle.analysis.specs.declared.row.Mark.TheVariants.{Above}
use Rattle.analysis.specs.declared.row.Row.{Row}
use Rattle.analysis.specs.Laws.{Lawful}
use Rattle.mapping.specs.Courses.{Continues, Limits, map_answer, mapping}
use Rattle.mapping.proofs.Course.{continues}
use Rattle.mapping.specs.Plans.{all_above}
use Rattle.mapping.specs.Replies.{Bounded}
use Rattle.mapping.specs.Rounds.{Asked}
use Rattle.mapping.specs.declared.plan.PlanLine.{PlanLine}
use Rattle.mapping.specs.declared.plan.Rule.{Rule}
use Rattle.std.proofs.lemmas.List.{take_all, take-append-le}
use Rattle.mapping.proofs.Placing.{length_all_above}
use Rattle.mapping.proofs.Tables.{wider}

all_taken : (t : List Row) (n : ℕ) → length t ≤ n → take (length t) (replicate n Above) ≡ all_above t
all_taken [] n h = refl
all_taken (r ∷ t) zero h = absurd (omega arith)
all_taken (r ∷ t) (suc n) h = ap (λ (m : List Mark). Above ∷ m) (all_taken t n (omega arith))

pub fresh_marks : (t : List Row) → length t ≤ 128 → take (length t) (replicate 128 Above) ≡ all_above t
fresh_marks t h = all_taken t 128 h

-- rows within the limits, and marks for them that are all above
pub fresh_asked : (t : List Row) (m : List Mark) → Limits t → m ≡ all_above t → Asked t m
fresh_asked t m h e =
    record { few = h.few; marked = ap (λ (u : List Mark). length u) e ∙ length_all_above t; ranges = λ k l. wider (row_at t k) (h.ranges k l) }

-- the front of a room that a plan was written to, of as many lines as the plan has
pub front_bounded : (n : ℕ) (ls old room : List PlanLine) → room ≡ ls ++ old → length ls ≡ n → Bounded ls → Bounded (take n room)
front_bounded n ls old room e l b =
    let front : take n room ≡ ls =
    ap (λ (u : List PlanLine). take n u) e ∙ take-append-le n ls old (omega arith) ∙ take_all n ls (omega arith) in
    subst Bounded (sym front) b

-- whatever a mapping answers, the course goes on
pub map_continues : (v : Meaning) → Lawful v → (rule : Rule) (n : ℕ) (t : List Row) → Continues t (mapping v rule n (map_answer v rule n t)) t
map_continues v lawful rule n t = continues t (mapping v rule n (map_answer v rule n t)) (lawful, refl) t refl
