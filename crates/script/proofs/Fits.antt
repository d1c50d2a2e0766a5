-- Answers fit 4,096 bytes. Assumes nothing.
use Rattle.std.proofs.Common.{ℕ, ◌+◌, ◌*◌, ◌^◌, ◌<◌, ◌≤◌, List, [], ◌∷◌, ◌++◌, length, take, Some, Ok, codes, decimal, arith, length-append}
use Rattle.mapping.specs.Replies.{Modest}
use Rattle.mapping.specs.declared.plan.PlanLine.{PlanLine}
use Rattle.std.proofs.lemmas.Fmt.{length-decimal-le}
use Rattle.std.proofs.lemmas.List.{length-take-le}
use Rattle.std.specs.List.{flat_map, AllByRecursion}
use Rattle.script.specs.Answers.{items, line_text, plan_text}
use Rattle.script.specs.Laws.{PlanFits, RefusalFits}
use Rattle.script.specs.Works.{Fitting}
use Rattle.mapping.specs.declared.plan.Issued.{Issued}

items_length : (a b c i j k : ℕ) → 0 < i → 0 < j → 0 < k → a < 10 ^ i → b < 10 ^ j → c < 10 ^ k → a < 2 ^ 64 → b < 2 ^ 64 → c < 2 ^ 64 → length (items a b c) ≤ i + j + k + 4
items_length a b c i j k pi pj pk ha hb hc fa fb fc =
    simp length-append (omega (arith, length-decimal-le i a pi ha fa, length-decimal-le j b pj hb fb, length-decimal-le k c pk hc fc))

pub refusal_fits : RefusalFits
refusal_fits l f c hl hf hc =
    omega (arith, length-append (codes "refused") (items l f c), items_length l f c 10 10 10 (omega arith) (omega arith) (omega arith) (omega arith) (omega arith) (omega arith) (omega arith) (omega arith) (omega arith))

line_length : (l : PlanLine) → Modest l → length (line_text l) ≤ 22
line_length l h =
    omega (arith, length-append (decimal l.task) (items l.place l.number l.response), length-decimal-le 3 l.task (omega arith) (omega arith) (omega arith), items_length l.place l.number l.response 3 5 7 (omega arith) (omega arith) (omega arith) (omega arith) (omega arith) (omega arith) (omega arith) (omega arith) (omega arith))

lines_length : (ls : List PlanLine) → AllByRecursion Modest ls → length (flat_map line_text ls) ≤ 22 * length ls
lines_length [] h = omega arith
lines_length (l ∷ ls) h = omega (arith, length-append (line_text l) (flat_map line_text ls), line_length l h.0, lines_length ls h.1)

pub plan_fits : PlanFits
plan_fits l t r ls hl ht hr b =
    omega (arith, length-append (codes "plan" ++ items l t r) (flat_map line_text ls), length-append (codes "plan") (items l t r), lines_length ls b.each, items_length l t r 5 3 3 (omega arith) (omega arith) (omega arith) (omega arith) (omega arith) (omega arith) (omega arith) (omega arith) (omega arith))

-- an outcome's plan, as the writer gets it
pub outcome_fits : (line : ℕ) (i : Issued) (ls : List PlanLine) → line ≤ 65536 → Fitting (Ok (Some i)) ls →
    length (plan_text line i.tasks i.lines (take i.lines ls)) ≤ 4096
outcome_fits line i ls h f =
    plan_fits line i.tasks i.lines (take i.lines ls) h f.0 (omega (arith, f.1.1.few, length-take-le i.lines ls f.1.0)) f.1.1
