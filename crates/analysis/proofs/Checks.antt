-- What a check of a question finds. Assumes nothing.
use Rattle.std.proofs.Common.{◌≡◌, ℕ, zero, suc, ◌<◌, ◌≤◌, List, [], ◌∷◌, length, Some, None, Ok, Err, Option, Result, sym, refl, arith, MatchResult}
use Rattle.std.specs.Option.{option_or}
use Rattle.std.proofs.lemmas.Bool.Decides.{nat_tests}
use Rattle.analysis.specs.Answers.{answer, checked, first_wrong, judged, range_of}
use Rattle.analysis.specs.Questions.{Fair, Meaning, row_at}
use Rattle.analysis.specs.Ranges.{InRange, asked_cost, wrong_field}
use Rattle.analysis.specs.declared.question.QuestionFault.{QuestionFault}
use Rattle.analysis.specs.declared.row.Mark.{Mark}
use Rattle.analysis.specs.declared.row.Row.{Row}
use Rattle.analysis.specs.declared.row.Verdict.{Verdict}

pub right_range : (top : ℕ) (r : Row) → wrong_field top r ≡ None → InRange top r
right_range top r e =
    record {
      number_least = grind (arith, nat_tests);
      number_most = grind (arith, nat_tests);
      cost_least = grind (arith, nat_tests);
      cost_most = grind (arith, nat_tests);
      period_least = grind (arith, nat_tests);
      period_most = grind (arith, nat_tests);
      deadline_least = grind (arith, nat_tests);
      deadline_most = grind (arith, nat_tests);
      section_most = grind (arith, nat_tests);
    }

pub range_right : (top : ℕ) (r : Row) → InRange top r → wrong_field top r ≡ None
range_right top r h = grind (arith, nat_tests)

none_wrong_step :
    (f g : Option ℕ) → option_or f g ≡ None → (f ≡ None) × (g ≡ None)
none_wrong_step None g e = (refl, e)
none_wrong_step (Some f) g e = let z : ◌≡◌ {A = ℕ} 0 1 = cc in absurd (omega arith)

none_wrong : (t : List Row) → first_wrong t ≡ None → (k : ℕ) → k < length t → InRange asked_cost (row_at t k)
none_wrong [] e k l = absurd (omega arith)
none_wrong (r ∷ t) e zero l = right_range asked_cost r (none_wrong_step (wrong_field asked_cost r) (first_wrong t) e).0
none_wrong (r ∷ t) e (suc k) l = none_wrong t (none_wrong_step (wrong_field asked_cost r) (first_wrong t) e).1 k (omega arith)

all_right : (t : List Row) → ((k : ℕ) → k < length t → InRange asked_cost (row_at t k)) → first_wrong t ≡ None
all_right [] h = refl
all_right (r ∷ t) h = rw (range_right asked_cost r (h 0 (omega arith))) (all_right t (λ k l. h (suc k) (omega arith)))

module _ (t : List Row) (m : List Mark) (i : ℕ) (few : length t ≤ 128) (marked : length m ≡ length t) (within : i < length t) where
  pub checked_ranges : (f : Option ℕ) → first_wrong t ≡ f → range_of f ≡ checked t m i
  checked_ranges f e = rw (← e) (grind (arith, nat_tests))

pub fair_checked : (t : List Row) (m : List Mark) (i : ℕ) → Fair t m i → Ok tt ≡ checked t m i
fair_checked t m i q = checked_ranges t m i q.few q.marked q.within None (all_right t q.ranges)

-- a question is fair exactly where its check finds no fault
pub checked_fair : (t : List Row) (m : List Mark) (i : ℕ) (r : Result (Unit {0}) QuestionFault) → r ≡ checked t m i →
    MatchResult r (λ _. Fair t m i) (λ _. Fair t m i → ⊥)
checked_fair t m i (Ok x) e =
    let z : first_wrong t ≡ None = grind (arith, nat_tests) in
    record { few = grind (arith, nat_tests); marked = grind (arith, nat_tests); within = grind (arith, nat_tests); ranges = none_wrong t z }
checked_fair t m i (Err x) e = λ q.
    let k = fair_checked t m i q in
    let z : ◌≡◌ {A = ℕ} 0 1 = cc in omega arith

-- a fair question gets its verdict
pub fair_answer : (v : Meaning) (t : List Row) (m : List Mark) (i : ℕ) → Fair t m i → answer v t m i ≡ judged (v t m i)
fair_answer v t m i q = rw (sym (fair_checked t m i q))

-- what is said of a question as it is kept is said of it as it was asked
pub as_asked :
    (v : Meaning) (x : Verdict) {t u : List Row} {m n : List Mark} {i j : ℕ} → (u ≡ t) × (n ≡ m) × (j ≡ i) → x ≡ v u n j → x ≡ v t m i
as_asked v x e h = rw (← e.0, ← e.1, ← e.2) h
