-- The four laws of the exact test, of the one with sections and of the linear one. Assumes nothing.
use Rattle.std.specs.Prelude.{◌≡◌, ℕ, suc, ◌+◌, ◌-◌, ◌<◌, ◌≤◌, ◌↔◌, List, length, Ok, Result, ◌≢◌, nat_le, nat_lt, slice_index_or, slice_set, refl}
use Rattle.std.proofs.Common.{sym, ap, subst, ◌∙◌, inl, inr, arith}
use Rattle.std.specs.List.{remove}
use Rattle.std.proofs.lemmas.List.{get_or-set_other, set_comm, set-set}
use Rattle.std.proofs.lemmas.List.Edits.{get_or-remove_below, get_or-remove_above}
use Rattle.std.proofs.lemmas.Bool.{cases_order, cases_Bool, cond_both, cond-true, cond-false, le-leb, leb-true, ltb-true, ltb-false}
use Rattle.analysis.specs.Comparisons.{LinearSafe, SectionsSafe}
use Rattle.analysis.specs.Laws.{Bounds, Lawful, OnTimeBy, OwnMark, Promotion, Withdrawal, place_after}
use Rattle.analysis.specs.Questions.{Fair, row_at, no_row}
use Rattle.analysis.specs.Responses.{IsResponse, LeastSolution, Solves, blocking, demand_above, exact, interference, linear, response, sections, workload}
use Rattle.analysis.specs.declared.question.QuestionFault.{QuestionFault}
use Rattle.analysis.specs.declared.row.Mark.{Mark}
use Rattle.analysis.specs.declared.row.Mark.TheVariants.{Above, Below}
use Rattle.analysis.specs.declared.row.Row.{Row}
use Rattle.analysis.specs.declared.row.Verdict.{Verdict}
use Rattle.analysis.specs.declared.row.Verdict.TheVariants.{OnTime, Late}
use Rattle.analysis.specs.Lemmas.Least.{Rising, least_by, least_is, least_solves, on_time_solves}
use Rattle.analysis.specs.Lemmas.Demands.{demands_mono, demands_promoted, demands_removed, sections_promoted, sections_removed, set_removed_above, set_removed_below}

pub rises : (b c : ℕ) (t : List Row) (m : List Mark) → 1 ≤ c → Rising (λ w. b + (c + demand_above t m w))
rises b c t m h = record { mono = λ x y l. omega (arith, demands_mono t m x y l); least = λ x. omega arith }

-- the asked row of a question costs at least 1
pub costs : {t : List Row} {m : List Mark} {i : ℕ} → Fair t m i → 1 ≤ (row_at t i).cost
costs {t} {m} {i} q = (q.ranges i q.within).cost_least

-- the question's answer, where it has a verdict: the least solution and no other
pub response_is : (b : ℕ) (t : List Row) (m : List Mark) (i : ℕ) (y : Verdict) → y ≡ response b t m i →
    (x : Verdict) → (◌≡◌ {A = Result Verdict QuestionFault} (Ok y) (Ok x)) ↔ IsResponse b t m i x
response_is b t m i y e x =
    let f : ℕ → ℕ = λ w. workload b t m i w in
    let d = (row_at t i).deadline in (
      λ o. let s : response b t m i ≡ x = cc in subst (λ (z : Verdict). LeastSolution f d z) s (least_solves f d),
      λ h. ap Ok (e ∙ sym (least_is f d x h)),
    )

solves : (b : ℕ) (t : List Row) (m : List Mark) (i w : ℕ) → response b t m i ≡ OnTime w →
    Solves (λ u. b + ((row_at t i).cost + interference t m i u)) (row_at t i).deadline w
solves b t m i w e = on_time_solves (λ u. b + ((row_at t i).cost + interference t m i u)) (row_at t i).deadline w e

-- a response stays where the same row is blocked and interfered with no more
eased : (b b' : ℕ) (t t' : List Row) (m m' : List Mark) (i i' w : ℕ) → 1 ≤ (row_at t i).cost → row_at t' i' ≡ row_at t i →
    (1 ≤ w → b' + interference t' m' i' w ≤ b + interference t m i w) →
    response b t m i ≡ OnTime w → OnTimeBy w (response b' t' m' i')
eased b b' t t' m m' i i' w c same less e =
    let s = solves b t m i w e in
    let l = less s.0 in
    rw same (least_by (λ u. b' + ((row_at t i).cost + interference t' m' i' u)) (rises b' (row_at t i).cost t' (slice_set m' i' Below) c)
    (row_at t i).deadline w s.0 s.1 (omega arith))

-- the moved row
interference_promoted : (t : List Row) (m : List Mark) (i k w : ℕ) → k < length t → (k ≢ i) → 1 ≤ (row_at t k).period →
    slice_index_or m k Below ≡ Above → 1 ≤ w → interference t (slice_set m k Below) i w + (row_at t k).cost ≤ interference t m i w
interference_promoted t m i k w l ne p e h =
    rw (set_comm m k i Below Below ne)
    (demands_promoted t (slice_set m i Below) k w l h p (get_or-set_other m i k Below Below ne ∙ e))

blocking_promoted : (t : List Row) (m : List Mark) (i k : ℕ) → (k ≢ i) →
    blocking t (slice_set m k Below) i ≤ blocking t m i + (row_at t k).section
blocking_promoted t m i k ne = rw (set_comm m k i Below Above ne) (sections_promoted t (slice_set m i Above) k)

-- the row that is taken out
module _ (k i : ℕ) (ne : k ≡ i → ⊥) where
  apart : i ≤ k → i < k
  apart l = elim (cases_order i k) [ inl e ↦ absurd (ne (sym e)) | inr o ↦ elim o [ inl h ↦ h | inr h ↦ absurd (omega arith) ] ]

  pub set_removed : (m : List Mark) (x : Mark) → slice_set (remove m k) (place_after k i) x ≡ remove (slice_set m i x) k
  set_removed m x =
      cond_both (nat_lt k i) (i - 1) i (λ p. slice_set (remove m k) p x ≡ remove (slice_set m i x) k)
      (λ e. let l = ltb-true k i e in let s : suc (i - 1) ≡ i = omega arith in
      rw s at (set_removed_above m k (i - 1) x (omega arith)))
      (λ e. let l = ltb-false k i e in set_removed_below m k i x (apart l))

  pub row_removed : (t : List Row) → k < length t → row_at (remove t k) (place_after k i) ≡ row_at t i
  row_removed t l =
      cond_both (nat_lt k i) (i - 1) i (λ p. row_at (remove t k) p ≡ row_at t i)
      (λ e. let h = ltb-true k i e in let s : i - 1 + 1 ≡ i = omega arith in
      rw s at (get_or-remove_above t k no_row (i - 1) (omega arith) l))
      (λ e. let h = ltb-false k i e in get_or-remove_below t k no_row i (apart h) l)

  interference_removed : (t : List Row) (m : List Mark) (w : ℕ) → slice_index_or m k Above ≡ Below →
      interference (remove t k) (remove m k) (place_after k i) w ≡ interference t m i w
  interference_removed t m w e =
      rw (set_removed m Below) (demands_removed t (slice_set m i Below) k w (get_or-set_other m i k Below Above ne ∙ e))

  blocking_removed : (t : List Row) (m : List Mark) → slice_index_or m k Above ≡ Below →
      blocking (remove t k) (remove m k) (place_after k i) ≤ blocking t m i
  blocking_removed t m e =
      rw (set_removed m Above) (sections_removed t (slice_set m i Above) k (get_or-set_other m i k Above Above ne ∙ e))

-- with a blocking of b ticks, and so the exact test
response_bounds : (b : ℕ) → Bounds (response b)
response_bounds b t m i w q e = let s = solves b t m i w e in (omega arith, s.1)

response_own : (b : ℕ) → OwnMark (response b)
response_own b t m i x q = rw (set-set m i x Below)

pub exact_bounds : Bounds exact
exact_bounds = response_bounds 0

pub exact_promotion : Promotion exact
exact_promotion t m i k w q l ne a e =
    eased 0 0 t t m (slice_set m k Below) i i w (costs q) refl
    (λ h. omega (arith, interference_promoted t m i k w l ne (q.ranges k l).period_least a h)) e

pub exact_withdrawal : Withdrawal exact
exact_withdrawal t m i k w q l ne a e =
    eased 0 0 t (remove t k) m (remove m k) i (place_after k i) w (costs q) (row_removed k i ne t l)
    (λ h. omega (arith, interference_removed k i ne t m w a)) e

pub exact_own : OwnMark exact
exact_own = response_own 0

pub exact_lawful : Lawful exact
exact_lawful = record { bounds = exact_bounds; promotion = exact_promotion; withdrawal = exact_withdrawal; own = exact_own }

-- with sections
pub sections_bounds : Bounds sections
sections_bounds t m i = response_bounds (blocking t m i) t m i

pub sections_promotion : Promotion sections
sections_promotion t m i k w q l ne a e =
    eased (blocking t m i) (blocking t (slice_set m k Below) i) t t m (slice_set m k Below) i i w (costs q) refl
    (λ h. omega (
      arith,
      interference_promoted t m i k w l ne (q.ranges k l).period_least a h,
      blocking_promoted t m i k ne,
      (q.ranges k l).section_most,
    )) e

pub sections_withdrawal : Withdrawal sections
sections_withdrawal t m i k w q l ne a e =
    eased (blocking t m i) (blocking (remove t k) (remove m k) (place_after k i)) t (remove t k) m (remove m k) i (place_after k i) w
    (costs q) (row_removed k i ne t l)
    (λ h. omega (arith, interference_removed k i ne t m w a, blocking_removed k i ne t m a)) e

pub sections_own : OwnMark sections
sections_own t m i x q = rw (set-set m i x Below, set-set m i x Above)

pub sections_lawful : Lawful sections
sections_lawful = record { bounds = sections_bounds; promotion = sections_promotion; withdrawal = sections_withdrawal; own = sections_own }

-- the linear test
linear_solves : (t : List Row) (m : List Mark) (i w : ℕ) → linear t m i ≡ OnTime w →
    (w ≡ (row_at t i).cost + interference t m i (row_at t i).deadline) × (w ≤ (row_at t i).deadline)
linear_solves t m i w e =
    let d = (row_at t i).deadline in
    let r = (row_at t i).cost + interference t m i d in
    elim (cases_Bool (nat_le r d)) [
      | inl h ↦
          let k = cond-true (nat_le r d) (OnTime r) Late h in let s : w ≡ r = cc in (s, omega (arith, leb-true r d h))
      | inr h ↦
          let k = cond-false (nat_le r d) (OnTime r) Late h in let z : ◌≡◌ {A = ℕ} 0 1 = cc in absurd (omega arith)
    ]

linear_eased : (t t' : List Row) (m m' : List Mark) (i i' w : ℕ) → row_at t' i' ≡ row_at t i →
    interference t' m' i' (row_at t i).deadline ≤ interference t m i (row_at t i).deadline →
    linear t m i ≡ OnTime w → OnTimeBy w (linear t' m' i')
linear_eased t t' m m' i i' w same less e =
    let s = linear_solves t m i w e in
    let d = (row_at t i).deadline in
    let r = (row_at t i).cost + interference t' m' i' d in
    rw same (r, (cond-true (nat_le r d) (OnTime r) Late (le-leb r d (omega arith)), omega arith))

pub linear_bounds : Bounds linear
linear_bounds t m i w q e = let s = linear_solves t m i w e in (omega arith, s.1)

pub linear_promotion : Promotion linear
linear_promotion t m i k w q l ne a e =
    linear_eased t t m (slice_set m k Below) i i w refl
    (omega (
      arith,
      interference_promoted t m i k (row_at t i).deadline l ne (q.ranges k l).period_least a
          (q.ranges i q.within).deadline_least,
    )) e

pub linear_withdrawal : Withdrawal linear
linear_withdrawal t m i k w q l ne a e =
    linear_eased t (remove t k) m (remove m k) i (place_after k i) w (row_removed k i ne t l)
    (omega (arith, interference_removed k i ne t m (row_at t i).deadline a)) e

pub linear_own : OwnMark linear
linear_own t m i x q = rw (set-set m i x Below)

pub linear_lawful : Lawful linear
linear_lawful = record { bounds = linear_bounds; promotion = linear_promotion; withdrawal = linear_withdrawal; own = linear_own }

-- the exact test finds no greater response
pub linear_safe : LinearSafe
linear_safe t m i w q e =
    let s = linear_solves t m i w e in
    let c = (row_at t i).cost in
    least_by (λ u. 0 + (c + interference t m i u)) (rises 0 c t (slice_set m i Below) (costs q)) (row_at t i).deadline w (omega (arith, costs q)) s.1
    (omega (arith, demands_mono t (slice_set m i Below) w (row_at t i).deadline s.1))

pub sections_safe : SectionsSafe
sections_safe t m i w q e = eased (blocking t m i) 0 t t m m i i w (costs q) refl (λ h. omega arith) e
