-- The layers keep the four laws of the analysis below them. Assumes nothing.
use Rattle.std.specs.Prelude.{◌≡◌, ℕ, suc, ◌+◌, ◌-◌, ◌*◌, ◌<◌, ◌≤◌, min, List, [], ◌∷◌, map, length, take, drop, Ok, Err, Result, nat_le, slice_set, refl}
use Rattle.std.proofs.Common.{sym, ap, subst, ◌∙◌, inl, inr, arith}
use Rattle.std.specs.List.{remove}
use Rattle.std.proofs.lemmas.List.{get_or-map, length-map, map-append, take-map, drop-map}
use Rattle.std.proofs.lemmas.Bool.{cases_Bool, cond-true, cond-false, le-leb, leb-true}
use Rattle.analysis.specs.Answers.{Answer, answer, answer_after, checked, judged}
use Rattle.analysis.specs.declared.question.QuestionFault.{QuestionFault}
use Rattle.analysis.specs.Laws.{Bounds, Lawful, OnTimeBy, OwnMark, Promotion, Withdrawal, place_after}
use Rattle.layers.specs.Layers.{charged, kept_within, raised, with_margin}
use Rattle.analysis.specs.Questions.{Fair, Meaning, no_row, row_at}
use Rattle.analysis.specs.Ranges.{InRange, asked_cost}
use Rattle.analysis.specs.declared.row.Mark.{Mark}
use Rattle.analysis.specs.declared.row.Mark.TheVariants.{Below}
use Rattle.analysis.specs.declared.row.Row.{Row}
use Rattle.analysis.specs.declared.row.Verdict.{Verdict}
use Rattle.analysis.specs.declared.row.Verdict.TheVariants.{OnTime, Late}
use Rattle.analysis.proofs.Checks.{checked_fair, fair_answer}
use Rattle.analysis.specs.Lemmas.Eased.{row_removed}

kept_on_time : (p d w : ℕ) (x : Verdict) → kept_within p d x ≡ OnTime w → (x ≡ OnTime w) × (w * 100 ≤ d * (100 - p))
kept_on_time p d w (OnTime r) e =
    elim (cases_Bool (nat_le (r * 100) (d * (100 - p)))) [
      | inl h ↦
          let k = cond-true (nat_le (r * 100) (d * (100 - p))) (OnTime r) Late h in
          let s : r ≡ w = cc in (ap OnTime s, omega (arith, leb-true (r * 100) (d * (100 - p)) h))
      | inr h ↦
          let k = cond-false (nat_le (r * 100) (d * (100 - p))) (OnTime r) Late h in
          let z : ◌≡◌ {A = ℕ} 0 1 = cc in absurd (omega arith)
    ]
kept_on_time p d w Late e = let z : ◌≡◌ {A = ℕ} 0 1 = cc in absurd (omega arith)

kept_by : (p d w : ℕ) (x : Verdict) → OnTimeBy w x → w * 100 ≤ d * (100 - p) → OnTimeBy w (kept_within p d x)
kept_by p d w x h l =
    rw h.1.0 (h.0, (cond-true (nat_le (h.0 * 100) (d * (100 - p))) (OnTime h.0) Late (le-leb (h.0 * 100) (d * (100 - p)) (omega arith)), h.1.1))

module _ (p : ℕ) (v : Meaning) where
  pub margin_bounds : Bounds v → Bounds (with_margin p v)
  margin_bounds law t m i w q e = law t m i w q (kept_on_time p (row_at t i).deadline w (v t m i) e).0

  pub margin_promotion : Promotion v → Promotion (with_margin p v)
  margin_promotion law t m i k w q l ne a e =
      let s = kept_on_time p (row_at t i).deadline w (v t m i) e in
      kept_by p (row_at t i).deadline w (v t (slice_set m k Below) i) (law t m i k w q l ne a s.0) s.1

  pub margin_withdrawal : Withdrawal v → Withdrawal (with_margin p v)
  margin_withdrawal law t m i k w q l ne a e =
      let s = kept_on_time p (row_at t i).deadline w (v t m i) e in
      rw (row_removed k i ne t l)
      (kept_by p (row_at t i).deadline w (v (remove t k) (remove m k) (place_after k i)) (law t m i k w q l ne a s.0) s.1)

  pub margin_own : OwnMark v → OwnMark (with_margin p v)
  margin_own law t m i x q = ap (kept_within p (row_at t i).deadline) (law t m i x q)

  pub margin_lawful : Lawful v → Lawful (with_margin p v)
  margin_lawful l =
      record { bounds = margin_bounds l.bounds; promotion = margin_promotion l.promotion; withdrawal = margin_withdrawal l.withdrawal; own = margin_own l.own }

-- a row that is raised
raised_range : (s : ℕ) (r : Row) → InRange asked_cost r → InRange asked_cost (raised s r)
raised_range s r h =
    record {
      number_least = h.number_least;
      number_most = h.number_most;
      cost_least = omega (arith, h.cost_least);
      cost_most = omega arith;
      period_least = h.period_least;
      period_most = h.period_most;
      deadline_least = h.deadline_least;
      deadline_most = h.deadline_most;
      section_most = omega (arith, h.section_most, h.cost_most);
    }

row_raised : (s : ℕ) (t : List Row) (k : ℕ) → k < length t → row_at (map (raised s) t) k ≡ raised s (row_at t k)
row_raised s t k l = get_or-map (raised s) t k no_row no_row l

pub raised_fair : (s : ℕ) {t : List Row} {m : List Mark} {i : ℕ} → Fair t m i → Fair (map (raised s) t) m i
raised_fair s {t} {m} {i} q =
    let n = length-map t (raised s) in
    record {
      few = omega arith;
      marked = omega arith;
      within = omega arith;
      ranges = λ k l. let l' : k < length t = omega arith in rw (row_raised s t k l') (raised_range s (row_at t k) (q.ranges k l'));
    }

raised_removed : (s : ℕ) (t : List Row) (k : ℕ) → map (raised s) (remove t k) ≡ remove (map (raised s) t) k
raised_removed s t k =
    map-append (raised s) (take k t) (drop (suc k) t)
    ∙ rw (take-map (raised s) k t, drop-map (raised s) (suc k) t)

module _ (s : ℕ) (v : Meaning) where
  pub charged_bounds : Bounds v → Bounds (charged s v)
  charged_bounds law t m i w q e =
      let b = law (map (raised s) t) m i w (raised_fair s q) e in
      let r : row_at (map (raised s) t) i ≡ raised s (row_at t i) = row_raised s t i q.within in
      let c = (q.ranges i q.within).cost_most in
      let low : (raised s (row_at t i)).cost ≤ w = rw r at b.0 in
      (omega arith, rw r at b.1)

  pub charged_promotion : Promotion v → Promotion (charged s v)
  charged_promotion law t m i k w q l ne a e =
      law (map (raised s) t) m i k w (raised_fair s q) (rw (length-map t (raised s)) l) ne a e

  pub charged_withdrawal : Withdrawal v → Withdrawal (charged s v)
  charged_withdrawal law t m i k w q l ne a e =
      rw (raised_removed s t k) (law (map (raised s) t) m i k w (raised_fair s q) (rw (length-map t (raised s)) l) ne a e)

  pub charged_own : OwnMark v → OwnMark (charged s v)
  charged_own law t m i x q = law (map (raised s) t) m i x (raised_fair s q)

  pub charged_lawful : Lawful v → Lawful (charged s v)
  charged_lawful l =
      record { bounds = charged_bounds l.bounds; promotion = charged_promotion l.promotion; withdrawal = charged_withdrawal l.withdrawal; own = charged_own l.own }

-- the answer on the raised rows is the layer's
pub charged_answer : (s : ℕ) (v : Meaning) (t u : List Row) (m : List Mark) (i : ℕ) (a : Answer) → Fair t m i → u ≡ map (raised s) t →
    a ≡ answer v u m i → a ≡ answer (charged s v) t m i
charged_answer s v t u m i a q e h =
    (rw e at h ∙ fair_answer v (map (raised s) t) m i (raised_fair s q)) ∙ sym (fair_answer (charged s v) t m i q)

abbrev at_cost : Row → ℕ → Row
at_cost r n = record { number = r.number; cost = n; period = r.period; deadline = r.deadline; section = r.section }

-- with no charge the rows stay as they are
raised_none : (t : List Row) → ((k : ℕ) → k < length t → (row_at t k).cost ≤ asked_cost) → t ≡ map (raised 0) t
raised_none [] h = refl
raised_none (r ∷ t) h =
    let c : r.cost ≡ min (r.cost + 0) asked_cost = omega (arith, h 0 (omega arith)) in
    ap (λ (n : ℕ). at_cost r n ∷ t) c
    ∙ ap (λ (l : List Row). raised 0 r ∷ l) (raised_none t (λ k l. h (suc k) (omega arith)))

-- two analyses with the same verdict on a question that gets one answer it alike
same_from : (v u : Meaning) (t : List Row) (m : List Mark) (i : ℕ) → (Fair t m i → v t m i ≡ u t m i) → (r : Result (Unit {0}) QuestionFault) →
    r ≡ checked t m i → answer v t m i ≡ answer u t m i
same_from v u t m i f (Ok x) e =
    let q : Fair t m i = checked_fair t m i (Ok x) e in
    fair_answer v t m i q ∙ ap judged (f q) ∙ sym (fair_answer u t m i q)
same_from v u t m i f (Err x) e =
    subst (λ (r : Result (Unit {0}) QuestionFault). answer_after r (v t m i) ≡ answer_after r (u t m i)) e refl

pub same_answer : (v u : Meaning) (t : List Row) (m : List Mark) (i : ℕ) → (Fair t m i → v t m i ≡ u t m i) → answer v t m i ≡ answer u t m i
same_answer v u t m i f = same_from v u t m i f (checked t m i) refl

pub uncharged_answer : (s : ℕ) (v : Meaning) (t : List Row) (m : List Mark) (i : ℕ) → s ≡ 0 → answer v t m i ≡ answer (charged s v) t m i
uncharged_answer s v t m i z =
    same_answer v (charged s v) t m i
    (λ q. ap (λ (u : List Row). v u m i) (raised_none t (λ k l. (q.ranges k l).cost_most) ∙ ap (λ (n : ℕ). map (raised n) t) (sym z)))
