-- The members of a task: the candidates that the rule takes with the lead.
use Rattle.std.proofs.Common.{◌≡◌, ℕ, ◌/◌, ◌%◌, ◌<◌, ◌≤◌, min, Bool, true, false, cond, eqb, List, [], ◌∷◌, sym, refl, ap, ◌∙◌, subst, inl, inr, div-add-mod', arith, length}
use native.Mathlib.Nat.{mod_self, mul-mod_left}
use Rattle.std.specs.List.{AllByRecursion}
use Rattle.std.proofs.ByRecursion.{All-weaker}
use Rattle.std.proofs.lemmas.Bool.{cases_lt, cond_both, cond-true, eq-eqb, eqb-true, or_cases, or_left, or_right}
use Rattle.analysis.specs.Questions.{Meaning, row_at}
use Rattle.analysis.specs.declared.row.Mark.{Mark}
use Rattle.analysis.specs.declared.row.Row.{Row}
use Rattle.mapping.specs.PlanLaw.{IsCandidate, IsTask, Multiple, ShortestDivisor, Takes}
use Rattle.mapping.specs.Plans.{candidates, has_place, kept, last_of, members, shortest_divisor, takes}
use Rattle.mapping.specs.declared.plan.Rule.{Rule}
use Rattle.mapping.specs.declared.round.Candidate.{Candidate}
use Rattle.mapping.specs.declared.plan.Rule.TheVariants.{Equal, Divided}
use Rattle.mapping.proofs.Pairs.{all_both, every}
use Rattle.mapping.proofs.Candidates.{Good, Rising, at_place, good_candidate, good_candidates, has_candidate, rising_candidates}

-- ---- what is kept of candidates

all_kept :
    (P : Candidate → Type 0) (goes : ℕ → Bool) (cs : List Candidate) → AllByRecursion (λ c. goes c.row.period ≡ true → P c) cs → AllByRecursion P (kept goes cs)
all_kept P goes [] h = tt
all_kept P goes (c ∷ cs) h =
    cond_both (goes c.row.period) (c ∷ kept goes cs) (kept goes cs) (AllByRecursion P) (λ e. (h.0 e, all_kept P goes cs h.1))
    (λ e. all_kept P goes cs h.1)

rising_kept : (goes : ℕ → Bool) (cs : List Candidate) → Rising cs → Rising (kept goes cs)
rising_kept goes [] h = tt
rising_kept goes (c ∷ cs) h =
    cond_both (goes c.row.period) (c ∷ kept goes cs) (kept goes cs) Rising
    (λ e. (
      all_kept (λ d. c.at < d.at) goes cs
          (All-weaker (λ d. c.at < d.at) (λ d. goes d.row.period ≡ true → c.at < d.at) (λ d l q. l) cs h.0),
      rising_kept goes cs h.1,
    ))
    (λ e. rising_kept goes cs h.1)

all_members : (P : Candidate → Type 0) (rule : Rule) (cs : List Candidate) → AllByRecursion P cs → AllByRecursion P (members rule cs)
all_members P rule [] h = tt
all_members P rule (c ∷ cs) h =
    let goes : ℕ → Bool = takes rule (last_of c cs).row.period (c ∷ cs) in
    all_kept P goes (c ∷ cs) (All-weaker P (λ d. goes d.row.period ≡ true → P d) (λ d p q. p) (c ∷ cs) h)

rising_members : (rule : Rule) (cs : List Candidate) → Rising cs → Rising (members rule cs)
rising_members rule [] h = tt
rising_members rule (c ∷ cs) h = rising_kept (takes rule (last_of c cs).row.period (c ∷ cs)) (c ∷ cs) h

module _ (v : Meaning) (rule : Rule) (t : List Row) (m : List Mark) where
  pub members_good : AllByRecursion (Good v t m) (members rule (candidates v t m))
  members_good = all_members (Good v t m) rule (candidates v t m) (good_candidates v t m)

  pub members_rising : Rising (members rule (candidates v t m))
  members_rising = rising_members rule (candidates v t m) (rising_candidates v t m)

-- ---- the shortest divisor

pub from_mod : (p q : ℕ) → p % q ≡ 0 → Multiple p q
from_mod p q e = (p / q, omega (arith, div-add-mod' p q))

pub to_mod : (p q : ℕ) → Multiple p q → p % q ≡ 0
to_mod p q h = ap (λ x. x % q) h.1 ∙ mul-mod_left h.0 q

-- what holds of p and of each candidate's period holds of the shortest divisor
divisor_is : (P : ℕ → Type 0) (p : ℕ) (cs : List Candidate) → P p → AllByRecursion (λ c. p % c.row.period ≡ 0 → P c.row.period) cs → P (shortest_divisor p cs)
divisor_is P p [] h a = h
divisor_is P p (c ∷ cs) h a =
    let q : ℕ = c.row.period in
    let s : ℕ = shortest_divisor p cs in
    let r : P s = divisor_is P p cs h a.1 in
    cond_both (eqb (p % q) 0) (min q s) s P
    (λ e. elim (cases_lt q s) [
      | inl l ↦ let x : q ≡ min q s = omega arith in subst P x (a.0 (eqb-true (p % q) 0 e))
      | inr l ↦ let x : s ≡ min q s = omega arith in subst P x r
    ])
    (λ e. r)

divides : (p : ℕ) (cs : List Candidate) → p % shortest_divisor p cs ≡ 0
divides p cs = divisor_is (λ x. p % x ≡ 0) p cs (mod_self p) (every (λ c. p % c.row.period ≡ 0 → p % c.row.period ≡ 0) (λ c e. e) cs)

divisor_least : (p : ℕ) (cs : List Candidate) → AllByRecursion (λ c. p % c.row.period ≡ 0 → shortest_divisor p cs ≤ c.row.period) cs
divisor_least p [] = tt
divisor_least p (c ∷ cs) =
    let q : ℕ = c.row.period in
    let s : ℕ = shortest_divisor p cs in
    let d : ℕ = shortest_divisor p (c ∷ cs) in
    let less : d ≤ s = cond_both (eqb (p % q) 0) (min q s) s (λ x. x ≤ s) (λ e. omega arith) (λ e. omega arith) in (
      λ e. let x : d ≡ min q s = cond-true (eqb (p % q) 0) (min q s) s (eq-eqb (p % q) 0 e) in omega arith,
      All-weaker (λ x. p % x.row.period ≡ 0 → s ≤ x.row.period) (λ x. p % x.row.period ≡ 0 → d ≤ x.row.period) (λ x f e. omega (arith, f e)) cs (divisor_least p cs),
    )

-- ---- there are some

abbrev pub Filled : List Candidate → Type 0
Filled [] = ⊥
Filled (c ∷ cs) = Unit {0}

has_filled : (i : ℕ) (cs : List Candidate) → has_place i cs ≡ true → Filled cs
has_filled i [] e = let z : ◌≡◌ {A = ℕ} 0 1 = cc in absurd (omega arith)
has_filled i (c ∷ cs) e = tt

kept_filled :
    (goes : ℕ → Bool) (c : Candidate) (cs : List Candidate) → goes (last_of c cs).row.period ≡ true → Filled (kept goes (c ∷ cs))
kept_filled goes c [] h = subst (λ b. Filled (cond b (c ∷ []) [])) (sym h) tt
kept_filled goes c (d ∷ ds) h =
    elim (goes c.row.period) as (λ b. Filled (cond b (c ∷ kept goes (d ∷ ds)) (kept goes (d ∷ ds)))) [
      | true ↦ tt
      | false ↦ kept_filled goes d ds h
    ]

filled_some : (cs : List Candidate) → Filled cs → 0 < length cs
filled_some [] f = absurd f
filled_some (c ∷ cs) f = omega arith

takes_lead : (rule : Rule) (p : ℕ) (cs : List Candidate) → takes rule p cs p ≡ true
takes_lead Equal p cs = eq-eqb p p refl
takes_lead Divided p cs = eq-eqb (p % shortest_divisor p cs) 0 (divides p cs)

members_filled : (rule : Rule) (cs : List Candidate) → Filled cs → Filled (members rule cs)
members_filled rule [] h = absurd h
members_filled rule (c ∷ cs) h =
    kept_filled (takes rule (last_of c cs).row.period (c ∷ cs)) c cs (takes_lead rule (last_of c cs).row.period (c ∷ cs))

-- where there is a candidate there is a member
pub members_some : (rule : Rule) (cs : List Candidate) → 0 < length cs → 0 < length (members rule cs)
members_some rule [] h = absurd (omega arith)
members_some rule (c ∷ cs) h = filled_some (members rule (c ∷ cs)) (members_filled rule (c ∷ cs) tt)

pub some_member :
    (v : Meaning) (rule : Rule) (t : List Row) (m : List Mark) (i : ℕ) → IsCandidate v t m i → Filled (members rule (candidates v t m))
some_member v rule t m i c = members_filled rule (candidates v t m) (has_filled i (candidates v t m) (has_candidate v t m i c))

-- ---- the lead

last_in : (P : Candidate → Type 0) (c : Candidate) (cs : List Candidate) → AllByRecursion P (c ∷ cs) → P (last_of c cs)
last_in P c [] h = h.0
last_in P c (d ∷ ds) h = last_in P d ds h.1

last_most : (c : Candidate) (cs : List Candidate) → Rising (c ∷ cs) → AllByRecursion (λ d. d.at ≤ (last_of c cs).at) (c ∷ cs)
last_most c [] r = (omega arith, tt)
last_most c (d ∷ ds) r =
    let h : AllByRecursion (λ x. x.at ≤ (last_of d ds).at) (d ∷ ds) = last_most d ds r.1 in
    (omega (arith, r.0.0, h.0), h)

-- ---- the task

pub shortest_same : (v : Meaning) (t : List Row) (m : List Mark) (p a b : ℕ) → ShortestDivisor v t m p a → ShortestDivisor v t m p b → a ≡ b
shortest_same v t m p a b x y =
    let e : (row_at t x.of).period ≡ a = x.period in
    let f : (row_at t y.of).period ≡ b = y.period in
    let g : a ≤ (row_at t y.of).period = x.shortest y.of y.candidate (subst (Multiple p) (sym f) y.divides) in
    let h : b ≤ (row_at t x.of).period = y.shortest x.of x.candidate (subst (Multiple p) (sym e) x.divides) in
    omega arith

module _ (v : Meaning) (rule : Rule) (t : List Row) (m : List Mark) where
  -- what is kept has its place among the candidates, and goes
  kept_goes :
      (goes : ℕ → Bool) (i : ℕ) (cs : List Candidate) → AllByRecursion (Good v t m) cs → has_place i (kept goes cs) ≡ true →
      IsCandidate v t m i × (goes (row_at t i).period ≡ true)
  kept_goes goes i cs g e =
      at_place (λ j. IsCandidate v t m j × (goes (row_at t j).period ≡ true)) i (kept goes cs)
      (all_kept (λ c. IsCandidate v t m c.at × (goes (row_at t c.at).period ≡ true)) goes cs
      (All-weaker (Good v t m) (λ c. goes c.row.period ≡ true → IsCandidate v t m c.at × (goes (row_at t c.at).period ≡ true))
      (λ c h q. (good_candidate v t m c h, ap (λ (r : Row). goes r.period) h.is ∙ q))
      cs
      g))
      e

  goes_kept :
      (goes : ℕ → Bool) (i : ℕ) (cs : List Candidate) → AllByRecursion (Good v t m) cs → has_place i cs ≡ true → goes (row_at t i).period ≡ true →
      has_place i (kept goes cs) ≡ true
  goes_kept goes i [] g e q = e
  goes_kept goes i (c ∷ cs) g e q =
      elim (or_cases (eqb c.at i) (has_place i cs) e) [
        | inl h ↦
            let s : c.at ≡ i = eqb-true c.at i h in
            let p : goes c.row.period ≡ true = ap (λ (r : Row). goes r.period) (sym g.0.is) ∙ ap (λ j. goes (row_at t j).period) s ∙ q in
            ap (has_place i) (cond-true (goes c.row.period) (c ∷ kept goes cs) (kept goes cs) p) ∙
            or_left (eqb c.at i) (has_place i (kept goes cs)) h
        | inr h ↦
            let k : has_place i (kept goes cs) ≡ true = goes_kept goes i cs g.1 h q in
            cond_both (goes c.row.period) (c ∷ kept goes cs) (kept goes cs) (λ x. has_place i x ≡ true)
            (λ p. or_right (eqb c.at i) (has_place i (kept goes cs)) k)
            (λ p. k)
      ]

  module _ (cs : List Candidate) (g : AllByRecursion (Good v t m) cs) (full : (i : ℕ) → IsCandidate v t m i → has_place i cs ≡ true) where
    shortest : (i : ℕ) → IsCandidate v t m i → let p = (row_at t i).period in ShortestDivisor v t m p (shortest_divisor p cs)
    shortest i c =
        let p : ℕ = (row_at t i).period in
        let q : ℕ = shortest_divisor p cs in
        let own : (j : ℕ) × (IsCandidate v t m j × ((row_at t j).period ≡ q)) =
        divisor_is (λ x. (j : ℕ) × (IsCandidate v t m j × ((row_at t j).period ≡ x))) p cs (i, (c, refl))
        (All-weaker (Good v t m) (λ c. p % c.row.period ≡ 0 → (j : ℕ) × (IsCandidate v t m j × ((row_at t j).period ≡ c.row.period)))
        (λ c h e. (c.at, (good_candidate v t m c h, ap (λ (r : Row). r.period) h.is)))
        cs
        g)
        in
        let least : AllByRecursion (λ c. p % (row_at t c.at).period ≡ 0 → q ≤ (row_at t c.at).period) cs =
        all_both (Good v t m) (λ c. p % c.row.period ≡ 0 → q ≤ c.row.period) (λ c. p % (row_at t c.at).period ≡ 0 → q ≤ (row_at t c.at).period)
        (λ c h f. subst (λ (r : Row). p % r.period ≡ 0 → q ≤ r.period) (sym h.is) f)
        cs
        g
        (divisor_least p cs)
        in
        record {
          of = own.0;
          candidate = own.1.0;
          period = own.1.1;
          divides = from_mod p q (divides p cs);
          shortest = λ j d mult.
              at_place (λ k. p % (row_at t k).period ≡ 0 → q ≤ (row_at t k).period) j cs least (full j d) (to_mod p (row_at t j).period mult);
        }

    to_takes :
        (rule : Rule) (i p : ℕ) → IsCandidate v t m i → takes rule (row_at t i).period cs p ≡ true → Takes rule v t m (row_at t i).period p
    to_takes Equal i p c e = eqb-true p (row_at t i).period e
    to_takes Divided i p c e =
        let q : ℕ = shortest_divisor (row_at t i).period cs in
        (q, (shortest i c, from_mod p q (eqb-true (p % q) 0 e)))

    from_takes :
        (rule : Rule) (i p : ℕ) → IsCandidate v t m i → Takes rule v t m (row_at t i).period p → takes rule (row_at t i).period cs p ≡ true
    from_takes Equal i p c e = eq-eqb p (row_at t i).period e
    from_takes Divided i p c h =
        let q : ℕ = shortest_divisor (row_at t i).period cs in
        let s : h.0 ≡ q = shortest_same v t m (row_at t i).period h.0 q h.1.0 (shortest i c) in
        eq-eqb (p % q) 0 (to_mod p q (subst (Multiple p) s h.1.1))

  task_of :
      (cs : List Candidate) → AllByRecursion (Good v t m) cs → Rising cs → ((i : ℕ) → IsCandidate v t m i → has_place i cs ≡ true) → Filled (members rule cs) →
      IsTask v rule t m (λ i. has_place i (members rule cs) ≡ true)
  task_of [] g r full f = absurd f
  task_of (c ∷ cs) g r full f =
      let last : Candidate = last_of c cs in
      let good : Good v t m last = last_in (Good v t m) c cs g in
      let lead : IsCandidate v t m last.at = good_candidate v t m last good in
      let goes : ℕ → Bool = takes rule (row_at t last.at).period (c ∷ cs) in
      let same : members rule (c ∷ cs) ≡ kept goes (c ∷ cs) = ap (λ (x : Row). kept (takes rule x.period (c ∷ cs)) (c ∷ cs)) (sym good.is) in
      record {
        lead = last.at;
        leads = record {
          candidate = lead;
          last = λ j d. at_place (λ k. k ≤ last.at) j (c ∷ cs) (last_most c cs r) (full j d);
        };
        rows = λ i l. (
          λ h.
              let k : IsCandidate v t m i × (goes (row_at t i).period ≡ true) = kept_goes goes i (c ∷ cs) g (subst (λ x. has_place i x ≡ true) same h) in
              (k.0, to_takes (c ∷ cs) g full rule last.at (row_at t i).period lead k.1),
          λ h.
              subst (λ x. has_place i x ≡ true) (sym same)
              (goes_kept goes i (c ∷ cs) g (full i h.0) (from_takes (c ∷ cs) g full rule last.at (row_at t i).period lead h.1)),
        );
      }

  pub members_task : Filled (members rule (candidates v t m)) → IsTask v rule t m (λ i. has_place i (members rule (candidates v t m)) ≡ true)
  members_task f = task_of (candidates v t m) (good_candidates v t m) (rising_candidates v t m) (has_candidate v t m) f
