-- The candidates of a step: each is one by the law, in sheet order, and all are there.
use Rattle.std.proofs.Common.{◌≡◌, ℕ, zero, suc, ◌+◌, ◌<◌, true, eqb, List, [], ◌∷◌, ◌++◌, length, get_or, sym, refl, ap, ◌∙◌, subst, inl, inr, arith}
use Rattle.std.specs.List.{AllByRecursion}
use Rattle.std.proofs.lemmas.Bool.{eq-eqb, eqb-true, or_cases, or_left, or_right}
use Rattle.analysis.specs.Questions.{Meaning, row_at}
use Rattle.analysis.specs.declared.row.Mark.{Mark}
use Rattle.analysis.specs.declared.row.Mark.TheVariants.{Above, Below}
use Rattle.analysis.specs.declared.row.Row.{Row}
use Rattle.analysis.specs.declared.row.Verdict.{Verdict}
use Rattle.analysis.specs.declared.row.Verdict.TheVariants.{OnTime, Late}
use Rattle.mapping.specs.PlanLaw.{IsCandidate}
use Rattle.mapping.specs.Plans.{candidates, candidates_from, has_place, if_on_time, if_unplaced}
use Rattle.mapping.specs.declared.round.Candidate.{Candidate}
use Rattle.mapping.proofs.Monotone.{below≢above}
use Rattle.mapping.proofs.Pairs.{Pairs}

-- ---- what holds of each candidate

head :
    (P : Candidate → Type 0) (k : ℕ) (r : Row) (x : Mark) (d : Verdict) (cs : List Candidate) →
    (x ≡ Above → (w : ℕ) → d ≡ OnTime w → P (record { at = k; row = r; response = w })) → AllByRecursion P cs →
    AllByRecursion P (if_unplaced x (if_on_time k r d) ++ cs)
head P k r Above (OnTime w) cs f h = (f refl w refl, h)
head P k r Above Late cs f h = h
head P k r Below d cs f h = h

pub each_candidate :
    (P : Candidate → Type 0) (ask : ℕ → Verdict) (k : ℕ) (t : List Row) (m : List Mark) →
    (
    (j w : ℕ) → j < length t → get_or m j Below ≡ Above → ask (k + j) ≡ OnTime w →
    P (record { at = k + j; row = row_at t j; response = w })
    ) →
    AllByRecursion P (candidates_from ask k t m)
each_candidate P ask k [] m f = tt
each_candidate P ask k (r ∷ t) [] f = tt
each_candidate P ask k (r ∷ t) (x ∷ m) f =
    let z : k + 0 ≡ k = omega arith in
    let s : (j : ℕ) → k + suc j ≡ suc k + j = λ j. omega arith in
    head P k r x (ask k) (candidates_from ask (suc k) t m)
    (λ e w q.
    subst (λ n. P (record { at = n; row = r; response = w })) z (f 0 w (omega arith) e (subst (λ n. ask n ≡ OnTime w) (sym z) q)))
    (each_candidate P ask (suc k) t m
    (λ j w l e q.
    subst (λ n. P (record { at = n; row = row_at t j; response = w })) (s j)
    (f (suc j) w (omega arith) e (subst (λ n. ask n ≡ OnTime w) (sym (s j)) q))))

pub record Good (v : Meaning) (t : List Row) (m : List Mark) (c : Candidate) : Type 0 where
  pub within : c.at < length t
  pub is : row_at t c.at ≡ c.row
  pub free : get_or m c.at Below ≡ Above
  pub verdict : v t m c.at ≡ OnTime c.response

pub good_candidates : (v : Meaning) (t : List Row) (m : List Mark) → AllByRecursion (Good v t m) (candidates v t m)
good_candidates v t m =
    each_candidate (Good v t m) (v t m) 0 t m
    (λ j w l e q.
    let z : 0 + j ≡ j = omega arith in
    record {
      within = omega arith;
      is = ap (λ n. row_at t n) z;
      free = ap (λ n. get_or m n Below) z ∙ e;
      verdict = q;
    })

-- ---- candidates stand in the table's order

abbrev pub Rising : List Candidate → Type 0
Rising cs = Pairs (λ c d. c.at < d.at) cs

rising_head :
    (k : ℕ) (r : Row) (x : Mark) (d : Verdict) (cs : List Candidate) → AllByRecursion (λ c. k < c.at) cs → Rising cs →
    Rising (if_unplaced x (if_on_time k r d) ++ cs)
rising_head k r Above (OnTime w) cs a h = (a, h)
rising_head k r Above Late cs a h = h
rising_head k r Below d cs a h = h

rising_from : (ask : ℕ → Verdict) (k : ℕ) (t : List Row) (m : List Mark) → Rising (candidates_from ask k t m)
rising_from ask k [] m = tt
rising_from ask k (r ∷ t) [] = tt
rising_from ask k (r ∷ t) (x ∷ m) =
    rising_head k r x (ask k) (candidates_from ask (suc k) t m)
    (each_candidate (λ c. k < c.at) ask (suc k) t m (λ j w l e q. omega arith))
    (rising_from ask (suc k) t m)

pub rising_candidates : (v : Meaning) (t : List Row) (m : List Mark) → Rising (candidates v t m)
rising_candidates v t m = rising_from (v t m) 0 t m

-- ---- the places of candidates

pub good_candidate : (v : Meaning) (t : List Row) (m : List Mark) (c : Candidate) → Good v t m c → IsCandidate v t m c.at
good_candidate v t m c g = record { within = g.within; above = g.free; response = c.response; on_time = g.verdict }

-- what holds of each candidate's place holds of a place that a candidate has
pub at_place : (P : ℕ → Type 0) (i : ℕ) (cs : List Candidate) → AllByRecursion (λ c. P c.at) cs → has_place i cs ≡ true → P i
at_place P i [] h e = let z : ◌≡◌ {A = ℕ} 0 1 = cc in absurd (omega arith)
at_place P i (c ∷ cs) h e =
    elim (or_cases (eqb c.at i) (has_place i cs) e) [
      | inl q ↦ subst P (eqb-true c.at i q) h.0
      | inr q ↦ at_place P i cs h.1 q
    ]

has_right : (i : ℕ) (cs ds : List Candidate) → has_place i ds ≡ true → has_place i (cs ++ ds) ≡ true
has_right i [] ds h = h
has_right i (c ∷ cs) ds h = or_right (eqb c.at i) (has_place i (cs ++ ds)) (has_right i cs ds h)

late≢on_time : (w : ℕ) → Late ≡ OnTime w → ⊥
late≢on_time w e = let z : ◌≡◌ {A = ℕ} 0 1 = cc in omega arith

has_here :
    (k : ℕ) (r : Row) (x : Mark) (d : Verdict) (cs : List Candidate) (w : ℕ) → x ≡ Above → d ≡ OnTime w →
    has_place k (if_unplaced x (if_on_time k r d) ++ cs) ≡ true
has_here k r Above (OnTime u) cs w e q = or_left (eqb k k) (has_place k cs) (eq-eqb k k refl)
has_here k r Above Late cs w e q = absurd (late≢on_time w q)
has_here k r Below d cs w e q = absurd (below≢above e)

has_from :
    (ask : ℕ → Verdict) (k : ℕ) (t : List Row) (m : List Mark) (j w : ℕ) → j < length t → get_or m j Below ≡ Above →
    ask (k + j) ≡ OnTime w → has_place (k + j) (candidates_from ask k t m) ≡ true
has_from ask k [] m j w l e q = absurd (omega arith)
has_from ask k (r ∷ t) [] j w l e q = absurd (below≢above e)
has_from ask k (r ∷ t) (x ∷ m) zero w l e q =
    let z : k + 0 ≡ k = omega arith in
    subst (λ n. has_place n (candidates_from ask k (r ∷ t) (x ∷ m)) ≡ true) (sym z)
    (has_here k r x (ask k) (candidates_from ask (suc k) t m) w e (subst (λ n. ask n ≡ OnTime w) z q))
has_from ask k (r ∷ t) (x ∷ m) (suc j) w l e q =
    let s : k + suc j ≡ suc k + j = omega arith in
    subst (λ n. has_place n (candidates_from ask k (r ∷ t) (x ∷ m)) ≡ true) (sym s)
    (has_right (suc k + j) (if_unplaced x (if_on_time k r (ask k))) (candidates_from ask (suc k) t m)
    (has_from ask (suc k) t m j w (omega arith) e (subst (λ n. ask n ≡ OnTime w) s q)))

pub has_candidate : (v : Meaning) (t : List Row) (m : List Mark) (i : ℕ) → IsCandidate v t m i → has_place i (candidates v t m) ≡ true
has_candidate v t m i c =
    let z : 0 + i ≡ i = omega arith in
    subst (λ n. has_place n (candidates v t m) ≡ true) z
    (has_from (v t m) 0 t m i c.response c.within c.above (subst (λ n. v t m n ≡ OnTime c.response) (sym z) c.on_time))
