-- The least solution: the search finds it, it is the only one, and a bound from above makes it exist. Assumes nothing.
use Rattle.std.specs.Prelude.{◌≡◌, ℕ, zero, suc, ◌+◌, ◌<◌, ◌≤◌, ◌==◌, ◌≢◌, refl}
use Rattle.std.proofs.Common.{sym, ap, ◌∙◌, inl, inr, arith}
use Rattle.std.proofs.lemmas.Bool.{cond_both, eqb-true, eqb-false, cases_eq, cases_lt, cases_order}
use Rattle.analysis.specs.Laws.{OnTimeBy}
use Rattle.analysis.specs.Responses.{Solves, LeastSolution, first_from, least_solution}
use Rattle.analysis.specs.declared.row.Verdict.{Verdict}
use Rattle.analysis.specs.declared.row.Verdict.TheVariants.{OnTime, Late}

-- what the search over the n numbers from w on gives
abbrev Found : (ℕ → ℕ) → ℕ → ℕ → Verdict → Type 0
Found f n w (OnTime r) = (w ≤ r) × (r < w + n) × (r ≡ f r) × ((u : ℕ) → w ≤ u → u < r → u ≢ f u)
Found f n w Late = (u : ℕ) → w ≤ u → u < w + n → u ≢ f u

-- the search from w on, where w itself is no solution
widen : (f : ℕ → ℕ) (n w : ℕ) → (w ≢ f w) → (x : Verdict) → Found f n (suc w) x → Found f (suc n) w x
widen f n w ne (OnTime r) h = (
  omega arith,
  omega arith,
  h.2,
  λ u a b e.
      elim (cases_eq w u) [ inl p ↦ ne (p ∙ (e ∙ ap f (sym p))) | inr q ↦ h.3 u (omega arith) b e ],
)
widen f n w ne Late h = λ u a b e.
    elim (cases_eq w u) [ inl p ↦ ne (p ∙ (e ∙ ap f (sym p))) | inr q ↦ h u (omega arith) (omega arith) e ]

found : (f : ℕ → ℕ) (n w : ℕ) → Found f n w (first_from f n w)
found f zero w = λ u a b e. omega arith
found f (suc n) w =
    cond_both (w == f w) (OnTime w) (first_from f n (suc w)) (Found f (suc n) w)
    (λ e. (omega arith, omega arith, eqb-true w (f w) e, λ u a b z. omega arith))
    (λ e. widen f n w (eqb-false w (f w) e) (first_from f n (suc w)) (found f n (suc w)))

from_one : (f : ℕ → ℕ) (d : ℕ) (x : Verdict) → Found f d 1 x → LeastSolution f d x
from_one f d (OnTime r) h = ((omega arith, omega arith, h.2), λ u l s. h.3 u s.0 l s.2)
from_one f d Late h = λ u s. h u s.0 (omega arith) s.2

pub least_solves : (f : ℕ → ℕ) (d : ℕ) → LeastSolution f d (least_solution f d)
least_solves f d = from_one f d (least_solution f d) (found f d 1)

pub least_unique : (f : ℕ → ℕ) (d : ℕ) (x y : Verdict) → LeastSolution f d x → LeastSolution f d y → x ≡ y
least_unique f d (OnTime a) (OnTime b) h k =
    elim (cases_order a b) [
      | inl e ↦ ap OnTime e
      | inr o ↦ elim o [ inl l ↦ absurd (k.1 a l h.0) | inr l ↦ absurd (h.1 b l k.0) ]
    ]
least_unique f d (OnTime a) Late h k = absurd (k a h.0)
least_unique f d Late (OnTime b) h k = absurd (h b k.0)
least_unique f d Late Late h k = refl

pub least_is : (f : ℕ → ℕ) (d : ℕ) (x : Verdict) → LeastSolution f d x → x ≡ least_solution f d
least_is f d x h = least_unique f d x (least_solution f d) h (least_solves f d)

-- a function that never falls, and is at least 1
pub record Rising (f : ℕ → ℕ) : Type 0 where
  pub mono : (a b : ℕ) → a ≤ b → f a ≤ f b
  pub least : (a : ℕ) → 1 ≤ f a

-- below a number that f does not raise there is a solution
solution_below : (f : ℕ → ℕ) → Rising f → (n w : ℕ) → w ≤ n → 1 ≤ w → f w ≤ w → (u : ℕ) × ((1 ≤ u) × (u ≤ w) × (u ≡ f u))
solution_below f up zero w a b c = absurd (omega arith)
solution_below f up (suc n) w a b c =
    elim (cases_eq w (f w)) [
      | inl e ↦ (w, (b, omega arith, e))
      | inr ne ↦
          let s : (u : ℕ) × ((1 ≤ u) × (u ≤ f w) × (u ≡ f u)) =
          solution_below f up n (f w) (omega arith) (up.least w) (up.mono (f w) w c)
          in (s.0, (s.1.0, omega arith, s.1.2))
    ]

on_time_by : (f : ℕ → ℕ) (d w u : ℕ) → u ≤ w → Solves f d u → (x : Verdict) → LeastSolution f d x → OnTimeBy w x
on_time_by f d w u l s (OnTime r) h =
    (r, (refl, elim (cases_order r u) [ inl e ↦ omega arith | inr o ↦ elim o [ inl p ↦ omega arith | inr p ↦ absurd (h.1 u p s) ] ]))
on_time_by f d w u l s Late h = absurd (h u s)

-- where f does not raise w, the least solution is at most w
pub least_by : (f : ℕ → ℕ) → Rising f → (d w : ℕ) → 1 ≤ w → w ≤ d → f w ≤ w → OnTimeBy w (least_solution f d)
least_by f up d w a b c =
    let s : (u : ℕ) × ((1 ≤ u) × (u ≤ w) × (u ≡ f u)) = solution_below f up w w (omega arith) a c in
    on_time_by f d w s.0 s.1.1 (s.1.0, omega arith, s.1.2) (least_solution f d) (least_solves f d)

-- the equation of a response on time
pub on_time_solves : (f : ℕ → ℕ) (d w : ℕ) → least_solution f d ≡ OnTime w → Solves f d w
on_time_solves f d w e =
    let h : LeastSolution f d (OnTime w) = rw e at (least_solves f d) in h.0

-- the iteration of f: no number below w is a solution
abbrev NoneBelow : (ℕ → ℕ) → ℕ → Type 0
NoneBelow f w = (u : ℕ) → u < w → u ≢ f u

pub settled : (f : ℕ → ℕ) (d w : ℕ) → NoneBelow f w → 1 ≤ w → w ≤ d → w ≡ f w → OnTime w ≡ least_solution f d
settled f d w h a b e = least_is f d (OnTime w) ((a, b, e), λ u l s. h u l s.2)

pub settled_late : (f : ℕ → ℕ) (d w : ℕ) → NoneBelow f w → d < w → Late ≡ least_solution f d
settled_late f d w h l = least_is f d Late (λ u s. h u (omega arith) s.2)

-- one turn, from w to n
pub turn : (f : ℕ → ℕ) → Rising f → (w n : ℕ) → n ≡ f w → w ≤ f w → NoneBelow f w → (1 ≤ n) × (n ≤ f n) × NoneBelow f n
turn f up w n e l h = (
  omega (arith, up.least w),
  omega (arith, up.mono w n (omega arith)),
  λ u k s.
      elim (cases_lt u w) [ inl p ↦ h u p s | inr p ↦ omega (arith, up.mono w u p) ],
)
