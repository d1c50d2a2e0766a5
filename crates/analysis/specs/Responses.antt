-- The response-time equation, without and with sections, and the linear test. Assumes nothing.
use Rattle.std.specs.Prelude.{◌≡◌, ℕ, zero, suc, ◌+◌, ◌-◌, ◌*◌, ◌/◌, ◌<◌, ◌≤◌, max, cond, List, [], ◌∷◌, ◌==◌, nat_le, slice_set}
use Rattle.analysis.specs.Questions.{Meaning, row_at}
use Rattle.analysis.specs.declared.row.Mark.{Mark}
use Rattle.analysis.specs.declared.row.Mark.TheVariants.{Above, Below}
use Rattle.analysis.specs.declared.row.Row.{Row}
use Rattle.analysis.specs.declared.row.Verdict.{Verdict}
use Rattle.analysis.specs.declared.row.Verdict.TheVariants.{OnTime, Late}

-- the activations of a row of period T in a window of w ticks: w / T, rounded up
abbrev pub activations : ℕ → ℕ → ℕ
activations w period = (w + (period - 1)) / period

-- what a row with a mark asks of the processor in a window of w ticks: nothing where it is below
abbrev pub demand : Mark → Row → ℕ → ℕ
demand Above r w = activations w r.period * r.cost
demand Below r w = 0

-- what the rows marked above ask of the processor in a window of w ticks
abbrev pub demand_above : List Row → List Mark → ℕ → ℕ
demand_above [] m w = 0
demand_above (r ∷ t) [] w = 0
demand_above (r ∷ t) (x ∷ m) w = demand x r w + demand_above t m w

-- the same of the rows other than the one at i
abbrev pub interference : List Row → List Mark → ℕ → ℕ → ℕ
interference t m i w = demand_above t (slice_set m i Below) w

-- how long a row with a mark may hold the processor against the asked row: not at all where it is above
abbrev pub held : Mark → Row → ℕ
held Above r = 0
held Below r = r.section

-- the longest section among the rows marked below
abbrev pub section_below : List Row → List Mark → ℕ
section_below [] m = 0
section_below (r ∷ t) [] = 0
section_below (r ∷ t) (x ∷ m) = max (held x r) (section_below t m)

-- the same of the rows other than the one at i
abbrev pub blocking : List Row → List Mark → ℕ → ℕ
blocking t m i = section_below t (slice_set m i Above)

-- w solves f from 1 to d: f gives w again
abbrev pub Solves : (ℕ → ℕ) → ℕ → ℕ → Type 0
Solves f d w = (1 ≤ w) × (w ≤ d) × (w ≡ f w)

-- on time with the least w that solves f from 1 to d, or late where there is none
abbrev pub LeastSolution : (ℕ → ℕ) → ℕ → Verdict → Type 0
LeastSolution f d (OnTime w) = Solves f d w × ((u : ℕ) → u < w → Solves f d u → ⊥)
LeastSolution f d Late = (u : ℕ) → Solves f d u → ⊥

-- the first of n numbers from w on that solves f
abbrev pub first_from : (ℕ → ℕ) → ℕ → ℕ → Verdict
first_from f zero w = Late
first_from f (suc n) w = cond (w == f w) (OnTime w) (first_from f n (suc w))

-- the least solution by trying each number from 1 to d in turn
abbrev pub least_solution : (ℕ → ℕ) → ℕ → Verdict
least_solution f d = first_from f d 1

-- the right side of the response-time equation: blocking, the row's own cost, and the interference in a window of w ticks
abbrev pub workload : ℕ → List Row → List Mark → ℕ → ℕ → ℕ
workload b t m i w = b + ((row_at t i).cost + interference t m i w)

-- the verdict by the response-time equation, with a blocking of b ticks
abbrev pub response : ℕ → Meaning
response b t m i = least_solution (λ w. workload b t m i w) (row_at t i).deadline

-- x is that verdict, said as a relation: the least w from 1 to the deadline that the workload in w ticks equals, or late
abbrev pub IsResponse : ℕ → List Row → List Mark → ℕ → Verdict → Type 0
IsResponse b t m i x = LeastSolution (λ w. workload b t m i w) (row_at t i).deadline x

-- exact: no blocking
abbrev pub exact : Meaning
exact = response 0

-- sections: blocked by the longest section below
abbrev pub sections : Meaning
sections t m i = response (blocking t m i) t m i

-- linear: the row's own cost and the interference of one window as long as the deadline, if that is no more than the deadline
abbrev pub linear : Meaning
linear t m i =
    let d = (row_at t i).deadline in
    let w = (row_at t i).cost + interference t m i d in
    cond (nat_le w d) (OnTime w) Late

-- a quotient rounded up: so many periods reach over the window, and one fewer does not
abbrev pub RoundedUp : Type 0
RoundedUp = (w period : ℕ) → 1 ≤ period → (w ≤ activations w period * period) × (activations w period * period < w + period)
