-- Totals, load and cycle of a task, from its members. Assumes nothing.
use Rattle.std.specs.Prelude.{◌≡◌, ℕ, ◌*◌, ◌/◌, ◌%◌, ◌<◌, ◌≤◌, min, max, Bool, List, [], ◌∷◌, length, Decides, fold, sum_by, filter, ◌==◌, nat_lt}
use Rattle.analysis.specs.Questions.{row_at}
use Rattle.analysis.specs.declared.row.Row.{Row}
use Rattle.mapping.specs.PlanLaw.{Multiple}
use Rattle.mapping.specs.declared.plan.PlanLine.{PlanLine}
use Rattle.std.specs.List.{AllByRecursion}
use Rattle.tasks.specs.Answers.{Answer, found, refused, refused_if}
use Rattle.tasks.specs.Members.{members_answer}

-- ---- by computation

-- the best value of some rows, where f tells the better of two; 0 where there is no row
abbrev pub best : (ℕ → ℕ → ℕ) → (Row → ℕ) → List Row → ℕ
best f value [] = 0
best f value (r ∷ rs) = fold (λ a s. f a (value s)) (value r) rs

-- the shortest period of the members, which is the task's
abbrev pub shortest_period : List Row → ℕ
shortest_period ms = best min (λ r. r.period) ms

-- their shortest deadline
abbrev pub shortest_deadline : List Row → ℕ
shortest_deadline ms = best min (λ r. r.deadline) ms

-- their longest period
abbrev pub longest_period : List Row → ℕ
longest_period ms = best max (λ r. r.period) ms

-- their summed cost
abbrev pub summed_cost : List Row → ℕ
summed_cost ms = sum_by (λ r. r.cost) ms

-- shortest period, shortest deadline and summed cost
abbrev pub totals_of : List Row → ℕ × ℕ × ℕ
totals_of ms = (shortest_period ms, shortest_deadline ms, summed_cost ms)

-- the row's period divides n
abbrev pub divides : ℕ → Row → Bool
divides n r = n % r.period == 0

-- the summed cost of the members whose period divides n
abbrev pub cost_at : ℕ → List Row → ℕ
cost_at n ms = summed_cost (filter (divides n) ms)

-- the load of activation m: what runs at m times the shortest period
abbrev pub load_of : ℕ → List Row → ℕ
load_of m ms = cost_at (m * shortest_period ms) ms

-- the cycle: the longest period divided by the shortest, rounded down
abbrev pub cycle_of : List Row → ℕ
cycle_of ms = longest_period ms / shortest_period ms

-- ---- what the calls answer

-- an answer with its value put through a function
abbrev pub answered : {X Y : Type 0} → (X → Y) → Answer X → Answer Y
answered f (found x) = found (f x)
answered f (refused code field) = refused code field

-- the totals of the members of the task k
abbrev pub totals_answer : List Row → ℕ → List PlanLine → Answer (ℕ × ℕ × ℕ)
totals_answer t k ls = answered totals_of (members_answer t k ls)

-- the load of the task k in activation m: one over 1,000,000 is refused after too many lines and before the members are looked at
abbrev pub load_answer : List Row → ℕ → List PlanLine → ℕ → Answer ℕ
load_answer t k ls m =
    refused_if (nat_lt 128 (length ls)) 7
    (refused_if (nat_lt 1000000 m) 3
    (answered (load_of m) (members_answer t k ls)))

-- the cycle of the task k
abbrev pub cycle_answer : List Row → ℕ → List PlanLine → Answer ℕ
cycle_answer t k ls = answered cycle_of (members_answer t k ls)

-- the summed cost of the task k, as the totals have it
abbrev pub cost_answer : List Row → ℕ → List PlanLine → Answer ℕ
cost_answer t k ls = answered summed_cost (members_answer t k ls)

-- ---- in words

-- x is the value of some member, and R holds between x and the value of each
pub record Extreme (R : ℕ → ℕ → Type 0) (value : Row → ℕ) (ms : List Row) (x : ℕ) : Type 0 where
  pub of : ℕ
  pub within : of < length ms
  pub is : value (row_at ms of) ≡ x
  pub against : (k : ℕ) → k < length ms → R x (value (row_at ms k))

-- no member has a smaller value
abbrev pub Shortest : (Row → ℕ) → List Row → ℕ → Type 0
Shortest value ms x = Extreme (λ x y. x ≤ y) value ms x

-- no member has a greater value
abbrev pub Longest : (Row → ℕ) → List Row → ℕ → Type 0
Longest value ms x = Extreme (λ x y. y ≤ x) value ms x

-- the first two totals are the shortest period and the shortest deadline
pub record ShortestOf (ms : List Row) (x : ℕ × ℕ × ℕ) : Type 0 where
  pub period : Shortest (λ r. r.period) ms x.0
  pub deadline : Shortest (λ r. r.deadline) ms x.1

-- a load: the summed cost of the members that run, and a member runs exactly where m times the shortest period is a multiple of its own
pub record LoadOf (m : ℕ) (ms : List Row) (x : ℕ) : Type 0 where
  pub period : ℕ
  pub shortest : Shortest (λ r. r.period) ms period
  pub runs : Row → Bool
  pub when : AllByRecursion (λ r. Decides (runs r) (Multiple (m * period) r.period)) ms
  pub is : x ≡ summed_cost (filter runs ms)

-- a cycle: the longest period by the shortest
pub record CycleOf (ms : List Row) (x : ℕ) : Type 0 where
  pub above : ℕ
  pub below : ℕ
  pub longest : Longest (λ r. r.period) ms above
  pub shortest : Shortest (λ r. r.period) ms below
  pub is : x ≡ above / below

-- the period of each member is a multiple of n
abbrev pub Multiples : ℕ → List Row → Type 0
Multiples n ms = AllByRecursion (λ r. Multiple r.period n) ms
