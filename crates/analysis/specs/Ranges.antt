-- The ranges of a row's values. Assumes nothing.
use Rattle.std.specs.Prelude.{ℕ, ◌≤◌, cond, ◌&&◌, Some, None, Option, nat_le}
use Rattle.analysis.specs.declared.row.Row.{Row}

-- the largest cost of a row that a sheet keeps
abbrev pub kept_cost : ℕ
kept_cost = 1000000

-- the largest cost of a row in a question's table
abbrev pub asked_cost : ℕ
asked_cost = 1000001

-- every value of the row is in its range, and its cost is at most `top`
pub record InRange (top : ℕ) (r : Row) : Type 0 where
  pub number_least : 1 ≤ r.number
  pub number_most : r.number ≤ 65535
  pub cost_least : 1 ≤ r.cost
  pub cost_most : r.cost ≤ top
  pub period_least : 1 ≤ r.period
  pub period_most : r.period ≤ 1000000
  pub deadline_least : 1 ≤ r.deadline
  pub deadline_most : r.deadline ≤ r.period
  pub section_most : r.section ≤ r.cost

-- the field where x is not between low and high, else the rest
abbrev between : ℕ → ℕ → ℕ → ℕ → Option ℕ → Option ℕ
between low high x field rest = cond (nat_le low x && nat_le x high) rest (Some field)

-- the leftmost field outside its range, counted from 1 in the order number, cost, period, deadline, section
abbrev pub wrong_field : ℕ → Row → Option ℕ
wrong_field top r =
    between 1 65535 r.number 1
    (between 1 top r.cost 2
    (between 1 1000000 r.period 3
    (between 1 r.period r.deadline 4
    (between 0 r.cost r.section 5 None))))
