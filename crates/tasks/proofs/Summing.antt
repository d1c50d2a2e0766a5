-- Totals of the members, member by member. Assumes nothing.
use Rattle.std.proofs.Common.{◌≡◌, ℕ, ◌^◌, ◌<◌, ◌≤◌, min, max, not, List, [], ◌∷◌, length, map, Option, unwrap_or, sym, refl, ap, ◌∙◌, arith}
use Rattle.analysis.specs.Questions.{no_row, row_at}
use Rattle.analysis.specs.Ranges.{InRange, kept_cost}
use Rattle.analysis.specs.declared.row.Row.{Row}
use Rattle.std.proofs.ByRecursion.{All-get_or}
use Rattle.std.proofs.lemmas.Iterator.{YieldsList}
use Rattle.std.proofs.lemmas.Iterator.Adapters.{option_map_id}
use Rattle.std.proofs.lemmas.Iterator.Consumers.{max_from_yields_List, min_from_yields_List}
use Rattle.std.proofs.lemmas.List.Filters.{sum_by-filter_both}
use Rattle.std.proofs.lemmas.List.Folds.{fold-map}
use Rattle.std.proofs.lemmas.List.Sums.{sum_by-le}
use Rattle.std.specs.Iterator.{PicksByCmp}
use Rattle.std.specs.List.{All, reduce}
use Rattle.std.specs.Ordering.{max_by_ordering, min_by_ordering, nat_cmp}
use Rattle.tasks.specs.Members.{Ranged}
use Rattle.tasks.specs.Totals.{best, cost_at, divides, summed_cost}

-- a member's values are in their ranges
pub ranged_at : (ms : List Row) (i : ℕ) → Ranged ms → i < length ms → InRange kept_cost (row_at ms i)
ranged_at ms i r h = All-get_or (InRange kept_cost) ms i no_row h r.each

-- ---- the best of the members, where f tells the better of two

module _ (f : ℕ → ℕ → ℕ) (value : Row → ℕ) where
  best_is : (ms : List Row) → unwrap_or (reduce f (map value ms)) 0 ≡ best f value ms
  best_is [] = refl
  best_is (r ∷ rs) = fold-map f value (value r) rs

module _ {S : Type 0} {steps : S → Option ℕ → S → Type 0} (value : Row → ℕ) (ms : List Row) (s : S) (o : Option ℕ) (x : ℕ) where
  pub smallest :
      PicksByCmp steps min_by_ordering nat_cmp s o → YieldsList steps (λ y. y) s (map value ms) → x ≡ unwrap_or o 0 → x ≡ best min value ms
  smallest picks yields e =
      let m = sym (option_map_id o) ∙ min_from_yields_List s o picks yields in
      e ∙ ap (λ (p : Option ℕ). unwrap_or p 0) m ∙ best_is min value ms

  pub greatest :
      PicksByCmp steps max_by_ordering nat_cmp s o → YieldsList steps (λ y. y) s (map value ms) → x ≡ unwrap_or o 0 → x ≡ best max value ms
  greatest picks yields e =
      let m = sym (option_map_id o) ∙ max_from_yields_List s o picks yields in
      e ∙ ap (λ (p : Option ℕ). unwrap_or p 0) m ∙ best_is max value ms

-- ---- the summed cost

module _ (ms : List Row) (each : All (InRange kept_cost) ms) (few : length ms ≤ 128) where
  pub costs_fit : summed_cost ms < 2 ^ 32
  costs_fit =
      let most = sum_by-le (λ r. r.cost) kept_cost ms (λ k d h. (each k d h).cost_most) in
      omega arith

  pub costs_at_fit : (n : ℕ) → cost_at n ms < 2 ^ 32
  costs_at_fit n =
      let both = sum_by-filter_both (divides n) (λ r. not (divides n r)) (λ _. refl) (λ r. r.cost) ms in
      omega (arith, costs_fit)
