-- Alike piles mean the same. Assumes nothing.
use Rattle.std.proofs.Common.{◌≡◌, ℕ, Bool, cond, List, map, set, refl, ap, ◌∙◌}
use Rattle.analysis.specs.Questions.{row_at}
use Rattle.analysis.specs.declared.row.Mark.{Mark}
use Rattle.analysis.specs.declared.row.Mark.TheVariants.{Below}
use Rattle.analysis.specs.declared.row.Row.{Row}
use Rattle.analysis.specs.declared.row.Verdict.{Verdict}
use Rattle.analysis.specs.declared.row.Verdict.TheVariants.{Late}
use Rattle.layers.specs.Layers.{kept_within, pair_broken, raised}
use Rattle.layers.specs.Piles.{Alike, AlikeAgree, Pile, meaning_of, same_charge, same_margin, same_named, same_pairs}
use Rattle.layers.proofs.Breaking.{broken_alike}

agree : (p q : Pile) → Alike p q → (t : List Row) (m : List Mark) (i : ℕ) → meaning_of p t m i ≡ meaning_of q t m i
agree _ _ (same_named c) t m i = refl
agree _ _ (same_charge s p q a) t m i = agree p q a (map (raised s) t) m i
agree _ _ (same_margin n p q a) t m i = ap (kept_within n (row_at t i).deadline) (agree p q a t m i)
agree _ _ (same_pairs ps qs p q s a) t m i =
    ap (λ (b : Bool). cond b Late (meaning_of p t m i)) (broken_alike ps qs s (row_at t i).number t (set m i Below))
    ∙ ap (λ (x : Verdict). cond (pair_broken qs (row_at t i).number t (set m i Below)) Late x) (agree p q a t m i)

pub alike_agree : AlikeAgree
alike_agree = agree
