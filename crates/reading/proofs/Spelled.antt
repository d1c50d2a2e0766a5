-- A text byte by byte. Assumes nothing.
use Rattle.std.proofs.Common.{◌≡◌, ℕ, suc, ◌+◌, List, [], ◌∷◌, length, get_or, drop, ap, ◌∙◌, sym, arith, ◌<◌}
use Rattle.std.proofs.Math.Seq.{drop-cons}
use Rattle.std.proofs.lemmas.List.{drop_all}

-- the bytes of bs from the k-th on begin with the word
abbrev pub Spells : List ℕ → ℕ → List ℕ → Type 0
Spells bs k [] = Unit {0}
Spells bs k (c ∷ cs) = (get_or bs k 0 ≡ c) × Spells bs (suc k) cs

module _ (bs : List ℕ) where
  from : (k : ℕ) (w : List ℕ) → length bs ≡ k + length w → Spells bs k w → drop k bs ≡ w
  from k [] e h = drop_all k bs (omega arith)
  from k (c ∷ cs) e h =
      let inside : k < length bs = omega arith in
      drop-cons bs k 0 inside ∙ (λ i. h.0 i ∷ from (suc k) cs (omega arith) h.1 i)

  pub spelled : (w : List ℕ) {T : Type 0} (F : List ℕ → T) → length bs ≡ length w → Spells bs 0 w → F w ≡ F bs
  spelled w F e h = ap F (sym (from 0 w (omega arith) h))
