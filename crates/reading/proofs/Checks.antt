-- What `check` and the functions that call it give. Assumes nothing.
use Rattle.std.proofs.Common.{None, ◌≡◌, ℕ, ◌+◌, true, false, Bool, not, cond, position, eqb, List, [], ◌∷◌, map, length, drop, is_some, IfOk, get_or, Some, Ok, Option, Result, sym, refl, ap, ◌∙◌, subst, eq-eqb, ne_eqb}
use lib.ListN.{length-map}
use Rattle.std.specs.List.{position_from, range_with_len}
use Rattle.std.proofs.lemmas.Iterator.Adapters.{position_from-zero}
use Rattle.std.proofs.lemmas.Bool.{cond-true, cond-false}
use Rattle.std.proofs.lemmas.List.FromFn.{fill_by_all}
use Rattle.reading.specs.declared.field.Field.{Field}
use Rattle.reading.specs.declared.line.Line.{Line}
use Rattle.reading.specs.declared.words.Word.{Word}
use Rattle.reading.specs.declared.fault.TextFault.{TextFault}
use Rattle.reading.specs.Lines.{fields_of}
use Rattle.reading.specs.Numbers.{number}
use Rattle.reading.specs.Says.{word_of, outcome, says, said, Said, reading_of, reads_if, reads_fields, Read, Stands, refused, counted, numbered, LineAs, LineOf, reads}
use Rattle.reading.specs.Reading.{text, spot, spots_in, texts_in}
use Rattle.reading.proofs.Cuts.{texts_in_is}

-- the bytes of fields that stand at some spots
pub texts_are : (o : Option Field) (fs : List Field) → spots_in o ≡ map spot fs → texts_in o ≡ map text fs
texts_are o fs e = texts_in_is o ∙ ap (map (λ s. s.text)) e ∙ texts_of fs
  where
    texts_of : (gs : List Field) → map (λ s. s.text) (map spot gs) ≡ map text gs
    texts_of [] = refl
    texts_of (g ∷ gs) = ap (λ l. text g ∷ l) (texts_of gs)

-- what the fields of a line come to
module _ (o : Option Field) (n : ℕ) where
  pub some_fields : (fs : List Field) → spots_in o ≡ map spot fs → length fs ≡ n → (x : Read) → counted n (texts_in o) (numbered 1 (texts_in o) x) ≡ numbered 1 (map text fs) x
  some_fields fs e long x =
      let same = texts_are o fs e in
      let count : length (texts_in o) ≡ n = ap length same ∙ length-map fs text ∙ long in
      cond-true (eqb (length (texts_in o)) n) _ _ (eq-eqb _ _ count) ∙ ap (λ l. numbered 1 l x) same

  pub other_fields : (length (spots_in o) ≡ n → ⊥) → (x : Read) → counted n (texts_in o) x ≡ refused 1 0
  other_fields h x =
      let count : length (texts_in o) ≡ length (spots_in o) = ap length (texts_in_is o) ∙ length-map (spots_in o) (λ s. s.text) in
      cond-false (eqb (length (texts_in o)) n) _ _ (ne_eqb _ _ (λ e. h (sym count ∙ e)))

-- what the leftmost field that is no number tells of the line
abbrev other : Field → Bool
other f = not (is_some (number (text f)))

module _ (x : Read) where
  abbrev placed : Option ℕ → Read
  placed None = x
  placed (Some i) = refused 2 (i + 1)

  from : (i : ℕ) (fs : List Field) → numbered (i + 1) (map text fs) x ≡ placed (position_from other i fs)
  from i [] = refl
  from i (f ∷ fs) =
      elim (is_some (number (text f))) as (λ t. cond t (numbered (i + 1 + 1) (map text fs) x) (refused 2 (i + 1)) ≡ placed (cond (not t) (Some i) (position_from other (i + 1) fs))) [ true ↦ from (i + 1) fs | false ↦ refl ]

  others : (fs : List Field) (r : Option ℕ) → r ≡ position other fs → numbered 1 (map text fs) x ≡ placed r
  others fs r e = from 0 fs ∙ ap placed (sym (e ∙ position_from-zero other fs))

pub one_other : (fs : List Field) (i : ℕ) → Some i ≡ position (λ f. not (is_some (number (text f)))) fs → (x : Read) → numbered 1 (map text fs) x ≡ refused 2 (i + 1)
one_other fs i e x = others x fs (Some i) e

pub no_other : (fs : List Field) → None ≡ position (λ f. not (is_some (number (text f)))) fs → (x : Read) → numbered 1 (map text fs) x ≡ x
no_other fs e x = others x fs None e

-- what an array pattern reads where there is no field
abbrev pub blank : Field
blank = record { bytes = record { ref_ptr = (0, 0); now = [] }; place = 0 }

-- fields as an array pattern names them
pub listed : (fs : List Field) (n : ℕ) (d : Field) → length fs ≡ n → fs ≡ map (λ k. get_or fs k d) (range_with_len 0 n)
listed fs n d long = fill_by_all (λ k. get_or fs k d) fs n d long (λ k h. refl)

-- the line that a word makes of number fields
pub line_read : (v u : Word) (o : Option Field) (l : Line) (k : List (List ℕ) → Said) (fs : List Field) → v ≡ u → reads u (texts_in o) ≡ says (k (texts_in o)) → spots_in o ≡ map spot fs → said l ≡ k (map text fs) → Stands (map spot fs) l → LineAs v o (Ok l)
line_read v u o l k fs is told e same stands =
    (ap says (same ∙ ap k (sym (texts_are o fs e))) ∙ sym told ∙ ap (λ j. reads j (texts_in o)) (sym is), subst (λ ss. Stands ss l) (sym e) stands)

-- the line of the fields that are left
pub line_as : (v : Word) (o : Option Field) (fs : List Field) (r : Result Line TextFault) → spots_in o ≡ map spot fs → LineOf v fs r → LineAs v o r
line_as v o fs r e h = (h.0 ∙ ap (reads v) (sym (texts_are o fs e)), subst (λ ss. IfOk r (λ l. Stands ss l)) (sym e) h.1)

pub line_of : (line first : Field) (rest : Option Field) (k : Word) (r : Result Line TextFault) → spot first ∷ spots_in rest ≡ spots_in (Some line) → Some k ≡ word_of (text first) → LineAs k rest r → (outcome r ≡ reading_of (text line)) × IfOk r (λ l. Stands (drop 1 (spots_in (Some line))) l)
line_of line first rest k r cut is h =
    let all : text first ∷ texts_in rest ≡ fields_of (text line) =
    ap (λ l. text first ∷ l) (texts_in_is rest) ∙ ap (map (λ s. s.text)) cut ∙ sym (texts_in_is (Some line)) in
    (h.0 ∙ ap (λ o. reads_if o (texts_in rest)) is ∙ ap reads_fields all, subst (λ ss. IfOk r (λ l. Stands ss l)) (ap (drop 1) cut) h.1)
