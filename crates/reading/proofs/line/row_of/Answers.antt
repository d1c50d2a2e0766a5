use Rattle.std.proofs.Common.{ℕ, [], ◌∷◌, get_or, map, ap, refl, ◌∙◌, rules}
use Rattle.reading.specs.Says.{row, row_at}
use Rattle.reading.specs.Reading.{spot}
use Rattle.reading.specs.declared.words.Word.TheVariants as w
use Rattle.reading.specs.declared.line.Line.TheVariants as v
use Rattle.reading.proofs.Checks.{blank, listed, line_read}
use Rattle.reading.proofs.line.row_of.Goals as goal

pub returns : goal.returns
returns c =
    let told = c.in_ok-numbers_in.ensures in
    let xs = c.numbers_in.new.fields in
    let f = λ (k : ℕ). get_or xs k blank in
    line_read _ w.Row c.args.rest (v.Row (f 0) (f 1) (f 2) (f 3) (f 4)) (λ fs. row (row_at fs)) (f 0 ∷ f 1 ∷ f 2 ∷ f 3 ∷ f 4 ∷ []) refl (told.told _) (told.spots ∙ ap (map spot) (listed xs 5 blank (search rules))) refl refl
