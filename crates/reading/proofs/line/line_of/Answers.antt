use Rattle.std.proofs.Common.{ℕ, [], ◌∷◌, get_or, map, ap, refl, sym, subst, ◌∙◌, rules}
use Rattle.reading.specs.Says.{pair, at, LineAs}
use Rattle.reading.specs.Reading.{spot}
use Rattle.reading.specs.declared.words.Word.TheVariants as w
use Rattle.reading.specs.declared.line.Line.TheVariants as v
use Rattle.reading.proofs.Checks.{blank, listed, line_as, line_read}
use Rattle.reading.proofs.line.line_of.Goals as goal

pub returns-in_ok-numbers_in-in-Pair : goal.returns-in_ok-numbers_in-in-Pair
returns-in_ok-numbers_in-in-Pair c =
    let told = c.in_ok-numbers_in-in-Pair.ensures in
    let xs = c.numbers_in-in-Pair.new.fields in
    let f = λ (k : ℕ). get_or xs k blank in
    line_read _ w.Pair c.args.rest (v.Pair (f 0) (f 1)) (λ fs. pair (at fs 0) (at fs 1)) (f 0 ∷ f 1 ∷ []) c.in-Pair.is (told.told _) (told.spots ∙ ap (map spot) (listed xs 2 blank (search rules))) refl refl

pub returns-in_ok-fields_in-in-Map : goal.returns-in_ok-fields_in-in-Map
returns-in_ok-fields_in-in-Map c =
    let xs = c.fields_in.new.fields in
    let told = c.in_ok-fields_in-in-Map.ensures ∙ ap (map spot) (listed xs 2 blank (search rules)) in
    subst (λ u. LineAs u c.args.rest c.map_of.result) (sym c.in-Map.is) (line_as w.Map c.args.rest (get_or xs 0 blank ∷ get_or xs 1 blank ∷ []) c.map_of.result told c.map_of.ensures)
