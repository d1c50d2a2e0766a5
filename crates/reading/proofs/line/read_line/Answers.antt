use Rattle.std.proofs.Common.{sym, ◌∙◌}
use Rattle.reading.proofs.Checks.{line_of}
use Rattle.reading.proofs.line.read_line.Goals as goal

pub returns-clause-value : goal.returns-clause-value
returns-clause-value c =
    (line_of c.args.line c.first_field.result.0 c.first_field.result.1 c.in_ok-word.word c.line_of.result c.first_field.ensures.cut (sym c.in_ok-word.ensures.ok_part ∙ c.word_of.ensures) c.line_of.ensures).0
