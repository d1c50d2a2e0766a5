use Rattle.std.proofs.Common.{take}
use Rattle.std.specs.List.{flat_map}
use Rattle.script.specs.Answers.{line_text, Puts}
use Rattle.script.proofs.answer.put_lines.Given as goal

abbrev pub invariant-loop-line : goal.invariant-loop-line
invariant-loop-line l = Puts l.initial.room l.place (flat_map line_text (take l.line-index l.lines)) l.end l.room
