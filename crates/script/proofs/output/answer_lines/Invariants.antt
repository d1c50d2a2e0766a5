use Rattle.std.proofs.Common.{◌≡◌, ◌-◌, ◌++◌, length, vec_items}
use Rattle.reading.specs.Lines.{lines_of}
use Rattle.script.specs.Begun.{script_of, taken_of}
use Rattle.script.specs.Sessions.{answers_after, answers_from, start}
use Rattle.script.proofs.output.answer_lines.Given as goal

-- what was written, and then the answers that are to come, are all answers
abbrev pub invariant-loop-answered : goal.invariant-loop-answered
invariant-loop-answered l = record {
  roomy : length l.room ≡ 4096;
  same : script_of l.session ≡ script_of l.fn.session;
  all : vec_items l.out ++ answers_after (script_of l.session) (taken_of l.session) ≡ answers_from start 1 (lines_of (script_of l.fn.session));
}

abbrev pub decreases-loop-answered : goal.decreases-loop-answered
decreases-loop-answered l = length (lines_of (script_of l.session)) - taken_of l.session
