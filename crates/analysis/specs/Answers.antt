-- What a question is answered with. Assumes nothing.
use Rattle.std.specs.Prelude.{ℕ, cond, not, ◌||◌, List, [], ◌∷◌, length, Some, None, Ok, Err, Option, Result, ◌==◌, nat_lt}
use Rattle.std.specs.Option.{option_or}
use Rattle.analysis.specs.Questions.{Meaning}
use Rattle.analysis.specs.Ranges.{asked_cost, wrong_field}
use Rattle.analysis.specs.declared.question.QuestionFault.{QuestionFault}
use Rattle.analysis.specs.declared.question.QuestionFault.TheVariants.{Shape, Range}
use Rattle.analysis.specs.declared.row.Mark.{Mark}
use Rattle.analysis.specs.declared.row.Row.{Row}
use Rattle.analysis.specs.declared.row.Verdict.{Verdict}

-- a verdict, or a code with the field that it names, 0 where it names none
pub data Answer : Type 0 where
  judged : Verdict → Answer
  refused : ℕ → ℕ → Answer

-- the code of each fault
abbrev pub question_code : QuestionFault → ℕ
question_code Shape = 7
question_code (Range field) = 3

-- the field that it names, 0 where it names none
abbrev pub question_field : QuestionFault → ℕ
question_field Shape = 0
question_field (Range field) = field

-- the code and the field of a fault
abbrev pub code_of : QuestionFault → Answer
code_of e = refused (question_code e) (question_field e)

-- the code's answer, by what it says
abbrev pub answer_of : Result Verdict QuestionFault → Answer
answer_of (Ok x) = judged x
answer_of (Err e) = code_of e

-- the wrong field of the first row that has one
abbrev pub first_wrong : List Row → Option ℕ
first_wrong [] = None
first_wrong (r ∷ rs) = option_or (wrong_field asked_cost r) (first_wrong rs)

-- a wrong field is a fault
abbrev pub range_of : Option ℕ → Result (Unit {0}) QuestionFault
range_of None = Ok tt
range_of (Some field) = Err (Range field)

-- the fault of a question, where it has one: its shape comes first, then the first row out of range
abbrev pub checked : List Row → List Mark → ℕ → Result (Unit {0}) QuestionFault
checked t m i =
    cond (nat_lt 128 (length t) || (not (length m == length t) || not (nat_lt i (length t))))
    (Err Shape)
    (range_of (first_wrong t))

-- a verdict, unless the check found a fault
abbrev pub answer_after : Result (Unit {0}) QuestionFault → Verdict → Answer
answer_after (Ok _) x = judged x
answer_after (Err e) x = code_of e

-- what a question is answered with, where the verdict means v
abbrev pub answer : Meaning → List Row → List Mark → ℕ → Answer
answer v t m i = answer_after (checked t m i) (v t m i)
