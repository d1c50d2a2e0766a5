-- The calls that a script's lines make are a course. Assumes nothing.
use Rattle.std.proofs.Common.{◌≡◌, ℕ, ◌≤◌, true, false, List, [], ◌∷◌, take, None, refl, inl, inr, arith}
use Rattle.std.proofs.lemmas.Bool.{cases_Bool}
use Rattle.std.proofs.lemmas.Bool.Decides.{nat_tests}
use Rattle.analysis.specs.Ranges.{kept_cost, wrong_field}
use Rattle.analysis.specs.declared.row.Row.{Row}
use Rattle.analysis.proofs.Checks.{range_right, right_range}
use Rattle.layers.specs.Lemmas.Lawful.{piles_lawful}
use Rattle.mapping.specs.Courses.{Accepts, Answers, Course, Limits, entry, new, strike, table, then}
use Rattle.mapping.specs.Faults.{Outcome, accepted, enter_outcome, refused, strike_outcome}
use Rattle.mapping.specs.Orders.{Stands}
use Rattle.mapping.specs.Sheets.{has_number}
use Rattle.mapping.proofs.Course.{course_law, course_limits}
use Rattle.mapping.proofs.Entries.{none_stands, stands_from}
use Rattle.reading.specs.Lines.{lines_of}
use Rattle.reading.specs.Says.{Read, reading_of, says}
use Rattle.reading.specs.Says as said
use Rattle.script.specs.Sessions.{ScriptLaw, State, accepts, after_read, pile_of, runs, start, state_after}

-- ---- entries

absent : (n : ℕ) (t : List Row) → (Stands t n → ⊥) → has_number n t ≡ false
absent n t f = elim (cases_Bool (has_number n t)) [ inl h ↦ absurd (f (stands_from n t h)) | inr h ↦ h ]

present : (n : ℕ) (t : List Row) → Stands t n → has_number n t ≡ true
present n t s = elim (cases_Bool (has_number n t)) [ inl h ↦ h | inr h ↦ absurd (none_stands n t h s) ]

taken : (t : List Row) (r : Row) → Accepts t r → enter_outcome r t ≡ accepted
taken t r a =
    let w = range_right kept_cost r a.ranges in
    let h = absent r.number t a.new in
    let l = a.free in
    grind (arith, nat_tests)

entry_answers : (t : List Row) (r : Row) (o : Outcome) → o ≡ enter_outcome r t → Answers t (entry r (accepts o))
entry_answers t r accepted e =
    let w : wrong_field kept_cost r ≡ None = grind (arith, nat_tests) in
    let h : has_number r.number t ≡ false = grind (arith, nat_tests) in
    record {
      ranges = right_range kept_cost r w;
      new = none_stands r.number t h;
      free = grind (arith, nat_tests);
    }
entry_answers t r (refused code field) e = λ a.
    let k = taken t r a in
    let z : ◌≡◌ {A = ℕ} 0 1 = cc in omega arith

-- ---- strikes

struck : (t : List Row) (n : ℕ) → Limits t → Stands t n → strike_outcome n t ≡ accepted
struck t n l s =
    let h = present n t s in
    let r = l.ranges s.0 s.1.0 in
    let low : 1 ≤ n = omega (arith, r.number_least, s.1.1) in
    let high : n ≤ 65535 = omega (arith, r.number_most, s.1.1) in
    grind (arith, nat_tests)

strike_answers : (t : List Row) (n : ℕ) → Limits t → (o : Outcome) → o ≡ strike_outcome n t → Answers t (strike n (accepts o))
strike_answers t n l accepted e = let h : has_number n t ≡ true = grind (arith, nat_tests) in stands_from n t h
strike_answers t n l (refused code field) e = λ s.
    let k = struck t n l s in
    let z : ◌≡◌ {A = ℕ} 0 1 = cc in omega arith

-- ---- scripts

course_said : (s : State) (x : said.Said) → Course s.course → Course (after_read s (says x)).course
course_said s (said.row r) c = then s.course _ c (entry_answers (table s.course) r (enter_outcome r (table s.course)) refl)
course_said s (said.strike n) c =
    then s.course _ c (strike_answers (table s.course) n (course_limits s.course c) (strike_outcome n (table s.course)) refl)
course_said s (said.pair u l) c = c
course_said s (said.charge n) c = c
course_said s (said.margin n) c = c
course_said s (said.mapping a rule) c = then s.course _ c (piles_lawful (pile_of s a), refl)

course_read : (s : State) (x : Read) → Course s.course → Course (after_read s x).course
course_read s (says x) c = course_said s x c
course_read s (said.refused code field) c = c

course_runs : (s : State) (ls : List (List ℕ)) → Course s.course → Course (runs s ls).course
course_runs s [] c = c
course_runs s (l ∷ ls) c = course_runs (after_read s (reading_of l)) ls (course_read s (reading_of l) c)

pub script_law : (script : List ℕ) (k : ℕ) → ScriptLaw script k
script_law script k =
    let c = course_runs start (take k (lines_of script)) new in
    record { course = c; law = course_law (state_after script k).course c }
