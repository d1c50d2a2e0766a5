-- What is true of each course of calls on a sheet.
use Rattle.std.proofs.Common.{◌≡◌, ℕ, Bool, true, false, ◌↔◌, List, [], ◌∷◌, ◌++◌, Some, sym, refl, ap, ◌∙◌, subst, inl, inr, append-nil}
use Rattle.std.proofs.lemmas.Bool.{false≢true}
use Rattle.analysis.specs.Laws.{Lawful}
use Rattle.analysis.specs.declared.row.Row.{Row}
use Rattle.mapping.specs.Courses.{Accepts, Answers, Continues, Course, CourseLaw, Event, Limits, Standing, after, entry, issued, mapping, strike, table, tables, then, unschedulable}
use Rattle.mapping.specs.Orders.{Schedulable, Stands}
use Rattle.mapping.specs.Plans.{plan}
use Rattle.mapping.proofs.AnswerLaw.{answer_law, answer_refused, is_issued, issued_schedulable}
use Rattle.mapping.proofs.Between.{entered_or_schedule, same_schedulable}
use Rattle.mapping.proofs.OneTable.{one_table}
use Rattle.mapping.proofs.Runs.{Runs, at, runs, runs_left, runs_right, sound_runs, table_sound, table_standing, tables_append}
use Rattle.mapping.proofs.Tables.{Sound, sound_limits}

accepted_exactly : (t : List Row) (r : Row) (b : Bool) → Answers t (entry r b) → (b ≡ true) ↔ Accepts t r
accepted_exactly t r true a = (λ e. a, λ h. refl)
accepted_exactly t r false a = (λ e. absurd (false≢true e), λ h. absurd (a h))

struck_exactly : (t : List Row) (n : ℕ) (b : Bool) → Answers t (strike n b) → (b ≡ true) ↔ Stands t n
struck_exactly t n true a = (λ e. a, λ h. refl)
struck_exactly t n false a = (λ e. absurd (false≢true e), λ h. absurd (a h))

pub course_law : (es : List Event) → Course es → CourseLaw es
course_law es c =
    let run : Runs [] es = runs c in
    record {
      standing = λ xs ys p t. (one_table es run xs ys p t, λ e. subst (Standing xs) (sym e) (table_standing es run xs ys p));
      limits = λ xs ys p. sound_limits (table xs) (table_sound es run xs ys p);
      entries = λ xs ys r b p. accepted_exactly (table xs) r b (at es run xs (entry r b) ys p).answers;
      strikes = λ xs ys n b p. struck_exactly (table xs) n b (at es run xs (strike n b) ys p).answers;
      mappings = λ xs ys v rule room o p.
          let a = at es run xs (mapping v rule room o) ys p in
          answer_law v a.answers.0 rule (table xs) a.sound room o a.answers.1;
      between = λ xs ys zs v u rule other room space ls p same.
          let last : Event = mapping u other space unschedulable in
          let a = at es run xs (mapping v rule room (issued ls)) (ys ++ last ∷ zs) p in
          let t : List Row = table xs in
          let law : Lawful v = a.answers.0 in
          let q : plan v rule t ≡ Some ls = is_issued v law rule t a.sound room (issued ls) a.answers.1 ls refl in
          let first : Schedulable v t = issued_schedulable v law rule t a.sound room (issued ls) a.answers.1 ls q in
          let mid : Runs t ys = runs_left t ys (last ∷ zs) a.rest in
          let end : Runs (tables t ys) (last ∷ zs) = runs_right t ys (last ∷ zs) a.rest in
          let sound : Sound (tables t ys) = sound_runs t ys a.sound mid in
          elim (entered_or_schedule v law t ys a.sound mid first) [
            | inl h ↦ h
            | inr h ↦
                absurd
                (answer_refused u end.0.0 other (tables t ys) sound space unschedulable end.0.1 refl
                (same_schedulable v u (tables t ys) sound same h))
          ];
    }

-- a call that answers as it is defined to takes every course one step on
pub continues : (t : List Row) (e : Event) → Answers t e → (t' : List Row) → t' ≡ after t e → Continues t e t'
continues t e a t' p =
    let on : (es : List Event) → Course es → table es ≡ t → Course (es ++ e ∷ []) =
    λ es c q. then es e c (subst (λ x. Answers x e) (sym q) a) in
    record {
      course = on;
      leads = λ es c q. tables_append [] es (e ∷ []) ∙ ap (λ x. after x e) q ∙ sym p;
      law = λ es c q. course_law (es ++ e ∷ []) (on es c q);
    }

-- the table of a course is within the limits
pub course_limits : (es : List Event) → Course es → Limits (table es)
course_limits es c = (course_law es c).limits es [] (sym (append-nil es))
