-- What the plan from a task on is, by the steps that define it.
use Rattle.std.proofs.Common.{◌≡◌, ℕ, zero, suc, ◌<◌, ◌≤◌, true, false, eqb, ◌⊎◌, ◌↔◌, List, [], ◌∷◌, ◌++◌, length, get_or, Some, None, Option, sym, refl, ap, ◌∙◌, subst, inl, inr, arith}
use Rattle.std.specs.List.{AllByRecursion}
use Rattle.std.proofs.ByRecursion.{All-append, All-weaker}
use Rattle.std.proofs.lemmas.List.{ext_get_or}
use Rattle.std.proofs.lemmas.Bool.{both_ways, cases_Bool, eqb-true, cond-true, cond-false}
use Rattle.analysis.specs.Questions.{Meaning, row_at}
use Rattle.analysis.specs.declared.row.Mark.{Mark}
use Rattle.analysis.specs.declared.row.Mark.TheVariants.{Above, Below}
use Rattle.analysis.specs.declared.row.Row.{Row}
use Rattle.analysis.specs.declared.row.Verdict.TheVariants.{OnTime}
use Rattle.mapping.specs.Lines.{line_at}
use Rattle.mapping.specs.PlanLaw.{IsTask}
use Rattle.mapping.specs.Plans.{before_rest, candidates, has_place, lines_from, members, placed, plan_from, unplaced}
use Rattle.mapping.specs.declared.plan.PlanLine.{PlanLine}
use Rattle.mapping.specs.declared.plan.Rule.{Rule}
use Rattle.mapping.specs.declared.round.Candidate.{Candidate}
use Rattle.mapping.proofs.Candidates.{Good, Rising, at_place}
use Rattle.mapping.proofs.Lines.{Free, Names, Unique, names_right}
use Rattle.mapping.proofs.Members.{Filled, members_good, members_rising, members_task}
use Rattle.mapping.proofs.Numbered.{Begins, begins_more}
use Rattle.mapping.proofs.Pairs.{all_both}
use Rattle.mapping.proofs.Placing.{length_placed, none_free, own_places, stays_free, still_free}
use Rattle.mapping.proofs.Tables.{Sound}
use Rattle.mapping.proofs.TaskLines.{First, first_member, first_names, first_order, first_response, first_task, lines_only, member_place, missing_line, missing_member, unique_lines}

-- the row at k stands in t and is unplaced
abbrev pub Open : List Row → List Mark → ℕ → Type 0
Open t m k = (k < length t) × (get_or m k Below ≡ Above)

-- n marks above those rows unplaced under m whose tasks are k or greater
pub record Marked (t : List Row) (m : List Mark) (ls : List PlanLine) (k : ℕ) (n : List Mark) : Type 0 where
  pub size : length n ≡ length t
  pub above : (j : ℕ) → j < length t → get_or n j Below ≡ Above → (get_or m j Below ≡ Above) × (k ≤ (line_at ls t j).task)
  pub back : (j : ℕ) → j < length t → get_or m j Below ≡ Above → k ≤ (line_at ls t j).task → get_or n j Below ≡ Above

pub record Planned (v : Meaning) (rule : Rule) (t : List Row) (m : List Mark) (task : ℕ) (ls : List PlanLine) : Type 0 where
  pub named : (k : ℕ) → Open t m k → Names ls (row_at t k).number
  pub only : AllByRecursion (λ l. (k : ℕ) × ((k < length t) × ((get_or m k Below ≡ Above) × ((row_at t k).number ≡ l.number)))) ls
  pub unique : Unique ls
  pub begins : Begins task ls
  pub from_task : (k : ℕ) → Open t m k → task ≤ (line_at ls t k).task
  pub places :
      (j k : ℕ) → Open t m j → Open t m k → j < k → (line_at ls t j).task ≡ (line_at ls t k).task → (line_at ls t j).place < (line_at ls t k).place
  pub tasks :
      (k : ℕ) → Open t m k → (n : List Mark) → Marked t m ls (line_at ls t k).task n →
      IsTask v rule t n (λ j. (get_or m j Below ≡ Above) × ((line_at ls t j).task ≡ (line_at ls t k).task))
  pub responses :
      (k : ℕ) → Open t m k → (n : List Mark) → Marked t m ls (line_at ls t k).task n → v t n k ≡ OnTime (line_at ls t k).response

-- ---- marks and tasks that are the same

same_mark : (x y : Mark) → (x ≡ Above → y ≡ Above) → (y ≡ Above → x ≡ Above) → x ≡ y
same_mark Above y f g = sym (f refl)
same_mark Below Above f g = g refl
same_mark Below Below f g = refl

pub same_marks :
    (a b : List Mark) → length a ≡ length b → ((j : ℕ) → j < length a → get_or a j Below ≡ Above → get_or b j Below ≡ Above) →
    ((j : ℕ) → j < length a → get_or b j Below ≡ Above → get_or a j Below ≡ Above) → a ≡ b
same_marks a b l f g = ext_get_or Below a b l (λ j h. same_mark (get_or a j Below) (get_or b j Below) (f j h) (g j h))

pub same_task :
    (v : Meaning) (rule : Rule) (t : List Row) (m : List Mark) (P Q : ℕ → Type 0) → ((i : ℕ) → i < length t → P i ↔ Q i) →
    IsTask v rule t m P → IsTask v rule t m Q
same_task v rule t m P Q f k =
    record {
      lead = k.lead;
      leads = k.leads;
      rows = λ i l. (λ q. (k.rows i l).0 ((f i l).1 q), λ c. (f i l).0 ((k.rows i l).1 c));
    }

-- ---- no row is left

planned_none : (v : Meaning) (rule : Rule) (t : List Row) (m : List Mark) (task : ℕ) → unplaced m ≡ 0 → Planned v rule t m task []
planned_none v rule t m task h =
    record {
      named = λ k o. absurd (none_free m k h o.1);
      only = tt;
      unique = tt;
      begins = tt;
      from_task = λ k o. absurd (none_free m k h o.1);
      places = λ j k o p l e. absurd (none_free m j h o.1);
      tasks = λ k o n p. absurd (none_free m k h o.1);
      responses = λ k o n p. absurd (none_free m k h o.1);
    }

-- ---- one task more

module _
    (v : Meaning) (rule : Rule) (t : List Row) (s : Sound t) (m : List Mark) (lm : length m ≡ length t) (task : ℕ) (cs : List Candidate)
    (g : AllByRecursion (Good v t m) cs) (r : Rising cs) (f : Filled cs) (law : IsTask v rule t m (λ i. has_place i cs ≡ true)) (ls : List PlanLine)
    (ih : Planned v rule t (placed cs m) (suc task) ls)
  where
    abbrev all : List PlanLine
    all = lines_from task 1 cs ++ ls

    -- a row that is unplaced is a member, or stays so
    record Member (k : ℕ) : Type 0 where
      has : has_place k cs ≡ true
      first : First cs (row_at t k).number

    record Later (k : ℕ) : Type 0 where
      opened : Open t (placed cs m) k
      same : line_at all t k ≡ line_at ls t k

    member : (k : ℕ) → k < length t → has_place k cs ≡ true → Member k
    member k l h = record { has = h; first = first_member v t m s.apart cs k g l h }

    later : (k : ℕ) → k < length t → get_or m k Below ≡ Above → has_place k cs ≡ false → Later k
    later k l a h =
        record {
          opened = (l, stays_free cs m k h a);
          same = missing_line task ls 1 cs (row_at t k).number (missing_member v t m s.apart cs k g l h);
        }

    sort : (k : ℕ) → Open t m k → Member k ⊎ Later k
    sort k o = elim (cases_Bool (has_place k cs)) [ inl h ↦ inl (member k o.0 h) | inr h ↦ inr (later k o.0 o.1 h) ]

    member_open : (k : ℕ) → has_place k cs ≡ true → get_or m k Below ≡ Above
    member_open k h = at_place (λ j. get_or m j Below ≡ Above) k cs (All-weaker (Good v t m) (λ c. get_or m c.at Below ≡ Above) (λ c x. x.free) cs g) h

    later_open : (k : ℕ) → k < length t → get_or (placed cs m) k Below ≡ Above → Later k
    later_open k l a =
        let x : (has_place k cs ≡ false) × (get_or m k Below ≡ Above) = still_free cs m k a in
        later k l x.1 x.0

    later_was : (k : ℕ) → Later k → get_or m k Below ≡ Above
    later_was k h = (still_free cs m k h.opened.1).1

    member_task : (k : ℕ) → Member k → (line_at all t k).task ≡ task
    member_task k h = first_task task ls 1 cs (row_at t k).number h.first

    same_number : (k : ℕ) → Later k → (line_at all t k).task ≡ (line_at ls t k).task
    same_number k h = ap (λ (l : PlanLine). l.task) h.same

    later_task : (k : ℕ) → Later k → task < (line_at all t k).task
    later_task k h = omega (arith, same_number k h, ih.from_task k h.opened)

    more_named : (k : ℕ) → Open t m k → Names all (row_at t k).number
    more_named k o =
        elim (sort k o) [
          | inl h ↦ first_names task ls 1 cs (row_at t k).number h.first
          | inr h ↦ names_right (lines_from task 1 cs) ls (row_at t k).number (ih.named k h.opened)
        ]

    more_only : AllByRecursion (λ l. (k : ℕ) × ((k < length t) × ((get_or m k Below ≡ Above) × ((row_at t k).number ≡ l.number)))) all
    more_only =
        All-append _ (lines_from task 1 cs) ls (lines_only v t m s.apart task 1 cs g)
        (All-weaker _ _ (λ l q. (q.0, (q.1.0, ((still_free cs m q.0 q.1.1.0).1, q.1.1.1)))) ls ih.only)

    -- what is named later is no member's number
    apart : (c : Candidate) → Good v t m c → has_place c.at cs ≡ true → Free c.row.number ls
    apart c gc h =
        All-weaker
        (λ l. (k : ℕ) × ((k < length t) × ((get_or (placed cs m) k Below ≡ Above) × ((row_at t k).number ≡ l.number))))
        (λ l. l.number ≡ c.row.number → ⊥)
        (λ l q e.
        let x : ℕ = q.0 in
        let same : c.at ≡ x = member_place v t m s.apart c x gc q.1.0 (sym e ∙ sym q.1.1.1) in
        both_ways (has_place x cs) (still_free cs m x q.1.1.0).0 (subst (λ y. has_place y cs ≡ true) same h))
        ls
        ih.only

    more_unique : Unique all
    more_unique =
        unique_lines v t m s.apart task 1 cs ls g r ih.unique
        (all_both (Good v t m) (λ c. has_place c.at cs ≡ true) (λ c. Free c.row.number ls) apart cs g (own_places cs))

    more_from : (k : ℕ) → Open t m k → task ≤ (line_at all t k).task
    more_from k o = elim (sort k o) [ inl h ↦ omega (arith, member_task k h) | inr h ↦ omega (arith, later_task k h) ]

    more_places :
        (j k : ℕ) → Open t m j → Open t m k → j < k → (line_at all t j).task ≡ (line_at all t k).task → (line_at all t j).place < (line_at all t k).place
    more_places j k oj ok l e = cases (sort j oj) (sort k ok)
      where
        cases : Member j ⊎ Later j → Member k ⊎ Later k → (line_at all t j).place < (line_at all t k).place
        cases (inl a) (inl b) = first_order v t m s.apart task ls 1 cs j k g r l ok.0 a.first b.first
        cases (inl a) (inr b) = absurd (omega (arith, member_task j a, later_task k b))
        cases (inr a) (inl b) = absurd (omega (arith, later_task j a, member_task k b))
        cases (inr a) (inr b) =
            let x : (line_at all t j).place ≡ (line_at ls t j).place = ap (λ (l : PlanLine). l.place) a.same in
            let y : (line_at all t k).place ≡ (line_at ls t k).place = ap (λ (l : PlanLine). l.place) b.same in
            omega (arith, ih.places j k a.opened b.opened l (sym (same_number j a) ∙ e ∙ same_number k b))

    -- the marks at the time of this task
    marks_now : (k : ℕ) → Member k → (n : List Mark) → Marked t m all (line_at all t k).task n → m ≡ n
    marks_now k h n p =
        same_marks m n (lm ∙ sym p.size)
        (λ j l a. p.back j (omega arith) a (omega (arith, member_task k h, more_from j (omega arith, a))))
        (λ j l a. (p.above j (omega arith) a).0)

    -- the marks at the time of a later one
    marks_later : (k : ℕ) → Later k → (n : List Mark) → Marked t m all (line_at all t k).task n → Marked t (placed cs m) ls (line_at ls t k).task n
    marks_later k h n p =
        record {
          size = p.size;
          above = λ j l a.
              let x : (get_or m j Below ≡ Above) × ((line_at all t k).task ≤ (line_at all t j).task) = p.above j l a in
              elim (sort j (l, x.0)) [
                | inl q ↦ absurd (omega (arith, x.1, member_task j q, later_task k h))
                | inr q ↦ (q.opened.1, omega (arith, x.1, same_number k h, same_number j q))
              ];
          back = λ j l a le.
              let q : Later j = later_open j l a in
              p.back j l (later_was j q) (omega (arith, le, same_number k h, same_number j q));
        }

    more_tasks :
        (k : ℕ) → Open t m k → (n : List Mark) → Marked t m all (line_at all t k).task n →
        IsTask v rule t n (λ j. (get_or m j Below ≡ Above) × ((line_at all t j).task ≡ (line_at all t k).task))
    more_tasks k o n p = cases (sort k o)
      where
        cases : Member k ⊎ Later k → IsTask v rule t n (λ j. (get_or m j Below ≡ Above) × ((line_at all t j).task ≡ (line_at all t k).task))
        cases (inl h) =
            subst (λ x. IsTask v rule t x (λ j. (get_or m j Below ≡ Above) × ((line_at all t j).task ≡ (line_at all t k).task))) (marks_now k h n p)
            (same_task v rule t m (λ j. has_place j cs ≡ true) (λ j. (get_or m j Below ≡ Above) × ((line_at all t j).task ≡ (line_at all t k).task))
            (λ j l. (
              λ x. (member_open j x, member_task j (member j l x) ∙ sym (member_task k h)),
              λ x. elim (sort j (l, x.0)) [
                | inl q ↦ q.has
                | inr q ↦ absurd (omega (arith, x.1, member_task k h, later_task j q))
              ],
            ))
            law)
        cases (inr h) =
            same_task v rule t n (λ j. (get_or (placed cs m) j Below ≡ Above) × ((line_at ls t j).task ≡ (line_at ls t k).task))
            (λ j. (get_or m j Below ≡ Above) × ((line_at all t j).task ≡ (line_at all t k).task))
            (λ j l. (
              λ x.
                  let q : Later j = later_open j l x.0 in
                  (later_was j q, same_number j q ∙ x.1 ∙ sym (same_number k h)),
              λ x. elim (sort j (l, x.0)) [
                | inl q ↦ absurd (omega (arith, x.1, member_task j q, later_task k h))
                | inr q ↦ (q.opened.1, sym (same_number j q) ∙ x.1 ∙ same_number k h)
              ],
            ))
            (ih.tasks k h.opened n (marks_later k h n p))

    more_responses :
        (k : ℕ) → Open t m k → (n : List Mark) → Marked t m all (line_at all t k).task n → v t n k ≡ OnTime (line_at all t k).response
    more_responses k o n p =
        elim (sort k o) [
          | inl h ↦
              ap (λ x. v t x k) (sym (marks_now k h n p)) ∙ first_response v t m s.apart task ls 1 cs k g o.0 h.first
          | inr h ↦ ih.responses k h.opened n (marks_later k h n p) ∙ ap (λ (l : PlanLine). OnTime l.response) (sym h.same)
        ]

    planned_more : Planned v rule t m task all
    planned_more =
        record {
          named = more_named;
          only = more_only;
          unique = more_unique;
          begins = begins_more task cs ls f ih.begins;
          from_task = more_from;
          places = more_places;
          tasks = more_tasks;
          responses = more_responses;
        }

-- ---- by the steps of a plan

pub some_same : (a b : List PlanLine) → Some a ≡ Some b → a ≡ b
some_same a b e = cc

pub none_some : (a : List PlanLine) → None ≡ Some a → ⊥
none_some a e = let z : ◌≡◌ {A = ℕ} 0 1 = cc in omega arith

-- the lines of a plan from a task on: those of the task, and those of the tasks above it
pub record Split (task : ℕ) (cs : List Candidate) (rest : Option (List PlanLine)) (all : List PlanLine) : Type 0 where
  pub filled : Filled cs
  pub lines : List PlanLine
  pub given : rest ≡ Some lines
  pub whole : all ≡ lines_from task 1 cs ++ lines

pub split : (task : ℕ) (cs : List Candidate) (rest : Option (List PlanLine)) (all : List PlanLine) → before_rest task cs rest ≡ Some all → Split task cs rest all
split task [] rest all e = absurd (none_some all e)
split task (c ∷ cs) None all e = absurd (none_some all e)
split task (c ∷ cs) (Some ls) all e =
    record { filled = tt; lines = ls; given = refl; whole = sym (some_same (lines_from task 1 (c ∷ cs) ++ ls) all e) }

module _ (v : Meaning) (rule : Rule) (t : List Row) (s : Sound t) where
  pub plan_from_planned :
      (n task : ℕ) (m : List Mark) (ls : List PlanLine) → length m ≡ length t → plan_from n v rule t task m ≡ Some ls → Planned v rule t m task ls
  plan_from_planned zero task m ls l e =
      elim (cases_Bool (eqb (unplaced m) 0)) [
        | inl h ↦
            let q : [] ≡ ls = some_same [] ls (sym (cond-true (eqb (unplaced m) 0) (Some []) None h) ∙ e) in
            subst (Planned v rule t m task) q (planned_none v rule t m task (eqb-true (unplaced m) 0 h))
        | inr h ↦ absurd (none_some ls (sym (cond-false (eqb (unplaced m) 0) (Some []) None h) ∙ e))
      ]
  plan_from_planned (suc n) task m ls l e =
      let cs : List Candidate = members rule (candidates v t m) in
      let rest : Option (List PlanLine) = plan_from n v rule t (suc task) (placed cs m) in
      elim (cases_Bool (eqb (unplaced m) 0)) [
        | inl h ↦
            let q : [] ≡ ls = some_same [] ls (sym (cond-true (eqb (unplaced m) 0) (Some []) (before_rest task cs rest) h) ∙ e) in
            subst (Planned v rule t m task) q (planned_none v rule t m task (eqb-true (unplaced m) 0 h))
        | inr h ↦
            let d : Split task cs rest ls =
            split task cs rest ls (sym (cond-false (eqb (unplaced m) 0) (Some []) (before_rest task cs rest) h) ∙ e)
            in
            let ih : Planned v rule t (placed cs m) (suc task) d.lines =
            plan_from_planned n (suc task) (placed cs m) d.lines (length_placed cs m ∙ l) d.given
            in
            subst (Planned v rule t m task) (sym d.whole)
            (planned_more v rule t s m l task cs (members_good v rule t m) (members_rising v rule t m) d.filled (members_task v rule t m d.filled)
            d.lines
            ih)
      ]
