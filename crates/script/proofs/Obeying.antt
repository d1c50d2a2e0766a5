-- What the calls on the sheet and on the mapping do is what a line's state and reply are defined to be. Assumes nothing.
use Rattle.std.proofs.Common.{◌≡◌, ℕ, Bool, List, [], ◌∷◌, ◌++◌, length, take, drop, is_ok, IfOk, Some, None, Ok, Err, Option, Result, sym, refl, ap, ◌∙◌, subst, arith}
use Rattle.std.proofs.lemmas.List.{take_at}
use Rattle.analysis.specs.Questions.{Meaning}
use Rattle.analysis.specs.Choices.{chosen}
use Rattle.analysis.specs.declared.choice.Choice.{Choice}
use Rattle.analysis.specs.declared.row.Row.{Row}
use Rattle.layers.specs.Layers.{charged, with_margin, with_pairs}
use Rattle.layers.specs.Lists.{pairs_of}
use Rattle.layers.specs.Piles.{meaning_of}
use Rattle.layers.specs.declared.pair.Pair.{Pair}
use Rattle.mapping.specs.Courses.{Event, Mapped, after, issued, map_answer, mapping, no_room, table, unschedulable}
use Rattle.mapping.specs.Faults.{Outcome, outcome_of}
use Rattle.mapping.specs.Replies.{Bounded, last_task, reply, reply_of, written}
use Rattle.mapping.specs.Rows.{rows_of}
use Rattle.mapping.specs.declared.fault.MapFault.{MapFault}
use Rattle.mapping.specs.declared.fault.SheetFault.{SheetFault}
use Rattle.mapping.specs.declared.plan.Issued.{Issued}
use Rattle.mapping.specs.declared.plan.PlanLine.{PlanLine}
use Rattle.mapping.specs.declared.plan.Rule.{Rule}
use Rattle.mapping.proofs.Runs.{tables_append}
use Rattle.reading.specs.Says.{Said}
use Rattle.reading.specs.Says as says
use Rattle.script.specs.Sessions.{State, accepts, after_said, by_mapping, by_sheet, called, mapped, pile_of, reply_said, standing}
use Rattle.script.specs.Works.{Matches, Obeys, Replies}
use Rattle.script.specs.declared.fault.Fault.{Fault}
use Rattle.script.specs.declared.fault.Fault.TheVariants as fault
use Rattle.script.specs.declared.workspace.Workspace.{Workspace}

-- ---- calls on the sheet

-- the outcome that a session passes on
abbrev pub passed_sheet : {X : Type 0} → Result X SheetFault → Result (Option Issued) Fault
passed_sheet (Ok x) = Ok None
passed_sheet (Err e) = Err (fault.Sheet e)

says_sheet : {X : Type 0} (r : Result X SheetFault) (x : Outcome) (ls : List PlanLine) → outcome_of r ≡ x → Replies (by_sheet x) (passed_sheet r) ls
says_sheet (Ok y) x ls e = subst (λ (o : Outcome). Replies (by_sheet o) (Ok None) ls) e refl
says_sheet (Err f) x ls e = subst (λ (o : Outcome). Replies (by_sheet o) (Err (fault.Sheet f)) ls) e (fault.Sheet f, (refl, refl))

accepts_is : {X : Type 0} (r : Result X SheetFault) → accepts (outcome_of r) ≡ is_ok r
accepts_is (Ok y) = refl
accepts_is (Err f) = refl

table_push : (es : List Event) (e : Event) → table (es ++ e ∷ []) ≡ after (table es) e
table_push es e = tables_append [] es (e ∷ [])

module _ {X : Type 0} (w w' : Workspace) (x : Said) (outcome : List Row → Outcome) (event : Bool → Event) (r : Result X SheetFault) (ls : List PlanLine) where
  pub sheet_obeys :
      ((s : State) → after_said s x ≡ called s (event (accepts (outcome (standing s))))) → ((s : State) → reply_said s x ≡ by_sheet (outcome (standing s))) →
      outcome_of r ≡ outcome (rows_of w.sheet) → rows_of w'.sheet ≡ after (rows_of w.sheet) (event (is_ok r)) → w'.pile ≡ w.pile →
      Obeys w x w' (passed_sheet r) ls
  sheet_obeys afters replies o rows pile =
      record {
        after = λ s m.
            let t : outcome_of r ≡ outcome (standing s) = o ∙ ap outcome m.rows in
            let b : is_ok r ≡ accepts (outcome (standing s)) = sym (accepts_is r) ∙ ap accepts t in
            subst (λ (z : State). Matches w' z) (sym (afters s))
            (record {
              rows =
                  rows ∙ ap (λ (l : List Row). after l (event (is_ok r))) m.rows ∙ ap (λ (z : Bool). after (standing s) (event z)) b
                  ∙ sym (table_push s.course (event (accepts (outcome (standing s)))));
              pairs = ap (λ p. pairs_of p.pairs) pile ∙ m.pairs;
              charge = ap (λ p. p.below.below.ticks.value) pile ∙ m.charge;
              margin = ap (λ p. p.below.percent.value) pile ∙ m.margin;
            });
        reply = λ s m.
            subst (λ z. Replies z (passed_sheet r) ls) (sym (replies s)) (says_sheet r (outcome (standing s)) ls (o ∙ ap outcome m.rows));
      }

-- ---- a mapping

abbrev counts : ℕ → ℕ → Issued
counts tasks lines = record { tasks = tasks; lines = lines }

-- the outcome that a session passes on
abbrev pub passed_map : Result Issued MapFault → Result (Option Issued) Fault
passed_map (Ok i) = Ok (Some i)
passed_map (Err e) = Err (fault.Mapping e)

says_map : (x : Mapped) (r : Result Issued MapFault) (ls ls' : List PlanLine) → reply_of r ≡ reply x → ls' ≡ written x ls →
    IfOk r (λ i. Bounded (take i.lines ls')) → Replies (by_mapping x) (passed_map r) ls'
says_map (issued ps) (Ok i) ls ls' e l b =
    let n : i.lines ≡ length ps = cc in
    let k : i.tasks ≡ last_task 0 ps = cc in
    let front : take (length ps) ls' ≡ ps = ap (take (length ps)) l ∙ take_at ps (drop (length ps) ls) (length ps) refl in
    let same : take i.lines ls' ≡ ps = ap (λ (j : ℕ). take j ls') n ∙ front in
    (ap (λ (a : ℕ). Ok (Some (counts a i.lines))) k ∙ ap (λ (a : ℕ). Ok (Some (counts (last_task 0 ps) a))) n, (front, subst Bounded same b))
says_map (issued ps) (Err f) ls ls' e l b = let z : ◌≡◌ {A = ℕ} 0 1 = cc in absurd (omega arith)
says_map no_room (Ok i) ls ls' e l b = let z : ◌≡◌ {A = ℕ} 0 1 = cc in absurd (omega arith)
says_map no_room (Err f) ls ls' e l b = (fault.Mapping f, (refl, (cc)))
says_map unschedulable (Ok i) ls ls' e l b = let z : ◌≡◌ {A = ℕ} 0 1 = cc in absurd (omega arith)
says_map unschedulable (Err f) ls ls' e l b = (fault.Mapping f, (refl, (cc)))

-- what the pile of a workspace means, with an analysis named
abbrev pub meaning_in : Workspace → Choice → Meaning
meaning_in w c =
    with_pairs (pairs_of w.pile.pairs) (with_margin w.pile.below.percent.value (charged w.pile.below.below.ticks.value (chosen c)))

same_meaning : (w : Workspace) (s : State) (c : Choice) → Matches w s → meaning_in w c ≡ meaning_of (pile_of s c)
same_meaning w s c m =
    ap (λ (ps : List Pair). with_pairs ps (with_margin w.pile.below.percent.value (charged w.pile.below.below.ticks.value (chosen c)))) m.pairs
    ∙ ap (λ (n : ℕ). with_pairs s.pairs (with_margin n (charged w.pile.below.below.ticks.value (chosen c)))) m.margin
    ∙ ap (λ (n : ℕ). with_pairs s.pairs (with_margin s.margin (charged n (chosen c)))) m.charge

module _ (w w' : Workspace) (c : Choice) (rule : Rule) (r : Result Issued MapFault) (ls ls' : List PlanLine) where
  abbrev answer : Mapped
  answer = map_answer (meaning_in w c) rule (length ls) (rows_of w.sheet)

  same_answer : length ls ≡ 128 → (s : State) → Matches w s → answer ≡ mapped s c rule
  same_answer n s m =
      ap (λ (v : Meaning). map_answer v rule (length ls) (rows_of w.sheet)) (same_meaning w s c m)
      ∙ ap (λ (k : ℕ). map_answer (meaning_of (pile_of s c)) rule k (rows_of w.sheet)) n
      ∙ ap (λ (t : List Row). map_answer (meaning_of (pile_of s c)) rule 128 t) m.rows

  pub map_obeys :
      length ls ≡ 128 → reply_of r ≡ reply answer → ls' ≡ written answer ls → IfOk r (λ i. Bounded (take i.lines ls')) →
      rows_of w'.sheet ≡ rows_of w.sheet → pairs_of w'.pile.pairs ≡ pairs_of w.pile.pairs →
      w'.pile.below.below.ticks.value ≡ w.pile.below.below.ticks.value → w'.pile.below.percent.value ≡ w.pile.below.percent.value →
      Obeys w (says.mapping c rule) w' (passed_map r) ls'
  map_obeys n e l b rows pairs charge margin =
      record {
        after = λ s m.
            record {
              rows = rows ∙ m.rows ∙ sym (table_push s.course (mapping (meaning_of (pile_of s c)) rule 128 (mapped s c rule)));
              pairs = pairs ∙ m.pairs;
              charge = charge ∙ m.charge;
              margin = margin ∙ m.margin;
            };
        reply = λ s m.
            let a = same_answer n s m in
            says_map (mapped s c rule) r ls ls' (e ∙ ap reply a) (l ∙ ap (λ (x : Mapped). written x ls) a) b;
      }
