-- The lines of a task's members.
use Rattle.std.proofs.Common.{◌≡◌, ℕ, suc, ◌<◌, ◌≤◌, true, false, eqb, ◌⊎◌, List, [], ◌∷◌, ◌++◌, length, get_or, sym, refl, ap, ◌∙◌, inl, inr, arith}
use Rattle.std.specs.List.{AllByRecursion}
use Rattle.std.proofs.ByRecursion.{All-append}
use Rattle.std.proofs.lemmas.Bool.{cases_eq, cond-false, cond-true, eq-eqb, eqb-true, eqb-false, ne_eqb, or_cases, or_parts}
use Rattle.analysis.specs.Questions.{Meaning, row_at}
use Rattle.analysis.specs.declared.row.Mark.{Mark}
use Rattle.analysis.specs.declared.row.Mark.TheVariants.{Above, Below}
use Rattle.analysis.specs.declared.row.Row.{Row}
use Rattle.analysis.specs.declared.row.Verdict.TheVariants.{OnTime}
use Rattle.mapping.specs.Lines.{line_of}
use Rattle.mapping.specs.Plans.{has_place, lines_from}
use Rattle.mapping.specs.declared.round.Candidate.{Candidate}
use Rattle.mapping.specs.declared.plan.PlanLine.{PlanLine}
use Rattle.mapping.proofs.Candidates.{Good, Rising}
use Rattle.mapping.proofs.Lines.{Free, Names, Unique}
use Rattle.mapping.proofs.Tables.{Apart, same_place}

-- ---- the candidate of a number

abbrev pub First : List Candidate → ℕ → Type 0
First [] n = ⊥
First (c ∷ cs) n = (c.row.number ≡ n) ⊎ ((c.row.number ≡ n → ⊥) × First cs n)

abbrev pub Missing : List Candidate → ℕ → Type 0
Missing cs n = AllByRecursion (λ c. c.row.number ≡ n → ⊥) cs

module _ (task : ℕ) (ls : List PlanLine) where
  abbrev line : ℕ → List Candidate → ℕ → PlanLine
  line p cs n = line_of (lines_from task p cs ++ ls) n

  line_here : (p : ℕ) (c : Candidate) (cs : List Candidate) (n : ℕ) → c.row.number ≡ n →
      line p (c ∷ cs) n ≡ record { task = task; place = p; number = c.row.number; response = c.response }
  line_here p c cs n e = cond-true (eqb c.row.number n) _ (line (suc p) cs n) (eq-eqb c.row.number n e)

  line_later : (p : ℕ) (c : Candidate) (cs : List Candidate) (n : ℕ) → (c.row.number ≡ n → ⊥) → line p (c ∷ cs) n ≡ line (suc p) cs n
  line_later p c cs n e = cond-false (eqb c.row.number n) _ (line (suc p) cs n) (ne_eqb c.row.number n e)

  pub missing_line : (p : ℕ) (cs : List Candidate) (n : ℕ) → Missing cs n → line p cs n ≡ line_of ls n
  missing_line p [] n h = refl
  missing_line p (c ∷ cs) n h = line_later p c cs n h.0 ∙ missing_line (suc p) cs n h.1

  pub first_names : (p : ℕ) (cs : List Candidate) (n : ℕ) → First cs n → Names (lines_from task p cs ++ ls) n
  first_names p [] n h = absurd h
  first_names p (c ∷ cs) n (inl e) = inl e
  first_names p (c ∷ cs) n (inr h) = inr (first_names (suc p) cs n h.1)

  pub first_task : (p : ℕ) (cs : List Candidate) (n : ℕ) → First cs n → (line p cs n).task ≡ task
  first_task p [] n h = absurd h
  first_task p (c ∷ cs) n (inl e) = ap (λ (l : PlanLine). l.task) (line_here p c cs n e)
  first_task p (c ∷ cs) n (inr h) = ap (λ (l : PlanLine). l.task) (line_later p c cs n h.0) ∙ first_task (suc p) cs n h.1

  first_place : (p : ℕ) (cs : List Candidate) (n : ℕ) → First cs n → p ≤ (line p cs n).place
  first_place p [] n h = absurd h
  first_place p (c ∷ cs) n (inl e) =
      let q : (line p (c ∷ cs) n).place ≡ p = ap (λ (l : PlanLine). l.place) (line_here p c cs n e) in omega arith
  first_place p (c ∷ cs) n (inr h) =
      let q : (line p (c ∷ cs) n).place ≡ (line (suc p) cs n).place = ap (λ (l : PlanLine). l.place) (line_later p c cs n h.0) in
      omega (arith, first_place (suc p) cs n h.1)

-- ---- members of a table with numbers of their own

module _ (v : Meaning) (t : List Row) (m : List Mark) (a : Apart t) where
  -- the member of a row's number is that row's
  pub member_place : (c : Candidate) (k : ℕ) → Good v t m c → k < length t → c.row.number ≡ (row_at t k).number → c.at ≡ k
  member_place c k g l e = same_place t c.at k a g.within l (ap (λ (r : Row). r.number) g.is ∙ e)

  member_number : (c : Candidate) (k : ℕ) → Good v t m c → c.at ≡ k → c.row.number ≡ (row_at t k).number
  member_number c k g e = ap (λ (r : Row). r.number) (sym g.is) ∙ ap (λ n. (row_at t n).number) e

  pub first_member :
      (cs : List Candidate) (k : ℕ) → AllByRecursion (Good v t m) cs → k < length t → has_place k cs ≡ true → First cs (row_at t k).number
  first_member [] k g l h = let z : ◌≡◌ {A = ℕ} 0 1 = cc in omega arith
  first_member (c ∷ cs) k g l h =
      elim (cases_eq c.row.number (row_at t k).number) [
        | inl e ↦ inl e
        | inr e ↦
            elim (or_cases (eqb c.at k) (has_place k cs) h) [
              | inl q ↦ absurd (e (member_number c k g.0 (eqb-true c.at k q)))
              | inr q ↦ inr (e, first_member cs k g.1 l q)
            ]
      ]

  pub missing_member :
      (cs : List Candidate) (k : ℕ) → AllByRecursion (Good v t m) cs → k < length t → has_place k cs ≡ false → Missing cs (row_at t k).number
  missing_member [] k g l h = tt
  missing_member (c ∷ cs) k g l h =
      let p : (eqb c.at k ≡ false) × (has_place k cs ≡ false) = or_parts (eqb c.at k) (has_place k cs) h in
      (λ e. eqb-false c.at k p.0 (member_place c k g.0 l e), missing_member cs k g.1 l p.1)

  -- the members come after a place that each of them is past
  first_past :
      (b : ℕ) (cs : List Candidate) (k : ℕ) → AllByRecursion (Good v t m) cs → k < length t → AllByRecursion (λ d. b < d.at) cs → First cs (row_at t k).number → b < k
  first_past b [] k g l r h = absurd h
  first_past b (c ∷ cs) k g l r (inl e) = let q : c.at ≡ k = member_place c k g.0 l e in omega (arith, r.0)
  first_past b (c ∷ cs) k g l r (inr h) = first_past b cs k g.1 l r.1 h.1

  -- the members' places follow sheet order
  pub first_order :
      (task : ℕ) (ls : List PlanLine) (p : ℕ) (cs : List Candidate) (i j : ℕ) → AllByRecursion (Good v t m) cs → Rising cs → i < j → j < length t →
      First cs (row_at t i).number → First cs (row_at t j).number →
      (line_of (lines_from task p cs ++ ls) (row_at t i).number).place < (line_of (lines_from task p cs ++ ls) (row_at t j).number).place
  first_order task ls p [] i j g r l jl h k = absurd h
  first_order task ls p (c ∷ cs) i j g r l jl (inl x) (inl y) =
      absurd (omega (arith, member_place c i g.0 (omega arith) x, member_place c j g.0 jl y))
  first_order task ls p (c ∷ cs) i j g r l jl (inl x) (inr k) =
      let a : ℕ = (row_at t i).number in
      let b : ℕ = (row_at t j).number in
      let q : (line task ls p (c ∷ cs) a).place ≡ p = ap (λ (x : PlanLine). x.place) (line_here task ls p c cs a x) in
      let s : (line task ls p (c ∷ cs) b).place ≡ (line task ls (suc p) cs b).place = ap (λ (x : PlanLine). x.place) (line_later task ls p c cs b k.0) in
      omega (arith, first_place task ls (suc p) cs b k.1)
  first_order task ls p (c ∷ cs) i j g r l jl (inr h) (inl y) =
      absurd (omega (arith, member_place c j g.0 jl y, first_past c.at cs i g.1 (omega arith) r.0 h.1))
  first_order task ls p (c ∷ cs) i j g r l jl (inr h) (inr k) =
      let a : ℕ = (row_at t i).number in
      let b : ℕ = (row_at t j).number in
      let q : (line task ls p (c ∷ cs) a).place ≡ (line task ls (suc p) cs a).place = ap (λ (x : PlanLine). x.place) (line_later task ls p c cs a h.0) in
      let s : (line task ls p (c ∷ cs) b).place ≡ (line task ls (suc p) cs b).place = ap (λ (x : PlanLine). x.place) (line_later task ls p c cs b k.0) in
      omega (arith, first_order task ls (suc p) cs i j g.1 r.1 l jl h.1 k.1)

  pub first_response :
      (task : ℕ) (ls : List PlanLine) (p : ℕ) (cs : List Candidate) (k : ℕ) → AllByRecursion (Good v t m) cs → k < length t →
      First cs (row_at t k).number → v t m k ≡ OnTime (line_of (lines_from task p cs ++ ls) (row_at t k).number).response
  first_response task ls p [] k g l h = absurd h
  first_response task ls p (c ∷ cs) k g l (inl e) =
      ap (v t m) (sym (member_place c k g.0 l e)) ∙ g.0.verdict ∙
      ap (λ (x : PlanLine). OnTime x.response) (sym (line_here task ls p c cs (row_at t k).number e))
  first_response task ls p (c ∷ cs) k g l (inr h) =
      first_response task ls (suc p) cs k g.1 l h.1 ∙
      ap (λ (x : PlanLine). OnTime x.response) (sym (line_later task ls p c cs (row_at t k).number h.0))

  -- the members' lines name rows that were unplaced
  pub lines_only :
      (task p : ℕ) (cs : List Candidate) → AllByRecursion (Good v t m) cs →
      AllByRecursion (λ l. (k : ℕ) × ((k < length t) × ((get_or m k Below ≡ Above) × ((row_at t k).number ≡ l.number)))) (lines_from task p cs)
  lines_only task p [] g = tt
  lines_only task p (c ∷ cs) g =
      ((c.at, (g.0.within, (g.0.free, ap (λ (r : Row). r.number) g.0.is))), lines_only task (suc p) cs g.1)

  later_free :
      (task p : ℕ) (c : Candidate) (cs : List Candidate) → Good v t m c → AllByRecursion (Good v t m) cs → AllByRecursion (λ d. c.at < d.at) cs →
      Free c.row.number (lines_from task p cs)
  later_free task p c [] h g r = tt
  later_free task p c (d ∷ cs) h g r = (
    λ e.
        let q : d.at ≡ c.at = member_place d c.at g.0 h.within (e ∙ sym (ap (λ (x : Row). x.number) h.is)) in
        omega (arith, r.0),
    later_free task (suc p) c cs h g.1 r.1,
  )

  pub unique_lines :
      (task p : ℕ) (cs : List Candidate) (ls : List PlanLine) → AllByRecursion (Good v t m) cs → Rising cs → Unique ls →
      AllByRecursion (λ c. Free c.row.number ls) cs → Unique (lines_from task p cs ++ ls)
  unique_lines task p [] ls g r u f = u
  unique_lines task p (c ∷ cs) ls g r u f = (
    All-append (λ l. l.number ≡ c.row.number → ⊥) (lines_from task (suc p) cs) ls
        (later_free task (suc p) c cs g.0 g.1 r.0)
        f.0,
    unique_lines task (suc p) cs ls g.1 r.1 u f.1,
  )
