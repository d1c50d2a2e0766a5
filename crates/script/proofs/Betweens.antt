-- Between a plan and a later code 12 under alike piles, a row line was accepted. Assumes nothing.
use Rattle.std.proofs.Common.{◌≡◌, ℕ, zero, suc, ◌+◌, ◌-◌, ◌<◌, ◌≤◌, Bool, true, List, [], ◌∷◌, ◌++◌, take, drop, Some, None, Option, sym, refl, ap, ◌∙◌, subst, add-zero, arith}
use Rattle.std.proofs.lemmas.List.{append_assoc, append-nil, take-take}
use Rattle.std.proofs.Math.Seq.{take-add}
use Rattle.std.specs.List.{slice_get}
use Rattle.analysis.specs.declared.choice.Choice.{Choice}
use Rattle.analysis.specs.declared.row.Row.{Row}
use Rattle.layers.specs.Piles.{meaning_of}
use Rattle.layers.proofs.Piled.{alike_agree}
use Rattle.mapping.specs.Courses.{Event, Mapped, entry, issued, mapping, no_room, strike, unschedulable}
use Rattle.mapping.specs.Faults.{Outcome, accepted, enter_outcome, refused, strike_outcome}
use Rattle.mapping.specs.declared.plan.PlanLine.{PlanLine}
use Rattle.mapping.specs.declared.plan.Rule.{Rule}
use Rattle.reading.specs.Lines.{lines_of}
use Rattle.reading.specs.Says.{Read, Said, reading_of, says}
use Rattle.reading.specs.Says as said
use Rattle.script.specs.Sessions as reply
use Rattle.script.specs.Sessions.{LineAt, Reply, RowBetween, State, accepts, after_read, by_mapping, by_sheet, mapped, pile_of, planned, read_of, reply_read, reply_to, runs, silent, standing, start, state_after}
use Rattle.script.proofs.Coursing.{script_law}
use Rattle.script.proofs.Taking.{nth_drop, runs_append}

-- ---- the calls that lines add

abbrev added_said : State → Said → List Event
added_said s (said.row r) = entry r (accepts (enter_outcome r (standing s))) ∷ []
added_said s (said.strike n) = strike n (accepts (strike_outcome n (standing s))) ∷ []
added_said s (said.pair u l) = []
added_said s (said.charge n) = []
added_said s (said.margin n) = []
added_said s (said.mapping c rule) = mapping (meaning_of (pile_of s c)) rule 128 (mapped s c rule) ∷ []

abbrev added_read : State → Read → List Event
added_read s (says x) = added_said s x
added_read s (said.refused code field) = []

abbrev added : State → List (List ℕ) → List Event
added s [] = []
added s (l ∷ ls) = added_read s (reading_of l) ++ added (after_read s (reading_of l)) ls

grows_said : (s : State) (x : Said) → (after_read s (says x)).course ≡ s.course ++ added_said s x
grows_said s (said.row r) = refl
grows_said s (said.strike n) = refl
grows_said s (said.pair u l) = sym (append-nil s.course)
grows_said s (said.charge n) = sym (append-nil s.course)
grows_said s (said.margin n) = sym (append-nil s.course)
grows_said s (said.mapping c rule) = refl

grows_read : (s : State) (x : Read) → (after_read s x).course ≡ s.course ++ added_read s x
grows_read s (says x) = grows_said s x
grows_read s (said.refused code field) = sym (append-nil s.course)

grows : (s : State) (ls : List (List ℕ)) → (runs s ls).course ≡ s.course ++ added s ls
grows s [] = sym (append-nil s.course)
grows s (l ∷ ls) =
    let t = after_read s (reading_of l) in
    grows t ls ∙ ap (λ (es : List Event). es ++ added t ls) (grows_read s (reading_of l)) ∙ append_assoc s.course (added_read s (reading_of l)) (added t ls)

-- ---- an accepted entry among them is a row line

-- the line at a place says the row and is accepted
record Found (s : State) (ls : List (List ℕ)) (r : Row) : Type 0 where
  place : ℕ
  line : List ℕ
  stands : slice_get ls place ≡ Some line
  reads : reading_of line ≡ says (said.row r)
  accepted_there : reply_read (runs s (take place ls)) (reading_of line) ≡ silent

later : (s : State) (l : List ℕ) (ls : List (List ℕ)) (r : Row) (x : Read) → x ≡ reading_of l → Found (after_read s x) ls r → Found s (l ∷ ls) r
later s l ls r x e f =
    let g : Found (after_read s (reading_of l)) ls r = subst (λ (z : Read). Found (after_read s z) ls r) e f in
    record { place = suc g.place; line = g.line; stands = g.stands; reads = g.reads; accepted_there = g.accepted_there }

accepted_silent : (o : Outcome) → accepts o ≡ true → by_sheet o ≡ silent
accepted_silent accepted e = refl
accepted_silent (refused code field) e = let z : ◌≡◌ {A = ℕ} 0 1 = cc in absurd (omega arith)

here : (s : State) (l : List ℕ) (ls : List (List ℕ)) (q r : Row) (b : Bool) → says (said.row q) ≡ reading_of l → b ≡ accepts (enter_outcome q (standing s)) →
    entry q b ≡ entry r true → Found s (l ∷ ls) r
here s l ls q r b e a h =
    let same : q ≡ r = cc in
    let yes : b ≡ true = cc in
    record {
      place = 0;
      line = l;
      stands = refl;
      reads = sym e ∙ ap (λ (z : Row). says (said.row z)) same;
      accepted_there = ap (reply_read s) (sym e) ∙ accepted_silent (enter_outcome q (standing s)) (sym a ∙ yes);
    }

-- a list that begins with one call, cut before an accepted entry
first : (e : Event) (es before since : List Event) (r : Row) (P : Type 0) → e ∷ es ≡ before ++ entry r true ∷ since →
    (e ≡ entry r true → P) → ((bs : List Event) → es ≡ bs ++ entry r true ∷ since → P) → P
first e es [] since r P h f g = f (cc)
first e es (b ∷ bs) since r P h f g = g bs (cc)

none_added : (before since : List Event) (r : Row) → [] ≡ before ++ entry r true ∷ since → ⊥
none_added [] since r h = let z : ◌≡◌ {A = ℕ} 0 1 = cc in omega arith
none_added (b ∷ bs) since r h = let z : ◌≡◌ {A = ℕ} 0 1 = cc in omega arith

step : (s : State) (l : List ℕ) (ls : List (List ℕ)) (r : Row) (before since : List Event) →
    ((t : State) (bs : List Event) → added t ls ≡ bs ++ entry r true ∷ since → Found t ls r) → (x : Read) → x ≡ reading_of l →
    added_read s x ++ added (after_read s x) ls ≡ before ++ entry r true ∷ since → Found s (l ∷ ls) r
step s l ls r before since rest (says (said.row q)) e h =
    first _ _ before since r (Found s (l ∷ ls) r) h (here s l ls q r _ e refl)
    (λ bs k. later s l ls r (says (said.row q)) e (rest (after_read s (says (said.row q))) bs k))
step s l ls r before since rest (says (said.strike n)) e h =
    first _ _ before since r (Found s (l ∷ ls) r) h (λ k. let z : ◌≡◌ {A = ℕ} 0 1 = cc in absurd (omega arith))
    (λ bs k. later s l ls r (says (said.strike n)) e (rest (after_read s (says (said.strike n))) bs k))
step s l ls r before since rest (says (said.pair u v)) e h =
    later s l ls r (says (said.pair u v)) e (rest (after_read s (says (said.pair u v))) before h)
step s l ls r before since rest (says (said.charge n)) e h =
    later s l ls r (says (said.charge n)) e (rest (after_read s (says (said.charge n))) before h)
step s l ls r before since rest (says (said.margin n)) e h =
    later s l ls r (says (said.margin n)) e (rest (after_read s (says (said.margin n))) before h)
step s l ls r before since rest (says (said.mapping c rule)) e h =
    first _ _ before since r (Found s (l ∷ ls) r) h (λ k. let z : ◌≡◌ {A = ℕ} 0 1 = cc in absurd (omega arith))
    (λ bs k. later s l ls r (says (said.mapping c rule)) e (rest (after_read s (says (said.mapping c rule))) bs k))
step s l ls r before since rest (said.refused code field) e h =
    later s l ls r (said.refused code field) e (rest (after_read s (said.refused code field)) before h)

entry_line : (s : State) (ls : List (List ℕ)) (r : Row) (before since : List Event) → added s ls ≡ before ++ entry r true ∷ since → Found s ls r
entry_line s [] r before since h = absurd (none_added before since r h)
entry_line s (l ∷ ls) r before since h =
    step s l ls r before since (λ t bs k. entry_line t ls r bs since k) (reading_of l) refl h

-- ---- places of lines

nth_take : (xs : List (List ℕ)) (n m : ℕ) (l : List ℕ) → slice_get (take n xs) m ≡ Some l → (m < n) × (slice_get xs m ≡ Some l)
nth_take xs zero m l e = let z : ◌≡◌ {A = ℕ} 0 1 = cc in absurd (omega arith)
nth_take [] (suc n) m l e = let z : ◌≡◌ {A = ℕ} 0 1 = cc in absurd (omega arith)
nth_take (x ∷ xs) (suc n) zero l e = (omega arith, e)
nth_take (x ∷ xs) (suc n) (suc m) l e = let r = nth_take xs n m l e in (omega arith, r.1)

nth_inside : (xs : List (List ℕ)) (a n m : ℕ) (l : List ℕ) → slice_get (take n (drop a xs)) m ≡ Some l → (m < n) × (slice_get xs (a + m) ≡ Some l)
nth_inside xs a n m l e = let r = nth_take (drop a xs) n m l e in (r.0, sym (nth_drop xs a m) ∙ r.1)

-- the line that was read, where one was
line_of : (o : Option (List ℕ)) (x : Read) → read_of o ≡ Some x → (l : List ℕ) × ((o ≡ Some l) × (reading_of l ≡ x))
line_of None x e = let z : ◌≡◌ {A = ℕ} 0 1 = cc in absurd (omega arith)
line_of (Some l) x e = (l, (refl, (cc)))

is_issued : (m : Mapped) (ls : List PlanLine) → by_mapping m ≡ planned ls → m ≡ issued ls
is_issued (issued ps) ls e = (cc)
is_issued no_room ls e = let z : ◌≡◌ {A = ℕ} 0 1 = cc in absurd (omega arith)
is_issued unschedulable ls e = let z : ◌≡◌ {A = ℕ} 0 1 = cc in absurd (omega arith)

abbrev code_in : Reply → ℕ
code_in silent = 0
code_in (planned ls) = 0
code_in (reply.refused r) = r.code

is_unschedulable : (m : Mapped) → by_mapping m ≡ by_mapping unschedulable → m ≡ unschedulable
is_unschedulable (issued ps) e = let z : ◌≡◌ {A = ℕ} 0 1 = cc in absurd (omega arith)
is_unschedulable no_room e = let z : ◌≡◌ {A = ℕ} 11 12 = ap code_in e in absurd (omega arith)
is_unschedulable unschedulable e = refl

-- calls that lie between two
around : (front since last all ys : List Event) (x y : Event) → since ≡ front ++ x ∷ [] → last ≡ since ++ ys → all ≡ last ++ y ∷ [] →
    all ≡ front ++ x ∷ (ys ++ y ∷ [])
around front since last all ys x y a b c =
    c ∙ ap (λ (es : List Event). es ++ y ∷ []) (b ∙ ap (λ (es : List Event). es ++ ys) a)
    ∙ append_assoc (front ++ x ∷ []) ys (y ∷ []) ∙ append_assoc front (x ∷ []) (ys ++ y ∷ [])

-- ---- two mappings and what lies between them

module _ (script : List ℕ) where
  -- the state some lines later
  state_later : (a n : ℕ) → state_after script (a + n) ≡ runs (state_after script a) (take n (drop a (lines_of script)))
  state_later a n =
      ap (runs start) (take-add a n (lines_of script)) ∙ runs_append start (take a (lines_of script)) (take n (drop a (lines_of script)))

  state_inside : (a n m : ℕ) → m ≤ n → state_after script (a + m) ≡ runs (state_after script a) (take m (take n (drop a (lines_of script))))
  state_inside a n m h = state_later a m ∙ sym (ap (runs (state_after script a)) (take-take m n (drop a (lines_of script)) h))

  course_later : (a n k : ℕ) → k ≡ a + n →
      (state_after script k).course ≡ (state_after script a).course ++ added (state_after script a) (take n (drop a (lines_of script)))
  course_later a n k e =
      ap (λ (j : ℕ). (state_after script j).course) e ∙ ap (λ (z : State). z.course) (state_later a n)
      ∙ grows (state_after script a) (take n (drop a (lines_of script)))

  take_one : (xs : List (List ℕ)) (l : List ℕ) → slice_get xs 0 ≡ Some l → take 1 xs ≡ l ∷ []
  take_one [] l e = let z : ◌≡◌ {A = ℕ} 0 1 = cc in absurd (omega arith)
  take_one (x ∷ xs) l e = (cc)

  state_next : (k : ℕ) (l : List ℕ) → slice_get (lines_of script) k ≡ Some l → state_after script (suc k) ≡ after_read (state_after script k) (reading_of l)
  state_next k l e =
      let here : slice_get (drop k (lines_of script)) 0 ≡ Some l = nth_drop (lines_of script) k 0 ∙ ap (slice_get (lines_of script)) (add-zero k) ∙ e in
      let last : suc k ≡ k + 1 = omega arith in
      ap (state_after script) last ∙ state_later k 1 ∙ ap (runs (state_after script k)) (take_one (drop k (lines_of script)) l here)

  -- an accepted row line, from the state that it is read in
  line_at : (k : ℕ) (l : List ℕ) (r : Row) (s : State) → slice_get (lines_of script) k ≡ Some l → reading_of l ≡ says (said.row r) →
      state_after script k ≡ s → reply_read s (reading_of l) ≡ silent → LineAt script k (said.row r) silent
  line_at k l r s stands reads same reply =
      record {
        reads = ap read_of stands ∙ ap Some reads;
        replies = ap (reply_to (state_after script k)) stands ∙ ap (λ (z : State). Some (reply_read z (reading_of l))) same ∙ ap Some reply;
      }

  -- a mapping line: its answer, and the calls after it
  module _ (k : ℕ) (c : Choice) (rule : Rule) (p : Reply) (at : LineAt script k (said.mapping c rule) p) where
    abbrev line : (l : List ℕ) × ((slice_get (lines_of script) k ≡ Some l) × (reading_of l ≡ says (said.mapping c rule)))
    line = line_of (slice_get (lines_of script) k) (says (said.mapping c rule)) at.reads

    answer_is : by_mapping (mapped (state_after script k) c rule) ≡ p
    answer_is =
        let r : Some (reply_read (state_after script k) (reading_of line.0)) ≡ Some p =
        sym (ap (reply_to (state_after script k)) line.1.0) ∙ at.replies in
        let q : reply_read (state_after script k) (reading_of line.0) ≡ p = cc in
        ap (reply_read (state_after script k)) (sym line.1.1) ∙ q

    course_next : (state_after script (suc k)).course
        ≡ (state_after script k).course ++ mapping (meaning_of (pile_of (state_after script k) c)) rule 128 (mapped (state_after script k) c rule) ∷ []
    course_next =
        ap (λ (s : State). s.course) (state_next k line.0 line.1.0)
        ∙ ap (λ (x : Read). (after_read (state_after script k) x).course) line.1.1

  pub row_between : RowBetween script
  row_between i j a b rule other ls h f g alike =
      let n = j - suc i in
      let to_j : j ≡ suc i + n = omega arith in
      let rest = take n (drop (suc i) (lines_of script)) in
      let si = state_after script i in
      let sj = state_after script j in
      let s = state_after script (suc i) in
      let ys = added s rest in
      let first_is = is_issued (mapped si a rule) ls (answer_is i a rule (planned ls) f) in
      let last_is = is_unschedulable (mapped sj b other) (answer_is j b other (by_mapping unschedulable) g) in
      let e1 : s.course ≡ si.course ++ mapping (meaning_of (pile_of si a)) rule 128 (issued ls) ∷ [] =
      course_next i a rule (planned ls) f
      ∙ ap (λ (o : Mapped). si.course ++ mapping (meaning_of (pile_of si a)) rule 128 o ∷ []) first_is in
      let e3 : (state_after script (suc j)).course ≡ sj.course ++ mapping (meaning_of (pile_of sj b)) other 128 unschedulable ∷ [] =
      course_next j b other (by_mapping unschedulable) g
      ∙ ap (λ (o : Mapped). sj.course ++ mapping (meaning_of (pile_of sj b)) other 128 o ∷ []) last_is in
      let mi : Event = mapping (meaning_of (pile_of si a)) rule 128 (issued ls) in
      let mj : Event = mapping (meaning_of (pile_of sj b)) other 128 unschedulable in
      let whole = around si.course s.course sj.course (state_after script (suc j)).course ys mi mj e1 (course_later (suc i) n j to_j) e3 in
      let q = (script_law script (suc j)).law.between si.course ys [] (meaning_of (pile_of si a)) (meaning_of (pile_of sj b)) rule other 128 128 ls whole
      (λ t m k _. alike_agree (pile_of si a) (pile_of sj b) alike t m k) in
      let w = entry_line s rest q.0 q.1.before q.1.since q.1.course in
      let inside = nth_inside (lines_of script) (suc i) n w.place w.line w.stands in
      let k = suc i + w.place in
      let same = state_inside (suc i) n w.place (omega arith) in
      (k, (omega arith, (omega arith, (q.0, line_at k w.line q.0 (runs s (take w.place rest)) inside.1 w.reads same w.accepted_there))))
