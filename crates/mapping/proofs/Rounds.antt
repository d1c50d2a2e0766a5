-- The candidates of a round, one row after another. Assumes nothing.
use Rattle.std.proofs.Common.{◌≡◌, ℕ, suc, ◌+◌, ◌-◌, ◌%◌, ◌<◌, ◌≤◌, min, Bool, true, false, cond, eqb, List, [], ◌∷◌, ◌++◌, length, get_or, Some, drop, sym, refl, ap, ◌∙◌, append_assoc, add-one, arith, drop-cons}
use Rattle.analysis.specs.Questions.{Fair, Meaning, no_row, row_at}
use Rattle.analysis.specs.declared.row.Mark.{Mark}
use Rattle.analysis.specs.declared.row.Mark.TheVariants.{Above, Below}
use Rattle.analysis.specs.declared.row.Row.{Row}
use Rattle.analysis.specs.declared.row.Verdict.{Verdict}
use Rattle.analysis.specs.declared.row.Verdict.TheVariants.{OnTime, Late}
use Rattle.mapping.specs.declared.plan.Rule.{Rule}
use Rattle.mapping.specs.declared.plan.Rule.TheVariants.{Equal, Divided}
use Rattle.mapping.specs.Plans.{candidates, candidates_from, if_on_time, if_unplaced, kept, last_of, members, shortest_divisor, takes, unplaced}
use Rattle.mapping.specs.Rounds.{Asked, Usable, led, no_candidate}
use Rattle.mapping.specs.declared.round.Candidate.{Candidate}
use Rattle.mapping.proofs.Candidates.{each_candidate}
use Rattle.std.specs.List.{slice_get}
use Rattle.std.proofs.lemmas.Option.{slice_get-get_or}
use Rattle.std.proofs.ByRecursion.{All-get_or}
use Rattle.std.proofs.lemmas.Bool.{cond-false, cond-true, eq-eqb, ne_eqb}

pub candidates_more :
    (ask : ℕ → Verdict) (t : List Row) (m : List Mark) (k : ℕ) → k < length t → length m ≡ length t →
    candidates_from ask k (drop k t) (drop k m) ≡
    if_unplaced (get_or m k Above) (if_on_time k (row_at t k) (ask k)) ++ candidates_from ask (k + 1) (drop (k + 1) t) (drop (k + 1) m)
candidates_more ask t m k h e =
    let l : k < length m = omega arith in
    rw (add-one, drop-cons t k no_row, drop-cons m k Above)

-- one more is found, or none
pub found_more :
    (xs : List Candidate) (c : Candidate) (these here rest all : List Candidate) →
    c ∷ [] ≡ here → these ≡ here ++ rest → xs ++ these ≡ all → (xs ++ c ∷ []) ++ rest ≡ all
found_more xs c these here rest all h t a =
    let d = append_assoc xs (c ∷ []) rest in
    cc

pub found_none :
    (xs these here rest all : List Candidate) → [] ≡ here → these ≡ here ++ rest → xs ++ these ≡ all → xs ++ rest ≡ all
found_none xs these here rest all h t a =
    let b : [] ++ rest ≡ rest = refl in cc

-- ---- the shortest period that divides

most_step : (b : Bool) (p q r : ℕ) → r ≤ p → cond b (min q r) r ≤ p
most_step true p q r h = omega arith
most_step false p q r h = h

pub shortest_most : (p : ℕ) (cs : List Candidate) → shortest_divisor p cs ≤ p
shortest_most p [] = omega arith
shortest_most p (c ∷ cs) = most_step (eqb (p % c.row.period) 0) p c.row.period (shortest_divisor p cs) (shortest_most p cs)

pub shortest_then :
    (p : ℕ) (cs : List Candidate) (i : ℕ) → i < length cs → p % (get_or cs i no_candidate).row.period ≡ 0 →
    shortest_divisor p (drop i cs) ≡ min (get_or cs i no_candidate).row.period (shortest_divisor p (drop (i + 1) cs))
shortest_then p cs i h e = rw (add-one, drop-cons cs i no_candidate) (cond-true _ _ _ (eq-eqb (p % (get_or cs i no_candidate).row.period) 0 e))

pub shortest_else :
    (p : ℕ) (cs : List Candidate) (i : ℕ) → i < length cs → (p % (get_or cs i no_candidate).row.period ≡ 0 → ⊥) →
    shortest_divisor p (drop i cs) ≡ shortest_divisor p (drop (i + 1) cs)
shortest_else p cs i h e = rw (add-one, drop-cons cs i no_candidate) (cond-false _ _ _ (ne_eqb (p % (get_or cs i no_candidate).row.period) 0 e))

-- ---- what holds of each candidate

-- each row can be asked about
pub asked_fair : {t : List Row} {m : List Mark} {i : ℕ} → Asked t m → i < length t → Fair t m i
asked_fair a h = record { few = a.few; marked = a.marked; within = h; ranges = a.ranges }

-- those of a table of which each row can be asked about can be used
pub usable : (v : Meaning) (t : List Row) (m : List Mark) → Asked t m → Usable (length m) (candidates v t m)
usable v t m a =
    let at = each_candidate (λ c. c.at < length m) (v t m) 0 t m (λ j w l e q. omega (arith, a.marked)) in
    let above = each_candidate (λ c. 0 < c.row.period) (v t m) 0 t m (λ j w l e q. (a.ranges j l).period_least) in
    record {
      places = λ k l. All-get_or (λ c. c.at < length m) (candidates v t m) k no_candidate l at;
      periods = λ k l. All-get_or (λ c. 0 < c.row.period) (candidates v t m) k no_candidate l above;
    }

count_here :
    (x : Mark) (y : Verdict) (k : ℕ) (r : Row) (rest : List Candidate) (m : List Mark) → length rest ≤ unplaced m →
    length (if_unplaced x (if_on_time k r y) ++ rest) ≤ unplaced (x ∷ m)
count_here Above (OnTime w) k r rest m h = omega arith
count_here Above Late k r rest m h = omega arith
count_here Below y k r rest m h = h

-- there are no more candidates than unplaced rows
pub count_most : (ask : ℕ → Verdict) (k : ℕ) (t : List Row) (m : List Mark) → length (candidates_from ask k t m) ≤ unplaced m
count_most ask k [] m = omega arith
count_most ask k (r ∷ t) [] = omega arith
count_most ask k (r ∷ t) (x ∷ m) = count_here x (ask k) k r (candidates_from ask (suc k) t m) m (count_most ask (suc k) t m)

-- ---- the lead

min_above : (b : Bool) (x y : ℕ) → 0 < x → 0 < y → 0 < cond b (min x y) y
min_above true x y h l = omega arith
min_above false x y h l = l

pub shortest_above :
    (p : ℕ) (cs : List Candidate) → 0 < p → ((k : ℕ) → k < length cs → 0 < (get_or cs k no_candidate).row.period) → 0 < shortest_divisor p cs
shortest_above p [] h e = h
shortest_above p (c ∷ cs) h e =
    min_above (eqb (p % c.row.period) 0) c.row.period (shortest_divisor p cs) (e 0 (omega arith))
    (shortest_above p cs h (λ k l. e (suc k) (omega arith)))

-- the last one, where there is one
pub last_at : (cs : List Candidate) (c : Candidate) → Some c ≡ slice_get cs (length cs - 1) → (0 < length cs) × (c ≡ get_or cs (length cs - 1) no_candidate)
last_at [] c e = let z : ◌≡◌ {A = ℕ} 0 1 = cc in absurd (omega arith)
last_at (d ∷ cs) c e =
    let n = slice_get-get_or (d ∷ cs) (length (d ∷ cs) - 1) no_candidate (omega arith) in
    (omega arith, cc)

last_is : (c : Candidate) (cs : List Candidate) → last_of c cs ≡ get_or (c ∷ cs) (length cs) no_candidate
last_is c [] = refl
last_is c (d ∷ cs) = last_is d cs

led_as : (rule : Rule) (p : ℕ) (cs xs : List Candidate) → kept (takes rule p cs) xs ≡ led (record { rule = rule; period = p; divisor = shortest_divisor p cs }) xs
led_as Equal p cs xs = refl
led_as Divided p cs xs = refl

-- the members are those that go with the last candidate
pub members_are :
    (rule : Rule) (cs : List Candidate) (p : ℕ) → 0 < length cs → p ≡ (get_or cs (length cs - 1) no_candidate).row.period →
    members rule cs ≡ led (record { rule = rule; period = p; divisor = shortest_divisor p cs }) cs
members_are rule [] p h e = absurd (omega arith)
members_are rule (c ∷ cs) p h e =
    let n : suc (length cs) - 1 ≡ length cs = omega arith in
    let q : (last_of c cs).row.period ≡ p =
    ap (λ (d : Candidate). d.row.period) (last_is c cs ∙ ap (λ (k : ℕ). get_or (c ∷ cs) k no_candidate) (sym n)) ∙ sym e in
    ap (λ (k : ℕ). kept (takes rule k (c ∷ cs)) (c ∷ cs)) q ∙ led_as rule p (c ∷ cs) (c ∷ cs)
