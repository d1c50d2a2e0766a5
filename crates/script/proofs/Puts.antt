-- One text put after another. Assumes nothing.
use Rattle.std.proofs.Common.{◌≡◌, ℕ, ◌+◌, ◌-◌, ◌/◌, ◌%◌, ◌^◌, ◌<◌, ◌≤◌, List, [], ◌∷◌, ◌++◌, length, get_or, take, drop, decimal, sym, refl, ap, ◌∙◌, subst, append_assoc, add-zero, arith, length-append, length-drop}
use borrow.Rule.Slice.PartMut.{put_mid}
use Rattle.mapping.specs.declared.plan.PlanLine.{PlanLine}
use Rattle.std.proofs.lemmas.Fmt.{decimal_step}
use Rattle.std.proofs.lemmas.List.{flat_map_more, take_more, take-append-drop, drop-drop, take_at, drop_at, length-take-le}
use Rattle.std.specs.List.{flat_map}
use Rattle.script.specs.Answers.{line_text, Puts, Writes}

pub put_mid_is : (room t ys : List ℕ) (p : ℕ) → ys ≡ t → put_mid p (p + length t - p) room ys ≡ take p room ++ (t ++ drop (p + length t) room)
put_mid_is room t ys p e =
    let back : p + (p + length t - p) ≡ p + length t = omega arith in
    let rest : drop (p + length t - p) (drop p room) ≡ drop (p + length t) room = drop-drop (p + length t - p) p room ∙ ap (λ k. drop k room) back in
    (λ i. take p room ++ (e i ++ rest i))

pub decimal_longer : (n : ℕ) → 10 ≤ n → n < 2 ^ 64 → length (decimal n) ≡ length (decimal (n / 10)) + 1
decimal_longer n h k = ap length (decimal_step n h k) ∙ length-append (decimal (n / 10)) ((48 + n % 10) ∷ [])

-- after the text t, which fits, was put at the place p
module _ (room t : List ℕ) (p n : ℕ) (one : List ℕ) (fits : p + length t ≤ length room) (h : Puts room p t n one) where
  front : List ℕ
  front = take p room ++ t

  front_length : length front ≡ n
  unfolding front
  front_length =
      let low : p ≤ length room = omega arith in
      length-append (take p room) t ∙ omega (arith, length-take-le p room low, h.0)

  split : one ≡ front ++ drop n room
  unfolding front
  split = h.1 ∙ sym (append_assoc (take p room) t (drop n room))

  pub kept_length : length one ≡ length room
  kept_length = ap length split ∙ length-append front (drop n room) ∙ omega (arith, front_length, length-drop n room, h.0)

  pub puts_then : (u : List ℕ) (m : ℕ) (two : List ℕ) → Puts one n u m two → Puts room p (t ++ u) m two
  unfolding front
  puts_then u m two k =
      let begin : take n one ≡ take p room ++ t = ap (take n) split ∙ take_at front (drop n room) n front_length in
      let end : drop m one ≡ drop m room =
      ap (λ j. drop j one) k.0 ∙ sym (drop-drop (length u) n one) ∙ ap (drop (length u)) (ap (drop n) split ∙ drop_at front (drop n room) n front_length) ∙ drop-drop (length u) n room ∙ ap (λ j. drop j room) (sym k.0) in
      (omega (arith, k.0, h.0, length-append t u), k.1 ∙ (λ i. begin i ++ (u ++ end i)) ∙ append_assoc (take p room) t (u ++ drop m room) ∙ ap (λ l. take p room ++ l) (sym (append_assoc t u (drop m room))))

pub writes : (room t : List ℕ) (n : ℕ) (after : List ℕ) → Puts room 0 t n after → Writes room t n after
writes room t n after h =
    let long : n ≡ length t = omega (arith, h.0) in
    (long, h.1 ∙ ap (λ k. t ++ drop k room) long)

pub puts_none : (room : List ℕ) (p : ℕ) → Puts room p [] p room
puts_none room p = (sym (add-zero p), sym (take-append-drop p room))

joined_append : (xs ys : List PlanLine) → flat_map line_text (xs ++ ys) ≡ flat_map line_text xs ++ flat_map line_text ys
joined_append [] ys = refl
joined_append (x ∷ xs) ys = ap (λ l. line_text x ++ l) (joined_append xs ys) ∙ sym (append_assoc (line_text x) (flat_map line_text xs) (flat_map line_text ys))

lines_within : (ls : List PlanLine) (i : ℕ) → length (flat_map line_text (take i ls)) ≤ length (flat_map line_text ls)
lines_within ls i =
    let split : flat_map line_text (take i ls) ++ flat_map line_text (drop i ls) ≡ flat_map line_text ls = sym (joined_append (take i ls) (drop i ls)) ∙ ap (flat_map line_text) (take-append-drop i ls) in
    omega (arith, ap length split, length-append (flat_map line_text (take i ls)) (flat_map line_text (drop i ls)))

-- one turn of the loop of `put_lines`: the first i lines were put at the place p
module _ (ls : List PlanLine) (i : ℕ) (d : PlanLine) (more : i < length ls) (room : List ℕ) (p n : ℕ) (one : List ℕ) (fits : p + length (flat_map line_text ls) ≤ length room) (h : Puts room p (flat_map line_text (take i ls)) n one) where
  lines_more : flat_map line_text (take i ls) ++ line_text (get_or ls i d) ≡ flat_map line_text (take (i + 1) ls)
  lines_more = flat_map_more line_text [] (take i ls) (get_or ls i d) ∙ ap (flat_map line_text) (sym (take_more ls i d more))

  pub next_fits : n + length (line_text (get_or ls i d)) ≤ length room
  next_fits = omega (arith, h.0, ap length lines_more, length-append (flat_map line_text (take i ls)) (line_text (get_or ls i d)), lines_within ls (i + 1))

  pub next_put : (m : ℕ) (two : List ℕ) → Puts one n (line_text (get_or ls i d)) m two → Puts room p (flat_map line_text (take (i + 1) ls)) m two
  next_put m two k =
      subst (λ t. Puts room p t m two) lines_more (puts_then room (flat_map line_text (take i ls)) p n one (omega (arith, lines_within ls i)) h (line_text (get_or ls i d)) m two k)
