-- What an entry is answered with, from what was tested. Assumes nothing.
use Rattle.std.proofs.Common.{◌≡◌, ℕ, ◌<◌, ◌≤◌, Bool, true, false, cond, ◌&&◌, ltb, leb, None, Option}
use Rattle.mapping.specs.Faults.{Outcome, accepted, refused, unless_wrong}
use Rattle.std.proofs.lemmas.Bool.{le-leb, lt-ltb, le-ltb}

abbrev chosen : Option ℕ → Bool → ℕ → Outcome
chosen w has n = unless_wrong w (cond has (refused 4 1) (cond (ltb n 128) accepted (refused 5 0)))

pub standing : (w : Option ℕ) (has : Bool) (n : ℕ) → w ≡ None → has ≡ true → refused 4 1 ≡ chosen w has n
standing w has n e h = rw (e, h)

pub full : (w : Option ℕ) (has : Bool) (n : ℕ) → w ≡ None → has ≡ false → 128 ≤ n → refused 5 0 ≡ chosen w has n
full w has n e h l = rw (e, h, le-ltb n 128 l)

pub taken : (w : Option ℕ) (has : Bool) (n : ℕ) → w ≡ None → has ≡ false → n < 128 → accepted ≡ chosen w has n
taken w has n e h l = rw (e, h, lt-ltb n 128 l)

abbrev chosen_strike : ℕ → Bool → Outcome
chosen_strike n has = cond (leb 1 n && leb n 65535) (cond has accepted (refused 6 1)) (refused 3 1)

pub strike_missing : (n : ℕ) (has : Bool) → 1 ≤ n → n ≤ 65535 → has ≡ false → refused 6 1 ≡ chosen_strike n has
strike_missing n has l h e = rw (le-leb 1 n l, le-leb n 65535 h, e)

pub strike_taken : (n : ℕ) (has : Bool) → 1 ≤ n → n ≤ 65535 → has ≡ true → accepted ≡ chosen_strike n has
strike_taken n has l h e = rw (le-leb 1 n l, le-leb n 65535 h, e)
