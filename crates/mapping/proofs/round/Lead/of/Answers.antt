-- What goes with the last candidate are the members.
use Rattle.std.proofs.Common.{ℕ, ◌-◌, length, ap, sym, ◌∙◌, arith}
use Rattle.mapping.specs.Rounds.{led}
use Rattle.mapping.specs.declared.round.Candidate.{Candidate}
use Rattle.mapping.proofs.Rounds.{last_at, members_are, shortest_above}
use Rattle.mapping.proofs.round.Lead.of.Goals as goal

pub returns : goal.returns
returns c =
    let cs = c.args.found.now in
    let last = last_at cs c.in_ok-period.field-0.now c.in_ok-period.ensures.value in
    let p = c.in_ok-period.field-0.now.row.period in
    let period = ap (λ (x : Candidate). x.row.period) last.1 in
    let low = c.requires (length cs - 1) (omega (arith, last.0)) in (
      ap (λ (d : ℕ). led (record { rule = c.args.rule; period = p; divisor = d }) cs) c.shortest_divisor-divisor.ensures ∙ sym (members_are c.args.rule cs p last.0 period),
      omega (arith, c.shortest_divisor-divisor.ensures, shortest_above p cs (omega (arith, period, low)) c.requires),
      last.0,
    )
