use Rattle.std.proofs.Common.{◌/◌, length, decimal, sym, ap, subst, arith}
use Rattle.std.proofs.lemmas.Fmt.{decimal_digit, decimal_step}
use Rattle.script.specs.Answers.{Puts}
use Rattle.script.proofs.Puts.{decimal_longer, puts_then}
use Rattle.script.proofs.answer.+put_number.Goals as goal

pub put-requires : goal.put-requires
put-requires t c = omega (arith, ap length (decimal_digit c.args.n (omega arith)))

pub returns-then-n-lt10 : goal.returns-then-n-lt10
returns-then-n-lt10 t c =
    subst (λ l. Puts c.args.room.now c.args.place l c.put.result c.put.new.room) (sym (decimal_digit c.args.n (omega arith))) c.put.ensures

pub put_number-last-requires : goal.put_number-last-requires
put_number-last-requires t c = (omega arith, omega (arith, decimal_longer c.args.n (omega arith) (omega arith)))

pub put-requires-2 : goal.put-requires-2
put-requires-2 t c = omega (arith, decimal_longer c.args.n (omega arith) (omega arith))

pub returns : goal.returns
returns t c =
    subst (λ l. Puts c.args.room.now c.args.place l c.put-2.result c.put-2.new.room) (sym (decimal_step c.args.n (omega arith) (omega arith)))
    (puts_then c.args.room.now (decimal (c.args.n / 10)) c.args.place c.put_number-last.result c.put_number-last.new.room (omega (arith, decimal_longer c.args.n (omega arith) (omega arith))) c.put_number-last.ensures _ _ _ c.put-2.ensures)
