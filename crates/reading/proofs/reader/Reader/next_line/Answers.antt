use Rattle.std.proofs.Common.{refl, ap, arith, rules}
use Rattle.reading.proofs.Cuts.{NextLine, line_found, line_missing, lines_after, spotted}
use Rattle.reading.proofs.reader.Reader.next_line.Goals as goal
use Rattle.reading.proofs.reader.Reader.next_line.Goals.{in-Some, in-None}

pub returns : goal.returns
returns c =
    let xs = c.args.self.now.script.now in
    let p = c.args.self.now.place in
    let next : NextLine xs p c.match-find.read.0.now c.match-find.read.1 =
    elim c.match-find.branch [ in-Some w ↦ rw w.read-is (line_found xs p c.if-self.false w.in-Some.n w.in-Some.ensures) | in-None w ↦ rw w.read-is (line_missing xs p c.if-self.false w.in-None.ensures) ] in
    record {
      line = lines_after xs p c.if-self.false _ _ next;
      place = ap (spotted p) next.text;
      moved = record { script = refl; rest = next.rest; further = omega arith; within = next.within };
      inside = search rules;
    }
