-- What a sheet keeps of its rows holds of the rows that it hands out.
use Rattle.std.proofs.Common.{sym, subst}
use Rattle.mapping.specs.Courses.{Limits}
use Rattle.mapping.proofs.Entries.{sheet_limits}
use Rattle.mapping.proofs.sheet.Sheet.rows.Goals as goal

pub returns-clause-within : goal.returns-clause-within
returns-clause-within c = subst Limits (sym c.as_slice.ensures.value) (sheet_limits c.args.self.now)
