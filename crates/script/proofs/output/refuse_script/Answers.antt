-- The refusal is written to the front of the room, and that front is handed out.
use Rattle.std.proofs.Common.{arith}
use Rattle.script.proofs.Fits.{refusal_fits}
use Rattle.script.proofs.output.refuse_script.Goals as goal

pub write_refusal-bytes-requires : goal.write_refusal-bytes-requires
write_refusal-bytes-requires c =
    refusal_fits 0 c.field.result c.code.result (omega arith) (omega arith) (omega arith)
