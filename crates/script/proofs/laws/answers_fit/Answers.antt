use Rattle.script.proofs.Fits.{refusal_fits, plan_fits}
use Rattle.script.proofs.laws.answers_fit.Goals as goal

pub returns : goal.returns
returns c = record { refusals = refusal_fits; plans = plan_fits }
