use Rattle.law_safety.proofs.Handing as handing
use Rattle.law_safety.proofs.Calls.{call_fits}
use Rattle.law_safety.proofs.turns.calls_fit.Goals as goal

pub returns : goal.returns
returns c = record { handed = handing.handed; begins = call_fits; returned = handing.returned }
