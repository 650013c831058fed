use Rattle.law_safety.proofs.TurnsFit.{turns_fit}
use Rattle.law_safety.proofs.RunTurns.{run_fits}
use Rattle.law_safety.proofs.runs.turns_fit.Goals as goal

pub returns : goal.returns
returns c = record { of_a_run = run_fits; of_a_trace = turns_fit }
