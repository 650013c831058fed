use Rattle.law_fits.proofs.LeaveLemmas.{switch_met}
use Rattle.law_fits.proofs.choices.switches_meet_a_value.Goals as goal

pub returns : goal.returns
returns c = switch_met
