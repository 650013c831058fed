use Rattle.law_safety.proofs.Whole.{proper}
use Rattle.law_fits.proofs.TurnReads.{named_hands, open_hands}
use Rattle.law_fits.proofs.turns.calls_hand_over.Goals as goal

pub returns-clause-named : goal.returns-clause-named
returns-clause-named c text s spells h = named_hands s (proper text s spells h)

pub returns-clause-open_call : goal.returns-clause-open_call
returns-clause-open_call c text s spells h = open_hands s (proper text s spells h)
