use Rattle.law_safety.proofs.Whole.{proper}
use Rattle.law_fits.proofs.StateSteps.{fits_begins, fits_returns, fits_retries, fits_unwinds}
use Rattle.law_fits.proofs.StateTurns.{turn_fits}
use Rattle.law_fits.proofs.states.modes_hold_at_each_state.Goals as goal

pub returns-clause-begins : goal.returns-clause-begins
returns-clause-begins c = fits_begins

pub returns-clause-returns : goal.returns-clause-returns
returns-clause-returns c = fits_returns

pub returns-clause-retries : goal.returns-clause-retries
returns-clause-retries c = fits_retries

pub returns-clause-unwinds : goal.returns-clause-unwinds
returns-clause-unwinds c s js ws k h = fits_unwinds s js ws k

pub returns-clause-turns : goal.returns-clause-turns
returns-clause-turns c text s spells h f js ws k g goals is fits = turn_fits s (proper text s spells h) f js ws k g goals is fits
