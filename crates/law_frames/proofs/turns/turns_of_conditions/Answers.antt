use Rattle.law_frames.proofs.Conditions.{if_goes, not_goes, some_goes}
use Rattle.law_frames.proofs.turns.turns_of_conditions.Goals as goal

pub returns-clause-if_goes : goal.returns-clause-if_goes
returns-clause-if_goes c s lv S a n l i t e w x d cs k st stands then_less else_less = if_goes s stands then_less else_less

pub returns-clause-not_goes : goal.returns-clause-not_goes
returns-clause-not_goes c s lv S a n l i w x d cs k st stands none = not_goes s stands none

pub returns-clause-some_goes : goal.returns-clause-some_goes
returns-clause-some_goes c s lv S a n l vs i w x d cs k st stands none = some_goes s stands none
