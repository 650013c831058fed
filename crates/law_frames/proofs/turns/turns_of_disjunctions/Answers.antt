use Rattle.law_frames.proofs.Disjunctions.{disjunction_tries, switch_goes, switch_fails}
use Rattle.law_frames.proofs.turns.turns_of_disjunctions.Goals as goal

pub returns-clause-tries : goal.returns-clause-tries
returns-clause-tries c s lv S a n l ps w x d cs k st stands leaves tried = disjunction_tries s stands leaves tried

pub returns-clause-arm : goal.returns-clause-arm
returns-clause-arm c s lv S a n l ps w x d cs k st stands less shape v q is has arm = switch_goes s stands less shape v q is has arm

pub returns-clause-no_arm : goal.returns-clause-no_arm
returns-clause-no_arm c s lv S a n l ps w x d cs k st stands shape v is has arm = switch_fails s stands shape v is has arm
