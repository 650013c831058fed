use Rattle.law_frames.proofs.FailureLemmas.{after_missing, at_port}
use Rattle.law_frames.proofs.failing.failures.Goals as goal

pub returns-clause-pops : goal.returns-clause-pops
returns-clause-pops c lv S x d ch cs k st stands = after_missing stands

pub returns-clause-none_left : goal.returns-clause-none_left
returns-clause-none_left c lv S x d k st stands = after_missing stands

pub returns-clause-otherwise : goal.returns-clause-otherwise
returns-clause-otherwise c lv S w x d cs k st stands = after_missing stands

pub returns-clause-fails : goal.returns-clause-fails
returns-clause-fails c lv S x y d cs k st stands = after_missing stands

pub returns-clause-main_fails : goal.returns-clause-main_fails
returns-clause-main_fails c lv S x cs k st stands = (after_missing stands).stops

pub returns-clause-tries : goal.returns-clause-tries
returns-clause-tries c lv S p ps a w x d cs k st stands = after_missing stands

pub returns-clause-redoes : goal.returns-clause-redoes
returns-clause-redoes c lv S a x d cs k st stands = after_missing stands

pub returns-clause-at_port : goal.returns-clause-at_port
returns-clause-at_port c lv S x d cs k st stands = at_port stands
