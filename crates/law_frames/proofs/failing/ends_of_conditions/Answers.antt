use Rattle.law_frames.proofs.Ends.{after_holding, after_denying, after_finding, after_joining}
use Rattle.law_frames.proofs.failing.ends_of_conditions.Goals as goal

pub returns-clause-holds : goal.returns-clause-holds
returns-clause-holds c lv S a cut n t x d cs k st stands = after_holding stands

pub returns-clause-denies : goal.returns-clause-denies
returns-clause-denies c lv S a cut n b x d cs k st stands = after_denying stands

pub returns-clause-finds : goal.returns-clause-finds
returns-clause-finds c lv S a cut n w x d cs k st stands = after_finding stands

pub returns-clause-joins : goal.returns-clause-joins
returns-clause-joins c lv S a w x d cs k st stands = after_joining stands
