use Rattle.law_frames.proofs.Exits.{after_exiting, after_yielding, main_exits, main_yields, main_halts}
use Rattle.law_frames.proofs.failing.ends_of_bodies.Goals as goal

pub returns-clause-exits : goal.returns-clause-exits
returns-clause-exits c lv S a cut x y d cs k st stands = after_exiting stands

pub returns-clause-yields : goal.returns-clause-yields
returns-clause-yields c lv S a x y d cs k st stands = after_yielding stands

pub returns-clause-main_exits : goal.returns-clause-main_exits
returns-clause-main_exits c lv S a cut x cs k st stands = main_exits stands

pub returns-clause-main_yields : goal.returns-clause-main_yields
returns-clause-main_yields c lv S a x cs k st stands = main_yields stands

pub returns-clause-main_halts : goal.returns-clause-main_halts
returns-clause-main_halts c lv S a x d cs k st stands = main_halts stands
