use Rattle.law_frames.proofs.Filling.{written_below, written_heights, written_acts, handed_elsewhere, handed_heights, handed_acts}
use Rattle.law_frames.proofs.failing.writes_keep_the_rest.Goals as goal

pub returns-clause-written : goal.returns-clause-written
returns-clause-written c = written_below

pub returns-clause-written_heights : goal.returns-clause-written_heights
returns-clause-written_heights c = written_heights

pub returns-clause-written_acts : goal.returns-clause-written_acts
returns-clause-written_acts c = written_acts

pub returns-clause-copied : goal.returns-clause-copied
returns-clause-copied c = handed_elsewhere

pub returns-clause-copied_heights : goal.returns-clause-copied_heights
returns-clause-copied_heights c = handed_heights

pub returns-clause-copied_acts : goal.returns-clause-copied_acts
returns-clause-copied_acts c = handed_acts
