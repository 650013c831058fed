use Rattle.law_frames.proofs.FrameRule.{failing_kept, going_kept, ending_kept}
use Rattle.law_frames.proofs.failing.frame_rule.Goals as goal

pub returns-clause-failing : goal.returns-clause-failing
returns-clause-failing c lv S T V W a x d cs ws below same fails = failing_kept fails W below same

pub returns-clause-going : goal.returns-clause-going
returns-clause-going c lv S T V place back x d cs f js ws same goes = going_kept goes same

pub returns-clause-ending : goal.returns-clause-ending
returns-clause-ending c lv S T V W end x d cs pairs js ws below alike same ends = ending_kept ends W below alike same
