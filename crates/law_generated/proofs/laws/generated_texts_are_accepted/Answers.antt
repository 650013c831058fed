use Rattle.law_generated.proofs.Read.{each_read, each_spelled}
use Rattle.law_generated.proofs.Checked.{each_moded, each_as_declared}
use Rattle.law_generated.proofs.laws.generated_texts_are_accepted.Goals as goal

pub returns-clause-spelled : goal.returns-clause-spelled
returns-clause-spelled c = each_spelled

pub returns-clause-read : goal.returns-clause-read
returns-clause-read c = each_read

pub returns-clause-modes : goal.returns-clause-modes
returns-clause-modes c = each_moded

pub returns-clause-determinism : goal.returns-clause-determinism
returns-clause-determinism c = each_as_declared
