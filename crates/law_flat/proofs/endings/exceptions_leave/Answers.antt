use Rattle.law_flat.proofs.Ending.{raises_to_caller, raises_past_main}
use Rattle.law_flat.proofs.endings.exceptions_leave.Goals as goal

pub returns-clause-callers : goal.returns-clause-callers
returns-clause-callers types known s code marks b seen st F base S x y c cs at h = raises_to_caller base at h

pub returns-clause-main : goal.returns-clause-main
returns-clause-main types known s code marks b seen st F base S x cs h = raises_past_main st base h
