use Rattle.law_generated.proofs.Contexts.{main_is_first}
use Rattle.law_generated.proofs.runs.main_is_first.Goals as goal

pub returns : goal.returns
returns c = main_is_first
