use Rattle.law_safety.proofs.Declared.{answers_as_declared}
use Rattle.law_safety.proofs.laws.answers_as_declared.Goals as goal

pub returns : goal.returns
returns c = answers_as_declared
