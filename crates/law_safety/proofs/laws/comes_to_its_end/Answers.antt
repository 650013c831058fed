use Rattle.law_safety.proofs.Declared.{comes_to_its_end}
use Rattle.law_safety.proofs.laws.comes_to_its_end.Goals as goal

pub returns : goal.returns
returns c = comes_to_its_end
