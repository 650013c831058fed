use Rattle.std.proofs.Common.{arith}
use Rattle.std.proofs.lemmas.Grind.{common_steps}
use Rattle.md_reader.specs.Rules.{ho_types}
use Rattle.md_reader.proofs.argument.ho_types.Goals as goal

pub returns : goal.returns
unfolding ho_types
returns c = grind (arith, common_steps)
