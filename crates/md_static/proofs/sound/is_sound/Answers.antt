use Rattle.std.proofs.Common.{arith}
use Rattle.std.proofs.lemmas.Grind.{common_steps}
use Rattle.md_static.proofs.sound.is_sound.Goals as goal

pub returns : goal.returns
returns c = grind (arith, common_steps)

pub returns-then-not-are_few : goal.returns-then-not-are_few
returns-then-not-are_few c = grind (arith, common_steps)

pub returns-then-not-branch : goal.returns-then-not-branch
returns-then-not-branch c = grind (arith, common_steps)
