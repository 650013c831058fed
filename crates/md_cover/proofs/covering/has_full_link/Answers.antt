use Rattle.std.proofs.Common.{arith}
use Rattle.std.proofs.lemmas.Grind.{common_steps}
use Rattle.md_cover.proofs.covering.has_full_link.Goals as goal

pub returns-then-has_full_count-clause-few : goal.returns-then-has_full_count-clause-few
returns-then-has_full_count-clause-few c = grind (arith, common_steps)

pub returns-then-has_full_count-clause-full : goal.returns-then-has_full_count-clause-full
returns-then-has_full_count-clause-full c = grind (arith, common_steps)

pub loop-link-preserved : goal.loop-link-preserved
loop-link-preserved c = grind (arith, common_steps)

pub returns-clause-few : goal.returns-clause-few
returns-clause-few c = grind (arith, common_steps)

pub returns-clause-full : goal.returns-clause-full
returns-clause-full c = grind (arith, common_steps)
