use Rattle.std.proofs.Common.{arith}
use Rattle.std.proofs.lemmas.Grind.{common_steps}
use Rattle.md_modes.proofs.main_predicate.are_main_args.Goals as goal

pub returns-in-empty : goal.returns-in-empty
returns-in-empty c = grind (arith, common_steps)

pub returns-in-empty-rest : goal.returns-in-empty-rest
returns-in-empty-rest c = grind (arith, common_steps)

pub returns-then-is_before : goal.returns-then-is_before
returns-then-is_before c = grind (arith, common_steps)

pub returns-else-is_before : goal.returns-else-is_before
returns-else-is_before c = grind (arith, common_steps)

pub returns-in-len1-up-more : goal.returns-in-len1-up-more
returns-in-len1-up-more c = grind (arith, common_steps)
