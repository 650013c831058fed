use Rattle.std.proofs.Common.{arith}
use Rattle.std.proofs.lemmas.Grind.{common_steps}
use Rattle.md_render.proofs.place.add_full_name.Goals as goal

pub returns-in_err-add : goal.returns-in_err-add
returns-in_err-add c = grind (arith, common_steps)

pub returns-in_err-add-2 : goal.returns-in_err-add-2
returns-in_err-add-2 c = grind (arith, common_steps)

pub returns-in_err-add-3 : goal.returns-in_err-add-3
returns-in_err-add-3 c = grind (arith, common_steps)
