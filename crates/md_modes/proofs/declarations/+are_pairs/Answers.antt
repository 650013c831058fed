use Rattle.std.proofs.Common.{refl, arith, List}
use Rattle.std.proofs.lemmas.Grind.{common_steps}
use Rattle.md_hlds.specs.declared.types.Ty.{Ty}
use Rattle.md_hlds.specs.declared.types.Mode.{Mode}
use Rattle.md_hlds.specs.Hlds.{hlds_types_of, gathered_types}
use Rattle.md_modes.specs.Declarations.{are_pairs}
use Rattle.md_inst.proofs.Lists.{only_second}
use Rattle.md_modes.proofs.declarations.+are_pairs.Goals as goal

pub returns-in-len1-up-modes : goal.returns-in-len1-up-modes
returns-in-len1-up-modes t c = only_second (λ (a : List Ty) (b : List Mode). are_pairs (gathered_types (hlds_types_of a)) b) (λ y ys. refl) c.args.types.now c.args.modes.now (omega arith) (omega arith)

pub returns-in-empty-modes : goal.returns-in-empty-modes
returns-in-empty-modes t c = grind (arith, common_steps)

pub returns-in-empty-modes-2 : goal.returns-in-empty-modes-2
returns-in-empty-modes-2 t c = grind (arith, common_steps)

pub returns-then-is_plain_pair : goal.returns-then-is_plain_pair
returns-then-is_plain_pair t c = grind (arith, common_steps)

pub returns-else-is_plain_pair : goal.returns-else-is_plain_pair
returns-else-is_plain_pair t c = grind (arith, common_steps)
