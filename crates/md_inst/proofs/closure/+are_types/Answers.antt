use Rattle.std.proofs.Common.{refl, arith, List}
use Rattle.std.proofs.lemmas.Grind.{common_steps}
use Rattle.md_hlds.specs.declared.types.Ty.{Ty}
use Rattle.md_hlds.specs.declared.types.Mode.{Mode}
use Rattle.md_hlds.specs.Hlds.{hlds_types_of, args_of, gathered_types}
use Rattle.md_inst.specs.HldsTypes.{same_sorts}
use Rattle.md_inst.specs.Simple.{types_of}
use Rattle.md_inst.proofs.Lists.{only_second}
use Rattle.md_inst.proofs.closure.+are_types.Goals as goal

pub returns-in-len1-up-types : goal.returns-in-len1-up-types
returns-in-len1-up-types t c = only_second (λ (a : List (Ty × Mode)) (b : List Ty). same_sorts (gathered_types (types_of (args_of a))) (gathered_types (hlds_types_of b))) (λ y ys. refl) c.args.args.now c.args.types.now (omega arith) (omega arith)

pub returns-in-empty-types : goal.returns-in-empty-types
returns-in-empty-types t c = grind (arith, common_steps)

pub returns-in-empty-types-2 : goal.returns-in-empty-types-2
returns-in-empty-types-2 t c = grind (arith, common_steps)

pub returns-then-same_plain : goal.returns-then-same_plain
returns-then-same_plain t c = grind (arith, common_steps)

pub returns-else-same_plain : goal.returns-else-same_plain
returns-else-same_plain t c = grind (arith, common_steps)
