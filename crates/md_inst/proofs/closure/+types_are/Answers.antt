use Rattle.std.proofs.Common.{refl, arith, List}
use Rattle.std.proofs.lemmas.Grind.{common_steps}
use Rattle.md_hlds.specs.declared.types.Ty.{Ty}
use Rattle.md_hlds.specs.declared.types.Mode.{Mode}
use Rattle.md_hlds.specs.Hlds.{hlds_types_of, args_of, gathered_types}
use Rattle.md_inst.specs.HldsTypes.{same_sorts}
use Rattle.md_inst.specs.Simple.{types_of}
use Rattle.md_inst.proofs.Lists.{only_second}
use Rattle.md_inst.proofs.closure.+types_are.Goals as goal

pub returns-in-len1-up-args : goal.returns-in-len1-up-args
returns-in-len1-up-args t c = only_second (λ (a : List Ty) (b : List (Ty × Mode)). same_sorts (gathered_types (hlds_types_of a)) (gathered_types (types_of (args_of b)))) (λ y ys. refl) c.args.types.now c.args.args.now (omega arith) (omega arith)

pub returns-in-empty-args : goal.returns-in-empty-args
returns-in-empty-args t c = grind (arith, common_steps)

pub returns-in-empty-args-2 : goal.returns-in-empty-args-2
returns-in-empty-args-2 t c = grind (arith, common_steps)

pub returns-then-same_plain : goal.returns-then-same_plain
returns-then-same_plain t c = grind (arith, common_steps)

pub returns-else-same_plain : goal.returns-else-same_plain
returns-else-same_plain t c = grind (arith, common_steps)
