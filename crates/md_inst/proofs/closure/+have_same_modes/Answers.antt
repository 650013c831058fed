use Rattle.std.proofs.Common.{refl, arith, List}
use Rattle.std.proofs.lemmas.Grind.{common_steps}
use Rattle.md_hlds.specs.declared.types.Ty.{Ty}
use Rattle.md_hlds.specs.declared.types.Mode.{Mode}
use Rattle.md_hlds.specs.Hlds.{args_of}
use Rattle.md_inst.specs.HldsTypes.{same_modes}
use Rattle.md_inst.specs.Simple.{modes_of}
use Rattle.md_inst.proofs.Lists.{only_second}
use Rattle.md_inst.proofs.closure.+have_same_modes.Goals as goal

pub returns-in-len1-up-b : goal.returns-in-len1-up-b
returns-in-len1-up-b t c = only_second (λ (a b : List (Ty × Mode)). same_modes (modes_of (args_of a)) (modes_of (args_of b))) (λ y ys. refl) c.args.a.now c.args.b.now (omega arith) (omega arith)

pub returns-in-empty-b : goal.returns-in-empty-b
returns-in-empty-b t c = grind (arith, common_steps)

pub returns-in-empty-b-2 : goal.returns-in-empty-b-2
returns-in-empty-b-2 t c = grind (arith, common_steps)

pub returns-then-same_mode : goal.returns-then-same_mode
returns-then-same_mode t c = grind (arith, common_steps)

pub returns-else-same_mode : goal.returns-else-same_mode
returns-else-same_mode t c = grind (arith, common_steps)
