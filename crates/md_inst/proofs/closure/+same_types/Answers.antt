use Rattle.std.proofs.Common.{refl, arith, List}
use Rattle.md_hlds.specs.declared.types.Ty.{Ty}
use Rattle.md_hlds.specs.Hlds.{hlds_types_of, gathered_types}
use Rattle.md_inst.specs.HldsTypes.{same_sorts}
use Rattle.md_inst.proofs.Lists.{only_second}
use Rattle.md_inst.proofs.closure.+same_types.Goals as goal

pub returns-in-len1-up-b : goal.returns-in-len1-up-b
returns-in-len1-up-b t c = only_second (λ (a b : List Ty). same_sorts (gathered_types (hlds_types_of a)) (gathered_types (hlds_types_of b))) (λ y ys. refl) c.args.a.now c.args.b.now (omega arith) (omega arith)
