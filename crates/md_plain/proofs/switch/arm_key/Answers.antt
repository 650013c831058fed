use Rattle.std.proofs.Common.{◌∙◌, ap}
use Rattle.md_hlds.specs.HldsGoal.{At}
use Rattle.md_hlds.specs.Hlds.{hlds_of}
use Rattle.md_hlds.specs.Switch.{arm_key}
use Rattle.md_plain.proofs.GoalLemmas.{conj_of}
use Rattle.md_plain.proofs.switch.arm_key.Goals as goal

pub returns-in-Conj : goal.returns-in-Conj
returns-in-Conj c =
    c.first_key.ensures c.args.arm.now.line
    ∙ ap (λ t. arm_key (hlds_of c.args.program.now) (At c.args.arm.now.line t)) (conj_of c.args.arm.now.kind c.in-Conj.parts c.as_slice.result.now c.in-Conj.is c.as_slice.ensures.value)
