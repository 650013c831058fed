use Rattle.std.proofs.Common.{◌∙◌, sym, ap, arith, slice_get}
use Rattle.std.specs.Option.{option_copied}
use Rattle.md_hlds.specs.Hlds.{hlds_of}
use Rattle.md_switch.proofs.Arms.{arm_key-Conj, no_first, from_first}
use Rattle.md_switch.proofs.key.arm_key.Goals as goal

pub returns-in-None : goal.returns-in-None
returns-in-None c =
    let p = hlds_of c.args.moded.now in
    no_first p c.args.number c.in-Conj.goals.items
    (sym (ap option_copied c.in-None.is) ∙ (c.first.ensures.value ∙ ap (λ gs. slice_get gs 0) c.as_slice.ensures.value))
    ∙ sym (arm_key-Conj p c.args.number c.args.arm.now c.in-Conj.goals c.in-Conj.is)

pub returns-in-Some : goal.returns-in-Some
returns-in-Some c =
    let p = hlds_of c.args.moded.now in
    c.goal_key.ensures
    ∙ (from_first p c.args.number _ c.in-Conj.goals.items c.in-Some.first.now (omega arith)
    (sym (ap option_copied c.in-Some.is) ∙ (c.first.ensures.value ∙ ap (λ gs. slice_get gs 0) c.as_slice.ensures.value))
    ∙ sym (arm_key-Conj p c.args.number c.args.arm.now c.in-Conj.goals c.in-Conj.is))
