use Rattle.std.proofs.Common.{◌<◌, arith, length}
use Rattle.md_code.proofs.LayoutLemmas.{trial-before}
use Rattle.md_code.proofs.layout.arm_trial.Goals as goal

pub returns : goal.returns
returns c =
    let some : 0 < length c.args.others.now = grind (arith, c.is_empty.ensures, c.if-is_empty.false) in
    trial-before c.args.number c.in_ok-other.other c.args.others.now c.in_ok-other.ensures some
