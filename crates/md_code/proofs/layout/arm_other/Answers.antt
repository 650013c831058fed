use Rattle.std.proofs.Common.{◌<◌, arith, length}
use Rattle.md_code.proofs.LayoutLemmas.{other-before}
use Rattle.md_code.proofs.layout.arm_other.Goals as goal

pub returns : goal.returns
returns c =
    let some : 0 < length c.args.others.now = grind (arith, c.is_empty.ensures, c.if-is_empty.false) in
    other-before c.args.other c.args.others.now some
