use Rattle.std.proofs.Common.{◌∙◌, ◌<◌, arith, length}
use Rattle.md_code.proofs.SurveyLemmas.{if-ok-map}
use Rattle.md_code.proofs.BlockLemmas.{begin-there}
use Rattle.md_code.proofs.block.parts_begin.Goals as goal

pub returns : goal.returns
returns c =
    let some : 0 < length c.args.goals.now = grind (arith, c.is_empty.ensures, c.if-is_empty.false) in
    if-ok-map c.head_at.result (λ address is. is ∙ begin-there c.args.number c.args.next c.args.goals.now some) c.head_at.ensures
