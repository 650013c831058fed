use Rattle.std.proofs.Common.{◌∙◌, ◌<◌, arith, length}
use Rattle.md_code.proofs.SurveyLemmas.{if-ok-map}
use Rattle.md_code.proofs.BlockLemmas.{trial-there}
use Rattle.md_code.proofs.block.first_trial.Goals as goal

pub returns : goal.returns
returns c =
    let some : 0 < length c.args.arms.now = grind (arith, c.is_empty.ensures, c.if-is_empty.false) in
    if-ok-map c.try_at.result (λ address is. is ∙ trial-there c.args.number c.args.arms.now some) c.try_at.ensures
