use Rattle.std.proofs.Common.{sym, subst, ◌∙◌}
use Rattle.std.proofs.lemmas.Result.{IfOk-weaker}
use Rattle.md_token.specs.Spelling.{Cut}
use Rattle.md_token.proofs.Cuts.{tokens_cut, cut_once}
use Rattle.md_token.proofs.scan.tokens.Goals as goal

pub returns-clause-cut : goal.returns-clause-cut
returns-clause-cut c = IfOk-weaker c.scanned.result _ _ (λ found h. subst (Cut 1 c.args.text.now) (sym h) (tokens_cut c.args.text.now)) c.scanned.ensures

pub returns-clause-no_other : goal.returns-clause-no_other
returns-clause-no_other c ts h = IfOk-weaker c.scanned.result _ _ (λ found e. e ∙ cut_once c.args.text.now ts h) c.scanned.ensures
