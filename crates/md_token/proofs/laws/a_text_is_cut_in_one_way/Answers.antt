use Rattle.md_token.proofs.Cuts.{tokens_cut, cut_once}
use Rattle.md_token.proofs.laws.a_text_is_cut_in_one_way.Goals as goal

pub returns-clause-cut : goal.returns-clause-cut
returns-clause-cut c text = tokens_cut text

pub returns-clause-no_other : goal.returns-clause-no_other
returns-clause-no_other c text ts h = cut_once text ts h
