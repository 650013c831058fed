use Rattle.md_http.proofs.Chains.{four-written}
use Rattle.md_http.proofs.message.message.Goals as goal

pub returns : goal.returns
returns c =
    four-written c.new-out.result.items _ _ _ _ _ _ _ _ c.new-out.ensures.items c.in_ok-add_line.ensures c.in_ok-add.ensures c.in_ok-add_line-2.ensures c.in_ok-add_body.ensures
