use Rattle.md_http.proofs.Chains.{three-added}
use Rattle.md_http.proofs.message.add_body.Goals as goal

pub returns : goal.returns
returns c =
    three-added _ c.args.out.now.items _ _ _ _ _ _ (rw (c.as_bytes.ensures.value, c.format.ensures.text) at c.in_ok-add_line.ensures) c.in_ok-add.ensures c.add-2.ensures
