use Rattle.md_render.proofs.Chains.{five-added}
use Rattle.md_render.proofs.foot.add_end.Goals as goal

pub returns : goal.returns
returns c = five-added _ c.args.out.now.items _ _ _ _ _ _ _ _ _ _ c.in_ok-add.ensures c.in_ok-add_led.ensures c.in_ok-add_led-2.ensures c.in_ok-add_led-3.ensures c.add_old.ensures
