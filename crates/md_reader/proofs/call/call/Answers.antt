use Rattle.std.proofs.Common.{arith}
use Rattle.std.proofs.lemmas.Grind.{common_steps}
use Rattle.md_reader.specs.Rules.{call}
use Rattle.md_reader.proofs.Room.{call_room}
use Rattle.md_reader.proofs.call.call.Goals as goal

pub returns-in-Some : goal.returns-in-Some
unfolding call
returns-in-Some c = grind (arith, common_steps)

pub returns-in-None : goal.returns-in-None
unfolding call
returns-in-None c = grind (arith, common_steps)

pub site-site-requires : goal.site-site-requires
site-site-requires c = call_room _ _ c.args.input.now c.pred_name.new.input c.arguments.new.input c.in_ok-name.ensures c.in_ok-variables.ensures
