use Rattle.std.proofs.Common.{arith}
use Rattle.std.proofs.lemmas.Grind.{common_steps}
use Rattle.md_reader.specs.Rules.{closure_call}
use Rattle.md_reader.proofs.Room.{closure_room}
use Rattle.md_reader.proofs.call.closure_call.Goals as goal

pub returns : goal.returns
unfolding closure_call
returns c = grind (arith, common_steps)

pub applied-requires : goal.applied-requires
applied-requires c = closure_room _ _ _ c.args.input.now c.expect.new.self c.expect-2.new.self c.variables.new.input c.in_ok-expect.ensures c.in_ok-expect-2.ensures c.in_ok-variables.ensures
