use Rattle.md_feedback.proofs.FaultLemmas.{pair_read}
use Rattle.md_feedback.proofs.read.read_pairs.Goals as goal
use Rattle.std.proofs.Common.{arith}
use Rattle.std.proofs.lemmas.Grind.{common_steps}

pub loop-rest-preserved : goal.loop-rest-preserved
loop-rest-preserved c =
    let so_far = c.loop-rest.invariant in
    pair_read c.loop-rest.pairs c.push.new.self c.in-Some.pair c.args.text.now c.loop-rest.rest.now c.in-Some.after.now so_far.0 so_far.1 so_far.2 c.in_ok-push.ensures.ok
    c.in-Some.ensures.0 c.in-Some.ensures.1 c.in-Some.ensures.2

pub returns : goal.returns
returns c = grind (arith, common_steps)

pub returns-in_default : goal.returns-in_default
returns-in_default c = grind (arith, common_steps)
