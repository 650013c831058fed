use Rattle.std.proofs.Common.{arith}
use Rattle.md_cover.proofs.Telling.{tell-step}
use Rattle.md_cover.proofs.covering.tell.Goals as goal

pub loop-place-preserved : goal.loop-place-preserved
loop-place-preserved c =
    tell-step c.args.known.now.entries.items c.args.goals.now.items c.loop-place.goals.items c.loop-place.place c.index_mut.result.now c.index.result.now c.turns.result (omega arith) c.loop-place.invariant
    c.index_mut.ensures.value c.index.ensures c.turns.ensures
