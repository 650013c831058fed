use Rattle.std.proofs.Common.{None}
use Rattle.std.proofs.lemmas.Option.{slice_get-get_or}
use Rattle.md_clique.proofs.entries.entering.Goals as goal

pub loop-place-init : goal.loop-place-init
loop-place-init c = c.in_ok-found.ensures.none c.args.links.now

pub loop-place-preserved : goal.loop-place-preserved
loop-place-preserved c = c.add.ensures.found c.args.links.now c.loop-place.invariant (slice_get-get_or c.args.links.now c.loop-place.place (None, 0) c.loop-place-test.true)
