use Rattle.std.proofs.Common.{length}
use Rattle.md_plain.proofs.names.+declares_functor.Given as goal

abbrev pub decreases-declares_functor : goal.decreases-declares_functor
decreases-declares_functor l = length l.functors.now
