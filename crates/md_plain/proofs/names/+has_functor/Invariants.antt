use Rattle.std.proofs.Common.{length}
use Rattle.md_plain.proofs.names.+has_functor.Given as goal

abbrev pub decreases-has_functor : goal.decreases-has_functor
decreases-has_functor l = length l.types.now
