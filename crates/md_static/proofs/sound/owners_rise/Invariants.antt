use Rattle.std.proofs.Common.{length}
use Rattle.md_static.specs.Sites.{OwnersRiseFrom}
use Rattle.md_static.proofs.sound.owners_rise.Given as goal

abbrev pub invariant-loop-rest : goal.invariant-loop-rest
invariant-loop-rest l = record {
  so_far : OwnersRiseFrom l.least l.rest → OwnersRiseFrom 0 l.sites;
  still : OwnersRiseFrom 0 l.sites → OwnersRiseFrom l.least l.rest;
}

abbrev pub decreases-loop-rest : goal.decreases-loop-rest
decreases-loop-rest l = length l.rest
