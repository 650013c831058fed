use Rattle.std.proofs.Common.{All, take}
use Rattle.md_deepfile.specs.Spells.{AreSmall}
use Rattle.law_files.proofs.room.counts_have_room.Given as goal

abbrev pub invariant-loop-link : goal.invariant-loop-link
invariant-loop-link l = All (λ k. AreSmall k.own) (take l.link-index l.links)
