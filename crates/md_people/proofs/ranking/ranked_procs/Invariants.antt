use Rattle.std.proofs.Common.{◌≡◌, map, take}
use Rattle.md_people.proofs.ranking.ranked_procs.Given as goal

abbrev pub invariant-loop-pair : goal.invariant-loop-pair
invariant-loop-pair l = l.ids.items ≡ map (λ x. x.1) (take l.pair-index l.pair-items)
