use Rattle.std.proofs.Common.{◌≡◌, ◌++◌, take}
use Rattle.std.specs.List.{flat_map}
use Rattle.md_render.specs.People.{turn_words}
use Rattle.md_render.proofs.people.add_each_turn.Given as goal

abbrev pub invariant-loop-measure : goal.invariant-loop-measure
invariant-loop-measure l = l.out.items ≡ l.fn.out.items ++ flat_map (turn_words l.title l.by) (take l.measure-index l.measures)
