use Rattle.std.proofs.Common.{◌≡◌, ◌++◌, length, take}
use Rattle.std.specs.List.{flat_map}
use Rattle.md_dump.specs.Text.{line, count_words}
use Rattle.md_dump.proofs.told.put_each.Given as goal

-- the count, and the lines so far
abbrev pub invariant-loop-thing : goal.invariant-loop-thing
invariant-loop-thing g l = l.out.items ≡ l.fn.out.items ++ (line (count_words l.name (length l.things)) ++ flat_map (λ x. line (g.T.Told.words x)) (take l.thing-index l.things))
