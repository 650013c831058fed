use Rattle.std.proofs.Common.{◌≡◌, ◌++◌, length, take}
use Rattle.std.specs.List.{flat_map}
use Rattle.md_deepfile.specs.Bytes.{u32}
use Rattle.md_deepfile.proofs.spelled.put_each.Given as goal

abbrev pub invariant-loop-thing : goal.invariant-loop-thing
invariant-loop-thing g l = l.out.items ≡ l.fn.out.items ++ (u32 (length l.things) ++ flat_map g.T.Spelled.bytes (take l.thing-index l.things))
