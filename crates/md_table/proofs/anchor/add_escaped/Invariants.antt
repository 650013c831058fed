use Rattle.std.proofs.Common.{◌≡◌, ◌++◌, take}
use Rattle.md_table.specs.Anchors.{escaped}
use Rattle.md_table.proofs.anchor.add_escaped.Given as goal

abbrev pub invariant-loop-byte : goal.invariant-loop-byte
invariant-loop-byte l = l.out.items ≡ l.fn.out.items ++ escaped (take l.byte-index l.bytes)
