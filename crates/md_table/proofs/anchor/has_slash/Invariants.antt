use Rattle.std.proofs.Common.{◌≡◌, false, take}
use Rattle.md_table.specs.Anchors.{has_slash}
use Rattle.md_table.proofs.anchor.has_slash.Given as goal

abbrev pub invariant-loop-byte : goal.invariant-loop-byte
invariant-loop-byte l = has_slash (take l.byte-index l.word) ≡ false
