use Rattle.std.proofs.Common.{◌≡◌, ◌++◌, ◌∷◌, [], drop}
use Rattle.std.specs.List.{flat_map}
use Rattle.md_printer.specs.Printed.{escaped}
use Rattle.md_printer.proofs.literal.quoted.Given as goal

-- the bytes so far and those of the rest are those of the string
abbrev pub invariant-loop-byte : goal.invariant-loop-byte
invariant-loop-byte l = l.text.items ++ flat_map escaped (drop l.byte-index l.bytes) ≡ (l.fn.text.items ++ 34 ∷ []) ++ flat_map escaped l.fn.bytes
