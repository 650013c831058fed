use Rattle.std.proofs.Common.{◌≡◌, ◌++◌, drop, false}
use Rattle.md_token.specs.Literal.{value_from, inside}
use Rattle.md_token.proofs.literal.string_value.Given as goal

-- the value so far and that of the rest are the whole one
abbrev pub invariant-loop-byte : goal.invariant-loop-byte
invariant-loop-byte l = l.value.items ++ value_from l.escaped (drop l.byte-index l.byte-items) ≡ value_from false (inside l.fn.text)
