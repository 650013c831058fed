use Rattle.std.proofs.Common.{◌≡◌, ◌++◌, drop}
use Rattle.md_code.specs.Numbers.{texts_of}
use Rattle.md_code.proofs.program.texts.Given as goal

abbrev pub invariant-loop-bytes : goal.invariant-loop-bytes
invariant-loop-bytes l = texts_of l.tables.literals.keys ≡ l.texts.items ++ texts_of (drop l.bytes-index l.tables.literals.keys)
