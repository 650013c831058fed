use Rattle.std.proofs.Common.{◌≡◌, ◌++◌, drop}
use Rattle.std.specs.Prelude.{map}
use Rattle.std.specs.List.{flat_map}
use Rattle.md_printer.specs.Layout.{sentence}
use Rattle.md_printer.specs.Printed.{type_tokens}
use Rattle.md_hlds.specs.Hlds.{type_defs_of}
use Rattle.md_printer.proofs.printing.type_declarations.Given as goal

-- the text so far and that of the rest are the whole one
abbrev pub invariant-loop-declared : goal.invariant-loop-declared
invariant-loop-declared l = l.text.items ++ flat_map sentence (map type_tokens (type_defs_of (drop l.declared-index l.types))) ≡ l.fn.text.items ++ flat_map sentence (map type_tokens (type_defs_of l.fn.types))
