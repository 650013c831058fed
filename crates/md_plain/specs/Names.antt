-- What is found by a name in a program.
use Rattle.std.specs.Prelude.{ℕ, Option, Some, None}
use denote.Ref.{Bor}
use Rattle.md_hlds.specs.declared.program.Pred.{Pred}
use Rattle.md_hlds.specs.Hlds.{Procedure, procedure_of}

-- a predicate with its number
abbrev pub option_procedure : Option (ℕ × Bor Pred) → Option (ℕ × Procedure)
option_procedure None = None
option_procedure (Some p) = Some (p.0, procedure_of p.1.now)
