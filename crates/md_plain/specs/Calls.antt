-- What is called.
use Rattle.std.specs.Prelude.{ℕ, List, [], Option, Some, None}
use Rattle.md_hlds.specs.Hlds.{Hlds, Procedure, nth_procedure}
use Rattle.md_hlds.specs.Value.{Value, Closure, listed_values}
use Rattle.md_plain.specs.declared.call.Called.{Called}
use Rattle.md_plain.specs.Values.{parts_of}
use Rattle.md_plain.specs.Names.{option_procedure}

pub record Meant : Type 0 where
  pub site : ℕ
  pub procedure : Option (ℕ × Procedure)
  pub held : List Value
  pub arguments : List ℕ

abbrev pub called_of : Called → Meant
called_of c = record { site = c.site; procedure = option_procedure c.procedure; held = parts_of c.held.now; arguments = c.arguments.now }

abbrev pub plain_call : ℕ → Option (ℕ × Procedure) → List ℕ → Meant
plain_call site q ys = record { site = site; procedure = q; held = []; arguments = ys }

-- what a variable's value calls
abbrev pub by_closure : Hlds → ℕ → Option Value → List ℕ → Meant
by_closure s site (Some (Closure q held)) ys = record { site = site; procedure = nth_procedure s q; held = listed_values held; arguments = ys }
by_closure s site v ys = plain_call site None ys
