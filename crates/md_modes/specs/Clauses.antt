-- A clause of the code, as the definitions see it.
use Rattle.std.specs.Prelude.{Bool}
use Rattle.md_hlds.specs.Hlds.{hlds_of, procedure_of}
use Rattle.md_modes.specs.declared.clause.Clause.{Clause}
use Rattle.md_modes.specs.Goals.{Scope, clause_variables}

-- where a goal of the clause stands
abbrev pub scope_at : Clause → Bool → Scope
scope_at k strict = record { program = hlds_of k.names.now; all = clause_variables (procedure_of k.pred.now); strict = strict }
