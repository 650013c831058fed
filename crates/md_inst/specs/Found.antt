-- What the code finds by a name, as the definitions see it.
use Rattle.std.specs.Prelude.{Option, Some, None}
use denote.Ref.{Bor}
use Rattle.md_hlds.specs.declared.program.Pred.{Pred}
use Rattle.md_hlds.specs.Hlds.{named, hlds_types_of, Procedure, procedure_of}
use Rattle.md_inst.specs.declared.names.Found.{Found}
use Rattle.md_inst.specs.Named.{Functor}

abbrev pub functor_of_found : Found → Functor
functor_of_found f = record { makes = named f.makes.now; args = hlds_types_of f.args.now }

abbrev pub functor_found : Option Found → Option Functor
functor_found None = None
functor_found (Some f) = Some (functor_of_found f)

abbrev pub predicate_found : Option (Bor Pred) → Option Procedure
predicate_found None = None
predicate_found (Some p) = Some (procedure_of p.now)
