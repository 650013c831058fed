-- What a name in a goal stands for: functors and predicates.
use Rattle.std.specs.Prelude.{ℕ, Bool, false, List, Option, Some, None}
use Rattle.md_hlds.specs.declared.goal.PredName.{PredName}
use Rattle.md_hlds.specs.Hlds.{HldsType, named, HldsFunctor, HldsTypeDef, Procedure, Hlds, procedure_called}
use Rattle.md_names.specs.Named.{some_has_name, functor_found}

-- a functor: the type that it makes, and the types of its arguments
pub record Functor : Type 0 where
  pub makes : HldsType
  pub args : List HldsType

abbrev pub functor_with : HldsTypeDef × HldsFunctor → Functor
functor_with f = record { makes = named f.0.name; args = f.1.args }

abbrev pub functor_of : Option (HldsTypeDef × HldsFunctor) → Option Functor
functor_of None = None
functor_of (Some f) = Some (functor_with f)

abbrev pub if_unqualified : Option (List ℕ) → Option Functor → Option Functor
if_unqualified None f = f
if_unqualified (Some m) f = None

-- the functor that a term of this name and number of arguments is: its name is unqualified, and a type declares it
abbrev pub functor_called : Hlds → PredName → ℕ → Option Functor
functor_called s q arity = if_unqualified q.qualifier (functor_of (functor_found q.name arity s.types))

-- a functor has that name, whatever its arity
abbrev pub is_unqualified_among : Option (List ℕ) → List ℕ → List HldsTypeDef → Bool
is_unqualified_among None name ts = some_has_name name ts
is_unqualified_among (Some m) name ts = false

abbrev pub is_name_of_functor : Hlds → PredName → Bool
is_name_of_functor s q = is_unqualified_among q.qualifier q.name s.types

-- a procedure without its number
abbrev pub without_number : Option (ℕ × Procedure) → Option Procedure
without_number None = None
without_number (Some p) = Some p.1

-- the predicate of that name
abbrev pub predicate_called : Hlds → PredName → Option Procedure
predicate_called s q = without_number (procedure_called s q)
