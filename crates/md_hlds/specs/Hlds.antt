-- A program as plain data: its types, and its predicates with their clauses.
use Rattle.std.specs.Prelude.{ℕ, zero, suc, ◌+◌, Bool, true, false, ◌&&◌, List, [], ◌∷◌, ◌++◌, length, map, Option, Some, None, cond, nat_eq, slice_get}
use Rattle.std.specs.Str.{bytes_eq}
use Rattle.md_hlds.specs.declared.types.Ty.{Ty, Int, Str, Io, User, Ho', Row_of-Ty, end_of-Ty, more_of-Ty}
use Rattle.md_hlds.specs.declared.types.Mode.{Mode}
use Rattle.md_hlds.specs.declared.types.Det.{Det}
use Rattle.md_hlds.specs.declared.goal.PredName.{PredName}
use Rattle.md_hlds.specs.declared.program.Functor.{Functor}
use Rattle.md_hlds.specs.declared.program.TypeDef.{TypeDef}
use Rattle.md_hlds.specs.declared.program.Pred.{Pred}
use Rattle.md_hlds.specs.declared.program.Program.{Program}
use Rattle.md_hlds.specs.HldsGoal.{HldsGoal, goal_of, goal_size, goals_within, site_lines}

-- a type
mutual
  pub data HldsType : Type 0 where
    number : HldsType
    text : HldsType
    world : HldsType
    named : (name : List ℕ) → HldsType
    closure : (args : HldsTypes) (modes : List Mode) (det : Det) → HldsType

  pub data HldsTypes : Type 0 where
    no_types : HldsTypes
    also_type : (t : HldsType) (ts : HldsTypes) → HldsTypes

abbrev pub listed_types : HldsTypes → List HldsType
listed_types no_types = []
listed_types (also_type t ts) = t ∷ listed_types ts

abbrev pub gathered_types : List HldsType → HldsTypes
gathered_types [] = no_types
gathered_types (t ∷ ts) = also_type t (gathered_types ts)

abbrev mutual
  pub hlds_type_of : Ty → HldsType
  hlds_type_of Int = number
  hlds_type_of Str = text
  hlds_type_of Io = world
  hlds_type_of (User name) = named name
  hlds_type_of (Ho' shape row modes det) = closure (row_types row) modes.items det

  pub row_types : {n : _} → Row_of-Ty n → HldsTypes
  row_types end_of-Ty = no_types
  row_types (more_of-Ty t rest) = also_type (hlds_type_of t) (row_types rest)

-- a functor with the types of its arguments; a constant has none
pub record HldsFunctor : Type 0 where
  pub name : List ℕ
  pub args : List HldsType

-- a type's declaration
pub record HldsTypeDef : Type 0 where
  pub name : List ℕ
  pub line : ℕ
  pub functors : List HldsFunctor

-- a predicate: its declaration and its clause
pub record Procedure : Type 0 where
  pub qualifier : Option (List ℕ)
  pub name : List ℕ
  pub line : ℕ
  pub clause_line : ℕ
  pub args : List (HldsType × Mode)
  pub det : Det
  pub vars : List (List ℕ)
  pub head : List ℕ
  pub body : HldsGoal

pub record Hlds : Type 0 where
  pub module_name : List ℕ
  pub module_line : ℕ
  pub types : List HldsTypeDef
  pub procedures : List Procedure

abbrev pub hlds_types_of : List Ty → List HldsType
hlds_types_of [] = []
hlds_types_of (t ∷ ts) = hlds_type_of t ∷ hlds_types_of ts

abbrev pub hlds_functor_of : Functor → HldsFunctor
hlds_functor_of f = record { name = f.name; args = hlds_types_of f.args.items }

abbrev pub hlds_functors_of : List Functor → List HldsFunctor
hlds_functors_of [] = []
hlds_functors_of (f ∷ fs) = hlds_functor_of f ∷ hlds_functors_of fs

abbrev pub type_def_of : TypeDef → HldsTypeDef
type_def_of t = record { name = t.name; line = t.line; functors = hlds_functors_of t.functors.items }

abbrev pub type_defs_of : List TypeDef → List HldsTypeDef
type_defs_of [] = []
type_defs_of (t ∷ ts) = type_def_of t ∷ type_defs_of ts

abbrev pub args_of : List (Ty × Mode) → List (HldsType × Mode)
args_of [] = []
args_of (a ∷ as') = (hlds_type_of a.0, a.1) ∷ args_of as'

abbrev pub procedure_of : Pred → Procedure
procedure_of p = record {
  qualifier = p.qualifier;
  name = p.name;
  line = p.line;
  clause_line = p.clause_line;
  args = args_of p.args.items;
  det = p.det;
  vars = p.vars.items;
  head = p.head;
  body = goal_of p.body;
}

abbrev pub procedures_of : List Pred → List Procedure
procedures_of [] = []
procedures_of (p ∷ ps) = procedure_of p ∷ procedures_of ps

-- the program of the code, as plain data
abbrev pub hlds_of : Program → Hlds
hlds_of p = record {
  module_name = p.module;
  module_line = p.module_line;
  types = type_defs_of p.types.items;
  procedures = procedures_of p.preds.items;
}

-- how many goals stand before the clause of the procedure of this number
abbrev pub goals_before : List Procedure → ℕ → ℕ
goals_before [] n = 0
goals_before (p ∷ ps) zero = 0
goals_before (p ∷ ps) (suc n) = goal_size p.body + goals_before ps n

-- the number of the body of the procedure of this number
abbrev pub body_number : Hlds → ℕ → ℕ
body_number s n = goals_before s.procedures n

-- the goals of these clauses, in text order
abbrev pub clause_goals : List Procedure → List HldsGoal
clause_goals [] = []
clause_goals (p ∷ ps) = goals_within p.body ++ clause_goals ps

-- the goal of this number, if there is one
abbrev pub goal_at : Hlds → ℕ → Option HldsGoal
goal_at s n = slice_get (clause_goals s.procedures) n

-- two names that may be qualified are the same
abbrev pub same_qualifier : Option (List ℕ) → Option (List ℕ) → Bool
same_qualifier None None = true
same_qualifier (Some m) (Some n) = bytes_eq m n
same_qualifier _ _ = false

abbrev pub is_called : PredName → Procedure → Bool
is_called q p = same_qualifier q.qualifier p.qualifier && bytes_eq q.name p.name

-- the number of the first procedure of that name, counted on from n, and the procedure
abbrev pub find_procedure : PredName → ℕ → List Procedure → Option (ℕ × Procedure)
find_procedure q n [] = None
find_procedure q n (p ∷ ps) = cond (is_called q p) (Some (n, p)) (find_procedure q (suc n) ps)

abbrev pub procedure_called : Hlds → PredName → Option (ℕ × Procedure)
procedure_called s q = find_procedure q 0 s.procedures

-- the procedure of that number, with its number
abbrev pub numbered : ℕ → Option Procedure → Option (ℕ × Procedure)
numbered n None = None
numbered n (Some p) = Some (n, p)

abbrev pub nth_procedure : Hlds → ℕ → Option (ℕ × Procedure)
nth_procedure s n = numbered n (slice_get s.procedures n)

-- there is a functor of that name and arity
abbrev pub declares_functor : List ℕ → ℕ → List HldsFunctor → Bool
declares_functor name arity [] = false
declares_functor name arity (f ∷ fs) = cond (bytes_eq name f.name && nat_eq arity (length f.args)) true (declares_functor name arity fs)

abbrev pub has_functor : List ℕ → ℕ → List HldsTypeDef → Bool
has_functor name arity [] = false
has_functor name arity (t ∷ ts) = cond (declares_functor name arity t.functors) true (has_functor name arity ts)

abbrev pub unqualified_functor : Hlds → Option (List ℕ) → List ℕ → ℕ → Bool
unqualified_functor s None name arity = has_functor name arity s.types
unqualified_functor s (Some m) name arity = false

-- a term of this name and number of arguments is a functor: it is unqualified, and a type declares it
abbrev pub is_functor : Hlds → PredName → ℕ → Bool
is_functor s q arity = unqualified_functor s q.qualifier q.name arity

-- a call site: the number of the procedure in whose clause it stands, and its line
abbrev pub owned_by : ℕ → ℕ → ℕ × ℕ
owned_by owner line = (owner, line)

-- the call sites of these procedures, the first of which has the number n: the owner and the line of each, in text order
abbrev pub sites_from : ℕ → List Procedure → List (ℕ × ℕ)
sites_from n [] = []
sites_from n (p ∷ ps) = map (owned_by n) (site_lines p.body) ++ sites_from (suc n) ps

abbrev pub sites_of : Hlds → List (ℕ × ℕ)
sites_of s = sites_from 0 s.procedures
