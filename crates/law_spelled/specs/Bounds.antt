-- What holds of the program of a text besides the grammar: its lines count from 1, and its names and lists of arguments
-- are short.
use Rattle.std.specs.Prelude.{◌≡◌, ℕ, ◌≤◌, length, All, IfSome, IsTrue}
use Rattle.md_hlds.specs.HldsGoal.{HldsGoal, At}
use Rattle.md_hlds.specs.Hlds.{HldsFunctor, HldsTypeDef, Procedure, Hlds, clause_goals, sites_of}
use Rattle.md_static.specs.Names.{is_name}

abbrev pub line_of : HldsGoal → ℕ
line_of (At line t) = line

-- the module's declaration, each declaration, each clause, each goal and each call site has a line
pub record HasLines (s : Hlds) : Type 0 where
  pub heading : 1 ≤ s.module_line
  pub types : All (λ t. 1 ≤ t.line) s.types
  pub procedures : All (λ p. (1 ≤ p.line) × (1 ≤ p.clause_line)) s.procedures
  pub goals : All (λ g. 1 ≤ line_of g) (clause_goals s.procedures)
  pub sites : All (λ x. 1 ≤ x.1) (sites_of s)

-- a functor with a name and arguments within the limits
pub record IsShortFunctor (f : HldsFunctor) : Type 0 where
  pub name : length f.name ≤ 255
  pub args : length f.args ≤ 255

-- a type's declaration, and a predicate's, within them
pub record IsShortType (t : HldsTypeDef) : Type 0 where
  pub name : length t.name ≤ 255
  pub functors : All IsShortFunctor t.functors

pub record IsShort (p : Procedure) : Type 0 where
  pub qualifier : IfSome p.qualifier (λ m. length m ≤ 255)
  pub name : length p.name ≤ 255
  pub args : length p.args ≤ 255
  -- the head has a variable for each argument
  pub head : length p.head ≡ length p.args

-- names have at most 255 bytes, and a list of arguments at most 255 members
pub record HasShortNames (s : Hlds) : Type 0 where
  pub module_name : length s.module_name ≤ 255
  pub types : All IsShortType s.types
  pub procedures : All IsShort s.procedures

-- the name of a predicate, and its qualifier, are names as the tables of a profile have them
pub record IsNamed (p : Procedure) : Type 0 where
  pub name : IsTrue (is_name p.name)
  pub qualifier : IfSome p.qualifier (λ m. IsTrue (is_name m))

-- so is that of the module
pub record HasNames (s : Hlds) : Type 0 where
  pub module_name : IsTrue (is_name s.module_name)
  pub procedures : All IsNamed s.procedures
