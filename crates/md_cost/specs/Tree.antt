-- The cliques of a profile and the links that enter them, where each clique is entered by one.
use Rattle.std.specs.Prelude.{ℕ, List}
use Rattle.md_dynamic.specs.declared.link.LinkRow.{LinkRow}
use Rattle.md_trace.specs.Cliques.{AreCliques}
use Rattle.md_clique.specs.Entries.{AreEntries, IsEnteredTwice, edges_of}
use Rattle.md_clique.specs.declared.entries.EnterFault.{EnterFault}
use Rattle.md_clique.specs.declared.entries.EnterFault.TheVariants.{TwoEntries, NoMemory}
use Rattle.md_cost.specs.Paths.{ends}

-- there is one such pair of lists at most
pub record IsTree (n : ℕ) (links : List LinkRow) (cliques entries : List ℕ) : Type 0 where
  pub cliques_are : AreCliques n (edges_of (ends links)) cliques
  pub entries_are : AreEntries cliques (ends links) entries

-- clique k of the profile is the lowest that is entered twice, first by links a and b
pub record HasNoTree (n : ℕ) (links : List LinkRow) (k a b : ℕ) : Type 0 where
  pub cliques : List ℕ
  pub cliques_are : AreCliques n (edges_of (ends links)) cliques
  pub twice : IsEnteredTwice cliques (ends links) k a b

-- when each answer other than Ok may come
abbrev pub MayRefuse : ℕ → List LinkRow → EnterFault → Type 0
MayRefuse n links (TwoEntries k a b) = HasNoTree n links k a b
MayRefuse n links NoMemory = Unit {0}
