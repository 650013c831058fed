-- Where the words on a page are looked up. A number that isn't there stands for 0 or for no name.
use Rattle.std.specs.Prelude.{ℕ, List, [], Option, Some, None, ◌++◌, codes, slice_get, slice_index, unwrap_or}
use Rattle.std.specs.Fmt.{decimal}
use Rattle.md_static.specs.declared.entry.Proc.{Proc}
use Rattle.md_static.specs.Tables.{Static}
use Rattle.md_cost.specs.View.{View, Join}

-- the tables, the procedure of each context, the links, and the clique of each context
pub record Names : Type 0 where
  pub statics : Static
  pub nodes : List ℕ
  pub links : List Join
  pub cliques : List ℕ

abbrev pub names_of : View → Names
names_of v = record { statics = v.statics; nodes = v.nodes; links = v.links; cliques = v.cliques }

-- the name of a module
abbrev pub module_name : Static → ℕ → List ℕ
module_name s k = unwrap_or (slice_get s.modules k) []

-- a procedure's module, name and number of arguments
abbrev pub full_name_of : Static → Option Proc → List ℕ
full_name_of s None = []
full_name_of s (Some p) = module_name s p.«module» ++ (codes "." ++ (p.name ++ (codes "/" ++ decimal p.arity)))

abbrev pub full_name : Static → ℕ → List ℕ
full_name s q = full_name_of s (slice_get s.procs q)

-- the procedure of a context, and its clique
abbrev pub proc_at : Names → ℕ → ℕ
proc_at n c = slice_index n.nodes c

abbrev pub clique_at : Names → ℕ → ℕ
clique_at n c = slice_index n.cliques c

-- the caller of a link, its call site, and the context to which it leads
abbrev pub join_at : Names → ℕ → Join
join_at n l = unwrap_or (slice_get n.links l) (record { caller = None; site = None; callee = 0 })

abbrev pub caller_at : Names → ℕ → Option ℕ
caller_at n l = (join_at n l).caller

abbrev pub site_at : Names → ℕ → ℕ
site_at n l = unwrap_or (join_at n l).site 0

abbrev pub callee_at : Names → ℕ → ℕ
callee_at n l = (join_at n l).callee
