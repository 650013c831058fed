-- Queries and texts as the code keeps them.
use Rattle.std.specs.Prelude.{ℕ, List, Option, Some, None}
use Rattle.std.specs.Cow.{cow_str_bytes}
use Rattle.std.specs.declared.alloc.Global.{Global}
use Rattle.std.specs.declared.borrow.CowStr.{CowStr}
use Rattle.md_query.specs.declared.query.Query.{Query}
use Rattle.md_query.specs.declared.query.Query.TheVariants as query
use Rattle.md_query.specs.Asked.{Asked, Menu, Root, Clique, Procs, Top, Proc, Modules, Module, Hot, Tree, Flame, Find, Context, Callers, CallersNamed, ProcNamed, CliqueNamed}

abbrev pub asked : Query → Asked
asked query.Menu = Menu
asked query.Root = Root
asked (query.Clique id) = Clique id
asked query.Procs = Procs
asked (query.Top by n) = Top by n
asked (query.Proc id) = Proc id
asked query.Modules = Modules
asked (query.Module name) = Module name
asked (query.Hot by n sort) = Hot by n sort
asked (query.Tree by least) = Tree by least
asked (query.Flame by least) = Flame by least
asked (query.Find by text) = Find by text
asked (query.Context by id) = Context by id
asked (query.Callers by id) = Callers by id
asked (query.CallersNamed by name) = CallersNamed by name
asked (query.ProcNamed name) = ProcNamed name
asked (query.CliqueNamed name) = CliqueNamed name

abbrev pub asked_told : Option Query → Option Asked
asked_told None = None
asked_told (Some query) = Some (asked query)

abbrev pub text_told : Option (CowStr Global) → Option (List ℕ)
text_told None = None
text_told (Some text) = Some (cow_str_bytes text)
