-- A page as plain data, and the profiles that have its numbers.
use Rattle.std.specs.Prelude.{ℕ, ◌<◌, List, length, All}
use Rattle.md_dynamic.specs.Profile.{ProfileRows}
use Rattle.md_query.specs.declared.row.Row.{Row}
use Rattle.md_query.specs.declared.row.Row.TheVariants as row
use Rattle.md_query.specs.declared.row.Title.{Title}
use Rattle.md_query.specs.declared.row.Title.TheVariants as title

pub record PageRows : Type 0 where
  pub title : Title
  pub rows : List Row

-- the procedure, the module or the context of the title is there
abbrev pub IsTitleWithin : ProfileRows → Title → Type 0
IsTitleWithin f title.Menu = Unit {0}
IsTitleWithin f (title.Clique id) = Unit {0}
IsTitleWithin f title.Procs = Unit {0}
IsTitleWithin f (title.Top by n) = Unit {0}
IsTitleWithin f (title.Proc id) = id < length f.statics.procs
IsTitleWithin f title.Modules = Unit {0}
IsTitleWithin f (title.Module id) = id < length f.statics.modules
IsTitleWithin f (title.Hot by n sort) = Unit {0}
IsTitleWithin f (title.Tree by least) = Unit {0}
IsTitleWithin f (title.Flame by least) = Unit {0}
IsTitleWithin f (title.Find by text) = Unit {0}
IsTitleWithin f (title.Context by node proc) = node < length f.nodes
IsTitleWithin f (title.Callers by id) = id < length f.statics.procs

-- a link other than the root link
abbrev pub IsCall : ProfileRows → ℕ → Type 0
IsCall f link = (0 < link) × (link < length f.links)

-- what the row is of is there
abbrev pub IsRowWithin : ProfileRows → Row → Type 0
IsRowWithin f (row.Main id) = id < length f.statics.modules
IsRowWithin f (row.Finished is) = Unit {0}
IsRowWithin f (row.Number what n) = Unit {0}
IsRowWithin f (row.Entered link own) = link < length f.links
IsRowWithin f (row.Own own) = Unit {0}
IsRowWithin f (row.Total total) = Unit {0}
IsRowWithin f (row.Context node own total) = node < length f.nodes
IsRowWithin f (row.Leaving link own total) = IsCall f link
IsRowWithin f (row.Inside link own) = IsCall f link
IsRowWithin f (row.Proc id own total) = id < length f.statics.procs
IsRowWithin f (row.Of node own total) = node < length f.nodes
IsRowWithin f (row.Site id own total) = id < length f.statics.sites
IsRowWithin f (row.Module id procs own total) = id < length f.statics.modules
IsRowWithin f (row.Whole by whole) = Unit {0}
IsRowWithin f (row.Table table) = Unit {0}

-- the numbers of the page are in the profile, and no call on it is the root link
pub record IsWithin (f : ProfileRows) (page : PageRows) : Type 0 where
  pub title : IsTitleWithin f page.title
  pub rows : All (IsRowWithin f) page.rows
