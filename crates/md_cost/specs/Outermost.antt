-- A walk down the tree of contexts that asks three things of each at once: whether it is the outermost of its procedure,
-- of its module, and of the call site at which its clique is entered.
use Rattle.std.specs.Prelude.{ℕ, ◌≡◌, ◌<◌, List, Option, IfSome, length, map, slice_set}
use Rattle.md_dynamic.specs.Profile.{ProfileRows}
use Rattle.md_cost.specs.declared.claims.Claims.{Claims}
use Rattle.md_cost.specs.declared.outermost.Outermost.{Outermost}
use Rattle.md_cost.specs.declared.outermost.Walk.{Walk}
use Rattle.md_cost.specs.FileView.{procedure_at, module_at, site_above}
use Rattle.md_cost.specs.Paths.{start_of}
use Rattle.md_cost.specs.Walking.{AreMarks, Stands, at_bound, claimed, is_free, marked_by, with_key, without_key}

-- a context and its key are there
pub record IsWithin (node : ℕ) (key : Option ℕ) (claims : Claims) : Type 0 where
  pub node_there : node < length claims.outermost.items
  pub key_there : IfSome key (λ q. q < length claims.active.items)

-- a context with this key is entered, or left
pub record Enters (node : ℕ) (key : Option ℕ) (old new : Claims) : Type 0 where
  pub active : new.active.items ≡ with_key old.active.items (claimed old.active.items key)
  pub outermost : new.outermost.items ≡ slice_set old.outermost.items node (is_free old.active.items key)

pub record Leaves (node : ℕ) (key : Option ℕ) (old new : Claims) : Type 0 where
  pub active : new.active.items ≡ without_key old.active.items (marked_by old.outermost.items node key)
  pub outermost : new.outermost.items ≡ old.outermost.items

-- the walk stands with each kind of key
abbrev pub StandsWith : ProfileRows → List ℕ → List ℕ → (ℕ → Option ℕ) → ℕ → Walk → Claims → Type 0
StandsWith f cliques entries key count walk claims = Stands cliques (start_of f.links entries) key count (map at_bound walk.first.items) claims.active.items claims.outermost.items walk.at

pub record WalkStands (f : ProfileRows) (cliques entries : List ℕ) (walk : Walk) : Type 0 where
  pub procedures : StandsWith f cliques entries (procedure_at f) (length f.statics.procs) walk walk.procedures
  pub modules : StandsWith f cliques entries (module_at f) (length f.statics.modules) walk walk.modules
  pub sites : StandsWith f cliques entries (site_above f cliques entries) (length f.statics.sites) walk walk.sites

-- the outermost contexts of each procedure, module and call site are flagged
pub record AreOutermost (f : ProfileRows) (cliques entries : List ℕ) (found : Outermost) : Type 0 where
  pub procedures : AreMarks cliques (start_of f.links entries) (procedure_at f) found.procedures.items
  pub modules : AreMarks cliques (start_of f.links entries) (module_at f) found.modules.items
  pub sites : AreMarks cliques (start_of f.links entries) (site_above f cliques entries) found.sites.items
