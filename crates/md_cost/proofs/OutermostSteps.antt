-- A step of the walk down the tree of contexts, with the keys of each kind.
use Rattle.std.proofs.Common.{◌≡◌, ◌<◌, ℕ, List, length, get_or, map, set, replicate, false, Option, Some, None, arith}
use Rattle.md_dynamic.specs.Profile.{ProfileRows}
use Rattle.md_dynamic.specs.Valid.{IsValid}
use Rattle.md_clique.specs.Cliques.{clique_count}
use Rattle.md_cost.specs.declared.claims.Claims.{Claims}
use Rattle.md_cost.specs.declared.outermost.Walk.{Walk}
use Rattle.md_cost.specs.FileView.{procedure_at, module_at, site_above}
use Rattle.md_cost.specs.Outermost.{Enters, IsWithin, Leaves, WalkStands}
use Rattle.md_cost.specs.Paths.{EntriesRise, start_of}
use Rattle.md_cost.specs.Walking.{AreMarks, AreNexts, AreThreaded, Stands, above, at_bound, work}
use Rattle.md_cost.proofs.ClimbSteps.{entries_rise, start_there}
use Rattle.md_cost.proofs.ValidSteps.{module_below, procedure_there, site_below}
use Rattle.md_cost.proofs.WalkSteps.{begun, entered, entered_less, finished, key_below, left, left_less}

-- the keys of each kind are below their number
pub site_there : (f : ProfileRows) → IsValid f → (cliques entries : List ℕ) (d s : ℕ) → site_above f cliques entries d ≡ Some s → s < length f.statics.sites
site_there f valid cliques entries d s e = site_below f valid (get_or entries (get_or cliques d 0) 0) s e

-- a context and its key are there
within : (cliques : List ℕ) (starts : ℕ → ℕ) (key : ℕ → Option ℕ) (count : ℕ) → ((d q : ℕ) → key d ≡ Some q → q < count)
    → (first : List (Option ℕ)) (claims : Claims) (at : ℕ) → Stands cliques starts key count first claims.active.items claims.outermost.items at
    → (d : ℕ) → d < length cliques → IsWithin d (key d) claims
within cliques starts key count below first claims at is d there = record {
  node_there = (let size = is.each_flag in omega arith);
  key_there = rw is.each_active (key_below count (key d) (below d));
}

module _ (f : ProfileRows) (valid : IsValid f) (cliques entries : List ℕ) (rise : EntriesRise cliques entries f.links) where
  rises : (k : ℕ) → 0 < k → k < clique_count cliques → get_or cliques (start_of f.links entries k) 0 < k
  rises = entries_rise cliques entries f.links rise

  there : (k : ℕ) → 0 < k → k < clique_count cliques → start_of f.links entries k < length cliques
  there = start_there cliques entries f.links rise

  pub procedure_within : (walk : Walk) → WalkStands f cliques entries walk → (d : ℕ) → d < length cliques → IsWithin d (procedure_at f d) walk.procedures
  procedure_within walk is d lt = within cliques (start_of f.links entries) (procedure_at f) (length f.statics.procs) (procedure_there f valid) (map at_bound walk.first.items) walk.procedures walk.at is.procedures d lt

  pub module_within : (walk : Walk) → WalkStands f cliques entries walk → (d : ℕ) → d < length cliques → IsWithin d (module_at f d) walk.modules
  module_within walk is d lt = within cliques (start_of f.links entries) (module_at f) (length f.statics.modules) (module_below f valid) (map at_bound walk.first.items) walk.modules walk.at is.modules d lt

  pub site_within : (walk : Walk) → WalkStands f cliques entries walk → (d : ℕ) → d < length cliques → IsWithin d (site_above f cliques entries d) walk.sites
  site_within walk is d lt = within cliques (start_of f.links entries) (site_above f cliques entries) (length f.statics.sites) (site_there f valid cliques entries) (map at_bound walk.first.items) walk.sites walk.at is.sites d lt

  module _ (next : List (Option ℕ)) (nexts : AreNexts (length cliques) (above cliques (start_of f.links entries)) next) where
    module _ (key : ℕ → Option ℕ) (count : ℕ) (below : (d q : ℕ) → key d ≡ Some q → q < count) (first : List (Option ℕ)) (claims : Claims) (at : ℕ) (is : Stands cliques (start_of f.links entries) key count first claims.active.items claims.outermost.items at) where
      entered_with : (c : ℕ) → get_or first at None ≡ Some c → (new : Claims) → Enters c (key c) claims new
          → Stands cliques (start_of f.links entries) key count (set first at (get_or next c None)) new.active.items new.outermost.items c
      entered_with c child new enters = rw (enters.active, enters.outermost)
          (entered cliques (start_of f.links entries) rises there key count (λ d q lt e. below d q e) next nexts first claims.active.items claims.outermost.items at is c child)

      left_with : at < length cliques → get_or first at None ≡ None → (new : Claims) → Leaves at (key at) claims new
          → Stands cliques (start_of f.links entries) key count first new.active.items new.outermost.items (above cliques (start_of f.links entries) at)
      left_with inside over new leaves = rw (leaves.active, leaves.outermost)
          (left cliques (start_of f.links entries) rises there key count (λ d q lt e. below d q e) next nexts first claims.active.items claims.outermost.items at is inside over)

      -- in the end
      pub finished_with : at ≡ length cliques → get_or first at None ≡ None → AreMarks cliques (start_of f.links entries) key claims.outermost.items
      finished_with top none = finished cliques (start_of f.links entries) rises there key count (λ d q lt e. below d q e) next nexts first claims.active.items claims.outermost.items at is top none

    module _ (walk : Walk) (is : WalkStands f cliques entries walk) (now : Walk) where
      -- it enters a context
      pub walk_entered : (c : ℕ) → get_or (map at_bound walk.first.items) walk.at None ≡ Some c → now.at ≡ c → map at_bound now.first.items ≡ set (map at_bound walk.first.items) walk.at (get_or next c None)
          → Enters c (procedure_at f c) walk.procedures now.procedures → Enters c (module_at f c) walk.modules now.modules → Enters c (site_above f cliques entries c) walk.sites now.sites
          → WalkStands f cliques entries now
      walk_entered c child at first procedures modules sites = record {
        procedures = rw (at, first) (entered_with (procedure_at f) (length f.statics.procs) (procedure_there f valid) (map at_bound walk.first.items) walk.procedures walk.at is.procedures c child now.procedures procedures);
        modules = rw (at, first) (entered_with (module_at f) (length f.statics.modules) (module_below f valid) (map at_bound walk.first.items) walk.modules walk.at is.modules c child now.modules modules);
        sites = rw (at, first) (entered_with (site_above f cliques entries) (length f.statics.sites) (site_there f valid cliques entries) (map at_bound walk.first.items) walk.sites walk.at is.sites c child now.sites sites);
      }

      pub walk_entered_less : (c : ℕ) → get_or (map at_bound walk.first.items) walk.at None ≡ Some c → now.at ≡ c → map at_bound now.first.items ≡ set (map at_bound walk.first.items) walk.at (get_or next c None)
          → work cliques (map at_bound now.first.items) now.at < work cliques (map at_bound walk.first.items) walk.at
      walk_entered_less c child at first = rw (at, first)
          (entered_less cliques (start_of f.links entries) rises there (procedure_at f) (length f.statics.procs) (λ d q lt e. procedure_there f valid d q e) next nexts (map at_bound walk.first.items) walk.procedures.active.items walk.procedures.outermost.items walk.at is.procedures c child)

      -- it leaves one
      pub walk_left : walk.at < length cliques → get_or (map at_bound walk.first.items) walk.at None ≡ None → now.at ≡ above cliques (start_of f.links entries) walk.at → map at_bound now.first.items ≡ map at_bound walk.first.items
          → Leaves walk.at (procedure_at f walk.at) walk.procedures now.procedures → Leaves walk.at (module_at f walk.at) walk.modules now.modules → Leaves walk.at (site_above f cliques entries walk.at) walk.sites now.sites
          → WalkStands f cliques entries now
      walk_left inside over at first procedures modules sites = record {
        procedures = rw (at, first) (left_with (procedure_at f) (length f.statics.procs) (procedure_there f valid) (map at_bound walk.first.items) walk.procedures walk.at is.procedures inside over now.procedures procedures);
        modules = rw (at, first) (left_with (module_at f) (length f.statics.modules) (module_below f valid) (map at_bound walk.first.items) walk.modules walk.at is.modules inside over now.modules modules);
        sites = rw (at, first) (left_with (site_above f cliques entries) (length f.statics.sites) (site_there f valid cliques entries) (map at_bound walk.first.items) walk.sites walk.at is.sites inside over now.sites sites);
      }

      pub walk_left_less : walk.at < length cliques → get_or (map at_bound walk.first.items) walk.at None ≡ None → now.at ≡ above cliques (start_of f.links entries) walk.at → map at_bound now.first.items ≡ map at_bound walk.first.items
          → work cliques (map at_bound now.first.items) now.at < work cliques (map at_bound walk.first.items) walk.at
      walk_left_less inside over at first = rw (at, first)
          (left_less cliques (start_of f.links entries) rises there (procedure_at f) (length f.statics.procs) (λ d q lt e. procedure_there f valid d q e) next nexts (map at_bound walk.first.items) walk.procedures.active.items walk.procedures.outermost.items walk.at is.procedures inside over)

  -- before the walk
  pub begun_with : (key : ℕ → Option ℕ) (count : ℕ) → ((d q : ℕ) → key d ≡ Some q → q < count) → (first next : List (Option ℕ)) → AreThreaded (length cliques) (above cliques (start_of f.links entries)) first next
      → (n : ℕ) → n ≡ length cliques → (claims : Claims) → claims.active.items ≡ replicate count false → claims.outermost.items ≡ replicate n false
      → Stands cliques (start_of f.links entries) key count first claims.active.items claims.outermost.items n
  begun_with key count below first next threaded n size claims active outermost = rw (active, outermost, size)
      (begun cliques (start_of f.links entries) rises there key count (λ d q lt e. below d q e) first next threaded)
