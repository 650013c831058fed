use Rattle.std.proofs.Common.{◌≡◌, ◌<◌, ℕ, length, get_or, map, take, Some, None, IfSome}
use Rattle.md_trace.specs.Context.{same_option}
use Rattle.md_clique.specs.Places.{places}
use Rattle.md_cost.specs.FileView.{IsFileView}
use Rattle.md_cost.specs.View.{View}
use Rattle.md_people.specs.Gathered.{IsWithin, gathered_of, slot_by}
use Rattle.md_people.proofs.gathered.gathered_by.Given as goal

-- the sums of the links so far
abbrev pub invariant-loop-link : goal.invariant-loop-link
invariant-loop-link l = record {
  each : length l.found.items ≡ l.count;
  sums : (v : View) (k : ℕ) → IsFileView l.loaded.profile v → k < l.count → get_or l.found.items k None ≡ gathered_of v l.by (places (same_option (Some k)) (take l.link (map (slot_by l.slots l.loaded.profile) l.loaded.profile.links)));
  small : (k : ℕ) → IfSome (get_or l.found.items k None) (IsWithin l.link);
}
