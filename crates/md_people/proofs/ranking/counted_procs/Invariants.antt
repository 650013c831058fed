use Rattle.std.proofs.Common.{◌≡◌, map}
use Rattle.std.specs.Prelude.{All}
use Rattle.std.specs.List.{range_with_len}
use Rattle.md_cost.specs.FileView.{IsFileView}
use Rattle.md_cost.specs.View.{View}
use Rattle.md_people.specs.Hot.{sort_count}
use Rattle.md_people.proofs.ranking.counted_procs.Given as goal

abbrev pub invariant-loop-id : goal.invariant-loop-id
invariant-loop-id l = record {
  ids : map (λ x. x.1) l.counted.items ≡ range_with_len 0 l.id;
  counts : (v : View) → IsFileView l.loaded.profile v → All (λ x. x.0.0 ≡ sort_count v l.by l.sort x.1) l.counted.items;
}
