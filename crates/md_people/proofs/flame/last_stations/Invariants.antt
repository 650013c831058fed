use Rattle.std.proofs.Common.{◌≡◌, ◌<◌, ◌++◌, length}
use Rattle.std.specs.Prelude.{All}
use Rattle.md_people.specs.Depths.{path_up}
use Rattle.md_people.proofs.flame.last_stations.Given as goal

-- the stations so far, and the path on
abbrev pub invariant-loop-place : goal.invariant-loop-place
invariant-loop-place l = record {
  there : l.station < length l.loaded.profile.nodes;
  path : l.last.items ++ path_up l.loaded l.station ≡ path_up l.loaded l.fn.node;
  size : length l.last.items ≡ l._place;
  all : All (λ c. c < length l.loaded.profile.nodes) l.last.items;
}
