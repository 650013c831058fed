use Rattle.std.proofs.Common.{◌≡◌, ◌<◌, ◌++◌, length, get_or}
use Rattle.std.specs.Prelude.{All}
use Rattle.md_cost.specs.Paths.{path_of}
use Rattle.md_people.proofs.station.stations_of.Given as goal

-- the stations so far, and the path on
abbrev pub invariant-loop-stations : goal.invariant-loop-stations
invariant-loop-stations l = record {
  there : l.station < length l.loaded.profile.nodes;
  path : l.stations.items ++ path_of l.loaded.cliques l.loaded.entries l.loaded.profile.links l.station ≡ path_of l.loaded.cliques l.loaded.entries l.loaded.profile.links l.fn.node;
  all : All (λ c. c < length l.loaded.profile.nodes) l.stations.items;
}

abbrev pub decreases-loop-stations : goal.decreases-loop-stations
decreases-loop-stations l = get_or l.loaded.cliques l.station 0
