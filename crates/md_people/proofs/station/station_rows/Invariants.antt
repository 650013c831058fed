use Rattle.std.proofs.Common.{◌≡◌, map, take}
use Rattle.std.specs.List.{enumerate_from}
use Rattle.md_cost.specs.FileView.{IsFileView}
use Rattle.md_cost.specs.View.{View}
use Rattle.md_people.specs.Context.{station_row}
use Rattle.md_people.proofs.station.station_rows.Given as goal

abbrev pub invariant-loop-place : goal.invariant-loop-place
invariant-loop-place l = (v : View) → IsFileView l.loaded.profile v → l.rows.items ≡ map (station_row v l.by) (take l.place (enumerate_from 0 l.stations))
