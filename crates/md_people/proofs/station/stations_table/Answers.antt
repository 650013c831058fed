use Rattle.std.proofs.Common.{ℕ, List, map, codes, ap, ◌∙◌}
use Rattle.std.specs.List.{enumerate_from}
use Rattle.md_people.specs.Context.{station_row, stations}
use Rattle.md_people.specs.Ports.{PortsRow, ports_table}
use Rattle.md_people.proofs.station.stations_table.Goals as goal

pub returns : goal.returns
returns c = λ v is.
    c.in_ok-table.ensures
    ∙ ap (λ (rs : List PortsRow). ports_table c.whole_of-whole.result (codes "context") rs) (
    c.deref-2.ensures.value ∙ c.in_ok-rows.ensures v is
    ∙ ap (λ (ds : List ℕ). map (station_row v c.args.by) (enumerate_from 0 ds)) (c.deref.ensures.value ∙ c.in_ok-stations.ensures.stations v is))
    ∙ ap (λ (w : ℕ). ports_table w (codes "context") (map (station_row v c.args.by) (enumerate_from 0 (stations v c.args.node)))) (c.whole_of-whole.ensures v is)
