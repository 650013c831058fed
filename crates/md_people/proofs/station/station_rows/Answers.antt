use Rattle.std.proofs.Common.{ℕ, List, [], ◌∷◌, ◌++◌, map, take, ap, sym, ◌∙◌}
use Rattle.std.specs.List.{enumerate_from}
use Rattle.md_people.specs.Ports.{PortsRow}
use Rattle.md_people.specs.Context.{station_row}
use Rattle.md_people.proofs.StationSteps.{numbered_more, numbered_all}
use Rattle.md_people.proofs.station.station_rows.Goals as goal

pub loop-place-preserved : goal.loop-place-preserved
loop-place-preserved c = λ v is.
    let f = station_row v c.args.by in
    let stations = c.args.stations.now in
    let i = c.loop-place.place in
    c.in_ok-push.ensures.items ∙ ap (λ (rs : List PortsRow). rs ++ c.in_ok-row.row ∷ []) (c.loop-place.invariant v is)
    ∙ ap (λ (r : PortsRow). map f (take i (enumerate_from 0 stations)) ++ r ∷ []) (c.in_ok-row.ensures v is ∙ ap (λ (d : ℕ). f (i, d)) c.new.ensures)
    ∙ sym (numbered_more f stations i 0 c.loop-place-test.true)

pub returns : goal.returns
returns c = λ v is. c.loop-place.invariant v is ∙ numbered_all (station_row v c.args.by) c.args.stations.now c.loop-place.place c.loop-place-test.false
