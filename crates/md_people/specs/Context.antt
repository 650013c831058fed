-- The page of a context: its stations from clique 0 on, and the links that start there.
use Rattle.std.specs.Prelude.{ℕ, zero, suc, ◌==◌, List, [], ◌∷◌, ◌++◌, reverse, map, Some, codes, if◌then◌else◌, slice_get, slice_index, unwrap_or, option_and_then, is_some}
use Rattle.std.specs.List.{enumerate_from}
use Rattle.md_base.specs.declared.measure.Measure.{Measure}
use Rattle.md_trace.specs.Context.{same_option}
use Rattle.md_clique.specs.Places.{places}
use Rattle.md_cost.specs.View.{View, OfContext, OfLink}
use Rattle.md_table.specs.Cells.{indent_of}
use Rattle.md_table.specs.Table.{TableCells}
use Rattle.md_people.specs.Counts.{own_counts, sums_by, whole_of}
use Rattle.md_people.specs.Ports.{PortsRow, ports_table}
use Rattle.md_people.specs.Words.{clique_at, led_by, led_words, proc_at, station_words}

-- ---- stations

-- where the link that enters a clique starts
abbrev pub entered_from : View → (clique : ℕ) → ℕ
entered_from v k = unwrap_or (option_and_then (λ x. x.caller) (slice_get v.links (slice_index v.entries k))) 0

-- the context, the start of the link that enters its clique, and so on up to clique 0, in at most n steps
abbrev pub stations_up : View → (steps : ℕ) → ℕ → List ℕ
stations_up v zero c = c ∷ []
stations_up v (suc n) c = if clique_at v c == 0 then c ∷ [] else c ∷ stations_up v n (entered_from v (clique_at v c))

-- the stations of a context, from clique 0 on. A link that enters a clique starts in one of a lower number, so there are no
-- more steps than the number of the context's clique
abbrev pub stations : View → ℕ → List ℕ
stations v c = reverse (stations_up v (clique_at v c) c)

-- ---- the tables

-- a station, indented by its place
abbrev pub station_row : View → Measure → (place_and_context : ℕ × ℕ) → PortsRow
station_row v by (place, c) = record {
  total = v.total (OfContext c) by;
  own = sums_by (own_counts v (OfContext c));
  last = indent_of place ++ station_words v.statics (proc_at v c) c (clique_at v c);
}

abbrev pub stations_table : View → Measure → ℕ → TableCells
stations_table v by c = ports_table (whole_of v by) (codes "context") (map (station_row v by) (enumerate_from 0 (stations v c)))

-- the links that start in a context, in rising order
abbrev pub links_from : View → ℕ → List ℕ
links_from v c = places (λ x. same_option x.caller (Some c)) v.links

-- a link: one within its clique has no total
abbrev pub callee_row : View → Measure → ℕ → PortsRow
callee_row v by l = record {
  total = v.total (OfLink l) by;
  own = sums_by (own_counts v (OfLink l));
  last = led_words v.statics (led_by v l) (is_some (v.total (OfLink l) by));
}

abbrev pub callees_table : View → Measure → ℕ → TableCells
callees_table v by c = ports_table (whole_of v by) (codes "callee") (map (callee_row v by) (links_from v c))
