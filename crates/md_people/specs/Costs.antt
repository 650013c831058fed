-- Tables of costs: a row has a total and own counts of a measure, both with their shares, and what a call costs.
use Rattle.std.specs.Prelude.{ℕ, Bool, true, false, List, [], ◌∷◌, ◌++◌, codes, if◌then◌else◌}
use Rattle.std.specs.Fmt.{decimal}
use Rattle.md_base.specs.declared.measure.Measure.{Measure}
use Rattle.md_base.specs.declared.measure.Measure.TheVariants.{Calls, Exits, Fails, Redos, Allocs, Words, Excps}
use Rattle.md_cost.specs.View.{View}
use Rattle.md_cost.specs.View.{Row as Counted}
use Rattle.md_table.specs.Cells.{ratio_words, share_words}
use Rattle.md_table.specs.Table.{LineCells}
use Rattle.md_people.specs.Counts.{own_counts, total_counts, whole_of}

abbrev pub line_of : (cells : List (List ℕ)) → (last : List ℕ) → LineCells
line_of cells last = record { cells = cells; last = last }

abbrev pub is_calls : Measure → Bool
is_calls Calls = true
is_calls Exits = false
is_calls Fails = false
is_calls Redos = false
is_calls Allocs = false
is_calls Words = false
is_calls Excps = false

-- the column of own calls is left out where the measure is calls: its own counts are own calls
abbrev pub calls_cell : Measure → List ℕ → List (List ℕ)
calls_cell by cell = if is_calls by then [] else cell ∷ []

abbrev pub costs_heading : (by : Measure) (last : List ℕ) → LineCells
costs_heading by last = line_of (codes "total" ∷ codes "%" ∷ codes "own" ∷ codes "%" ∷ (calls_cell by (codes "calls") ++ codes "per call" ∷ [])) last

-- a count and its share in the whole
abbrev pub counted_cells : (n whole : ℕ) → List (List ℕ)
counted_cells n whole = decimal n ∷ share_words n whole ∷ []

-- by own counts and totals of each measure
abbrev pub costs_line : (by : Measure) (whole : ℕ) (own total : Measure → ℕ) (last : List ℕ) → LineCells
costs_line by whole own total last =
    line_of (counted_cells (total by) whole ++ (counted_cells (own by) whole ++ (calls_cell by (decimal (own Calls)) ++ ratio_words (total by) (own Calls) ∷ []))) last

-- the line of a row of the view
abbrev pub costs_of : View → (by : Measure) → Counted → (last : List ℕ) → LineCells
costs_of v by r last = costs_line by (whole_of v by) (own_counts v r) (total_counts v r) last
