-- The contexts of the runs of the generated programs.
use Rattle.std.specs.Prelude.{ℕ, List}
use Rattle.md_hlds.specs.Run.{run}
use Rattle.md_trace.specs.Context.{contexts, placed_of}
use Rattle.law_events.specs.History.{history}
use Rattle.law_events.specs.Table.{site_table}
use Rattle.law_generated.specs.Generated.{generated}

-- The contexts of the run of the program of n procedures below main, within a budget: the procedure of each, main's first. Main
-- is procedure 0 of each of these programs.
abbrev pub generated_contexts : (n budget : ℕ) → List ℕ
generated_contexts n budget = contexts (site_table (generated n)).main (placed_of (site_table (generated n)).main (history (run (generated n) budget)))
