-- Counts by measure.
use Rattle.std.specs.Prelude.{ℕ, ◌+◌, min}
use Rattle.md_base.specs.declared.measure.Counts.{Counts}
use Rattle.md_base.specs.declared.measure.Measure.{Measure}
use Rattle.md_base.specs.declared.measure.Measure.TheVariants.{Calls, Exits, Fails, Redos, Allocs, Words, Excps}

-- the count of one measure
abbrev pub count_of : Counts → Measure → ℕ
count_of counts Calls = counts.calls
count_of counts Exits = counts.exits
count_of counts Fails = counts.fails
count_of counts Redos = counts.redos
count_of counts Allocs = counts.allocs
count_of counts Words = counts.words
count_of counts Excps = counts.excps

-- the counts with another number at one measure
abbrev pub with_count : Counts → Measure → ℕ → Counts
with_count counts Calls n = record counts { calls = n }
with_count counts Exits n = record counts { exits = n }
with_count counts Fails n = record counts { fails = n }
with_count counts Redos n = record counts { redos = n }
with_count counts Allocs n = record counts { allocs = n }
with_count counts Words n = record counts { words = n }
with_count counts Excps n = record counts { excps = n }

-- the counts with so many more at one measure, which stands still at the last value of 32 bits
abbrev pub with_more : Counts → Measure → ℕ → Counts
with_more counts measure by = with_count counts measure (min (count_of counts measure + by) 4294967295)
