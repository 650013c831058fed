-- Sums by measure.
use Rattle.std.specs.Prelude.{ℕ}
use Rattle.md_base.specs.declared.measure.Measure.{Measure}
use Rattle.md_base.specs.declared.measure.Measure.TheVariants.{Calls, Exits, Fails, Redos, Allocs, Words, Excps}
use Rattle.md_cost.specs.declared.sums.Sums.{Sums}

-- the sum of one measure
abbrev pub sum_of : Sums → Measure → ℕ
sum_of s Calls = s.calls
sum_of s Exits = s.exits
sum_of s Fails = s.fails
sum_of s Redos = s.redos
sum_of s Allocs = s.allocs
sum_of s Words = s.words
sum_of s Excps = s.excps

abbrev pub zero_sums : Sums
zero_sums = record { calls = 0; exits = 0; fails = 0; redos = 0; allocs = 0; words = 0; excps = 0 }
