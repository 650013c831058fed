-- What holds of each measure.
use Rattle.md_base.specs.declared.measure.Measure.{Measure}
use Rattle.md_base.specs.declared.measure.Measure.TheVariants.{Calls, Exits, Fails, Redos, Allocs, Words, Excps}

pub each_measure : (P : Measure → Type 0) → P Calls → P Exits → P Fails → P Redos → P Allocs → P Words → P Excps → (m : Measure) → P m
each_measure P calls exits fails redos allocs words excps Calls = calls
each_measure P calls exits fails redos allocs words excps Exits = exits
each_measure P calls exits fails redos allocs words excps Fails = fails
each_measure P calls exits fails redos allocs words excps Redos = redos
each_measure P calls exits fails redos allocs words excps Allocs = allocs
each_measure P calls exits fails redos allocs words excps Words = words
each_measure P calls exits fails redos allocs words excps Excps = excps
