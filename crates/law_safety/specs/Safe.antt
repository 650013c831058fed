-- What is promised of accepted programs: no run of one is stuck.
use Rattle.std.specs.Prelude.{⊤, [], ◌∷◌}
use Rattle.md_hlds.specs.Trace.{Stuck, Items}

-- at each goal that was unfolded a rule applied
abbrev pub HasNoStuck : Items → Type 0
HasNoStuck [] = ⊤
HasNoStuck (Stuck ∷ xs) = ⊥
HasNoStuck (x ∷ xs) = HasNoStuck xs
