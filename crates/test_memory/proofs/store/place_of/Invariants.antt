use Rattle.std.proofs.Common.{◌≡◌, drop}
use Rattle.std.specs.List.{position_from}
use Rattle.std.specs.Str.{bytes_eq}
use Rattle.test_memory.specs.Memory.{listed}
use Rattle.test_memory.proofs.store.place_of.Given as goal

abbrev pub invariant-loop-place : goal.invariant-loop-place
invariant-loop-place l = position_from (λ file. bytes_eq l.name file.0) 0 (listed l.files) ≡ position_from (λ file. bytes_eq l.name file.0) l.place (drop l.place (listed l.files))
