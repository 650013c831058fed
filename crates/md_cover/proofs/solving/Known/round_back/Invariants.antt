use Rattle.std.proofs.Common.{◌≡◌, drop}
use Rattle.md_cover.specs.Known.{table_of, back_of}
use Rattle.md_cover.proofs.solving.Known.round_back.Given as goal

-- the last equations are taken down
abbrev pub invariant-loop-place : goal.invariant-loop-place
invariant-loop-place l = table_of l.self ≡ back_of (table_of l.fn.self) (drop l.place l.equations)
