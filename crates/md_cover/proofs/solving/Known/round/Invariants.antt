use Rattle.std.proofs.Common.{◌≡◌, ◌||◌, drop}
use Rattle.md_cover.specs.Known.{table_of, round_of, changes}
use Rattle.md_cover.proofs.solving.Known.round.Given as goal

abbrev pub invariant-loop-equation : goal.invariant-loop-equation
invariant-loop-equation l =
    (round_of (table_of l.self) (drop l.equation-index l.equations) ≡ round_of (table_of l.fn.self) l.equations)
    × ((changes (table_of l.self) (drop l.equation-index l.equations) || l.changed) ≡ changes (table_of l.fn.self) l.equations)
