use Rattle.md_cover.specs.Known.{Rounds, Table, table_of}
use Rattle.md_cover.proofs.Blanks.{blanks}
use Rattle.md_cover.proofs.solving.Known.solve.Given as goal

-- what the rounds from here on lead to, all rounds lead to
abbrev pub invariant-loop-self : goal.invariant-loop-self
invariant-loop-self l = (u : Table) → Rounds l.equations (table_of l.self) u → Rounds l.equations (table_of l.fn.self) u

abbrev pub decreases-loop-self : goal.decreases-loop-self
decreases-loop-self l = blanks (table_of l.self)
