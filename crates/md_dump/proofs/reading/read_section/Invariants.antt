use Rattle.std.proofs.Common.{◌≡◌, ◌-◌}
use Rattle.md_dump.specs.Follows.{IsShort}
use Rattle.md_dump.specs.Grown.{rows_of}
use Rattle.md_dump.specs.Left.{read_on}
use Rattle.md_dump.specs.Lines.{Next, section_due, several}
use Rattle.md_dump.proofs.reading.read_section.Given as goal

-- the members that are left are due
abbrev pub invariant-loop : goal.invariant-loop
invariant-loop l = ((next : Next) → read_on (section_due l.section (rows_of l.fn.rows) next) l.fn.lines ≡ read_on (several l.section (l.count - l.counter) (rows_of l.rows) next) l.lines) × IsShort l.lines
