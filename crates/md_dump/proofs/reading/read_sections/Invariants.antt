use Rattle.std.proofs.Common.{◌≡◌, drop}
use Rattle.md_dump.specs.Follows.{IsShort}
use Rattle.md_dump.specs.Grown.{rows_of}
use Rattle.md_dump.specs.Left.{read_on}
use Rattle.md_dump.specs.Lines.{Next, sections_due}
use Rattle.md_dump.proofs.reading.read_sections.Given as goal

-- the sections that are left are due
abbrev pub invariant-loop-section : goal.invariant-loop-section
invariant-loop-section l = ((next : Next) → read_on (sections_due l.sections (rows_of l.fn.rows) next) l.fn.lines ≡ read_on (sections_due (drop l.section-index l.sections) (rows_of l.rows) next) l.lines) × IsShort l.lines
