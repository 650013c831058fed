-- What is known of a text whose lines were read so far.
use Rattle.std.specs.Prelude.{ℕ, ◌≡◌, ◌+◌, ◌<◌, length, Result, Ok, Err}
use Rattle.md_dynamic.specs.Profile.{ProfileRows}
use Rattle.md_dump.specs.Due.{Due}
use Rattle.md_dump.specs.Left.{read_on}
use Rattle.md_dump.specs.Lines.{Next}
use Rattle.md_dump.specs.declared.fault.DumpFault.{DumpFault}
use Rattle.md_dump.specs.declared.fault.DumpFault.TheVariants.{Line, NoMemory}
use Rattle.md_dump.specs.declared.lines.Lines.{Lines}

-- the lines that may still come can be numbered
abbrev pub IsShort : Lines → Type 0
IsShort lines = lines.before + length lines.rest.now < 4294967295

-- the line at fault is told, or want of memory
abbrev pub IsFault : DumpFault → Result ProfileRows ℕ → Type 0
IsFault (Line n) told = told ≡ Err n
IsFault NoMemory told = Unit {0}

-- These lines were due: what follows them is due behind what was read, or one of them is at fault.
abbrev pub Follows : (Next → Due) → Lines → Lines → ProfileRows → Result (Unit {0}) DumpFault → Type 0
Follows due old new rows (Ok u) = (next : Next) → read_on (due next) old ≡ read_on (next rows) new
Follows due old new rows (Err fault) = (next : Next) → IsFault fault (read_on (due next) old)
