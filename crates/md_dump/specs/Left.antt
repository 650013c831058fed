-- What readers of words and of lines have still to read.
use Rattle.std.specs.Prelude.{ℕ, List, [], Option, None, Some, Result}
use Rattle.std.specs.Borrow.{Bor}
use Rattle.md_dynamic.specs.Profile.{ProfileRows}
use Rattle.md_dump.specs.Due.{Due, parts_of, read}
use Rattle.md_dump.specs.Forms.{words_of}
use Rattle.md_dump.specs.Text.{Words}
use Rattle.md_dump.specs.declared.lines.Lines.{Lines}

-- the words behind those that were read
abbrev pub words_left : Option (Bor (List ℕ)) → Words
words_left None = []
words_left (Some rest) = words_of rest.now

-- what the lines spell behind those that were read, or the first at fault, where this is due
abbrev pub read_on : Due → Lines → Result ProfileRows ℕ
read_on due lines = read due lines.before (parts_of lines.rest.now)
