-- Why a text is refused, in words, and where.
use Rattle.std.specs.Prelude.{ℕ, List, Option, Some, None, codes}
use Rattle.md_reader.specs.declared.refused.Refused.{Refused}
use Rattle.md_reader.specs.declared.refused.Refused.TheVariants as refused

abbrev pub refused_words : Refused → List ℕ
refused_words (refused.Syntax line) = codes "syntax"
refused_words (refused.Limit line) = codes "limit"
refused_words (refused.Duplicate line) = codes "duplicate"
refused_words refused.NoMemory = codes "want of memory"

-- the line of what is at fault; none, where memory was refused
abbrev pub refused_line : Refused → Option ℕ
refused_line (refused.Syntax line) = Some line
refused_line (refused.Limit line) = Some line
refused_line (refused.Duplicate line) = Some line
refused_line refused.NoMemory = None
