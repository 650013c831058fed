-- The text of a profile: lines of words with single spaces between them, each list behind the number of its members.
use Rattle.std.specs.Prelude.{ℕ, Bool, List, [], ◌∷◌, ◌++◌, length, map, flat_map, codes, decimal, Option, None, Some, if◌then◌else◌}
use Rattle.std.specs.List.{join_with_byte}
use Rattle.md_static.specs.declared.entry.Proc.{Proc}
use Rattle.md_static.specs.declared.entry.Site.{Site}
use Rattle.md_static.specs.Tables.{callee_of}
use Rattle.md_dynamic.specs.declared.link.LinkRow.{LinkRow}
use Rattle.md_dynamic.specs.Profile.{ProfileRows}
use Rattle.md_deepfile.specs.Bytes.{numbers_of}

-- the words of a line
abbrev pub Words : Type 0
Words = List (List ℕ)

-- a line: its words with single spaces between them, and LF
abbrev pub line : Words → List ℕ
line words = join_with_byte 32 words ++ 10 ∷ []

-- what stands for no number
abbrev pub dash : List ℕ
dash = codes "-"

-- a number, or `-` where there is none
abbrev pub or_dash : Option ℕ → List ℕ
or_dash None = dash
or_dash (Some n) = decimal n

-- a module: its name
abbrev pub module_words : List ℕ → Words
module_words name = name ∷ []

-- a procedure: module, name, arity
abbrev pub proc_words : Proc → Words
proc_words p = decimal p.module ∷ p.name ∷ decimal p.arity ∷ []

-- a call site: owner, line, and callee, which a higher-order site doesn't have
abbrev pub site_words : Site → Words
site_words x = decimal x.owner ∷ decimal x.line ∷ or_dash (callee_of x.kind) ∷ []

-- a context: its procedure
abbrev pub context_words : ℕ → Words
context_words p = decimal p ∷ []

-- a link: caller and site, which the root link doesn't have, callee, and its seven counts
abbrev pub link_words : LinkRow → Words
link_words l = or_dash l.caller ∷ or_dash l.site ∷ decimal l.callee ∷ map decimal (numbers_of l.own)

-- how many of a list there are
abbrev pub count_words : List ℕ → ℕ → Words
count_words name n = name ∷ decimal n ∷ []

-- a list: how many there are, and a line for each
abbrev pub listed : {X : Type 0} → List ℕ → (X → Words) → List X → List Words
listed name words xs = count_words name (length xs) ∷ map words xs

-- the first line, which names the version
abbrev pub title_words : Words
title_words = codes "mdprof" ∷ codes "dump" ∷ codes "2" ∷ []

abbrev pub yes_or_no : Bool → List ℕ
yes_or_no finished = if finished then codes "yes" else codes "no"

-- whether the run was finished
abbrev pub finished_words : Bool → Words
finished_words finished = codes "finished" ∷ yes_or_no finished ∷ []

abbrev pub dump_lines : ProfileRows → List Words
dump_lines f = title_words ∷ finished_words f.finished
    ∷ (listed (codes "modules") module_words f.statics.modules
    ++ (listed (codes "procs") proc_words f.statics.procs
    ++ (listed (codes "sites") site_words f.statics.sites
    ++ (listed (codes "contexts") context_words f.nodes
    ++ listed (codes "links") link_words f.links))))

-- the text of a profile
abbrev pub dump_text : ProfileRows → List ℕ
dump_text f = flat_map line (dump_lines f)
