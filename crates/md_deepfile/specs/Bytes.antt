-- The bytes of a profile: its fields in order, each number with its least byte first.
use Rattle.std.specs.Prelude.{ℕ, Bool, List, [], ◌∷◌, ◌++◌, length, take, Option, None, Some, flat_map, if◌then◌else◌}
use Rattle.std.specs.Int.{w32, to_le_bytes}
use Rattle.md_base.specs.declared.measure.Counts.{Counts}
use Rattle.md_static.specs.declared.entry.Proc.{Proc}
use Rattle.md_static.specs.declared.entry.Site.{Site}
use Rattle.md_static.specs.Tables.{callee_of}
use Rattle.md_dynamic.specs.declared.link.LinkRow.{LinkRow}
use Rattle.md_dynamic.specs.Profile.{ProfileRows}

-- a number of four bytes
unfoldable pub u32 : ℕ → List ℕ
u32 n = to_le_bytes w32 n

-- what stands for no number
abbrev pub none : ℕ
none = 4294967295

abbrev pub or_none : Option ℕ → ℕ
or_none None = none
or_none (Some n) = n

-- a name: its length in one byte, and its bytes
abbrev pub name_bytes : List ℕ → List ℕ
name_bytes name = length name ∷ name

abbrev pub proc_bytes : Proc → List ℕ
proc_bytes p = u32 p.module ++ (name_bytes p.name ++ p.arity ∷ [])

abbrev pub site_bytes : Site → List ℕ
site_bytes x = u32 x.owner ++ (u32 x.line ++ u32 (or_none (callee_of x.kind)))

-- the counts of a link in their order
abbrev pub numbers_of : Counts → List ℕ
numbers_of own = own.calls ∷ own.exits ∷ own.fails ∷ own.redos ∷ own.allocs ∷ own.words ∷ own.excps ∷ []

-- a link with the first k of its counts
abbrev pub link_bytes : ℕ → LinkRow → List ℕ
link_bytes k l = u32 (or_none l.caller) ++ (u32 (or_none l.site) ++ (u32 l.callee ++ flat_map u32 (take k (numbers_of l.own))))

-- a list: how many there are, and each
abbrev pub each : {X : Type 0} → (X → List ℕ) → List X → List ℕ
each spell xs = u32 (length xs) ++ flat_map spell xs

-- `MDPROF0`
abbrev pub magic : List ℕ
magic = 77 ∷ 68 ∷ 80 ∷ 82 ∷ 79 ∷ 70 ∷ 48 ∷ []

abbrev pub flag_byte : Bool → ℕ
flag_byte finished = if finished then 1 else 0

-- what follows the magic and the version, where links have k counts
abbrev pub body_bytes : ℕ → ProfileRows → List ℕ
body_bytes k f = flag_byte f.finished ∷ (each name_bytes f.statics.modules ++ (each proc_bytes f.statics.procs ++ (each site_bytes f.statics.sites ++ (each u32 f.nodes ++ each (link_bytes k) f.links))))

-- the file of version 2, whose links have seven counts
abbrev pub file_bytes : ProfileRows → List ℕ
file_bytes f = magic ++ 50 ∷ body_bytes 7 f

-- the file of version 1, whose links have six
abbrev pub file_bytes1 : ProfileRows → List ℕ
file_bytes1 f = magic ++ 49 ∷ body_bytes 6 f
