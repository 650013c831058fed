-- The text of a coverage: its title, and a line for each goal.
use Rattle.std.specs.Prelude.{ℕ, zero, suc, List, [], ◌++◌, Option, Some, None, codes, slice_get, unwrap_or}
use Rattle.std.specs.List.{flat_map}
use Rattle.std.specs.Fmt.{decimal}
use Rattle.md_static.specs.declared.entry.Proc.{Proc}
use Rattle.md_static.specs.Tables.{Static}
use Rattle.md_cover.specs.declared.coverage.KindName.{KindName}
use Rattle.md_cover.specs.declared.coverage.KindName.TheVariants as kind
use Rattle.md_cover.specs.declared.coverage.GoalCount.{GoalCount}
use Rattle.md_cover.specs.Covered.{Covered}

-- ---- a procedure's full name

abbrev pub module_name : Static → ℕ → List ℕ
module_name s k = unwrap_or (slice_get s.modules k) []

-- module, name and number of arguments
abbrev pub full_name_of : Static → Option Proc → List ℕ
full_name_of s None = []
full_name_of s (Some p) = module_name s p.«module» ++ (codes "." ++ (p.name ++ (codes "/" ++ decimal p.arity)))

abbrev pub full_name : Static → ℕ → List ℕ
full_name s q = full_name_of s (slice_get s.procs q)

abbrev pub title_words : Static → ℕ → List ℕ
title_words s q = codes "mdprof cover " ++ (decimal q ++ (codes " " ++ (full_name s q ++ codes "\n")))

-- ---- a goal's line

abbrev pub kind_word : KindName → List ℕ
kind_word kind.True = codes "true"
kind_word kind.Fail = codes "fail"
kind_word kind.Unify = codes "unify"
kind_word kind.Arith = codes "arith"
kind_word kind.Compare = codes "compare"
kind_word kind.Write = codes "write"
kind_word kind.Call = codes "call"
kind_word kind.ClosureCall = codes "closure-call"
kind_word kind.Conj = codes "conj"
kind_word kind.Disj = codes "disj"
kind_word kind.If = codes "if"
kind_word kind.Not = codes "not"
kind_word kind.Some = codes "some"
kind_word kind.Error = codes "error"

-- two spaces for each depth
abbrev pub indent : ℕ → List ℕ
indent zero = []
indent (suc n) = indent n ++ codes "  "

abbrev pub turns_word : Option ℕ → List ℕ
turns_word None = codes "-"
turns_word (Some n) = decimal n

abbrev pub goal_words : GoalCount → List ℕ
goal_words g = codes "goal " ++ (decimal g.place ++ (codes " line " ++ (decimal g.line ++ (codes " " ++ (kind_word g.kind ++ (codes " turns " ++ (turns_word g.turns ++ codes "\n")))))))

abbrev pub goal_line : GoalCount → List ℕ
goal_line g = indent g.depth ++ goal_words g

abbrev pub goal_lines : List GoalCount → List ℕ
goal_lines gs = flat_map goal_line gs

abbrev pub cover_text : Static → Covered → List ℕ
cover_text s c = title_words s c.id ++ goal_lines c.goals
