-- A text as its reader sees it: which line is due, and which line is the first at fault.
use Rattle.std.specs.Prelude.{ℕ, ◌+◌, ◌-◌, ◌==◌, Bool, List, [], ◌∷◌, length, Option, None, Some, Result, Ok, Err, if◌then◌else◌}
use Rattle.std.specs.List.{slice_split}
use Rattle.md_dynamic.specs.Profile.{ProfileRows}
use Rattle.md_deepfile.specs.Rules.{orphan_from}

-- No line is due any more, with what was read; a line is due, and what is due behind it; or the line before is at fault.
pub data Due : Type 0 where
  done : ProfileRows → Due
  line : (List ℕ → Due) → Due
  fault : Due

-- a rule on the line before
abbrev pub must : Bool → Due → Due
must fine next = if fine then next else fault

-- the line before has this form
abbrev pub given : {X : Type 0} → Option X → (X → Due) → Due
given None next = fault
given (Some x) next = next x

-- how many lines stand behind that of context v: the later contexts, the number of links, and the links
abbrev pub lines_behind : ProfileRows → ℕ → ℕ
lines_behind f v = (length f.nodes - v) + length f.links

-- a text of so many lines is whole; the lowest context above 0 that is reached from none of a lower number is at fault
abbrev pub reached : ℕ → ProfileRows → Option ℕ → Result ProfileRows ℕ
reached lines f None = Ok f
reached lines f (Some v) = Err (lines - lines_behind f v)

abbrev pub whole : ℕ → ProfileRows → Result ProfileRows ℕ
whole lines f = reached lines f (orphan_from f.links 1 (length f.nodes - 1))

-- the lines of a text, and last what follows its last LF
abbrev pub parts_of : List ℕ → List (List ℕ)
parts_of text = slice_split (λ b. b == 10) text

-- What these parts spell behind so many lines, or the first line at fault. The last part is no line: where a line is due
-- there, or bytes stand there, it is at fault.
abbrev pub read : Due → ℕ → List (List ℕ) → Result ProfileRows ℕ
read fault before parts = Err before
read (line next) before [] = Err (before + 1)
read (line next) before (last ∷ []) = Err (before + 1)
read (line next) before (first ∷ second ∷ parts) = read (next first) (before + 1) (second ∷ parts)
read (done f) before [] = whole before f
read (done f) before ([] ∷ []) = whole before f
read (done f) before ((b ∷ bs) ∷ []) = Err (before + 1)
read (done f) before (first ∷ second ∷ parts) = Err (before + 1)
