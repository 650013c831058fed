-- What numbers look like in a cell.
use Rattle.std.specs.Prelude.{ℕ, ◌*◌, ◌/◌, ◌%◌, ◌-◌, ◌==◌, nat_lt, min, List, ◌++◌, codes, if◌then◌else◌, replicate}
use Rattle.std.specs.Fmt.{decimal}

-- a number of tenths: the wholes, a point, and one digit
abbrev pub tenths_words : (tenths : ℕ) → List ℕ
tenths_words tenths = decimal (tenths / 10) ++ (codes "." ++ decimal (tenths % 10))

-- the share of a part in the whole, in tenths of a hundredth, rounded down; of nothing there is no share
abbrev pub share_of : (part whole : ℕ) → ℕ
share_of part whole = if whole == 0 then 0 else 1000 * part / whole

abbrev pub share_words : (part whole : ℕ) → List ℕ
share_words part whole = tenths_words (share_of part whole)

-- how much of a total there is for each of so many, in tenths, rounded down; where there are none, nothing can be said
abbrev pub ratio_words : (total count : ℕ) → List ℕ
ratio_words total count = if count == 0 then codes "-" else tenths_words (10 * total / count)

-- how much more is new than old, with its sign, which is `+` where both are equal
abbrev pub change_words : (old new : ℕ) → List ℕ
change_words old new = if nat_lt new old then codes "-" ++ decimal (old - new) else codes "+" ++ decimal (new - old)

-- two spaces for each level, and for level 100 and all deeper ones the same two hundred
abbrev pub indent_of : (level : ℕ) → List ℕ
indent_of level = replicate (2 * min level 100) 32
