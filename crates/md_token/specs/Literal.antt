-- What integers and strings stand for.
use Rattle.std.specs.Prelude.{ℕ, ◌+◌, ◌-◌, ◌*◌, Bool, true, false, ◌==◌, if◌then◌else◌, List, [], ◌∷◌, ◌++◌, take, drop, length, fold}

-- one more digit
abbrev pub with_digit : ℕ → ℕ → ℕ
with_digit n digit = 10 * n + (digit - 48)

-- the number of these digits, the first of which counts most
unfoldable pub number_of : List ℕ → ℕ
number_of digits = fold with_digit 0 digits

-- what a byte stands for behind a backslash
unfoldable pub meaning : ℕ → ℕ
meaning b = if b == 110 then 10 else if b == 116 then 9 else b

-- the bytes that a string stands for between its quotes; `escaped` says that a backslash stands before them
abbrev pub value_from : (escaped : Bool) → List ℕ → List ℕ
value_from escaped [] = []
value_from true (b ∷ bytes) = meaning b ∷ value_from false bytes
value_from false (b ∷ bytes) = (if b == 92 then [] else b ∷ []) ++ value_from (b == 92) bytes

-- a text without its first and its last byte
abbrev pub inside : List ℕ → List ℕ
inside text = take (length text - 2) (drop 1 text)

-- the value of a string that is written so, quotes included
unfoldable pub string_value : List ℕ → List ℕ
string_value text = value_from false (inside text)
