-- How tokens are laid out: each is followed by one space, and the end sign by a line feed.
use Rattle.std.specs.Prelude.{ℕ, List, [], ◌∷◌, ◌++◌, codes}
use Rattle.std.specs.List.{flat_map}

abbrev pub Tokens : Type 0
Tokens = List (List ℕ)

abbrev pub spaced : List ℕ → List ℕ
spaced token = token ++ codes " "

unfoldable pub laid : Tokens → List ℕ
laid ts = flat_map spaced ts

-- a declaration or a clause: its tokens, and the end sign
unfoldable pub sentence : Tokens → List ℕ
sentence ts = laid ts ++ codes ".\n"

abbrev pub in_parentheses : Tokens → Tokens
in_parentheses ts = codes "(" ∷ (ts ++ codes ")" ∷ [])

-- what follows the first one of a list: a sign and one more, each time
abbrev pub further : {A : Type 0} → (A → Tokens) → (sign : List ℕ) → List A → Tokens
further tokens sign xs = flat_map (λ x. sign ∷ tokens x) xs

-- one after the other, with a sign between them
abbrev pub separated : {A : Type 0} → (A → Tokens) → (sign : List ℕ) → List A → Tokens
separated tokens sign [] = []
separated tokens sign (x ∷ xs) = tokens x ++ further tokens sign xs

-- nothing, or arguments in parentheses
abbrev pub arguments : {A : Type 0} → (A → Tokens) → List A → Tokens
arguments tokens [] = []
arguments tokens (x ∷ xs) = in_parentheses (separated tokens (codes ",") (x ∷ xs))
