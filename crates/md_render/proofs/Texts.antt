-- Texts whose words are known.
use Rattle.std.proofs.Common.{◌≡◌, ℕ, zero, suc, Bool, true, false, List, [], ◌∷◌, ◌++◌, refl, ap, replicate}
use Rattle.std.specs.Prelude.{◌==◌, ◌||◌}
use Rattle.std.specs.List.{list_any}
use Rattle.md_table.specs.Anchors.{behind_html, text_html, word_html, words_of}

abbrev pub has_space : List ℕ → Bool
has_space word = list_any (λ b. b == 32) word

-- the words behind a word
abbrev pub words_behind : List ℕ → List (List ℕ)
words_behind [] = []
words_behind (b ∷ bs) = (words_of bs).0 ∷ (words_of bs).1

-- behind a word a text ends, or goes on with a space
abbrev pub IsBehind : List ℕ → Type 0
IsBehind [] = Unit {0}
IsBehind (b ∷ bs) = b ≡ 32

pub neither : (a b : Bool) → (a || b) ≡ false → (a ≡ false) × (b ≡ false)
neither false b e = (refl, e)
neither true b e = absurd (cc)

pub word_ends : (word rest : List ℕ) → has_space word ≡ false → IsBehind rest → words_of (word ++ rest) ≡ (word, words_behind rest)
word_ends [] [] none is = refl
word_ends [] (b ∷ bs) none is = rw is refl
word_ends (c ∷ cs) rest none is =
    let both = neither (c == 32) (has_space cs) none in
    rw (both.0, word_ends cs rest both.1 is) refl

-- the first word of a text
pub text_begins : (by word rest : List ℕ) → has_space word ≡ false → IsBehind rest → text_html by (word ++ rest) ≡ word_html by [] word ++ behind_html by word (words_behind rest)
text_begins by word rest none is = ap (λ (ws : List ℕ × List (List ℕ)). word_html by [] ws.0 ++ behind_html by ws.0 ws.1) (word_ends word rest none is)

-- one more word
pub text_goes_on : (by before word rest : List ℕ) → has_space word ≡ false → IsBehind rest
    → behind_html by before (words_behind (32 ∷ (word ++ rest))) ≡ 32 ∷ (word_html by before word ++ behind_html by word (words_behind rest))
text_goes_on by before word rest none is =
    ap (λ (ws : List ℕ × List (List ℕ)). 32 ∷ (word_html by before ws.0 ++ behind_html by ws.0 ws.1)) (word_ends word rest none is)

-- spaces before a text stay
pub spaces_stay : (by : List ℕ) (n : ℕ) (text : List ℕ) → text_html by (replicate n 32 ++ text) ≡ replicate n 32 ++ text_html by text
spaces_stay by zero text = refl
spaces_stay by (suc n) text = ap (λ (xs : List ℕ). 32 ∷ xs) (spaces_stay by n text)
