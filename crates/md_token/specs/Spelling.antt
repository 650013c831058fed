-- What a token is, by its bytes alone, and how a text is cut into tokens: at each place the longest one is taken.
use Rattle.std.specs.Prelude.{◌≡◌, ◌≢◌, ℕ, ◌+◌, ◌≤◌, Bool, true, false, ◌||◌, ◌==◌, if◌then◌else◌, List, [], ◌∷◌, ◌++◌, length, codes, ⊤}
use Rattle.std.specs.Char.{is_ascii_digit, is_ascii_uppercase, is_ascii_lowercase}
use Rattle.md_token.specs.declared.kind.Kind.{Kind}
use Rattle.md_token.specs.declared.kind.Kind.TheVariants as kind
use Rattle.md_token.specs.Literal.{meaning}
use Rattle.md_token.specs.Token.{Lexeme, is_blank, is_percent, is_in_line, is_word_byte, is_escape, is_plain, word_kind, ends}

-- each byte passes a test
abbrev pub AllPass : (ℕ → Bool) → List ℕ → Type 0
AllPass p [] = ⊤
AllPass p (b ∷ w) = (p b ≡ true) × AllPass p w

-- bytes that stand for these bytes in a string, one byte or escape after the other
pub data Writes : (value bytes : List ℕ) → Type 0 where
  none : Writes [] []
  plain : (b : ℕ) (v w : List ℕ) → is_plain b ≡ true → (b == 34) ≡ false → (b == 92) ≡ false → Writes v w → Writes (b ∷ v) (b ∷ w)
  escape : (c : ℕ) (v w : List ℕ) → is_escape c ≡ true → Writes v w → Writes (meaning c ∷ v) (92 ∷ c ∷ w)

-- the signs
pub data IsSign : Kind → List ℕ → Type 0 where
  declare : IsSign kind.Declare (codes ":-")
  yields : IsSign kind.Yields (codes "--->")
  then_sign : IsSign kind.Then (codes "->")
  has_mode : IsSign kind.HasMode (codes "::")
  semicolon : IsSign kind.Semicolon (codes ";")
  comma : IsSign kind.Comma (codes ",")
  open_sign : IsSign kind.Open (codes "(")
  close : IsSign kind.Close (codes ")")
  open_list : IsSign kind.OpenList (codes "[")
  close_list : IsSign kind.CloseList (codes "]")
  equals : IsSign kind.Equals (codes "=")
  at_most : IsSign kind.AtMost (codes "=<")
  less : IsSign kind.Less (codes "<")
  greater : IsSign kind.Greater (codes ">")
  at_least : IsSign kind.AtLeast (codes ">=")
  plus : IsSign kind.Plus (codes "+")
  minus : IsSign kind.Minus (codes "-")
  times : IsSign kind.Times (codes "*")

-- These bytes are a token of this kind where those follow. The end sign alone goes by what follows it.
pub data IsToken (after : List ℕ) : Kind → List ℕ → Type 0 where
  name : (b : ℕ) (w : List ℕ) → is_ascii_lowercase b ≡ true → AllPass is_word_byte w → IsToken after (word_kind (b ∷ w)) (b ∷ w)
  qualified : (b c : ℕ) (v w : List ℕ) → is_ascii_lowercase b ≡ true → AllPass is_word_byte v → is_ascii_lowercase c ≡ true → AllPass is_word_byte w → IsToken after kind.Qualified (b ∷ (v ++ 46 ∷ c ∷ w))
  -- a `_` alone is none
  variable : (b : ℕ) (w : List ℕ) → (is_ascii_uppercase b || b == 95) ≡ true → AllPass is_word_byte w → b ∷ w ≢ codes "_" → IsToken after kind.Variable (b ∷ w)
  integer : (b : ℕ) (w : List ℕ) → is_ascii_digit b ≡ true → AllPass is_ascii_digit w → IsToken after kind.Integer (b ∷ w)
  string : (v w : List ℕ) → Writes v w → IsToken after kind.Text (34 ∷ (w ++ 34 ∷ []))
  sign : (k : Kind) (w : List ℕ) → IsSign k w → IsToken after k w
  end : ends after ≡ true → IsToken after kind.End (codes ".")

-- The text begins with this token, behind which the rest stands, and with no longer one.
pub record Begins (text : List ℕ) (k : Kind) (w after : List ℕ) : Type 0 where
  pub whole : text ≡ w ++ after
  pub token : IsToken after k w
  pub longest : (j : Kind) (v rest : List ℕ) → text ≡ v ++ rest → IsToken rest j v → length v ≤ length w

abbrev pub BeginsWithNone : List ℕ → Type 0
BeginsWithNone text = (k : Kind) (w after : List ℕ) → text ≡ w ++ after → IsToken after k w → ⊥

-- the line behind a byte of a line
abbrev pub line_behind : (b line : ℕ) → ℕ
line_behind b line = if b == 10 then line + 1 else line

-- a line ends here
abbrev pub ends_line : List ℕ → Bool
ends_line [] = true
ends_line (b ∷ bytes) = b == 10

-- From this line on the text is cut into these tokens, with white space and comments between them. Behind the last one
-- stands the end of the text, or Bad, where bytes make no token.
pub data Cut : (line : ℕ) → (text : List ℕ) → List Lexeme → Type 0 where
  stop : (line : ℕ) → Cut line [] (record { kind = kind.Stop; text = []; line = line } ∷ [])
  blank : (line b : ℕ) (text : List ℕ) (ts : List Lexeme) → is_blank b ≡ true → Cut (line_behind b line) text ts → Cut line (b ∷ text) ts
  comment : (line : ℕ) (w text : List ℕ) (ts : List Lexeme) → AllPass is_in_line w → ends_line text ≡ true → Cut line text ts → Cut line (37 ∷ (w ++ text)) ts
  token : (line : ℕ) (k : Kind) (text w after : List ℕ) (ts : List Lexeme) → Begins text k w after → Cut line after ts → Cut line text (record { kind = k; text = w; line = line } ∷ ts)
  bad : (line b : ℕ) (bytes : List ℕ) → is_blank b ≡ false → is_percent b ≡ false → BeginsWithNone (b ∷ bytes) → Cut line (b ∷ bytes) (record { kind = kind.Bad; text = []; line = line } ∷ [])
