-- The tokens of a text with their lines, found by going along its bytes. That they are what `Spelling` says is proved.
use Rattle.std.specs.Prelude.{ℕ, zero, suc, ◌+◌, ◌≤◌, ◌<◌, Bool, true, false, not, ◌&&◌, ◌||◌, ◌==◌, nat_le, if◌then◌else◌, List, [], ◌∷◌, length, take, drop, slice_index, Option, Some, None, option_map, codes}
use Rattle.std.specs.List.{prefix_len}
use Rattle.std.specs.Char.{is_ascii_digit, is_ascii_uppercase, is_ascii_lowercase, is_ascii_alphanumeric}
use Rattle.std.specs.Str.{bytes_eq}
use Rattle.md_token.specs.declared.kind.Kind.{Kind}
use Rattle.md_token.specs.declared.kind.Kind.TheVariants as kind
use Rattle.md_token.specs.declared.scan.Prefix.{Prefix}
use Rattle.md_token.specs.declared.scan.Prefix.TheVariants as prefix
use Rattle.md_token.specs.declared.string.Within.{Within}
use Rattle.md_token.specs.declared.string.Within.TheVariants as within

-- a token: its kind, the bytes that spell it, and its line
pub record Lexeme : Type 0 where
  pub kind : Kind
  pub text : List ℕ
  pub line : ℕ

-- space, tab, line feed, carriage return
abbrev pub is_blank : ℕ → Bool
is_blank b = ((b == 32 || b == 9) || b == 10) || b == 13

-- the byte that begins a comment, `%`
abbrev pub is_percent : ℕ → Bool
is_percent b = b == 37

-- a byte of a comment: any but a line feed
abbrev pub is_in_line : ℕ → Bool
is_in_line b = not (b == 10)

-- a byte of a name or a variable past its first: a letter, a digit or `_`
abbrev pub is_word_byte : ℕ → Bool
is_word_byte b = is_ascii_alphanumeric b || b == 95

-- there are bytes of a word, a byte that is none behind them, and more behind that one
abbrev pub HasParts : List ℕ → Type 0
HasParts text = (1 ≤ prefix_len is_word_byte text) × (prefix_len is_word_byte text + 1 < length text)

-- the words that are no names of predicates and functors; each other name is a Name
unfoldable pub word_kind : List ℕ → Kind
word_kind text =
    if bytes_eq text (codes "true") then kind.True
    else if bytes_eq text (codes "fail") then kind.Fail
    else if bytes_eq text (codes "not") then kind.Not
    else if bytes_eq text (codes "some") then kind.Some
    else if bytes_eq text (codes "call") then kind.Call
    else if bytes_eq text (codes "is") then kind.Is
    else if bytes_eq text (codes "pred") then kind.Pred
    else kind.Name

-- what follows a name makes it a qualifier: `.` and a lower-case letter
abbrev pub qualifies : List ℕ → Bool
qualifies after = slice_index after 0 == 46 && is_ascii_lowercase (slice_index after 1)

-- A token at the front of a text is its kind, and how many bytes it has after its first, b.

-- a name, or a qualified name, that begins with b
unfoldable pub name_at : ℕ → List ℕ → Kind × ℕ
name_at b bytes =
    let n = prefix_len is_word_byte bytes in
    if qualifies (drop n bytes) then (kind.Qualified, n + 1 + prefix_len is_word_byte (drop (n + 1) bytes))
    else (word_kind (b ∷ take n bytes), n)

-- a variable that begins with b; a `_` alone is none
unfoldable pub variable_at : ℕ → List ℕ → Option (Kind × ℕ)
variable_at b bytes =
    let n = prefix_len is_word_byte bytes in
    if b == 95 && n == 0 then None else Some (kind.Variable, n)

-- a byte that may follow a backslash in a string: one of n, t, the backslash and the quote
abbrev pub is_escape : ℕ → Bool
is_escape b = ((b == 110 || b == 116) || b == 92) || b == 34

-- a byte that stands for itself in a string
abbrev pub is_plain : ℕ → Bool
is_plain b = nat_le 32 b && not (b == 127)

-- where a string stands past a byte, of which `escaped` says whether a backslash before it escapes it
unfoldable pub past : (escaped : Bool) → ℕ → Within
past true b = if is_escape b then within.Whole else within.Broken
past false b =
    if b == 34 then within.Closed
    else if b == 92 then within.Escaping
    else if is_plain b then within.Whole
    else within.Broken

-- how many bytes a string has after its opening quote, of which n went before these
abbrev pub string_end : Within → ℕ → List ℕ → Option ℕ
string_end within.Closed n bytes = Some n
string_end within.Broken n bytes = None
string_end within.Whole n [] = None
string_end within.Whole n (b ∷ bytes) = string_end (past false b) (suc n) bytes
string_end within.Escaping n [] = None
string_end within.Escaping n (b ∷ bytes) = string_end (past true b) (suc n) bytes

unfoldable pub string_at : List ℕ → Option (Kind × ℕ)
string_at bytes = option_map (λ n. (kind.Text, n)) (string_end within.Whole 0 bytes)

-- a `.` that these bytes follow ends a clause or a declaration
abbrev pub ends : List ℕ → Bool
ends [] = true
ends (b ∷ bytes) = is_blank b || is_percent b

-- the signs of one byte that begin no longer sign
unfoldable pub single_at : ℕ → Option (Kind × ℕ)
single_at b =
    if b == 59 then Some (kind.Semicolon, 0)
    else if b == 44 then Some (kind.Comma, 0)
    else if b == 40 then Some (kind.Open, 0)
    else if b == 41 then Some (kind.Close, 0)
    else if b == 91 then Some (kind.OpenList, 0)
    else if b == 93 then Some (kind.CloseList, 0)
    else if b == 60 then Some (kind.Less, 0)
    else if b == 43 then Some (kind.Plus, 0)
    else if b == 42 then Some (kind.Times, 0)
    else None

-- the signs that begin with `:` and with `-`
unfoldable pub colon_at : List ℕ → Option (Kind × ℕ)
colon_at bytes =
    if slice_index bytes 0 == 45 then Some (kind.Declare, 1)
    else if slice_index bytes 0 == 58 then Some (kind.HasMode, 1)
    else None

unfoldable pub dash_at : List ℕ → Option (Kind × ℕ)
dash_at bytes =
    if slice_index bytes 0 == 62 then Some (kind.Then, 1)
    else if slice_index bytes 0 == 45 && (slice_index bytes 1 == 45 && slice_index bytes 2 == 62) then Some (kind.Yields, 3)
    else Some (kind.Minus, 0)

-- the longest sign that begins with b
unfoldable pub sign_at : ℕ → List ℕ → Option (Kind × ℕ)
sign_at b bytes =
    if b == 58 then colon_at bytes
    else if b == 45 then dash_at bytes
    else if b == 61 then (if slice_index bytes 0 == 60 then Some (kind.AtMost, 1) else Some (kind.Equals, 0))
    else if b == 62 then (if slice_index bytes 0 == 61 then Some (kind.AtLeast, 1) else Some (kind.Greater, 0))
    else if b == 46 then (if ends bytes then Some (kind.End, 0) else None)
    else single_at b

-- the token that begins with b, if one does
unfoldable pub token_at : ℕ → List ℕ → Option (Kind × ℕ)
token_at b bytes =
    if is_ascii_lowercase b then Some (name_at b bytes)
    else if is_ascii_uppercase b || b == 95 then variable_at b bytes
    else if is_ascii_digit b then Some (kind.Integer, prefix_len is_ascii_digit bytes)
    else if b == 34 then string_at bytes
    else sign_at b bytes

abbrev pub prefix_of_token : Option (Kind × ℕ) → Prefix
prefix_of_token None = prefix.Unknown
prefix_of_token (Some found) = prefix.Piece found.0 found.1

-- what a text begins with: white space or a comment, or a token, of so many bytes after the first; or bytes that make
-- no token
unfoldable pub prefix_at : ℕ → List ℕ → Prefix
prefix_at b bytes =
    if is_blank b then prefix.Gap 0
    else if is_percent b then prefix.Gap (prefix_len is_in_line bytes)
    else prefix_of_token (token_at b bytes)

abbrev pub more_of : Prefix → ℕ
more_of (prefix.Gap more) = more
more_of (prefix.Piece k more) = more
more_of prefix.Unknown = 0

-- a prefix, before the tokens of what comes later
abbrev pub put : (line b : ℕ) → List ℕ → Prefix → List Lexeme → List Lexeme
put line b bytes (prefix.Gap more) later = later
put line b bytes (prefix.Piece k more) later = record { kind = k; text = b ∷ take more bytes; line = line } ∷ later
put line b bytes prefix.Unknown later = record { kind = kind.Bad; text = []; line = line } ∷ []

-- the line past a prefix that begins with b on a line
abbrev pub line_past : Prefix → ℕ → ℕ → ℕ
line_past (prefix.Gap more) b line = if b == 10 then line + 1 else line
line_past (prefix.Piece k more) b line = line
line_past prefix.Unknown b line = line

-- The tokens of a text from a line on, whose first `skip` bytes belong to what went before. Behind the last one stands
-- Stop, which is the text's end, or Bad, where bytes make no token. No token and no comment has a line feed.
abbrev pub lexemes : (skip line : ℕ) → List ℕ → List Lexeme
lexemes skip line [] = record { kind = kind.Stop; text = []; line = line } ∷ []
lexemes (suc skip) line (b ∷ bytes) = lexemes skip line bytes
lexemes zero line (b ∷ bytes) = put line b bytes (prefix_at b bytes) (lexemes (more_of (prefix_at b bytes)) (line_past (prefix_at b bytes) b line) bytes)

-- the tokens of a whole text
unfoldable pub tokens_of : List ℕ → List Lexeme
tokens_of text = lexemes 0 1 text
