-- What a parser reads from, and the steps that every rule is made of.
use Rattle.std.specs.Prelude.{◌≡◌, ◌≢◌, ℕ, ◌+◌, Bool, not, ◌&&◌, if◌then◌else◌, ◌==◌, nat_lt, List, [], ◌∷◌, ◌++◌, length, drop, Result, Ok, Err}
use Rattle.std.specs.List.{position_or_len, list_any}
use Rattle.std.specs.Str.{bytes_eq}
use Rattle.md_token.specs.declared.kind.Kind.{Kind}
use Rattle.md_token.specs.declared.kind.Kind.TheVariants as kind
use Rattle.md_token.specs.Kinds.{same_kind}
use Rattle.md_token.specs.Lexemes.{lexemes_of}
use Rattle.md_token.specs.Token.{Lexeme}
use Rattle.md_reader.specs.declared.refused.Place.{Place}
use Rattle.md_reader.specs.declared.refused.Refusal.{Refusal}
use Rattle.md_reader.specs.declared.refused.Refusal.TheVariants.{Syntax, Limit, NoMemory}
use Rattle.md_reader.specs.declared.input.Input.{Input as Cursor}

-- the greatest of what a program may have
pub record Limits : Type 0 where
  -- bytes of a name, and items of a list of arguments or variables
  pub items : ℕ
  -- goals that are open at a place
  pub goals : ℕ
  -- bytes of a string's value
  pub bytes : ℕ
  -- the greatest integer, of 64 bits with its sign
  pub integer : ℕ

-- the limits of the product
abbrev pub standard : Limits
standard = record { items = 255; goals = 200; bytes = 65535; integer = 9223372036854775807 }

pub record Input : Type 0 where
  -- the tokens from the next one on
  pub rest : List Lexeme
  -- the name of the program's own module
  pub home : List ℕ
  -- the names of the clause's variables so far, in order of first occurrence
  pub vars : List (List ℕ)
  -- how many call sites there are so far
  pub sites : ℕ
  -- the limits that hold
  pub limits : Limits

unfoldable pub input_of : Cursor → Input
input_of c = record { rest = lexemes_of c.rest.now; home = c.home.now; vars = c.scope; sites = c.sites; limits = standard }

-- ---- the next token

abbrev pub first : List Lexeme → Lexeme
first [] = record { kind = kind.Stop; text = []; line = 0 }
first (t ∷ ts) = t

unfoldable pub token : Input → Lexeme
token i = first i.rest

abbrev pub kind_at : Input → Kind
kind_at i = (token i).kind

unfoldable pub sees : Kind → Input → Bool
sees k i = same_kind (token i).kind k

unfoldable pub next : Input → Input
next i = record i { rest = drop 1 i.rest }

-- the line of the next token, and how many tokens there are from it on
unfoldable pub place : Input → Place
place i = record { line = (token i).line; left = length i.rest }

-- ---- parsers

abbrev pub Outcome : Type 0 → Type 0
Outcome A = Result (A × Input) Refusal

abbrev pub Parser : Type 0 → Type 0
Parser A = Input → Outcome A

abbrev pub and_then : {A B : Type 0} → Outcome A → (A → Parser B) → Outcome B
and_then (Ok p) f = f p.0 p.1
and_then (Err e) f = Err e

infixl 10 ◌>>=◌
abbrev pub ◌>>=◌ : {A B : Type 0} → Parser A → (A → Parser B) → Parser B
p >>= f = λ i. and_then (p i) f

infixl 10 ◌>>◌
abbrev pub ◌>>◌ : {A B : Type 0} → Parser A → Parser B → Parser B
p >> q = p >>= (λ _. q)

abbrev pub pure : {A : Type 0} → A → Parser A
pure a = λ i. Ok (a, i)

-- the next token is at fault, for syntax or for a limit
abbrev pub refuse : {A : Type 0} → Parser A
refuse = λ i. Err (Syntax (place i))

abbrev pub limit : {A : Type 0} → Parser A
limit = λ i. Err (Limit (place i))

abbrev pub peek : Parser Lexeme
peek = λ i. Ok (token i, i)

-- takes the next token, whatever its kind
abbrev pub advance : Parser (Unit {0})
advance = λ i. Ok (tt, next i)

unfoldable pub after : Kind → Input → Input
after k i = if sees k i then next i else i

-- takes a token of this kind, if it comes next
abbrev pub eat : Kind → Parser Bool
eat k = λ i. Ok (sees k i, after k i)

-- takes a token of this kind, and gives its line
unfoldable pub expect : Kind → Parser ℕ
expect k = λ i. if sees k i then Ok ((token i).line, next i) else refuse i

-- the bound on turns of a loop that takes a token each time
abbrev pub turns : Input → ℕ
turns i = length i.rest

-- ---- names

-- the next token, if its bytes are no more than a name may have
unfoldable pub take_name : List ℕ → Parser (List ℕ)
take_name text = λ i. if nat_lt i.limits.items (length text) then limit i else Ok (text, next i)

-- a name of the program's own choice
unfoldable pub name : Parser (List ℕ)
name = λ i. if sees kind.Name i then take_name (token i).text i else refuse i

-- a name that is this word
unfoldable pub word : List ℕ → Parser ℕ
word w = λ i. if sees kind.Name i && bytes_eq (token i).text w then Ok ((token i).line, next i) else refuse i

-- ---- variables

-- the place of a name among those of the clause, or how many there are where it is new
abbrev pub place_of : List ℕ → List (List ℕ) → ℕ
place_of x vars = position_or_len (bytes_eq x) vars

unfoldable pub with_variable : List ℕ → List (List ℕ) → List (List ℕ)
with_variable x vars = if place_of x vars == length vars then vars ++ x ∷ [] else vars

-- a variable that is none of these
unfoldable pub variable : List ℕ → Parser ℕ
variable seen = λ i.
    if not (sees kind.Variable i) then refuse i
    else if list_any (λ x. x == place_of (token i).text i.vars) seen then refuse i
    else if nat_lt i.limits.items (length (token i).text) then limit i
    else Ok (place_of (token i).text i.vars, record (next i) { vars = with_variable (token i).text i.vars })

-- the names of the clause's variables, at its end
unfoldable pub end_clause : Parser (List (List ℕ))
end_clause = λ i. Ok (i.vars, record i { vars = [] })

-- the next number of a call site
unfoldable pub site : Parser ℕ
site = λ i. Ok (i.sites, record i { sites = i.sites + 1 })

-- ---- what a function that parses ensures: the outcome, unless memory is refused

abbrev pub Reads : {X A : Type 0} → (X → A) → Outcome A → Result X Refusal → Input → Type 0
Reads view outcome (Ok x) new = outcome ≡ Ok (view x, new)
Reads view outcome (Err e) new = e ≢ NoMemory → outcome ≡ Err e
