-- Which tokens have more than the limits allow, by the tokens before them.
use Rattle.std.specs.Prelude.{⊤, ◌==◌, ◌≡◌, ◌≢◌, ℕ, suc, ◌≤◌, ◌<◌, Bool, true as yes, false as no, if◌then◌else◌, List, [], ◌∷◌, length, drop}
use Rattle.md_token.specs.declared.kind.Kind.{Kind}
use Rattle.md_token.specs.declared.kind.Kind.TheVariants as kind
use Rattle.md_token.specs.Token.{Lexeme}
use Rattle.md_token.specs.Literal.{number_of, string_value}
use Rattle.md_reader.specs.Input.{Limits}
use Rattle.md_reader.specs.Rules.{qualifier_part, name_part}

-- ---- what is open behind some tokens

-- a goal in parentheses, or a list of types, arguments, modes or variables with so many commas so far
pub data Opened : Type 0 where
  AGoal : Opened
  AList : (commas : ℕ) → Opened

-- a place between two tokens: the kind of the token before it, and what is open there, the innermost first
pub record Point : Type 0 where
  pub last : Kind
  pub around : List Opened

-- before all tokens
abbrev pub beginning : Point
beginning = record { last = kind.Stop; around = [] }

-- behind a token of this kind a `(` opens a list; behind each other token it opens a goal
abbrev pub opens_list : Kind → Bool
opens_list kind.Name = yes
opens_list kind.Qualified = yes
opens_list kind.Pred = yes
opens_list kind.Call = yes
opens_list _ = no

abbrev pub opened : (last : Kind) → Opened
opened last = if opens_list last then AList 0 else AGoal

-- a comma is the innermost list's, if it stands directly in one
abbrev pub with_comma : List Opened → List Opened
with_comma (AList commas ∷ around) = AList (suc commas) ∷ around
with_comma around = around

abbrev pub open_behind : Kind → (last : Kind) → List Opened → List Opened
open_behind kind.Open last around = opened last ∷ around
open_behind kind.OpenList last around = AList 0 ∷ around
open_behind kind.Close last around = drop 1 around
open_behind kind.CloseList last around = drop 1 around
open_behind kind.Comma last around = with_comma around
open_behind _ last around = around

-- behind a token of this kind
abbrev pub behind : Kind → Point → Point
behind k p = record { last = k; around = open_behind k p.last p.around }

-- behind these tokens
abbrev pub past : Point → List Lexeme → Point
past p [] = p
past p (t ∷ ts) = past (behind t.kind p) ts

-- ---- what is more than the limits allow

-- A name, a part of a qualified name or a variable has too many bytes, or a string in its value, or an integer is too
-- great with its sign, which is the token before it.
pub data IsTooLong (limits : Limits) (last : Kind) (t : Lexeme) : Type 0 where
  name : t.kind ≡ kind.Name → limits.items < length t.text → IsTooLong limits last t
  variable : t.kind ≡ kind.Variable → limits.items < length t.text → IsTooLong limits last t
  qualifier : t.kind ≡ kind.Qualified → limits.items < length (qualifier_part t.text) → IsTooLong limits last t
  qualified : t.kind ≡ kind.Qualified → limits.items < length (name_part t.text) → IsTooLong limits last t
  string : t.kind ≡ kind.Text → limits.bytes < length (string_value t.text) → IsTooLong limits last t
  positive : t.kind ≡ kind.Integer → last ≢ kind.Minus → limits.integer < number_of t.text → IsTooLong limits last t
  negative : t.kind ≡ kind.Integer → last ≡ kind.Minus → suc limits.integer < number_of t.text → IsTooLong limits last t

-- the innermost list has this many commas
abbrev pub has_commas : ℕ → List Opened → Bool
has_commas n (AList commas ∷ around) = commas == n
has_commas n around = no

-- how many goals are around
abbrev pub goals : List Opened → ℕ
goals [] = 0
goals (AGoal ∷ around) = suc (goals around)
goals (AList commas ∷ around) = goals around

-- A token has more than the limits allow: it is too long itself, it begins an item behind the last one that its list may
-- have, or it is a `(` that opens one goal too many.
pub data Exceeds (limits : Limits) (p : Point) (t : Lexeme) : Type 0 where
  long : IsTooLong limits p.last t → Exceeds limits p t
  item : p.last ≡ kind.Comma → has_commas limits.items p.around ≡ yes → Exceeds limits p t
  goal : t.kind ≡ kind.Open → opens_list p.last ≡ no → limits.goals ≤ goals p.around → Exceeds limits p t

-- none of these tokens has more than the limits allow
abbrev pub AreWithin : Limits → Point → List Lexeme → Type 0
AreWithin limits p [] = ⊤
AreWithin limits p (t ∷ ts) = (Exceeds limits p t → ⊥) × AreWithin limits (behind t.kind p) ts
