-- Which token of a text is at fault, and for what, by the grammar alone.
use Rattle.std.specs.Prelude.{◌≡◌, ℕ, true as yes, List, [], ◌∷◌, ◌++◌}
use Rattle.md_hlds.specs.Hlds.{Hlds}
use Rattle.md_token.specs.declared.kind.Kind.TheVariants as kind
use Rattle.md_token.specs.Token.{Lexeme, tokens_of}
use Rattle.md_reader.specs.Input.{Input, Limits, standard, sees}
use Rattle.md_reader.specs.Rules.{start, start_within}
use Rattle.md_reader.specs.Grammar.{Program}
use Rattle.md_reader.specs.Excess.{beginning, past, Exceeds, AreWithin}

-- ---- what a program begins with

-- the end of a text
abbrev pub the_end : Lexeme
the_end = record { kind = kind.Stop; text = []; line = 0 }

-- A program within these limits begins with these tokens: with others behind them, up to the end, they are a program's
-- by the grammar.
pub record BeginsWithin (limits : Limits) (ts : List Lexeme) : Type 0 where
  pub later : List Lexeme
  pub listing : Hlds
  pub end : Input
  pub program : Program listing (start_within limits (ts ++ (later ++ the_end ∷ []))) end
  pub whole : sees kind.Stop end ≡ yes

-- A program, within whatever limits, begins with these tokens.
pub record Begins (ts : List Lexeme) : Type 0 where
  pub limits : Limits
  pub within : BeginsWithin limits ts

-- ---- the token at fault

-- The first token at fault is at fault for syntax, and stands in this line: a program begins with the tokens before it,
-- none of which has more than the limits allow, and no program, whatever its limits, begins with those up to and with it.
pub record IsSyntaxFault (text : List ℕ) (line : ℕ) : Type 0 where
  pub before : List Lexeme
  pub token : Lexeme
  pub later : List Lexeme
  pub tokens : tokens_of text ≡ before ++ token ∷ later
  pub here : token.line ≡ line
  pub begins : Begins before
  pub within : AreWithin standard beginning before
  pub none : Begins (before ++ token ∷ []) → ⊥

-- The first token at fault is at fault for a limit, and stands in this line: a program begins with the tokens up to and
-- with it, and it has more than the limits of the product allow, but none of those before it has.
pub record IsLimitFault (text : List ℕ) (line : ℕ) : Type 0 where
  pub before : List Lexeme
  pub token : Lexeme
  pub later : List Lexeme
  pub tokens : tokens_of text ≡ before ++ token ∷ later
  pub here : token.line ≡ line
  pub begins : Begins (before ++ token ∷ [])
  pub within : AreWithin standard beginning before
  pub exceeds : Exceeds standard (past beginning before) token

-- ---- the same of the tokens of texts

-- A text's tokens, all of them, are a program's by the grammar, within the limits of the product, and these are the first
-- of them.
pub record TextBegins (ts : List Lexeme) : Type 0 where
  pub text : List ℕ
  pub later : List Lexeme
  pub listing : Hlds
  pub end : Input
  pub tokens : tokens_of text ≡ ts ++ later
  pub program : Program listing (start (tokens_of text)) end
  pub whole : sees kind.Stop end ≡ yes

-- In this line of the text stands a token up to and with which the tokens begin no such text.
pub record IsAtFault (text : List ℕ) (line : ℕ) : Type 0 where
  pub before : List Lexeme
  pub token : Lexeme
  pub later : List Lexeme
  pub tokens : tokens_of text ≡ before ++ token ∷ later
  pub here : token.line ≡ line
  pub none : TextBegins (before ++ token ∷ []) → ⊥
