-- Behind the last token of a text stands the end, or bytes that make no token.
use Rattle.std.proofs.Common.{◌≡◌, ℕ, zero, suc, List, [], ◌∷◌, refl, Bool, true, false, ◌&&◌, ◌⊎◌, inl, inr}
use Rattle.md_token.specs.Kinds.{is_final}
use Rattle.md_token.specs.declared.scan.Prefix.{Prefix}
use Rattle.md_token.specs.declared.scan.Prefix.TheVariants as prefix
use Rattle.md_token.specs.Token.{Lexeme, lexemes, tokens_of, put, prefix_at, more_of, line_past}

abbrev pub is_empty : List ℕ → Bool
is_empty [] = true
is_empty (b ∷ bytes) = false

-- the token behind which a text ends
abbrev pub is_end : Lexeme → Bool
is_end t = is_final t.kind && is_empty t.text

abbrev pub HasEnd : List Lexeme → Type 0
HasEnd [] = ⊥
HasEnd (t ∷ ts) = (is_end t ≡ true) ⊎ HasEnd ts

put_end : (line b : ℕ) (bytes : List ℕ) (f : Prefix) (later : List Lexeme) → HasEnd later → HasEnd (put line b bytes f later)
put_end line b bytes (prefix.Gap more) later h = h
put_end line b bytes (prefix.Piece k more) later h = inr h
put_end line b bytes prefix.Unknown later h = inl refl

lexemes_end : (skip line : ℕ) (text : List ℕ) → HasEnd (lexemes skip line text)
lexemes_end skip line [] = inl refl
lexemes_end (suc skip) line (b ∷ bytes) = lexemes_end skip line bytes
lexemes_end zero line (b ∷ bytes) = put_end line b bytes (prefix_at b bytes) _ (lexemes_end (more_of (prefix_at b bytes)) (line_past (prefix_at b bytes) b line) bytes)

pub tokens_end : (text : List ℕ) → HasEnd (tokens_of text)
unfolding tokens_of
tokens_end text = lexemes_end 0 1 text
