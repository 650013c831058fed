-- A text has no more tokens than bytes, and its end.
use Rattle.std.proofs.Common.{ℕ, zero, suc, ◌+◌, ◌≤◌, List, [], ◌∷◌, length, arith}
use Rattle.md_token.specs.declared.scan.Prefix.{Prefix}
use Rattle.md_token.specs.declared.scan.Prefix.TheVariants as prefix
use Rattle.md_token.specs.Token.{Lexeme, lexemes, tokens_of, put, prefix_at, more_of, line_past}

put_few : (line b : ℕ) (bytes : List ℕ) (f : Prefix) (later : List Lexeme) → length later ≤ length bytes + 1 → length (put line b bytes f later) ≤ suc (length bytes) + 1
put_few line b bytes (prefix.Gap more) later h = omega (arith, h)
put_few line b bytes (prefix.Piece k more) later h = omega (arith, h)
put_few line b bytes prefix.Unknown later h = omega arith

lexemes_few : (skip line : ℕ) (text : List ℕ) → length (lexemes skip line text) ≤ length text + 1
lexemes_few skip line [] = omega arith
lexemes_few (suc skip) line (b ∷ bytes) = let h = lexemes_few skip line bytes in omega (arith, h)
lexemes_few zero line (b ∷ bytes) = put_few line b bytes (prefix_at b bytes) _ (lexemes_few (more_of (prefix_at b bytes)) (line_past (prefix_at b bytes) b line) bytes)

pub few_tokens : (text : List ℕ) → length (tokens_of text) ≤ length text + 1
unfolding tokens_of
few_tokens text = lexemes_few 0 1 text
