-- How the tokens of a text go on past what it begins with.
use Rattle.std.proofs.Common.{◌≡◌, ℕ, zero, suc, ◌+◌, ◌≤◌, List, [], ◌∷◌, ◌++◌, length, get_or, take, drop, refl, add-one, sym, ap, ◌∙◌, arith, append_assoc}
use Rattle.md_token.specs.Token.{Lexeme, lexemes, prefix_at, put, more_of, line_past}
use Rattle.md_token.specs.declared.kind.Kind.{Kind}
use Rattle.md_token.specs.declared.scan.Prefix.{Prefix}
use Rattle.md_token.specs.declared.scan.Prefix.TheVariants as prefix

-- bytes that belong to what went before
pub skipped : (k line : ℕ) (text : List ℕ) → lexemes k line text ≡ lexemes 0 line (drop k text)
skipped zero line text = refl
skipped (suc k) line [] = refl
skipped (suc k) line (b ∷ text) = skipped k line text

-- a text that isn't empty begins with its prefix
pub past_prefix : (line : ℕ) (text : List ℕ) (f : Prefix) → 1 ≤ length text → f ≡ prefix_at (get_or text 0 0) (drop 1 text) → lexemes 0 line text ≡ put line (get_or text 0 0) (drop 1 text) f (lexemes 0 (line_past f (get_or text 0 0) line) (drop (more_of f + 1) text))
past_prefix line [] f h e = absurd (omega arith)
past_prefix line (b ∷ text) f h e = rw (← e, skipped (more_of f) (line_past f b line) text, add-one (more_of f)) refl

-- what was told and what is left, past a gap and past a token
pub past_gap : (told all : List Lexeme) (line line' more : ℕ) (rest : List ℕ) → 1 ≤ length rest → prefix.Gap more ≡ prefix_at (get_or rest 0 0) (drop 1 rest) → line' ≡ line_past (prefix.Gap more) (get_or rest 0 0) line → told ++ lexemes 0 line rest ≡ all → told ++ lexemes 0 line' (drop (more + 1) rest) ≡ all
past_gap told all line line' more rest h e l before = rw l (ap (λ (ts : List Lexeme). told ++ ts) (sym (past_prefix line rest (prefix.Gap more) h e)) ∙ before)

pub past_piece : (told all : List Lexeme) (line more : ℕ) (k : Kind) (rest : List ℕ) → 1 ≤ length rest → prefix.Piece k more ≡ prefix_at (get_or rest 0 0) (drop 1 rest) → told ++ lexemes 0 line rest ≡ all → (told ++ record { kind = k; text = take (more + 1) rest; line = line } ∷ []) ++ lexemes 0 line (drop (more + 1) rest) ≡ all
past_piece told all line more k [] h e before = absurd (omega arith)
past_piece told all line more k (b ∷ bytes) h e before = rw (append_assoc, add-one more) (ap (λ (ts : List Lexeme). told ++ ts) (sym (rw (add-one more) at (past_prefix line (b ∷ bytes) (prefix.Piece k more) h e))) ∙ before)
