-- Tokens, each with a space, before a text; and the reader's input there.
use Rattle.std.proofs.Common.{◌≡◌, ℕ, ◌+◌, ◌≤◌, List, [], ◌∷◌, ◌++◌, refl, ap, ◌∙◌, append_assoc, drop, subst, arith}
use Rattle.md_token.specs.declared.kind.Kind.{Kind}
use Rattle.md_token.specs.declared.kind.Kind.TheVariants as kind
use Rattle.md_token.specs.Token.{Lexeme, lexemes}
use Rattle.md_token.proofs.Spelled.{Reads, lexeme, token_read, at_end}
use Rattle.md_token.proofs.SpelledTokens.{AllFine}
use Rattle.md_reader.specs.Input.{Input, Limits, standard, next}
use Rattle.md_printer.specs.Layout.{Tokens, laid, sentence}

abbrev pub onto : Tokens → List ℕ → List ℕ
onto [] s = s
onto (t ∷ ts) s = t ++ 32 ∷ onto ts s

pub onto-append : (ts us : Tokens) (s : List ℕ) → onto (ts ++ us) s ≡ onto ts (onto us s)
onto-append [] us s = refl
onto-append (t ∷ ts) us s = ap (λ (r : List ℕ). t ++ 32 ∷ r) (onto-append ts us s)

pub laid_onto : (ts : Tokens) (s : List ℕ) → laid ts ++ s ≡ onto ts s
unfolding laid
laid_onto [] s = refl
laid_onto (t ∷ ts) s =
    append_assoc (t ++ 32 ∷ []) (laid ts) s
    ∙ append_assoc t (32 ∷ []) (laid ts ++ s)
    ∙ ap (λ (r : List ℕ). t ++ 32 ∷ r) (laid_onto ts s)

pub sentence_onto : (ts : Tokens) (s : List ℕ) → sentence ts ++ s ≡ onto ts (46 ∷ 10 ∷ s)
unfolding sentence
sentence_onto ts s = append_assoc (laid ts) (46 ∷ 10 ∷ []) s ∙ laid_onto ts (46 ∷ 10 ∷ s)

-- the limits
abbrev pub most : ℕ
most = standard.items

abbrev pub greatest : ℕ
greatest = standard.integer

abbrev pub most_bytes : ℕ
most_bytes = standard.bytes

-- an input with other tokens before it
abbrev pub upon : List Lexeme → Input → Input
upon ts i = record i { rest = ts; limits = standard }

-- an input at a text, on a line
unfoldable pub at : (line : ℕ) → List ℕ → Input → Input
at line s i = upon (lexemes 0 line s) i

pub at_token : (k : Kind) (t : List ℕ) → Reads k t → (n : ℕ) (s : List ℕ) (i : Input) → at n (t ++ 32 ∷ s) i ≡ upon (lexeme k t n ∷ lexemes 0 n s) i
unfolding at
at_token k t r n s i = ap (λ (ts : List Lexeme). upon ts i) (token_read k t n s r)

pub at_stop : (n : ℕ) (s : List ℕ) (i : Input) → at n (46 ∷ 10 ∷ s) i ≡ upon (lexeme kind.End (46 ∷ []) n ∷ lexemes 0 (n + 1) s) i
unfolding at
at_stop n s i = ap (λ (ts : List Lexeme). upon ts i) (at_end n s)

-- the bytes of the tokens that come are known, and so are the limits
abbrev pub Good : Input → Type 0
Good i = AllFine i.rest × (i.limits ≡ standard)

after : (ts : List Lexeme) → AllFine ts → AllFine (drop 1 ts)
after [] g = g
after (t ∷ ts) g = g.1

pub next_good : (i : Input) → Good i → Good (next i)
unfolding next
next_good i g = (after i.rest g.0, g.1)

-- what holds by a limit there holds by that of the product
pub known : (f : Limits → ℕ) (i : Input) → Good i → (P : ℕ → Type 0) → P (f i.limits) → P (f standard)
known f i g P p = subst (λ (l : Limits). P (f l)) g.1 p

pub few_at : (m n : ℕ) (s : List ℕ) (i j : Input) → Good i → m ≤ i.limits.items → m ≤ (at n s j).limits.items
unfolding at
few_at m n s i j g few = known (λ l. l.items) i g (λ k. m ≤ k) few

pub goals_at : (n : ℕ) (s : List ℕ) (i j : Input) → Good i → i.limits.goals ≤ (at n s j).limits.goals
unfolding at
goals_at n s i j g = known (λ l. l.goals) i g (λ k. i.limits.goals ≤ k) (omega arith)
