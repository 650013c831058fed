-- What one token took can be filled up: the rules that take one token.
use Rattle.std.proofs.Common.{◌≡◌, ℕ, ◌≤◌, ◌<◌, List, [], ◌∷◌, length, drop, refl, Bool, true, false, cond, ◌&&◌, inl, inr, Ok, sym, ap, ◌∙◌, arith, nat_lt}
use Rattle.std.specs.Prelude.{⊤, codes}
use Rattle.std.specs.Str.{bytes_eq}
use Rattle.std.proofs.lemmas.Slice.Eq.{bytes_eq-Decides}
use Rattle.md_token.specs.declared.kind.Kind.{Kind}
use Rattle.md_token.specs.declared.kind.Kind.TheVariants as kind
use Rattle.md_token.specs.Token.{Lexeme}
use Rattle.md_reader.specs.Input.{Input, Parser, refuse, limit, advance, expect, word, name, take_name, first, place, token, kind_at, sees, next}
use Rattle.md_reader.proofs.Steps.{same_itself}
use Rattle.md_reader.proofs.Taking.{kind_seen}
use Rattle.md_reader.proofs.Fills.{upon, Or, Every, State, Run, Law, Fill, Fills, refused_at}

-- ---- tokens

-- a token that isn't the end of the text
abbrev pub live : Kind → Bool
live kind.Stop = false
live _ = true

-- how a sign or a word is written
abbrev pub spelling : Kind → List ℕ
spelling kind.True = codes "true"
spelling kind.Fail = codes "fail"
spelling kind.Not = codes "not"
spelling kind.Some = codes "some"
spelling kind.Call = codes "call"
spelling kind.Is = codes "is"
spelling kind.Pred = codes "pred"
spelling kind.Declare = codes ":-"
spelling kind.Yields = codes "--->"
spelling kind.Then = codes "->"
spelling kind.HasMode = codes "::"
spelling kind.Semicolon = codes ";"
spelling kind.Comma = codes ","
spelling kind.Open = codes "("
spelling kind.Close = codes ")"
spelling kind.OpenList = codes "["
spelling kind.CloseList = codes "]"
spelling kind.Equals = codes "="
spelling kind.End = codes "."
spelling _ = []

-- a token on the line of the next one
abbrev pub spelled : Kind → List ℕ → Input → Lexeme
spelled k text i = record { kind = k; text = text; line = (first i.rest).line }

abbrev pub mark : Kind → Input → Lexeme
mark k i = spelled k (spelling k) i

pub first_live : (ts : List Lexeme) → live (first ts).kind ≡ true → 0 < length ts
first_live [] e = absurd (cc)
first_live (t ∷ ts) e = omega arith

pub prefix_live : (ts : List Lexeme) → live (first ts).kind ≡ true → ts ≡ first ts ∷ drop 1 ts
prefix_live [] e = absurd (cc)
prefix_live (t ∷ ts) e = refl

pub seen_kind : (k : Kind) (i : Input) → sees k i ≡ true → (first i.rest).kind ≡ k
unfolding token
seen_kind k i e = kind_seen k i e

pub seen_live : (k : Kind) (i : Input) → sees k i ≡ true → live k ≡ true → live (first i.rest).kind ≡ true
seen_live k i e l = ap live (seen_kind k i e) ∙ l

pub like_mark : (k : Kind) (text : List ℕ) (F : Lexeme → Type 0) (i : Input) → kind_at i ≡ k → Or F i (spelled k text i)
unfolding token
like_mark k text F i e = inr (sym e, refl)

-- ---- the next token is taken

module _ {A : Type 0} (R : A → State) (F K : Lexeme → Type 0) (P : ℕ → Parser A) (i : Input) (x : A) (vars : List (List ℕ)) (b : ℕ) (h : (n : ℕ) (tail : List Lexeme) → b ≤ n → P n (upon n (first i.rest ∷ tail) i) ≡ Ok (x, record (upon n tail i) { vars = vars })) where
  next_run : (G : Lexeme → Type 0) (ts : List Lexeme) → Run (Or F i) G P i (first i.rest ∷ []) x (record i { rest = ts; vars = vars })
  next_run G ts = record { bound = b; runs = λ n tail le fit. h n tail le; starts = λ tail fit. (omega arith, inr (refl, refl)) }

  pub taken_whole : i.rest ≡ first i.rest ∷ drop 1 i.rest → R x i.home vars → Law R F K P i (Ok (x, record (next i) { vars = vars }))
  unfolding next
  taken_whole w r = record { prefix = first i.rest ∷ []; whole = w; post = r; run = next_run (Or K (record (next i) { vars = vars })) (drop 1 i.rest) }

  pub taken_at : live (first i.rest).kind ≡ true → R x i.home vars → Law R F K P i (Ok (x, record (next i) { vars = vars }))
  taken_at l r = taken_whole (prefix_live i.rest l) r

  -- and it is at fault for a limit
  pub over_at : R x i.home vars → Law R F K P i (limit i)
  unfolding place token
  over_at r = record { prefix = []; rest = i.rest; whole = refl; here = refl; fill = []; done = record { value = x; end = record i { vars = vars }; post = r; run = next_run K i.rest } }

-- one token fills a rule up
pub filled_by : {A : Type 0} (R : A → State) (F K : Lexeme → Type 0) (P : ℕ → Parser A) (i : Input) (t : Lexeme) (x : A) (vars : List (List ℕ)) (b : ℕ) → F t → R x i.home vars → ((n : ℕ) (tail : List Lexeme) → b ≤ n → P n (upon n (t ∷ tail) i) ≡ Ok (x, record (upon n tail i) { vars = vars })) → Fill R F K P i
filled_by R F K P i t x vars b f r h = (t ∷ [], record { value = x; end = record i { vars = vars }; post = r; run = record { bound = b; runs = λ n tail le fit. h n tail le; starts = λ tail fit. (omega arith, f) } })

-- ---- signs

module _ (S : State) (F K : Lexeme → Type 0) where
  expect_mark : (k : Kind) (i : Input) (n : ℕ) (tail : List Lexeme) → expect k (upon n (mark k i ∷ tail) i) ≡ Ok ((first i.rest).line, upon n tail i)
  unfolding expect sees token next
  expect_mark k i n tail = rw (same_itself k) refl

  pub expect_fill : (k : Kind) (i : Input) → F (mark k i) → S i.home i.vars → Fill (λ _. S) F K (λ n. expect k) i
  expect_fill k i f s = filled_by (λ _. S) F K (λ n. expect k) i (mark k i) (first i.rest).line i.vars 0 f s (λ n tail le. expect_mark k i n tail)

  expect_by : (k : Kind) (i : Input) (b : Bool) → sees k i ≡ b → live k ≡ true → S i.home i.vars → Or F i (mark k i) → Fill (λ _. S) (Or F i) K (λ n. expect k) i → Law (λ _. S) F K (λ n. expect k) i (cond b (Ok ((token i).line, next i)) (refuse i))
  unfolding expect sees token next
  expect_by k i true e l s f c = taken_at (λ _. S) F K (λ n. expect k) i (first i.rest).line i.vars 0 (λ n tail le. rw e refl) (seen_live k i e l) s
  expect_by k i false e l s f c = refused_at (λ _. S) F K (λ n. expect k) i c (λ n later. (place (upon n (first i.rest ∷ later) i), rw e refl))

pub expects : (S : State) (F K : Lexeme → Type 0) (k : Kind) → live k ≡ true → ((i : Input) → F (mark k i)) → Fills S (λ _. S) F K (expect k) (λ n. expect k)
unfolding expect
expects S F K k l f = record {
  law = λ i s. expect_by S F K k i (sees k i) refl l s (inl (f i)) (expect_fill S (Or F i) K k i (inl (f i)) s);
  fill = λ i s. expect_fill S F K k i (f i) s;
}

-- where the sign comes next
pub expect_at : (S : State) (F K : Lexeme → Type 0) (k : Kind) (i : Input) → live k ≡ true → kind_at i ≡ k → S i.home i.vars → Law (λ _. S) F K (λ n. expect k) i (expect k i)
unfolding expect
expect_at S F K k i l e s = let m = like_mark k (spelling k) F i e in expect_by S F K k i (sees k i) refl l s m (expect_fill S (Or F i) K k i m s)

-- a token that is taken whatever its kind
pub advance_at : (S : State) (F K : Lexeme → Type 0) (i : Input) → live (kind_at i) ≡ true → S i.home i.vars → Law (λ _. S) F K (λ n. advance) i (advance i)
unfolding token next
advance_at S F K i l s = taken_at (λ _. S) F K (λ n. advance) i tt i.vars 0 (λ n tail le. refl) l s

-- ---- words and names

pub same_bytes : (w : List ℕ) → bytes_eq w w ≡ true
same_bytes w = (bytes_eq-Decides w w).1 refl

both : (a b : Bool) → (a && b) ≡ true → a ≡ true
both true b h = refl
both false b h = h

pub not_less : (n b : ℕ) → b ≤ n → nat_lt n b ≡ false
not_less n b le = grind arith

word_by : (S : State) (F K : Lexeme → Type 0) (w : List ℕ) (i : Input) (b : Bool) → (sees kind.Name i && bytes_eq (token i).text w) ≡ b → S i.home i.vars → Fill (λ _. S) (Or F i) K (λ n. word w) i → Law (λ _. S) F K (λ n. word w) i (cond b (Ok ((token i).line, next i)) (refuse i))
unfolding word sees token next
word_by S F K w i true e s c = taken_at (λ _. S) F K (λ n. word w) i (first i.rest).line i.vars 0 (λ n tail le. rw e refl) (seen_live kind.Name i (both (sees kind.Name i) _ e) refl) s
word_by S F K w i false e s c = refused_at (λ _. S) F K (λ n. word w) i c (λ n later. (place (upon n (first i.rest ∷ later) i), rw e refl))

word_fill : (S : State) (F K : Lexeme → Type 0) (w : List ℕ) (i : Input) → F (spelled kind.Name w i) → S i.home i.vars → Fill (λ _. S) F K (λ n. word w) i
unfolding word sees token next
word_fill S F K w i f s = filled_by (λ _. S) F K (λ n. word w) i (spelled kind.Name w i) (first i.rest).line i.vars 0 f s (λ n tail le. rw (same_itself kind.Name, same_bytes w) refl)

pub words : (S : State) (F K : Lexeme → Type 0) (w : List ℕ) → ((i : Input) → F (spelled kind.Name w i)) → Fills S (λ _. S) F K (word w) (λ n. word w)
unfolding word
words S F K w f = record {
  law = λ i s. word_by S F K w i (sees kind.Name i && bytes_eq (token i).text w) refl s (word_fill S (Or F i) K w i (inl (f i)) s);
  fill = λ i s. word_fill S F K w i (f i) s;
}

-- a name of some bytes that is taken, or is at fault for a limit, whose test on the next token is known to hold
named_by : (S : State) (F K : Lexeme → Type 0) (P : ℕ → Parser (List ℕ)) (i : Input) (b : Bool) → live (kind_at i) ≡ true → S i.home i.vars → ((n : ℕ) (tail : List Lexeme) → length (token i).text ≤ n → P n (upon n (first i.rest ∷ tail) i) ≡ Ok ((token i).text, upon n tail i))
    → Law (λ _. S) F K P i (cond b (limit i) (Ok ((token i).text, next i)))
unfolding token next
named_by S F K P i true l s h = over_at (λ _. S) F K P i (first i.rest).text i.vars (length (first i.rest).text) h s
named_by S F K P i false l s h = taken_at (λ _. S) F K P i (first i.rest).text i.vars (length (first i.rest).text) h l s

pub take_name_at : (S : State) (F K : Lexeme → Type 0) (P : ℕ → Parser (List ℕ)) (i : Input) → live (kind_at i) ≡ true → S i.home i.vars → ((n : ℕ) (tail : List Lexeme) → P n (upon n (first i.rest ∷ tail) i) ≡ take_name (token i).text (upon n (first i.rest ∷ tail) i)) → Law (λ _. S) F K P i (take_name (token i).text i)
unfolding take_name token next
take_name_at S F K P i l s h = named_by S F K P i (nat_lt i.limits.items (length (token i).text)) l s (λ n tail le. h n tail ∙ rw (not_less n (length (first i.rest).text) le) refl)

name_by : (S : State) (F K : Lexeme → Type 0) (i : Input) (b : Bool) → sees kind.Name i ≡ b → S i.home i.vars → Fill (λ _. S) (Or F i) K (λ n. name) i → Law (λ _. S) F K (λ n. name) i (cond b (take_name (token i).text i) (refuse i))
unfolding name sees token
name_by S F K i true e s c = take_name_at S F K (λ n. name) i (seen_live kind.Name i e refl) s (λ n tail. rw e refl)
name_by S F K i false e s c = refused_at (λ _. S) F K (λ n. name) i c (λ n later. (place (upon n (first i.rest ∷ later) i), rw e refl))

name_fill : (S : State) (F K : Lexeme → Type 0) (i : Input) → F (spelled kind.Name (codes "a") i) → S i.home i.vars → Fill (λ _. S) F K (λ n. name) i
unfolding name take_name sees token next
name_fill S F K i f s = filled_by (λ _. S) F K (λ n. name) i (spelled kind.Name (codes "a") i) (codes "a") i.vars 1 f s (λ n tail le. rw (same_itself kind.Name, not_less n 1 le) refl)

pub names : (S : State) (K : Lexeme → Type 0) → Fills S (λ _. S) Every K name (λ n. name)
unfolding name
names S K = record {
  law = λ i s. name_by S Every K i (sees kind.Name i) refl s (name_fill S (Or Every i) K i (inl tt) s);
  fill = λ i s. name_fill S Every K i tt s;
}

-- ---- variables

-- each of these is a number below n
abbrev pub Below : List ℕ → ℕ → Type 0
Below [] n = ⊤
Below (x ∷ xs) n = (x < n) × Below xs n

-- the name of the module, and which variables the clause has
module _ (h : List ℕ) where
  abbrev pub Home : State
  Home home vars = home ≡ h

  abbrev pub Seen : List ℕ → State
  Seen xs home vars = (home ≡ h) × Below xs (length vars)
