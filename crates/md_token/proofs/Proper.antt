-- The tokens of a text: what begins with a lower-case letter is a name, reserved words are short, and the end of the text
-- is the last.
use Rattle.std.proofs.Common.{◌≡◌, ℕ, zero, suc, ◌≤◌, List, [], ◌∷◌, ◌++◌, length, take, drop, refl, Bool, true, false, cond, ◌&&◌, ◌||◌, ◌⊎◌, inl, inr, Option, Some, None, sym, ap, ◌∙◌, arith, subst, ◌+◌, ◌==◌, option_map}
use Rattle.std.specs.Prelude.{⊤, codes, slice_index}
use Rattle.std.specs.Char.{is_ascii_digit, is_ascii_lowercase, is_ascii_uppercase}
use Rattle.std.specs.List.{prefix_len}
use Rattle.std.specs.Str.{bytes_eq}
use Rattle.std.proofs.lemmas.Slice.Eq.{bytes_eq-Decides}
use Rattle.md_token.specs.declared.kind.Kind.{Kind}
use Rattle.md_token.specs.declared.kind.Kind.TheVariants as kind
use Rattle.md_token.specs.declared.scan.Prefix.{Prefix}
use Rattle.md_token.specs.declared.scan.Prefix.TheVariants as prefix
use Rattle.md_token.specs.declared.string.Within.TheVariants as within
use Rattle.md_token.specs.Kinds.{is_final}
use Rattle.md_token.specs.Token.{Lexeme, is_blank, is_percent, is_in_line, is_word_byte, word_kind, qualifies, name_at, variable_at, string_at, string_end, ends, single_at, colon_at, dash_at, sign_at, token_at, prefix_of_token, prefix_at, more_of, line_past, put, lexemes, tokens_of}

-- ---- tokens as texts have them

abbrev pub is_reserved : Kind → Bool
is_reserved kind.True = true
is_reserved kind.Fail = true
is_reserved kind.Not = true
is_reserved kind.Some = true
is_reserved kind.Call = true
is_reserved kind.Is = true
is_reserved kind.Pred = true
is_reserved _ = false

pub record IsProper (t : Lexeme) : Type 0 where
  -- what begins with a lower-case letter is a name
  pub word : is_ascii_lowercase (slice_index t.text 0) ≡ true → (t.kind ≡ kind.Qualified) ⊎ (t.kind ≡ word_kind t.text)
  pub reserved : is_reserved t.kind ≡ true → length t.text ≤ 4

abbrev pub AreProper : List Lexeme → Type 0
AreProper [] = ⊤
AreProper (t ∷ ts) = IsProper t × AreProper ts

-- ---- kinds of tokens that are no names

-- a reserved word, or what stands behind all tokens
abbrev is_odd : Kind → Bool
is_odd k = is_reserved k || is_final k

abbrev finds_odd : Option (Kind × ℕ) → Bool
finds_odd None = false
finds_odd (Some p) = is_odd p.0

neither : (b : Bool) (x y : Option (Kind × ℕ)) → finds_odd x ≡ false → finds_odd y ≡ false → finds_odd (cond b x y) ≡ false
neither true x y p q = p
neither false x y p q = q

single_even : (b : ℕ) → finds_odd (single_at b) ≡ false
unfolding single_at
single_even b =
    neither (b == 59) (Some (kind.Semicolon, 0)) _ refl
    (neither (b == 44) (Some (kind.Comma, 0)) _ refl
    (neither (b == 40) (Some (kind.Open, 0)) _ refl
    (neither (b == 41) (Some (kind.Close, 0)) _ refl
    (neither (b == 91) (Some (kind.OpenList, 0)) _ refl
    (neither (b == 93) (Some (kind.CloseList, 0)) _ refl
    (neither (b == 60) (Some (kind.Less, 0)) _ refl
    (neither (b == 43) (Some (kind.Plus, 0)) _ refl
    (neither (b == 42) (Some (kind.Times, 0)) None refl refl))))))))

colon_even : (bytes : List ℕ) → finds_odd (colon_at bytes) ≡ false
unfolding colon_at
colon_even bytes = neither (slice_index bytes 0 == 45) (Some (kind.Declare, 1)) _ refl (neither (slice_index bytes 0 == 58) (Some (kind.HasMode, 1)) None refl refl)

dash_even : (bytes : List ℕ) → finds_odd (dash_at bytes) ≡ false
unfolding dash_at
dash_even bytes = neither (slice_index bytes 0 == 62) (Some (kind.Then, 1)) _ refl (neither (slice_index bytes 0 == 45 && (slice_index bytes 1 == 45 && slice_index bytes 2 == 62)) (Some (kind.Yields, 3)) (Some (kind.Minus, 0)) refl refl)

sign_even : (b : ℕ) (bytes : List ℕ) → finds_odd (sign_at b bytes) ≡ false
unfolding sign_at
sign_even b bytes =
    neither (b == 58) (colon_at bytes) _ (colon_even bytes)
    (neither (b == 45) (dash_at bytes) _ (dash_even bytes)
    (neither (b == 61) _ _ (neither (slice_index bytes 0 == 60) (Some (kind.AtMost, 1)) (Some (kind.Equals, 0)) refl refl)
    (neither (b == 62) _ _ (neither (slice_index bytes 0 == 61) (Some (kind.AtLeast, 1)) (Some (kind.Greater, 0)) refl refl)
    (neither (b == 46) _ _ (neither (ends bytes) (Some (kind.End, 0)) None refl refl) (single_even b)))))

string_even : (o : Option ℕ) → finds_odd (option_map (λ n. (kind.Text, n)) o) ≡ false
string_even None = refl
string_even (Some n) = refl

variable_even : (b : ℕ) (bytes : List ℕ) → finds_odd (variable_at b bytes) ≡ false
unfolding variable_at
variable_even b bytes = neither (b == 95 && prefix_len is_word_byte bytes == 0) None (Some (kind.Variable, prefix_len is_word_byte bytes)) refl refl

-- what begins with no lower-case letter
other_even : (b : ℕ) (bytes : List ℕ) → is_ascii_lowercase b ≡ false → finds_odd (token_at b bytes) ≡ false
unfolding token_at string_at
other_even b bytes e =
    subst (λ (a : Bool). finds_odd (cond a (Some (name_at b bytes)) (cond (is_ascii_uppercase b || b == 95) (variable_at b bytes) (cond (is_ascii_digit b) (Some (kind.Integer, prefix_len is_ascii_digit bytes)) (cond (b == 34) (option_map (λ n. (kind.Text, n)) (string_end within.Whole 0 bytes)) (sign_at b bytes))))) ≡ false) (sym e)
    (neither (is_ascii_uppercase b || b == 95) (variable_at b bytes) _ (variable_even b bytes)
    (neither (is_ascii_digit b) (Some (kind.Integer, prefix_len is_ascii_digit bytes)) _ refl
    (neither (b == 34) _ (sign_at b bytes) (string_even (string_end within.Whole 0 bytes)) (sign_even b bytes))))

-- ---- names

same_text : (x w : List ℕ) → bytes_eq x w ≡ true → x ≡ w
same_text x w e = (bytes_eq-Decides x w).0 e

-- a word has at most four bytes where it is reserved, and is no end of a text
record IsWord (text : List ℕ) (k : Kind) : Type 0 where
  short : is_reserved k ≡ true → length text ≤ 4
  live : is_final k ≡ false

word_is : (text : List ℕ) → IsWord text (word_kind text)
unfolding word_kind
word_is text = step (codes "true") kind.True refl (omega arith) (step (codes "fail") kind.Fail refl (omega arith) (step (codes "not") kind.Not refl (omega arith) (step (codes "some") kind.Some refl (omega arith) (step (codes "call") kind.Call refl (omega arith) (step (codes "is") kind.Is refl (omega arith) (step (codes "pred") kind.Pred refl (omega arith) (record { short = λ e. absurd (cc); live = refl })))))))
  where
    reserved : (w : List ℕ) (k : Kind) → is_final k ≡ false → length w ≤ 4 → text ≡ w → IsWord text k
    reserved w k live few e = record { short = λ _. subst (λ (x : List ℕ). length x ≤ 4) (sym e) few; live = live }

    by : (b : Bool) (w : List ℕ) (k l : Kind) → bytes_eq text w ≡ b → is_final k ≡ false → length w ≤ 4 → IsWord text l → IsWord text (cond b k l)
    by true w k l e live few rest = reserved w k live few (same_text text w e)
    by false w k l e live few rest = rest

    step : (w : List ℕ) (k : Kind) {l : Kind} → is_final k ≡ false → length w ≤ 4 → IsWord text l → IsWord text (cond (bytes_eq text w) k l)
    step w k {l} live few rest = by (bytes_eq text w) w k l refl live few rest

-- ---- tokens

abbrev IsNext : (b : ℕ) → List ℕ → Kind → ℕ → Type 0
IsNext b bytes k n = (is_ascii_lowercase b ≡ true → (k ≡ kind.Qualified) ⊎ (k ≡ word_kind (b ∷ take n bytes))) × (is_reserved k ≡ true → length (b ∷ take n bytes) ≤ 4) × (is_final k ≡ false)

-- what a name is, by what follows its first n bytes
name_found : (b n : ℕ) (bytes : List ℕ) → Bool → Kind × ℕ
name_found b n bytes true = (kind.Qualified, n + 1 + prefix_len is_word_byte (drop (n + 1) bytes))
name_found b n bytes false = (word_kind (b ∷ take n bytes), n)

found_next : (b n : ℕ) (bytes : List ℕ) (c : Bool) → IsNext b bytes (name_found b n bytes c).0 (name_found b n bytes c).1
unfolding name_found
found_next b n bytes true = (λ _. inl refl, λ h. absurd (cc), refl)
found_next b n bytes false = let w = word_is (b ∷ take n bytes) in (λ _. inr refl, w.short, w.live)

name_is : (b n : ℕ) (bytes : List ℕ) (c : Bool) → cond c (kind.Qualified, n + 1 + prefix_len is_word_byte (drop (n + 1) bytes)) (word_kind (b ∷ take n bytes), n) ≡ name_found b n bytes c
unfolding name_found
name_is b n bytes true = refl
name_is b n bytes false = refl

name_next : (b : ℕ) (bytes : List ℕ) (p : Kind × ℕ) → name_at b bytes ≡ p → IsNext b bytes p.0 p.1
unfolding name_at
name_next b bytes p e =
    let n = prefix_len is_word_byte bytes in
    let c = qualifies (drop n bytes) in
    subst (λ (q : Kind × ℕ). IsNext b bytes q.0 q.1) (sym (name_is b n bytes c) ∙ e) (found_next b n bytes c)

even_next : (b : ℕ) (bytes : List ℕ) (p : Kind × ℕ) → is_ascii_lowercase b ≡ false → is_odd p.0 ≡ false → IsNext b bytes p.0 p.1
even_next b bytes p lower e = (λ h. absurd (let q = sym h ∙ lower in cc), λ h. absurd (neither_odd (is_reserved p.0) (is_final p.0) e h), other_odd (is_reserved p.0) (is_final p.0) e)
  where
    neither_odd : (x y : Bool) → (x || y) ≡ false → x ≡ true → ⊥
    neither_odd true y e h = absurd (cc)
    neither_odd false y e h = absurd (cc)

    other_odd : (x y : Bool) → (x || y) ≡ false → y ≡ false
    other_odd true y e = absurd (cc)
    other_odd false y e = e

lowered : (b : ℕ) (bytes : List ℕ) → is_ascii_lowercase b ≡ true → token_at b bytes ≡ Some (name_at b bytes)
unfolding token_at
lowered b bytes h = rw h refl

token_next : (b : ℕ) (bytes : List ℕ) (p : Kind × ℕ) → token_at b bytes ≡ Some p → IsNext b bytes p.0 p.1
token_next b bytes p e = by (is_ascii_lowercase b) refl
  where
    some_is : (q : Kind × ℕ) → ◌≡◌ {A = Option (Kind × ℕ)} (Some q) (Some p) → q ≡ p
    some_is q h = cc

    by : (c : Bool) → is_ascii_lowercase b ≡ c → IsNext b bytes p.0 p.1
    by true h = name_next b bytes p (some_is (name_at b bytes) (sym (lowered b bytes h) ∙ e))
    by false h = even_next b bytes p h (sym (ap finds_odd e) ∙ other_even b bytes h)

pub piece_token : (b : ℕ) (bytes : List ℕ) (k : Kind) (n : ℕ) → prefix_at b bytes ≡ prefix.Piece k n → token_at b bytes ≡ Some (k, n)
unfolding prefix_at
piece_token b bytes k n e = by (is_blank b) (is_percent b) (token_at b bytes) refl e
  where
    some_piece : (p : Kind × ℕ) → prefix.Piece p.0 p.1 ≡ prefix.Piece k n → p ≡ (k, n)
    some_piece p h = let a : p.0 ≡ k = cc in let c : p.1 ≡ n = cc in rw (← a, ← c) refl

    by : (x y : Bool) (o : Option (Kind × ℕ)) → token_at b bytes ≡ o → cond x (prefix.Gap 0) (cond y (prefix.Gap (prefix_len is_in_line bytes)) (prefix_of_token o)) ≡ prefix.Piece k n → token_at b bytes ≡ Some (k, n)
    by true y o t h = absurd (cc)
    by false true o t h = absurd (cc)
    by false false None t h = absurd (cc)
    by false false (Some p) t h = t ∙ ap Some (some_piece p h)

-- ---- the tokens of a text

-- behind the end of the text stands none
abbrev EndsLast : List Lexeme → Type 0
EndsLast [] = ⊤
EndsLast (t ∷ ts) = (is_final t.kind ≡ true → ts ≡ []) × EndsLast ts

abbrev AreOfText : List Lexeme → Type 0
AreOfText ts = AreProper ts × EndsLast ts

last_proper : (k : Kind) (line : ℕ) → is_reserved k ≡ false → IsProper (record { kind = k; text = []; line = line })
last_proper k line e = record { word = λ h. absurd (cc); reserved = λ h. absurd (let q = sym h ∙ e in cc) }

put_proper : (line b : ℕ) (bytes : List ℕ) (f : Prefix) (later : List Lexeme) → prefix_at b bytes ≡ f → AreOfText later → AreOfText (put line b bytes f later)
put_proper line b bytes (prefix.Gap more) later e h = h
put_proper line b bytes (prefix.Piece k more) later e h =
    let p = token_next b bytes (k, more) (piece_token b bytes k more e) in
    ((record { word = p.0; reserved = p.1 }, h.0), (λ q. absurd (let r = sym q ∙ p.2 in cc), h.1))
put_proper line b bytes prefix.Unknown later e h = ((last_proper kind.Bad line refl, tt), (λ q. refl, tt))

lexemes_proper : (skip line : ℕ) (text : List ℕ) → AreOfText (lexemes skip line text)
lexemes_proper skip line [] = ((last_proper kind.Stop line refl, tt), (λ q. refl, tt))
lexemes_proper (suc skip) line (b ∷ bytes) = lexemes_proper skip line bytes
lexemes_proper zero line (b ∷ bytes) = put_proper line b bytes (prefix_at b bytes) _ refl (lexemes_proper (more_of (prefix_at b bytes)) (line_past (prefix_at b bytes) b line) bytes)

pub tokens_proper : (text : List ℕ) → AreProper (tokens_of text)
unfolding tokens_of
tokens_proper text = (lexemes_proper 0 1 text).0

end_last : (prefix later : List Lexeme) (t : Lexeme) → EndsLast (prefix ++ t ∷ later) → is_final t.kind ≡ true → later ≡ []
end_last [] later t h e = h.0 e
end_last (u ∷ prefix) later t h e = end_last prefix later t h.1 e

pub tokens_last : (text : List ℕ) (prefix later : List Lexeme) (t : Lexeme) → tokens_of text ≡ prefix ++ t ∷ later → is_final t.kind ≡ true → later ≡ []
unfolding tokens_of
tokens_last text prefix later t e f = end_last prefix later t (subst EndsLast e (lexemes_proper 0 1 text).1) f
