-- The names, variables and strings of a text are read as themselves, wherever a space follows them.
use Rattle.std.specs.Prelude.{⊤, slice_index, codes}
use Rattle.std.specs.Str.{bytes_eq}
use Rattle.std.proofs.Common.{◌≡◌, ℕ, zero, suc, ◌+◌, Bool, true, false, cond, ◌&&◌, ◌||◌, ◌==◌, Option, Some, None, option_map, List, [], ◌∷◌, ◌++◌, length, take, drop, refl, sym, subst, arith}
use Rattle.std.proofs.Math.Seq.{take-append-add}
use Rattle.std.proofs.lemmas.List.{take-append-drop}
use Rattle.std.proofs.lemmas.List.Folds.{length-prefix_len}
use Rattle.std.specs.List.{prefix_len}
use Rattle.std.specs.Char.{is_ascii_digit, is_ascii_uppercase, is_ascii_lowercase}
use Rattle.md_token.specs.declared.kind.Kind.{Kind}
use Rattle.md_token.specs.declared.kind.Kind.TheVariants as kind
use Rattle.md_token.specs.declared.scan.Prefix.{Prefix}
use Rattle.md_token.specs.declared.scan.Prefix.TheVariants as prefix
use Rattle.md_token.specs.declared.string.Within.TheVariants as within
use Rattle.md_token.specs.Literal.{inside}
use Rattle.md_token.specs.Token.{Lexeme, lexemes, tokens_of, put, more_of, line_past, prefix_at, prefix_of_token, token_at, name_at, variable_at, string_at, string_end, sign_at, single_at, colon_at, dash_at, ends, qualifies, word_kind, is_word_byte, is_blank, is_percent}
use Rattle.md_token.proofs.Spelled.{Reads}
use Rattle.md_token.proofs.SpelledWords.{AllPass, taken_pass, drop_one_more, lower_is_word, reads_name, reads_qualified, reads_variable}
use Rattle.md_token.proofs.SpelledTexts.{Writes, written, inside_written}

pub record IsQualified (t : List ℕ) : Type 0 where
  pub qualifier : List ℕ
  pub name : List ℕ
  pub whole : t ≡ qualifier ++ 46 ∷ name
  pub words : AllPass is_word_byte qualifier
  pub reads : Reads kind.Qualified t
  pub alone : Reads (word_kind name) name

-- what is known of a token's bytes
abbrev pub Fine : Kind → List ℕ → Type 0
Fine kind.Name t = Reads kind.Name t
Fine kind.True t = Reads kind.True t
Fine kind.Fail t = Reads kind.Fail t
Fine kind.Not t = Reads kind.Not t
Fine kind.Some t = Reads kind.Some t
Fine kind.Call t = Reads kind.Call t
Fine kind.Is t = Reads kind.Is t
Fine kind.Pred t = Reads kind.Pred t
Fine kind.Variable t = Reads kind.Variable t
Fine kind.Qualified t = IsQualified t
Fine kind.Text t = (v : List ℕ) × Writes v (inside t)
Fine _ t = ⊤

abbrev pub AllFine : List Lexeme → Type 0
AllFine [] = ⊤
AllFine (t ∷ ts) = Fine t.kind t.text × AllFine ts

pub both : {A : Type 0} (P : A → Type 0) (b : Bool) (x y : A) → (b ≡ true → P x) → (b ≡ false → P y) → P (cond b x y)
both P true x y f g = f refl
both P false x y f g = g refl

-- ---- words

data IsWord : Kind → Type 0 where
  a_name : IsWord kind.Name
  a_true : IsWord kind.True
  a_fail : IsWord kind.Fail
  a_not : IsWord kind.Not
  a_some : IsWord kind.Some
  a_call : IsWord kind.Call
  a_is : IsWord kind.Is
  a_pred : IsWord kind.Pred

word_kind_is : (t : List ℕ) → IsWord (word_kind t)
unfolding word_kind
word_kind_is t =
    both IsWord (bytes_eq t (codes "true")) _ _ (λ _. IsWord.a_true) (λ _.
    both IsWord (bytes_eq t (codes "fail")) _ _ (λ _. IsWord.a_fail) (λ _.
    both IsWord (bytes_eq t (codes "not")) _ _ (λ _. IsWord.a_not) (λ _.
    both IsWord (bytes_eq t (codes "some")) _ _ (λ _. IsWord.a_some) (λ _.
    both IsWord (bytes_eq t (codes "call")) _ _ (λ _. IsWord.a_call) (λ _.
    both IsWord (bytes_eq t (codes "is")) _ _ (λ _. IsWord.a_is) (λ _.
    both IsWord (bytes_eq t (codes "pred")) _ _ (λ _. IsWord.a_pred) (λ _. IsWord.a_name)))))))

word_fine : (k : Kind) (t : List ℕ) → IsWord k → Reads k t → Fine k t
word_fine _ t IsWord.a_name r = r
word_fine _ t IsWord.a_true r = r
word_fine _ t IsWord.a_fail r = r
word_fine _ t IsWord.a_not r = r
word_fine _ t IsWord.a_some r = r
word_fine _ t IsWord.a_call r = r
word_fine _ t IsWord.a_is r = r
word_fine _ t IsWord.a_pred r = r

record FineAt (b : ℕ) (bytes : List ℕ) (p : Kind × ℕ) : Type 0 where
  fine : Fine p.0 (b ∷ take p.1 bytes)

qualified_parts : (b c : ℕ) (v rest : List ℕ) → is_ascii_lowercase b ≡ true → is_ascii_lowercase c ≡ true → AllPass is_word_byte v
    → IsQualified (b ∷ take (length v + 1 + prefix_len is_word_byte (drop (length v + 1) (v ++ 46 ∷ c ∷ rest))) (v ++ 46 ∷ c ∷ rest))
qualified_parts b c v rest h g a =
    let p = prefix_len is_word_byte rest in
    let w : List ℕ = take p rest in
    let n : prefix_len is_word_byte (drop (length v + 1) (v ++ 46 ∷ c ∷ rest)) ≡ suc p = rw (drop_one_more v (c ∷ rest) 46) (rw (lower_is_word c g) (omega arith)) in
    let m : length v + 1 + suc p ≡ length v + suc (suc p) = omega arith in
    let e : take (length v + 1 + prefix_len is_word_byte (drop (length v + 1) (v ++ 46 ∷ c ∷ rest))) (v ++ 46 ∷ c ∷ rest) ≡ v ++ 46 ∷ c ∷ w = rw (n, m) (take-append-add v (46 ∷ c ∷ rest) (suc (suc p))) in
    subst (λ (t : List ℕ). IsQualified (b ∷ t)) (sym e) (record {
      qualifier = b ∷ v;
      name = c ∷ w;
      whole = refl;
      words = (lower_is_word b h, a);
      reads = reads_qualified b c v w h a g (taken_pass is_word_byte rest);
      alone = reads_name c w g (taken_pass is_word_byte rest);
    })

qualified_from : (b : ℕ) (v u : List ℕ) → is_ascii_lowercase b ≡ true → AllPass is_word_byte v → qualifies u ≡ true
    → IsQualified (b ∷ take (length v + 1 + prefix_len is_word_byte (drop (length v + 1) (v ++ u))) (v ++ u))
qualified_from b v [] h a q = absurd (cc)
qualified_from b v (x ∷ []) h a q = absurd (let e : is_ascii_lowercase 0 ≡ true = grind arith in cc)
qualified_from b v (x ∷ c ∷ rest) h a q =
    let dot : x ≡ 46 = grind arith in
    let low : is_ascii_lowercase c ≡ true = grind arith in
    subst (λ (x : ℕ). IsQualified (b ∷ take (length v + 1 + prefix_len is_word_byte (drop (length v + 1) (v ++ x ∷ c ∷ rest))) (v ++ x ∷ c ∷ rest))) (sym dot) (qualified_parts b c v rest h low a)

qualified_fine : (b : ℕ) (bytes : List ℕ) → is_ascii_lowercase b ≡ true → qualifies (drop (prefix_len is_word_byte bytes) bytes) ≡ true
    → IsQualified (b ∷ take (prefix_len is_word_byte bytes + 1 + prefix_len is_word_byte (drop (prefix_len is_word_byte bytes + 1) bytes)) bytes)
qualified_fine b bytes h q =
    let n = prefix_len is_word_byte bytes in
    let l : length (take n bytes) ≡ n = length-prefix_len is_word_byte bytes in
    let r = qualified_from b (take n bytes) (drop n bytes) h (taken_pass is_word_byte bytes) q in
    subst (λ (m : ℕ). IsQualified (b ∷ take (m + 1 + prefix_len is_word_byte (drop (m + 1) bytes)) bytes)) l
    (subst (λ (t : List ℕ). IsQualified (b ∷ take (length (take n bytes) + 1 + prefix_len is_word_byte (drop (length (take n bytes) + 1) t)) t)) (take-append-drop n bytes) r)

name_fine : (b : ℕ) (bytes : List ℕ) → is_ascii_lowercase b ≡ true → FineAt b bytes (name_at b bytes)
unfolding name_at
name_fine b bytes h =
    both (FineAt b bytes) (qualifies (drop (prefix_len is_word_byte bytes) bytes)) _ _
    (λ q. record { fine = qualified_fine b bytes h q })
    (λ q. record { fine = word_fine _ (b ∷ take (prefix_len is_word_byte bytes) bytes) (word_kind_is (b ∷ take (prefix_len is_word_byte bytes) bytes)) (reads_name b (take (prefix_len is_word_byte bytes) bytes) h (taken_pass is_word_byte bytes)) })

-- ---- tokens

data OptionFine (b : ℕ) (bytes : List ℕ) : Option (Kind × ℕ) → Type 0 where
  nothing : OptionFine b bytes None
  found : (k : Kind) (n : ℕ) → Fine k (b ∷ take n bytes) → OptionFine b bytes (Some (k, n))

variable_fine : (b : ℕ) (bytes : List ℕ) → (is_ascii_uppercase b || b == 95) ≡ true → OptionFine b bytes (variable_at b bytes)
unfolding variable_at
variable_fine b bytes h =
    both (OptionFine b bytes) (b == 95 && prefix_len is_word_byte bytes == 0) _ _ (λ _. OptionFine.nothing)
    (λ e. OptionFine.found kind.Variable (prefix_len is_word_byte bytes) (reads_variable b (take (prefix_len is_word_byte bytes) bytes) h (taken_pass is_word_byte bytes) (rw (length-prefix_len is_word_byte bytes) e)))

text_fine : (b : ℕ) (bytes : List ℕ) (o : Option ℕ) → string_end within.Whole 0 bytes ≡ o → OptionFine b bytes (option_map (λ n. (kind.Text, n)) o)
text_fine b bytes None h = OptionFine.nothing
text_fine b bytes (Some n) h =
    let r = written bytes 0 n h in
    let is : n ≡ suc r.size = let e : n ≡ 0 + suc r.size = r.here in omega arith in
    OptionFine.found kind.Text n (subst (λ (n : ℕ). Fine kind.Text (b ∷ take n bytes)) (sym is)
    (r.value, subst (λ (w : List ℕ). Writes r.value w) (sym (inside_written b r.size bytes r.fits)) r.writes))

string_fine : (b : ℕ) (bytes : List ℕ) → OptionFine b bytes (string_at bytes)
unfolding string_at
string_fine b bytes = text_fine b bytes (string_end within.Whole 0 bytes) refl

sign_fine : (b : ℕ) (bytes : List ℕ) → OptionFine b bytes (sign_at b bytes)
unfolding sign_at colon_at dash_at single_at
sign_fine b bytes =
    both (OptionFine b bytes) (b == 58) _ _ (λ _. both (OptionFine b bytes) (slice_index bytes 0 == 45) _ _ (λ _. OptionFine.found kind.Declare 1 tt) (λ _. both (OptionFine b bytes) (slice_index bytes 0 == 58) _ _ (λ _. OptionFine.found kind.HasMode 1 tt) (λ _. OptionFine.nothing))) (λ _. both (OptionFine b bytes) (b == 45) _ _ (λ _. both (OptionFine b bytes) (slice_index bytes 0 == 62) _ _ (λ _. OptionFine.found kind.Then 1 tt) (λ _. both (OptionFine b bytes) (slice_index bytes 0 == 45 && (slice_index bytes 1 == 45 && slice_index bytes 2 == 62)) _ _ (λ _. OptionFine.found kind.Yields 3 tt) (λ _. OptionFine.found kind.Minus 0 tt))) (λ _. both (OptionFine b bytes) (b == 61) _ _ (λ _. both (OptionFine b bytes) (slice_index bytes 0 == 60) _ _ (λ _. OptionFine.found kind.AtMost 1 tt) (λ _. OptionFine.found kind.Equals 0 tt)) (λ _. both (OptionFine b bytes) (b == 62) _ _ (λ _. both (OptionFine b bytes) (slice_index bytes 0 == 61) _ _ (λ _. OptionFine.found kind.AtLeast 1 tt) (λ _. OptionFine.found kind.Greater 0 tt)) (λ _. both (OptionFine b bytes) (b == 46) _ _ (λ _. both (OptionFine b bytes) (ends bytes) _ _ (λ _. OptionFine.found kind.End 0 tt) (λ _. OptionFine.nothing)) (λ _. both (OptionFine b bytes) (b == 59) _ _ (λ _. OptionFine.found kind.Semicolon 0 tt) (λ _. both (OptionFine b bytes) (b == 44) _ _ (λ _. OptionFine.found kind.Comma 0 tt) (λ _. both (OptionFine b bytes) (b == 40) _ _ (λ _. OptionFine.found kind.Open 0 tt) (λ _. both (OptionFine b bytes) (b == 41) _ _ (λ _. OptionFine.found kind.Close 0 tt) (λ _. both (OptionFine b bytes) (b == 91) _ _ (λ _. OptionFine.found kind.OpenList 0 tt) (λ _. both (OptionFine b bytes) (b == 93) _ _ (λ _. OptionFine.found kind.CloseList 0 tt) (λ _. both (OptionFine b bytes) (b == 60) _ _ (λ _. OptionFine.found kind.Less 0 tt) (λ _. both (OptionFine b bytes) (b == 43) _ _ (λ _. OptionFine.found kind.Plus 0 tt) (λ _. both (OptionFine b bytes) (b == 42) _ _ (λ _. OptionFine.found kind.Times 0 tt) (λ _. OptionFine.nothing))))))))))))))

token_fine : (b : ℕ) (bytes : List ℕ) → OptionFine b bytes (token_at b bytes)
unfolding token_at
token_fine b bytes =
    both (OptionFine b bytes) (is_ascii_lowercase b) _ _ (λ h. OptionFine.found (name_at b bytes).0 (name_at b bytes).1 (name_fine b bytes h).fine) (λ _.
    both (OptionFine b bytes) (is_ascii_uppercase b || b == 95) _ _ (λ h. variable_fine b bytes h) (λ _.
    both (OptionFine b bytes) (is_ascii_digit b) _ _ (λ _. OptionFine.found kind.Integer _ tt) (λ _.
    both (OptionFine b bytes) (b == 34) _ _ (λ _. string_fine b bytes) (λ _. sign_fine b bytes))))

data PrefixFine (b : ℕ) (bytes : List ℕ) : Prefix → Type 0 where
  gap : (more : ℕ) → PrefixFine b bytes (prefix.Gap more)
  piece : (k : Kind) (more : ℕ) → Fine k (b ∷ take more bytes) → PrefixFine b bytes (prefix.Piece k more)
  unknown : PrefixFine b bytes prefix.Unknown

of_token_fine : (b : ℕ) (bytes : List ℕ) (o : Option (Kind × ℕ)) → OptionFine b bytes o → PrefixFine b bytes (prefix_of_token o)
of_token_fine b bytes _ OptionFine.nothing = PrefixFine.unknown
of_token_fine b bytes _ (OptionFine.found k n h) = PrefixFine.piece k n h

prefix_fine : (b : ℕ) (bytes : List ℕ) → PrefixFine b bytes (prefix_at b bytes)
unfolding prefix_at
prefix_fine b bytes =
    both (PrefixFine b bytes) (is_blank b) _ _ (λ _. PrefixFine.gap _) (λ _.
    both (PrefixFine b bytes) (is_percent b) _ _ (λ _. PrefixFine.gap _) (λ _. of_token_fine b bytes (token_at b bytes) (token_fine b bytes)))

put_fine : (line b : ℕ) (bytes : List ℕ) (f : Prefix) (later : List Lexeme) → PrefixFine b bytes f → AllFine later → AllFine (put line b bytes f later)
put_fine line b bytes _ later (PrefixFine.gap more) a = a
put_fine line b bytes _ later (PrefixFine.piece k more h) a = (h, a)
put_fine line b bytes _ later PrefixFine.unknown a = (tt, tt)

lexemes_fine : (skip line : ℕ) (bytes : List ℕ) → AllFine (lexemes skip line bytes)
lexemes_fine skip line [] = (tt, tt)
lexemes_fine (suc skip) line (b ∷ bytes) = lexemes_fine skip line bytes
lexemes_fine zero line (b ∷ bytes) =
    put_fine line b bytes (prefix_at b bytes) _ (prefix_fine b bytes) (lexemes_fine (more_of (prefix_at b bytes)) (line_past (prefix_at b bytes) b line) bytes)

pub tokens_fine : (text : List ℕ) → AllFine (tokens_of text)
unfolding tokens_of
tokens_fine text = lexemes_fine 0 1 text
