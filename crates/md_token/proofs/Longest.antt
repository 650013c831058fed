-- What the scanner finds at the head of a text is the longest token there.
use Rattle.std.specs.Prelude.{slice_index, codes}
use Rattle.std.proofs.Common.{◌≡◌, ◌≢◌, ℕ, zero, suc, ◌+◌, ◌<◌, Bool, true, false, cond, ◌&&◌, ◌==◌, Option, Some, List, [], ◌∷◌, ◌++◌, length, take, refl, sym, ◌∙◌, subst, arith, append_assoc}
use Rattle.std.proofs.Math.Seq.{take-append_seam, drop-append_seam}
use Rattle.std.proofs.lemmas.List.{length-append}
use Rattle.std.specs.List.{prefix_len}
use Rattle.std.specs.Char.{is_ascii_digit, is_ascii_lowercase}
use Rattle.md_token.specs.declared.kind.Kind.{Kind}
use Rattle.md_token.specs.declared.kind.Kind.TheVariants as kind
use Rattle.md_token.specs.Token.{token_at, name_at, variable_at, sign_at, single_at, colon_at, dash_at, word_kind, is_word_byte, is_blank, is_percent}
use Rattle.md_token.specs.Spelling.{AllPass, Writes, IsSign, IsToken}
use Rattle.md_token.proofs.SpelledWords.{prefix_of, lower_is_word, lower_is_late, upper_is_late, digit_is_late, drop_one_more}
use Rattle.md_token.proofs.SpelledTexts.{string_written}
use Rattle.md_token.proofs.SpelledTokens.{both}

-- ---- a token is found, or a longer one

-- what is found is this token, or one with more bytes
pub data Reaches (k : Kind) (m : ℕ) : Option (Kind × ℕ) → Type 0 where
  same : Reaches k m (Some (k, m))
  longer : (j : Kind) (n : ℕ) → m < n → Reaches k m (Some (j, n))

-- a token begins with a byte that is no white space, and is found there
pub record Leads (after : List ℕ) (k : Kind) (t : List ℕ) : Type 0 where
  pub head : ℕ
  pub tail : List ℕ
  pub whole : t ≡ head ∷ tail
  pub not_blank : is_blank head ≡ false
  pub not_percent : is_percent head ≡ false
  pub found : Reaches k (length tail) (token_at head (tail ++ after))

pub prefix_beyond : (p : ℕ → Bool) (w after : List ℕ) → AllPass p w → prefix_len p (w ++ after) ≡ length w + prefix_len p after
prefix_beyond p [] after a = omega arith
prefix_beyond p (b ∷ w) after a = rw (a.0, prefix_beyond p w after a.1) (omega arith)

-- a run of bytes, and what goes on behind it
run_reaches : (k j : Kind) (m n : ℕ) → k ≡ j → Reaches k m (Some (j, m + n))
run_reaches k j m zero e = let s : m + 0 ≡ m = omega arith in rw (s, ← e) Reaches.same
run_reaches k j m (suc n) e = Reaches.longer j (m + suc n) (omega arith)

-- ---- names

name_by : (b : ℕ) (w after : List ℕ) (n : ℕ) (q : Bool) (more : ℕ) → Reaches (word_kind (b ∷ w)) (length w) (Some (cond q (kind.Qualified, length w + n + 1 + more) (word_kind (b ∷ take (length w + n) (w ++ after)), length w + n)))
name_by b w after n true more = Reaches.longer kind.Qualified (length w + n + 1 + more) (omega arith)
name_by b w after zero false more =
    let s : length w + 0 ≡ length w = omega arith in
    rw (s, take-append_seam w after) Reaches.same
name_by b w after (suc n) false more = Reaches.longer _ (length w + suc n) (omega arith)

name_found : (b : ℕ) (w after : List ℕ) → AllPass is_word_byte w → Reaches (word_kind (b ∷ w)) (length w) (Some (name_at b (w ++ after)))
unfolding name_at
name_found b w after a = rw (prefix_beyond is_word_byte w after a) (name_by b w after (prefix_len is_word_byte after) _ _)

first_chosen : {X : Type 0} (P : X → Type 0) (b : Bool) (x y : X) → b ≡ true → P x → P (cond b x y)
first_chosen P true x y h e = e
first_chosen P false x y h e = absurd (cc)

qualified_found : (b c : ℕ) (v w after : List ℕ) → AllPass is_word_byte v → is_ascii_lowercase c ≡ true → AllPass is_word_byte w
    → Reaches kind.Qualified (length (v ++ 46 ∷ c ∷ w)) (Some (name_at b ((v ++ 46 ∷ c ∷ w) ++ after)))
unfolding name_at
qualified_found b c v w after a h d =
    let n : length (v ++ 46 ∷ c ∷ w) ≡ length v + suc (suc (length w)) = length-append v (46 ∷ c ∷ w) in
    rw (append_assoc v (46 ∷ c ∷ w) after, prefix_of is_word_byte v 46 (c ∷ (w ++ after)) a refl, drop-append_seam v (46 ∷ c ∷ (w ++ after)), drop_one_more v (c ∷ (w ++ after)) 46, n)
    (first_chosen (λ (p : Kind × ℕ). Reaches kind.Qualified (length v + suc (suc (length w))) (Some p)) _ _ _ h
    (let e : length v + 1 + prefix_len is_word_byte (c ∷ (w ++ after)) ≡ length v + suc (suc (length w)) + prefix_len is_word_byte after = rw (lower_is_word c h, prefix_beyond is_word_byte w after d) (omega arith) in
    subst (λ (m : ℕ). Reaches kind.Qualified (length v + suc (suc (length w))) (Some (kind.Qualified, m))) (sym e) (run_reaches kind.Qualified kind.Qualified (length v + suc (suc (length w))) (prefix_len is_word_byte after) refl)))

-- ---- variables

not_alone : (b : ℕ) (w : List ℕ) (n : ℕ) → b ∷ w ≢ codes "_" → (b == 95 && length w + n == 0) ≡ false
not_alone b (c ∷ w) n h = grind arith
not_alone b [] n h = by (b == 95) refl
  where
    by : (t : Bool) → (b == 95) ≡ t → (t && 0 + n == 0) ≡ false
    by true e = absurd (h (let is : b ≡ 95 = grind arith in rw is refl))
    by false e = refl

variable_found : (b : ℕ) (w after : List ℕ) → AllPass is_word_byte w → b ∷ w ≢ codes "_" → Reaches kind.Variable (length w) (variable_at b (w ++ after))
unfolding variable_at
variable_found b w after a h =
    rw (prefix_beyond is_word_byte w after a, not_alone b w (prefix_len is_word_byte after) h) (run_reaches kind.Variable kind.Variable (length w) (prefix_len is_word_byte after) refl)

-- ---- integers, strings and signs

digits_found : (b : ℕ) (w after : List ℕ) → is_ascii_digit b ≡ true → AllPass is_ascii_digit w → Reaches kind.Integer (length w) (token_at b (w ++ after))
unfolding token_at
digits_found b w after h a =
    let l = digit_is_late b h in
    rw (l.1, l.2, h, prefix_beyond is_ascii_digit w after a) (run_reaches kind.Integer kind.Integer (length w) (prefix_len is_ascii_digit after) refl)

string_found : (v w after : List ℕ) → Writes v w → Reaches kind.Text (length (w ++ 34 ∷ [])) (token_at 34 ((w ++ 34 ∷ []) ++ after))
unfolding token_at
string_found v w after r =
    let e : length (w ++ 34 ∷ []) ≡ suc (length w) = length-append w (34 ∷ []) ∙ omega arith in
    rw (append_assoc w (34 ∷ []) after, string_written v w after r, e) Reaches.same

sign_leads : (k : Kind) (t after : List ℕ) → IsSign k t → Leads after k t
unfolding token_at sign_at colon_at dash_at single_at
sign_leads _ _ after IsSign.declare = record { head = 58; tail = 45 ∷ []; whole = refl; not_blank = refl; not_percent = refl; found = Reaches.same }
sign_leads _ _ after IsSign.yields = record { head = 45; tail = 45 ∷ 45 ∷ 62 ∷ []; whole = refl; not_blank = refl; not_percent = refl; found = Reaches.same }
sign_leads _ _ after IsSign.then_sign = record { head = 45; tail = 62 ∷ []; whole = refl; not_blank = refl; not_percent = refl; found = Reaches.same }
sign_leads _ _ after IsSign.has_mode = record { head = 58; tail = 58 ∷ []; whole = refl; not_blank = refl; not_percent = refl; found = Reaches.same }
sign_leads _ _ after IsSign.semicolon = record { head = 59; tail = []; whole = refl; not_blank = refl; not_percent = refl; found = Reaches.same }
sign_leads _ _ after IsSign.comma = record { head = 44; tail = []; whole = refl; not_blank = refl; not_percent = refl; found = Reaches.same }
sign_leads _ _ after IsSign.open_sign = record { head = 40; tail = []; whole = refl; not_blank = refl; not_percent = refl; found = Reaches.same }
sign_leads _ _ after IsSign.close = record { head = 41; tail = []; whole = refl; not_blank = refl; not_percent = refl; found = Reaches.same }
sign_leads _ _ after IsSign.open_list = record { head = 91; tail = []; whole = refl; not_blank = refl; not_percent = refl; found = Reaches.same }
sign_leads _ _ after IsSign.close_list = record { head = 93; tail = []; whole = refl; not_blank = refl; not_percent = refl; found = Reaches.same }
sign_leads _ _ after IsSign.equals = record {
  head = 61;
  tail = [];
  whole = refl;
  not_blank = refl;
  not_percent = refl;
  found = both (Reaches kind.Equals 0) (slice_index after 0 == 60) _ _ (λ _. Reaches.longer kind.AtMost 1 (omega arith)) (λ _. Reaches.same);
}
sign_leads _ _ after IsSign.at_most = record { head = 61; tail = 60 ∷ []; whole = refl; not_blank = refl; not_percent = refl; found = Reaches.same }
sign_leads _ _ after IsSign.less = record { head = 60; tail = []; whole = refl; not_blank = refl; not_percent = refl; found = Reaches.same }
sign_leads _ _ after IsSign.greater = record {
  head = 62;
  tail = [];
  whole = refl;
  not_blank = refl;
  not_percent = refl;
  found = both (Reaches kind.Greater 0) (slice_index after 0 == 61) _ _ (λ _. Reaches.longer kind.AtLeast 1 (omega arith)) (λ _. Reaches.same);
}
sign_leads _ _ after IsSign.at_least = record { head = 62; tail = 61 ∷ []; whole = refl; not_blank = refl; not_percent = refl; found = Reaches.same }
sign_leads _ _ after IsSign.plus = record { head = 43; tail = []; whole = refl; not_blank = refl; not_percent = refl; found = Reaches.same }
sign_leads _ _ after IsSign.minus = record {
  head = 45;
  tail = [];
  whole = refl;
  not_blank = refl;
  not_percent = refl;
  found =
      both (Reaches kind.Minus 0) (slice_index after 0 == 62) _ _ (λ _. Reaches.longer kind.Then 1 (omega arith))
      (λ _. both (Reaches kind.Minus 0) (slice_index after 0 == 45 && (slice_index after 1 == 45 && slice_index after 2 == 62)) _ _ (λ _. Reaches.longer kind.Yields 3 (omega arith)) (λ _. Reaches.same));
}
sign_leads _ _ after IsSign.times = record { head = 42; tail = []; whole = refl; not_blank = refl; not_percent = refl; found = Reaches.same }

late : (b : ℕ) → 37 < b → (is_blank b ≡ false) × (is_percent b ≡ false)
late b h = (grind arith, grind arith)

lower_leads : (after : List ℕ) (k : Kind) (b : ℕ) (w : List ℕ) → is_ascii_lowercase b ≡ true → Reaches k (length w) (Some (name_at b (w ++ after))) → Leads after k (b ∷ w)
unfolding token_at
lower_leads after k b w h r =
    let l = late b (lower_is_late b h) in
    record { head = b; tail = w; whole = refl; not_blank = l.0; not_percent = l.1; found = rw h r }

pub token_leads : (after : List ℕ) (k : Kind) (t : List ℕ) → IsToken after k t → Leads after k t
unfolding token_at sign_at
token_leads after _ _ (IsToken.name b w h a) = lower_leads after (word_kind (b ∷ w)) b w h (name_found b w after a)
token_leads after _ _ (IsToken.qualified b c v w h a g d) = lower_leads after kind.Qualified b (v ++ 46 ∷ c ∷ w) h (qualified_found b c v w after a g d)
token_leads after _ _ (IsToken.variable b w h a one) =
    let u = upper_is_late b h in
    let l = late b u.0 in
    record { head = b; tail = w; whole = refl; not_blank = l.0; not_percent = l.1; found = rw (u.1, h) (variable_found b w after a one) }
token_leads after _ _ (IsToken.integer b w h a) =
    let l = late b (digit_is_late b h).0 in
    record { head = b; tail = w; whole = refl; not_blank = l.0; not_percent = l.1; found = digits_found b w after h a }
token_leads after _ _ (IsToken.string v w r) = record { head = 34; tail = w ++ 34 ∷ []; whole = refl; not_blank = refl; not_percent = refl; found = string_found v w after r }
token_leads after _ _ (IsToken.sign k w s) = sign_leads k w after s
token_leads after _ _ (IsToken.end e) = record { head = 46; tail = []; whole = refl; not_blank = refl; not_percent = refl; found = rw e Reaches.same }
