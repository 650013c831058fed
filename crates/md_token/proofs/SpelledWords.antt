-- Names, variables and integers that are read as themselves.
use Rattle.std.specs.Prelude.{decimal}
use Rattle.std.proofs.Common.{◌≡◌, ℕ, suc, ◌+◌, ◌*◌, ◌<◌, ◌/◌, ◌%◌, ◌^◌, Bool, true, false, cond, ◌&&◌, ◌||◌, ◌==◌, Some, List, [], ◌∷◌, ◌++◌, length, take, drop, refl, ap, ◌∙◌, append_assoc, arith, add-one}
use Rattle.std.proofs.Math.Seq.{take-append_seam, drop-append_seam}
use Rattle.std.proofs.lemmas.List.{length-append}
use Rattle.std.proofs.lemmas.Grind.{fold-append}
use Rattle.std.proofs.lemmas.Fmt.{decimal_by_steps}
use Rattle.std.specs.List.{prefix_len}
use Rattle.std.specs.Char.{is_ascii_digit, is_ascii_uppercase, is_ascii_lowercase}
use Rattle.md_token.specs.declared.kind.Kind.TheVariants as kind
use Rattle.md_token.specs.Literal.{number_of, with_digit}
use Rattle.md_token.specs.Token.{prefix_at, prefix_of_token, token_at, name_at, variable_at, word_kind, is_word_byte, is_blank, is_percent}
pub use Rattle.md_token.specs.Spelling.{AllPass}
use Rattle.md_token.proofs.Spelled.{Reads}

pub pass_append : (p : ℕ → Bool) (v w : List ℕ) → AllPass p v → AllPass p w → AllPass p (v ++ w)
pass_append p [] w a c = c
pass_append p (b ∷ v) w a c = (a.0, pass_append p v w a.1 c)

pub prefix_of : (p : ℕ → Bool) (w : List ℕ) (x : ℕ) (rest : List ℕ) → AllPass p w → p x ≡ false → prefix_len p (w ++ x ∷ rest) ≡ length w
prefix_of p [] x rest a h = rw h refl
prefix_of p (b ∷ w) x rest a h = rw (a.0, prefix_of p w x rest a.1 h) (omega arith)

taken_by : (p : ℕ → Bool) (b : ℕ) (w bytes : List ℕ) (n : ℕ) (t : Bool) → p b ≡ t → AllPass p (take n bytes) → AllPass p (take (cond t (1 + n) 0) (b ∷ bytes))
taken_by p b w bytes n true e a = let s : 1 + n ≡ suc n = omega arith in rw s (e, a)
taken_by p b w bytes n false e a = tt

pub taken_pass : (p : ℕ → Bool) (bytes : List ℕ) → AllPass p (take (prefix_len p bytes) bytes)
taken_pass p [] = tt
taken_pass p (b ∷ bytes) = taken_by p b bytes bytes (prefix_len p bytes) (p b) refl (taken_pass p bytes)

-- ---- names

past_blanks : (b : ℕ) (bytes : List ℕ) → 37 < b → prefix_at b bytes ≡ prefix_of_token (token_at b bytes)
unfolding prefix_at
past_blanks b bytes h =
    let e : is_blank b ≡ false = grind arith in
    let f : is_percent b ≡ false = grind arith in
    rw (e, f) refl

pub lower_is_late : (b : ℕ) → is_ascii_lowercase b ≡ true → 37 < b
lower_is_late b h = grind arith

pub lower_is_word : (b : ℕ) → is_ascii_lowercase b ≡ true → is_word_byte b ≡ true
lower_is_word b h = grind arith

named : (b : ℕ) (w rest : List ℕ) → AllPass is_word_byte w → name_at b (w ++ 32 ∷ rest) ≡ (word_kind (b ∷ w), length w)
unfolding name_at
named b w rest a = rw (prefix_of is_word_byte w 32 rest a refl, drop-append_seam w (32 ∷ rest), take-append_seam w (32 ∷ rest)) refl

at_lower : (b : ℕ) (bytes : List ℕ) → is_ascii_lowercase b ≡ true → prefix_at b bytes ≡ prefix_of_token (Some (name_at b bytes))
unfolding token_at
at_lower b bytes h = past_blanks b bytes (lower_is_late b h) ∙ rw h refl

pub reads_name : (b : ℕ) (w : List ℕ) → is_ascii_lowercase b ≡ true → AllPass is_word_byte w → Reads (word_kind (b ∷ w)) (b ∷ w)
reads_name b w h a = record {
  head = b;
  tail = w;
  whole = refl;
  prefix = λ rest. at_lower b (w ++ 32 ∷ rest) h ∙ rw (named b w rest a) refl;
}

qualified_length : (v w : List ℕ) (c : ℕ) → length v + 1 + (1 + length w) ≡ length (v ++ 46 ∷ c ∷ w)
qualified_length v w c = let e : length (v ++ 46 ∷ c ∷ w) ≡ length v + length (46 ∷ c ∷ w) = length-append v (46 ∷ c ∷ w) in omega arith

drop_past : (v rest : List ℕ) (x : ℕ) → drop (suc (length v)) (v ++ x ∷ rest) ≡ rest
drop_past [] rest x = refl
drop_past (y ∷ v) rest x = drop_past v rest x

pub drop_one_more : (v rest : List ℕ) (x : ℕ) → drop (length v + 1) (v ++ x ∷ rest) ≡ rest
drop_one_more v rest x = rw (add-one (length v)) (drop_past v rest x)

first_chosen : {X : Type 0} (b : Bool) (x y z : X) → b ≡ true → x ≡ z → cond b x y ≡ z
first_chosen true x y z h e = e
first_chosen false x y z h e = absurd (cc)

qualified_at : (b c : ℕ) (v w rest : List ℕ) → AllPass is_word_byte v → is_ascii_lowercase c ≡ true → AllPass is_word_byte w
    → name_at b (v ++ 46 ∷ c ∷ (w ++ 32 ∷ rest)) ≡ (kind.Qualified, length v + 1 + (1 + length w))
unfolding name_at
qualified_at b c v w rest a h d =
    rw (prefix_of is_word_byte v 46 (c ∷ (w ++ 32 ∷ rest)) a refl, drop-append_seam v (46 ∷ c ∷ (w ++ 32 ∷ rest)), drop_one_more v (c ∷ (w ++ 32 ∷ rest)) 46)
    (first_chosen _ _ _ _ h (ap (λ (n : ℕ). (kind.Qualified, length v + 1 + n)) (rw (lower_is_word c h, prefix_of is_word_byte w 32 rest d refl) refl)))

pub reads_qualified : (b c : ℕ) (v w : List ℕ) → is_ascii_lowercase b ≡ true → AllPass is_word_byte v → is_ascii_lowercase c ≡ true → AllPass is_word_byte w
    → Reads kind.Qualified (b ∷ (v ++ 46 ∷ c ∷ w))
reads_qualified b c v w h a g d = record {
  head = b;
  tail = v ++ 46 ∷ c ∷ w;
  whole = refl;
  prefix = λ rest.
      at_lower b ((v ++ 46 ∷ c ∷ w) ++ 32 ∷ rest) h
      ∙ rw (append_assoc v (46 ∷ c ∷ w) (32 ∷ rest), qualified_at b c v w rest a g d, qualified_length v w c) refl;
}

-- ---- variables

pub upper_is_late : (b : ℕ) → (is_ascii_uppercase b || b == 95) ≡ true → (37 < b) × (is_ascii_lowercase b ≡ false)
upper_is_late b h = (grind arith, grind arith)

variable_from : (b : ℕ) (w rest : List ℕ) → AllPass is_word_byte w → (b == 95 && length w == 0) ≡ false → variable_at b (w ++ 32 ∷ rest) ≡ Some (kind.Variable, length w)
unfolding variable_at
variable_from b w rest a e = rw (prefix_of is_word_byte w 32 rest a refl, e) refl

at_upper : (b : ℕ) (bytes : List ℕ) → (is_ascii_uppercase b || b == 95) ≡ true → prefix_at b bytes ≡ prefix_of_token (variable_at b bytes)
unfolding token_at
at_upper b bytes h = let l = upper_is_late b h in past_blanks b bytes l.0 ∙ rw (l.1, h) refl

pub reads_variable : (b : ℕ) (w : List ℕ) → (is_ascii_uppercase b || b == 95) ≡ true → AllPass is_word_byte w → (b == 95 && length w == 0) ≡ false → Reads kind.Variable (b ∷ w)
reads_variable b w h a e = record {
  head = b;
  tail = w;
  whole = refl;
  prefix = λ rest. at_upper b (w ++ 32 ∷ rest) h ∙ ap prefix_of_token (variable_from b w rest a e);
}

-- ---- integers

pub data Digits : List ℕ → Type 0 where
  digits : (b : ℕ) (w : List ℕ) → is_ascii_digit b ≡ true → AllPass is_ascii_digit w → Digits (b ∷ w)

more_digits : (ds : List ℕ) (d : ℕ) → is_ascii_digit d ≡ true → Digits ds → Digits (ds ++ d ∷ [])
more_digits _ d h (digits b w g a) = digits b (w ++ d ∷ []) g (pass_append is_ascii_digit w (d ∷ []) a (h, tt))

digit_of : (d : ℕ) → d < 10 → is_ascii_digit (48 + d) ≡ true
digit_of d h = grind arith

pub decimal_digits : (n : ℕ) → n < 2 ^ 64 → Digits (decimal n)
decimal_digits =
    decimal_by_steps (λ n ds. Digits ds)
    (λ n h. digits (48 + n) [] (digit_of n h) tt)
    (λ n ds h before. more_digits ds (48 + n % 10) (digit_of (n % 10) (omega arith)) before)

pub digit_is_late : (b : ℕ) → is_ascii_digit b ≡ true → (37 < b) × (is_ascii_lowercase b ≡ false) × ((is_ascii_uppercase b || b == 95) ≡ false)
digit_is_late b h = (grind arith, grind arith, grind arith)

at_digit : (b : ℕ) (bytes : List ℕ) → is_ascii_digit b ≡ true → prefix_at b bytes ≡ prefix_of_token (Some (kind.Integer, prefix_len is_ascii_digit bytes))
unfolding token_at
at_digit b bytes h = let l = digit_is_late b h in past_blanks b bytes l.0 ∙ rw (l.1, l.2, h) refl

pub reads_digits : (ds : List ℕ) → Digits ds → Reads kind.Integer ds
reads_digits _ (digits b w h a) = record {
  head = b;
  tail = w;
  whole = refl;
  prefix = λ rest. at_digit b (w ++ 32 ∷ rest) h ∙ rw (prefix_of is_ascii_digit w 32 rest a refl) refl;
}

next_number : (n m : ℕ) (ds : List ℕ) → n < 10 → number_of ds ≡ m → number_of (ds ++ (48 + n) ∷ []) ≡ 10 * m + n
unfolding number_of
next_number n m ds h e = fold-append with_digit 0 ds ((48 + n) ∷ []) ∙ rw e (omega arith)

pub number_of-decimal : (n : ℕ) → n < 2 ^ 64 → number_of (decimal n) ≡ n
unfolding number_of
number_of-decimal =
    decimal_by_steps (λ n ds. number_of ds ≡ n)
    (λ n h. omega arith)
    (λ n ds h before. let s : 10 * (n / 10) + n % 10 ≡ n = omega arith in next_number (n % 10) (n / 10) ds (omega arith) before ∙ s)
