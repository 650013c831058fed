-- Numbers in decimal, and texts that begin with one.
use Rattle.std.proofs.Common.{ℕ, zero, suc, ◌≡◌, ◌∙◌, ◌+◌, ◌<◌, ◌^◌, inl, inr, refl, sym, ap, subst, arith, Bool, true, false, ◌&&◌, cond, List, [], ◌∷◌, ◌++◌, length, get_or, take, drop, decimal, Result, Ok, Err}
use Rattle.std.specs.Char.{is_ascii_digit}
use Rattle.std.specs.List.{prefix_len}
use Rattle.std.specs.Result.{OkIff}
use Rattle.std.specs.Str.{all_ascii_digits, bytes_eq, IsUtf8}
use Rattle.std.specs.Str.Parse.{digits_value, ParsesUnsigned}
use Rattle.std.proofs.lemmas.Fmt.{digits_decimal, first_decimal, decimal_injective, decimal_digit, decimal-digits_value, parse-decimal, IsAscii-from_digits}
use Rattle.std.proofs.lemmas.List.{append_cancel_left, append_cancel_right, take-append-drop, take_at}
use Rattle.std.proofs.lemmas.List.Prefix.{front_rest}
use Rattle.std.proofs.lemmas.Bool.{cases_lt}
use Rattle.std.proofs.lemmas.Slice.Eq.{bytes_eq-Decides}
use Rattle.std.proofs.lemmas.Str.{IsUtf8-from_ascii}
use Rattle.std.proofs.lemmas.Str.Parse.{IsNumeralModel, numerals_by_value, tells_all_ascii_digits, parse_digits}
use Rattle.md_feedback.specs.Lines.{IsNumberAfter}

-- digits are tested by `all_ascii_digits` and have their usual value
pub digit_model : IsNumeralModel (λ ds. all_ascii_digits ds ≡ true) (digits_value 10)
digit_model = numerals_by_value _ tells_all_ascii_digits

pub are_digits : (n : ℕ) → n < 2 ^ 64 → all_ascii_digits (decimal n) ≡ true
are_digits n small = digits_decimal digit_model n small

-- ---- digits at the front

-- a text that doesn't begin with a digit
abbrev pub NoDigit : List ℕ → Type 0
NoDigit rest = is_ascii_digit (get_or rest 0 0) ≡ false

both_true : (a b : Bool) → (a && b) ≡ true → (a ≡ true) × (b ≡ true)
both_true true b h = (refl, h)
both_true false b h = absurd (cc)

first_digit : (d : ℕ) (ds : List ℕ) → all_ascii_digits (d ∷ ds) ≡ true → is_ascii_digit d ≡ true
first_digit d ds h = (both_true (is_ascii_digit d) (all_ascii_digits ds) h).0

more_digits : (d : ℕ) (ds : List ℕ) → all_ascii_digits (d ∷ ds) ≡ true → all_ascii_digits ds ≡ true
more_digits d ds h = (both_true (is_ascii_digit d) (all_ascii_digits ds) h).1

-- the length of the digits at the front, where a byte is one, or is none
length_at : (v : Bool) (n : ℕ) → v ≡ true → cond v (1 + n) 0 ≡ suc n
length_at true n h = omega arith
length_at false n h = absurd (cc)

length_at_none : (v : Bool) (n : ℕ) → v ≡ false → cond v (1 + n) 0 ≡ 0
length_at_none true n h = absurd (cc)
length_at_none false n h = refl

-- the digits at the front are those before what doesn't begin with one
pub digits_end : (ds rest : List ℕ) → all_ascii_digits ds ≡ true → NoDigit rest → prefix_len is_ascii_digit (ds ++ rest) ≡ length ds
digits_end [] [] all none = refl
digits_end [] (r ∷ rest) all none = length_at_none (is_ascii_digit r) (prefix_len is_ascii_digit rest) none
digits_end (d ∷ ds) rest all none =
    length_at (is_ascii_digit d) (prefix_len is_ascii_digit (ds ++ rest)) (first_digit d ds all) ∙ ap suc (digits_end ds rest (more_digits d ds all) none)

both_hold : (a b : Bool) → a ≡ true → b ≡ true → (a && b) ≡ true
both_hold true b h k = k
both_hold false b h k = absurd (cc)

front_at : (b : ℕ) (text : List ℕ) (n : ℕ) (v : Bool) → is_ascii_digit b ≡ v → all_ascii_digits (take n text) ≡ true → all_ascii_digits (take (cond v (1 + n) 0) (b ∷ text)) ≡ true
front_at b text n true h more =
    let one : 1 + n ≡ suc n = omega arith in
    subst (λ (k : ℕ). all_ascii_digits (take k (b ∷ text)) ≡ true) (sym one) (both_hold (is_ascii_digit b) (all_ascii_digits (take n text)) h more)
front_at b text n false h more = refl

-- the front is digits
pub front_is_digits : (text : List ℕ) → all_ascii_digits (take (prefix_len is_ascii_digit text) text) ≡ true
front_is_digits [] = refl
front_is_digits (b ∷ text) = front_at b text (prefix_len is_ascii_digit text) (is_ascii_digit b) refl (front_is_digits text)

follows_at : (b : ℕ) (text : List ℕ) (n : ℕ) (v : Bool) → is_ascii_digit b ≡ v → NoDigit (drop n text) → NoDigit (drop (cond v (1 + n) 0) (b ∷ text))
follows_at b text n true h more =
    let one : 1 + n ≡ suc n = omega arith in
    subst (λ (k : ℕ). NoDigit (drop k (b ∷ text))) (sym one) more
follows_at b text n false h more = h

-- and what follows doesn't begin with one
pub none_follows : (text : List ℕ) → NoDigit (drop (prefix_len is_ascii_digit text) text)
none_follows [] = refl
none_follows (b ∷ text) = follows_at b text (prefix_len is_ascii_digit text) (is_ascii_digit b) refl (none_follows text)

-- so there is one way to cut them off
pub digits_cut : (ds es r s : List ℕ) → all_ascii_digits ds ≡ true → all_ascii_digits es ≡ true → NoDigit r → NoDigit s → ds ++ r ≡ es ++ s → (ds ≡ es) × (r ≡ s)
digits_cut ds es r s all also none nor same =
    let n : length ds ≡ length es = sym (digits_end ds r all none) ∙ (ap (prefix_len is_ascii_digit) same ∙ digits_end es s also nor) in
    let after : r ≡ s = sym (front_rest (ds ++ r) ds r refl) ∙ (ap (λ k. drop k (ds ++ r)) n ∙ (ap (drop (length es)) same ∙ front_rest (es ++ s) es s refl)) in
    (append_cancel_right ds es s (subst (λ (t : List ℕ). ds ++ t ≡ es ++ s) after same), after)

-- ---- numbers behind words

-- at the front of a text stands one number
pub number_is_one : (words text r s : List ℕ) (m n : ℕ) → IsNumberAfter words text m r → IsNumberAfter words text n s → (m ≡ n) × (r ≡ s)
number_is_one words text r s m n a b =
    let same : decimal m ++ r ≡ decimal n ++ s = append_cancel_left words (decimal m ++ r) (decimal n ++ s) (sym a.is ∙ b.is) in
    let cut : (decimal m ≡ decimal n) × (r ≡ s) = digits_cut (decimal m) (decimal n) r s (are_digits m a.small) (are_digits n b.small) a.ends b.ends same in
    (decimal_injective m n a.small b.small cut.0, cut.1)

-- where nothing follows, there is no further digit
pub ends_in_nothing : NoDigit []
ends_in_nothing = refl

-- ---- which digits a number is written in

-- no leading zeros
pub no_leading_zero : (n : ℕ) (ds : List ℕ) → n < 2 ^ 64 → ds ≡ decimal n → 1 < length ds → get_or ds 0 0 ≡ 48 → ⊥
no_leading_zero zero ds small is long first =
    let l : length ds ≡ 1 = ap length (is ∙ decimal_digit 0 (omega arith)) in
    omega arith
no_leading_zero (suc n) ds small is long first =
    let high : 48 < get_or (decimal (suc n)) 0 0 = first_decimal (suc n) (omega arith) small in
    let e : get_or ds 0 0 ≡ get_or (decimal (suc n)) 0 0 = ap (λ xs. get_or xs 0 0) is in
    omega arith

pub digits_are_text : (ds : List ℕ) → all_ascii_digits ds ≡ true → IsUtf8 ds
digits_are_text ds all = IsUtf8-from_ascii ds (IsAscii-from_digits ds (digit_model.to ds all))

one_long : (text : List ℕ) → 0 < length text → (1 < length text → ⊥) → length text ≡ 1
one_long text some not_long = elim (cases_lt 1 (length text)) [ inl long ↦ absurd (not_long long) | inr short ↦ omega arith ]

-- what `parse` answers on digits without leading zeros
pub parsed_is_written : {E : Type 0} (ds text : List ℕ) (n : ℕ) (r : Result ℕ E) → ParsesUnsigned 64 10 text r → text ≡ ds → r ≡ Ok n
    → all_ascii_digits ds ≡ true → ((1 < length ds) → get_or ds 0 0 ≡ 48 → ⊥) → ds ≡ decimal n
parsed_is_written {E} ds text n r parsed same found all plain =
    let digits : all_ascii_digits text ≡ true = subst (λ (t : List ℕ). all_ascii_digits t ≡ true) (sym same) all in
    let told : OkIff r ((0 < length text) × (digits_value 10 text < 2 ^ 64)) (digits_value 10 text) = parse_digits digit_model 64 text r parsed digits in
    let here : OkIff {T = ℕ} {E = E} (Ok n) ((0 < length text) × (digits_value 10 text < 2 ^ 64)) (digits_value 10 text)
    = subst (λ (q : Result ℕ E). OkIff q ((0 < length text) × (digits_value 10 text < 2 ^ 64)) (digits_value 10 text)) found told in
    let one : get_or text 0 0 ≡ 48 → length text ≡ 1 = λ zero_first. one_long text here.0.0 (λ long. plain (subst (λ (t : List ℕ). 1 < length t) same long) (subst (λ (t : List ℕ). get_or t 0 0 ≡ 48) same zero_first)) in
    sym same ∙ (sym (decimal-digits_value digit_model text digits here.0.0 one here.0.1) ∙ ap decimal (sym here.1))

pub written_is_parsed : {E : Type 0} (ds text : List ℕ) (n : ℕ) (r : Result ℕ E) (e : E) → ParsesUnsigned 64 10 text r → text ≡ ds → r ≡ Err e → n < 2 ^ 64 → ds ≡ decimal n → ⊥
written_is_parsed {E} ds text n r e parsed same failed small is =
    let found : r ≡ Ok n = parse-decimal 64 n text r small small (same ∙ is) parsed in
    absurd (cc)

-- ---- words at the front

pub stripped : (text words rest : List ℕ) → bytes_eq (take (length words) text) words ≡ true → rest ≡ drop (length words) text → text ≡ words ++ rest
stripped text words rest front is =
    let same : take (length words) text ≡ words = (bytes_eq-Decides (take (length words) text) words).0 front in
    sym (take-append-drop (length words) text) ∙ (ap (λ xs. xs ++ drop (length words) text) same ∙ ap (λ xs. words ++ xs) (sym is))

pub not_stripped : (words text : List ℕ) → bytes_eq (take (length words) text) words ≡ false → (n : ℕ) (rest : List ℕ) → IsNumberAfter words text n rest → ⊥
not_stripped words text apart n rest number =
    let front : take (length words) text ≡ words
    = ap (take (length words)) number.is ∙ take_at words (decimal n ++ rest) (length words) refl in
    let same : bytes_eq (take (length words) text) words ≡ true = (bytes_eq-Decides (take (length words) text) words).1 front in
    absurd (cc)

pub no_number : (words text behind digits rest : List ℕ) → text ≡ words ++ behind → behind ≡ digits ++ rest → all_ascii_digits digits ≡ true → NoDigit rest
    → ((n : ℕ) → n < 2 ^ 64 → digits ≡ decimal n → ⊥) → (n : ℕ) (r : List ℕ) → IsNumberAfter words text n r → ⊥
no_number words text behind digits rest is cut all none other n r number =
    let same : digits ++ rest ≡ decimal n ++ r = sym cut ∙ append_cancel_left words behind (decimal n ++ r) (sym is ∙ number.is) in
    other n number.small (digits_cut digits (decimal n) rest r all (are_digits n number.small) none number.ends same).0

pub number_found : (words text behind digits rest : List ℕ) (n : ℕ) → text ≡ words ++ behind → behind ≡ digits ++ rest → NoDigit rest → digits ≡ decimal n → n < 2 ^ 64
    → IsNumberAfter words text n rest
number_found words text behind digits rest n is cut none number small = record {
  small = small;
  is = is ∙ ap (λ xs. words ++ xs) (cut ∙ ap (λ xs. xs ++ rest) number);
  ends = none;
}
