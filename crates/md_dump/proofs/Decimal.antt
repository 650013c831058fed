-- A word is a number where it is how the number is written.
use Rattle.std.proofs.Common.{◌≡◌, ℕ, zero, suc, ◌+◌, ◌-◌, ◌*◌, ◌<◌, ◌≤◌, ◌^◌, Bool, true, false, cond, ◌&&◌, ◌==◌, nat_le, List, [], ◌∷◌, length, get_or, Option, None, Some, refl, sym, ap, ◌∙◌, arith, rules}
use Rattle.std.specs.Fmt.{decimal}
use Rattle.std.specs.Str.{all_ascii_digits}
use Rattle.std.specs.List.{AllByRecursion}
use Rattle.std.proofs.lemmas.Bool.{and_parts, and_from, not-true, not_from_false, eq-eqb, ne_eqb, leb-true, le-leb, lt-leb, both_ways}
use Rattle.std.proofs.lemmas.Fmt.{digits_decimal, digits_value-decimal, decimal-digits_value, decimal_nonempty, first_decimal, decimal_digit}
use Rattle.std.proofs.lemmas.Str.Parse.{IsNumeralModel, IsDigitsTest, numerals_by_fold, tells_all_ascii_digits}
use Rattle.md_dump.specs.Numbers.{value_from, digits_up_to, begins_well, number_up_to}

own : IsNumeralModel (λ ds. all_ascii_digits ds ≡ true) (value_from 0)
own = numerals_by_fold _ (search rules) value_from (search rules)

taken : {X : Type 0} (b : Bool) (o : Option X) (x : X) → cond b o None ≡ Some x → (b ≡ true) × (o ≡ Some x)
taken true o x e = (refl, e)
taken false o x e = absurd (cc e)

leads : (w : List ℕ) → begins_well w ≡ true → (0 < length w) × (get_or w 0 0 ≡ 48 → length w ≡ 1)
leads [] h = absurd (cc h)
leads (c ∷ []) h = (omega arith, λ e. refl)
leads (c ∷ d ∷ cs) h = (omega arith, λ e. absurd (both_ways (c == 48) (not-true (c == 48) h) (eq-eqb c 48 e)))

pub number_is : (most : ℕ) (w : List ℕ) (n : ℕ) → most < 2 ^ 64 → number_up_to most w ≡ Some n → (w ≡ decimal n) × (n ≤ most)
number_is most w n small e =
    let front = taken (begins_well w) (digits_up_to most w) n e in
    let told = taken (all_ascii_digits w && nat_le (value_from 0 w) most) (Some (value_from 0 w)) n front.1 in
    let both = and_parts (all_ascii_digits w) (nat_le (value_from 0 w) most) told.0 in
    let below = leb-true (value_from 0 w) most both.1 in
    let value : value_from 0 w ≡ n = cc told.1 in
    let lead = leads w front.0 in
    let back = decimal-digits_value own w both.0 lead.0 lead.1 (omega arith) in
    (sym back ∙ ap decimal value, omega (arith, below, value))

begins : (w : List ℕ) → 0 < length w → (get_or w 0 0 ≡ 48 → length w ≡ 1) → begins_well w ≡ true
begins [] some lead = absurd (omega (arith, some))
begins (c ∷ []) some lead = refl
begins (c ∷ d ∷ cs) some lead = not_from_false (c == 48) (ne_eqb c 48 (λ e. absurd (omega (arith, lead e))))

lone_zero : (n : ℕ) → n < 2 ^ 64 → get_or (decimal n) 0 0 ≡ 48 → length (decimal n) ≡ 1
lone_zero zero small e = ap length (decimal_digit 0 (omega arith))
lone_zero (suc n) small e = absurd (omega (arith, first_decimal (suc n) (omega arith) small, e))

pub is_number : (most n : ℕ) → most < 2 ^ 64 → n ≤ most → number_up_to most (decimal n) ≡ Some n
is_number most n small below =
    let fits : n < 2 ^ 64 = omega arith in
    let front = begins (decimal n) (decimal_nonempty n fits) (lone_zero n fits) in
    let all = digits_decimal own n fits in
    let value = digits_value-decimal own n fits in
    let test = and_from (all_ascii_digits (decimal n)) (nat_le (value_from 0 (decimal n)) most) all (le-leb (value_from 0 (decimal n)) most (omega (arith, value, below))) in
    rw (front, test) (ap (λ (k : ℕ). Some k) value)

-- further digits never make a number less
value_rises : (n : ℕ) (cs : List ℕ) → n ≤ value_from n cs
value_rises n [] = omega arith
value_rises n (c ∷ cs) = omega (arith, value_rises (10 * n + (c - 48)) cs)

none_left : (a b : Bool) (n : ℕ) → b ≡ false → cond (a && b) (Some n) None ≡ None
none_left true b n h = rw h
none_left false b n h = refl

-- a number that is too great with one digit more stays so
pub too_great : (most n : ℕ) (digits rest : List ℕ) → 0 < length rest → value_from 0 digits ≡ value_from n rest → most < 10 * n + (get_or rest 0 0 - 48) → digits_up_to most digits ≡ None
too_great most n digits [] some same above = absurd (omega (arith, some))
too_great most n digits (c ∷ cs) some same above =
    let rises = value_rises (10 * n + (c - 48)) cs in
    let test : nat_le (value_from 0 digits) most ≡ false = lt-leb (value_from 0 digits) most (omega (arith, rises, same)) in
    none_left (all_ascii_digits digits) (nat_le (value_from 0 digits) most) (value_from 0 digits) test

-- the bytes of a word stand above the space
abbrev pub IsClean : List ℕ → Type 0
IsClean w = AllByRecursion (λ b. 32 < b) w

digits_clean : (ds : List ℕ) → all_ascii_digits ds ≡ true → IsClean ds
digits_clean [] all = tt
digits_clean (c ∷ cs) all =
    let parts = IsDigitsTest.parts tells_all_ascii_digits c cs all in
    let range = parts.0 in
    (omega (arith, range.0), digits_clean cs parts.1)

pub decimal_clean : (n : ℕ) → n < 2 ^ 64 → IsClean (decimal n)
decimal_clean n fits = digits_clean (decimal n) (digits_decimal own n fits)
