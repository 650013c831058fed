-- Numbers and strings, a byte at a time.
use Rattle.std.proofs.Common.{◌≡◌, ℕ, ◌+◌, ◌<◌, ◌≤◌, List, [], ◌∷◌, ◌++◌, length, get_or, drop, fold, refl, add-one, drop-cons, true, false, ◌==◌, ap, ◌∙◌, arith, append_assoc}
use Rattle.std.proofs.lemmas.List.{drop_all}
use Rattle.md_token.specs.Literal.{with_digit, number_of, value_from, meaning}

-- more digits make no number less
pub grows : (n : ℕ) (digits : List ℕ) → n ≤ fold with_digit n digits
grows n [] = omega arith
grows n (d ∷ digits) = let later : with_digit n d ≤ fold with_digit (with_digit n d) digits = grows (with_digit n d) digits in omega arith

pub next_digit : (n : ℕ) (digits : List ℕ) (i : ℕ) → i < length digits → fold with_digit n (drop i digits) ≡ fold with_digit (with_digit n (get_or digits i 0)) (drop (i + 1) digits)
next_digit n digits i h = rw (add-one i, drop-cons digits i 0) refl

-- one byte of a string, with what came before it
pub next_escaped : (before all bytes : List ℕ) (i : ℕ) → i < length bytes → before ++ value_from true (drop i bytes) ≡ all → (before ++ meaning (get_or bytes i 0) ∷ []) ++ value_from false (drop (i + 1) bytes) ≡ all
next_escaped before all bytes i h e = rw (append_assoc, add-one i) (rw (drop-cons bytes i 0) at e)

pub next_backslash : (before all bytes : List ℕ) (i : ℕ) → i < length bytes → get_or bytes i 0 ≡ 92 → before ++ value_from false (drop i bytes) ≡ all → before ++ value_from true (drop (i + 1) bytes) ≡ all
next_backslash before all bytes i h b e = rw (add-one i) (rw (drop-cons bytes i 0, b) at e)

pub next_plain : (before all bytes : List ℕ) (i : ℕ) → i < length bytes → (get_or bytes i 0 == 92) ≡ false → before ++ value_from false (drop i bytes) ≡ all → (before ++ get_or bytes i 0 ∷ []) ++ value_from false (drop (i + 1) bytes) ≡ all
next_plain before all bytes i h b e = rw (append_assoc, add-one i) (rw (drop-cons bytes i 0, b) at e)

pub too_great : (digits : List ℕ) (n i : ℕ) → i < length digits → 922337203685477580 < n → fold with_digit 0 digits ≡ fold with_digit n (drop i digits) → number_of digits ≤ 9223372036854775808 → ⊥
unfolding number_of
too_great digits n i h great e small =
    let d = get_or digits i 0 in
    let later : with_digit n d ≤ fold with_digit (with_digit n d) (drop (i + 1) digits) = grows (with_digit n d) (drop (i + 1) digits) in
    let next : fold with_digit n (drop i digits) ≡ fold with_digit (with_digit n d) (drop (i + 1) digits) = next_digit n digits i h in
    omega arith

pub all_digits : (digits : List ℕ) (n i : ℕ) → length digits ≤ i → fold with_digit 0 digits ≡ fold with_digit n (drop i digits) → number_of digits ≡ n
unfolding number_of
all_digits digits n i h e = e ∙ ap (fold with_digit n) (drop_all i digits h)
