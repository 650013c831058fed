-- A generated program is short enough to be read.
use Rattle.std.proofs.Common.{◌≡◌, ◌∙◌, refl, ap, sym, subst, append_assoc, ℕ, ◌-◌, zero, suc, ◌+◌, ◌*◌, ◌<◌, ◌≤◌, ◌==◌, Bool, true, false, List, [], ◌∷◌, ◌++◌, length, length-append, codes, arith, if◌then◌else◌}
use Rattle.std.proofs.lemmas.Fmt.{length-decimal-le}
use Rattle.std.specs.Fmt.{decimal}
use Rattle.law_generated.specs.Generated.{level_name, level_body, level, levels, generated_main, gen_text}

name_short : (i : ℕ) → i < 100 → length (level_name i) ≤ 3
name_short i below =
    let digits : length (decimal i) ≤ 2 = length-decimal-le 2 i (omega arith) below (omega (arith, below)) in
    let one : length (codes "p") ≡ 1 = refl in
    omega (arith, length-append (codes "p") (decimal i), digits, one)

body_short : (n i : ℕ) → i < 99 → length (level_body n i) ≤ 8
body_short n i below = by (i == n)
  where
    by : (b : Bool) → length (if b then codes "true" else (level_name (i + 1) ++ (codes ", " ++ level_name (i + 1)))) ≤ 8
    by true = let four : length (codes "true") ≡ 4 = refl in omega (arith, four)
    by false =
        let name = name_short (i + 1) (omega (arith, below)) in
        let two : length (codes ", ") ≡ 2 = refl in
        omega (arith, length-append (level_name (i + 1)) (codes ", " ++ level_name (i + 1)), length-append (codes ", ") (level_name (i + 1)), name, two)

level_short : (n i : ℕ) → i < 99 → length (level n i) ≤ 37
level_short n i below =
    let name = name_short i (omega (arith, below)) in
    let body = body_short n i below in
    let a : length (codes ":- pred ") ≡ 8 = refl in
    let b : length (codes " is det.\n") ≡ 9 = refl in
    let c : length (codes " :- ") ≡ 4 = refl in
    let d : length (codes ".\n") ≡ 2 = refl in
    let last = length-append (level_body n i) (codes ".\n") in
    let rule = length-append (codes " :- ") (level_body n i ++ codes ".\n") in
    let clause = length-append (level_name i) (codes " :- " ++ (level_body n i ++ codes ".\n")) in
    let det = length-append (codes " is det.\n") (level_name i ++ (codes " :- " ++ (level_body n i ++ codes ".\n"))) in
    let named = length-append (level_name i) (codes " is det.\n" ++ (level_name i ++ (codes " :- " ++ (level_body n i ++ codes ".\n")))) in
    let whole = length-append (codes ":- pred ") (level_name i ++ (codes " is det.\n" ++ (level_name i ++ (codes " :- " ++ (level_body n i ++ codes ".\n"))))) in
    omega (arith, name, body, a, b, c, d, last, rule, clause, det, named, whole)

levels_short : (n a k : ℕ) → a + k < 100 → length (levels n a k) ≤ 37 * k
levels_short n a zero below = omega arith
levels_short n a (suc k) below =
    let first = level_short n a (omega (arith, below)) in
    let rest = levels_short n (suc a) k (omega (arith, below)) in
    omega (arith, length-append (level n a) (levels n (suc a) k), first, rest)

pub gen_short : (n : ℕ) → n ≤ 20 → length (gen_text n) ≤ 1048576
gen_short n few =
    let head : length generated_main ≡ 83 = refl in
    let rest = levels_short n 1 n (omega (arith, few)) in
    omega (arith, length-append generated_main (levels n 1 n), head, rest, few)

next_number : (i : ℕ) → suc i ≡ i + 1
next_number i = omega arith

next_after : (n i : ℕ) (xs ys t : List ℕ) → i < n → ys ≡ xs ++ level n (suc i) → xs ++ levels n (suc i) (n - i) ≡ t → ys ++ levels n (suc (suc i)) (n - suc i) ≡ t
next_after n i xs ys t below is h =
    let more : n - i ≡ suc (n - suc i) = omega (arith, below) in
    ap (λ (b : List ℕ). b ++ levels n (suc (suc i)) (n - suc i)) is
    ∙ (append_assoc xs (level n (suc i)) (levels n (suc (suc i)) (n - suc i))
    ∙ (ap (λ (k : ℕ). xs ++ levels n (suc i) k) (sym more) ∙ h))

-- one procedure more is written
pub next_level : (n i : ℕ) (xs ys t : List ℕ) → i < n → ys ≡ xs ++ level n (i + 1) → xs ++ levels n (suc i) (n - i) ≡ t → ys ++ levels n (suc (i + 1)) (n - (i + 1)) ≡ t
next_level n i xs ys t below is h =
    subst (λ (k : ℕ). ys ≡ xs ++ level n k → ys ++ levels n (suc k) (n - k) ≡ t) (next_number i) (λ same. next_after n i xs ys t below same h) is

nothing : (bytes : List ℕ) → bytes ≡ bytes ++ []
nothing [] = refl
nothing (b ∷ bytes) = ap (λ (all : List ℕ). b ∷ all) (nothing bytes)

-- nothing is left
pub no_level : (n i : ℕ) (xs t : List ℕ) → n ≤ i → xs ++ levels n (suc i) (n - i) ≡ t → xs ≡ t
no_level n i xs t past h =
    let none : n - i ≡ 0 = omega (arith, past) in
    nothing xs ∙ (ap (λ (k : ℕ). xs ++ levels n (suc i) k) (sym none) ∙ h)
