-- Steps of the loops over the cells of a line.
use Rattle.std.proofs.Common.{◌≡◌, ◌≢◌, ℕ, zero, suc, ◌+◌, ◌<◌, ◌≤◌, List, [], ◌∷◌, ◌++◌, length, take, get_or, max, refl, sym, ap, ◌∙◌, append_assoc, arith, cond, eqb, inl, inr}
use Rattle.std.specs.List.{flat_map, enumerate_from}
use Rattle.std.proofs.lemmas.Bool.{cases_eq}
use Rattle.std.proofs.lemmas.List.{append-nil, get_or_past, get_or_push, length-take-le, take_all, take_more}
use Rattle.std.proofs.lemmas.List.Concat.{flat_map-append}
use Rattle.std.proofs.lemmas.List.FromFn.{length-enumerate_from, get_or-enumerate_from}

-- one more element with its place
pub placed_more : {X : Type 0} (f : ℕ × X → List ℕ) (xs : List X) (d : X) (i : ℕ) → i < length xs
    → flat_map f (take (i + 1) (enumerate_from 0 xs)) ≡ flat_map f (take i (enumerate_from 0 xs)) ++ f (i, get_or xs i d)
placed_more {X} f xs d i within =
    let place : 0 + i ≡ i = omega arith in
    ap (λ (ys : List (ℕ × X)). flat_map f ys) (take_more (enumerate_from 0 xs) i (0, d) (omega (arith, length-enumerate_from 0 xs)))
    ∙ flat_map-append f (take i (enumerate_from 0 xs)) (get_or (enumerate_from 0 xs) i (0, d) ∷ [])
    ∙ ap (λ (y : ℕ × X). flat_map f (take i (enumerate_from 0 xs)) ++ (f y ++ [])) (get_or-enumerate_from 0 xs i (0, d) within)
    ∙ ap (λ (n : ℕ). flat_map f (take i (enumerate_from 0 xs)) ++ (f (n, get_or xs i d) ++ [])) place
    ∙ ap (λ (words : List ℕ). flat_map f (take i (enumerate_from 0 xs)) ++ words) (append-nil (f (i, get_or xs i d)))

pub placed_all : {X : Type 0} (f : ℕ × X → List ℕ) (xs : List X) (i : ℕ) → length xs ≤ i → flat_map f (take i (enumerate_from 0 xs)) ≡ flat_map f (enumerate_from 0 xs)
placed_all {X} f xs i end = ap (λ (ys : List (ℕ × X)). flat_map f ys) (take_all i (enumerate_from 0 xs) (omega (arith, length-enumerate_from 0 xs)))

-- one more behind a list changes nothing at other places
elsewhere : (xs : List (List ℕ)) (x : List ℕ) (i : ℕ) → i ≢ length xs → get_or (xs ++ x ∷ []) i [] ≡ get_or xs i []
elsewhere [] x zero other = absurd (omega arith)
elsewhere [] x (suc i) other = refl
elsewhere (y ∷ xs) x zero other = refl
elsewhere (y ∷ xs) x (suc i) other = elsewhere xs x i (omega arith)

-- a column and one more cell of the line
pub wider_more : (cells : List (List ℕ)) (column other old before now : ℕ) (cell : List ℕ) → column < length cells → get_or cells column cell ≡ cell
    → before ≡ max old (length (get_or (take column cells) other []))
    → now ≡ cond (eqb other column) (max before (length cell)) before
    → now ≡ max old (length (get_or (take (column + 1) cells) other []))
wider_more cells column other old before now cell within is so_far wider =
    let reached : length (take column cells) ≡ column = length-take-le column cells (omega arith) in
    let more : take (column + 1) cells ≡ take column cells ++ cell ∷ [] = take_more cells column cell within ∙ ap (λ (c : List ℕ). take column cells ++ c ∷ []) is in
    elim (cases_eq other column) [
      | inl same ↦
          let new : length (get_or (take (column + 1) cells) other []) ≡ length cell =
          ap (λ (cs : List (List ℕ)). length (get_or cs other [])) more ∙ ap length (get_or_push (take column cells) cell [] other (reached ∙ sym same)) in
          let none : length (get_or (take column cells) other []) ≡ 0 = ap length (get_or_past (take column cells) other [] (omega (arith, reached, same))) in
          grind arith
      | inr differs ↦
          let there = elsewhere (take column cells) cell other (λ same. differs (same ∙ reached)) in
          let same_width : length (get_or (take (column + 1) cells) other []) ≡ length (get_or (take column cells) other []) = ap (λ (cs : List (List ℕ)). length (get_or cs other [])) more ∙ ap length there in
          grind arith
    ]

-- what is added for each element with its place, and for one more
pub placed_added : {X : Type 0} (f : ℕ × X → List ℕ) (old out new : List ℕ) (xs : List X) (d : X) (i : ℕ) (x : X) → i < length xs
    → out ≡ old ++ flat_map f (take i (enumerate_from 0 xs)) → new ≡ out ++ f (i, x) → x ≡ get_or xs i d → new ≡ old ++ flat_map f (take (i + 1) (enumerate_from 0 xs))
placed_added {X} f old out new xs d i x within so_far added is =
    added ∙ ap (λ (o : List ℕ). o ++ f (i, x)) so_far
    ∙ append_assoc old (flat_map f (take i (enumerate_from 0 xs))) (f (i, x))
    ∙ ap (λ (y : X). old ++ (flat_map f (take i (enumerate_from 0 xs)) ++ f (i, y))) is
    ∙ ap (λ (words : List ℕ). old ++ words) (sym (placed_more f xs d i within))
