-- Numbers below an end, one after the other.
use Rattle.std.proofs.Common.{◌≡◌, ℕ, ◌+◌, ◌-◌, suc, ◌<◌, Bool, true, false, List, [], ◌∷◌, ◌++◌, length, get_or, map, take, Option, Some, refl, sym, ap, ◌∙◌, arith}
use Rattle.std.specs.Prelude.{All}
use Rattle.std.specs.List.{find, range_with_len, flat_map, list_any}
use Rattle.std.proofs.lemmas.List.{append-nil, append_assoc, map_push, take_more}
use Rattle.std.proofs.lemmas.List.Concat.{flat_map-append}
use Rattle.std.proofs.lemmas.List.Folds.{list_any-append, list_any_at}
use Rattle.std.proofs.lemmas.List.FromFn.{map-range_with_len_more, length-range_with_len, get_or-range_with_len}

map_same : (xs : List ℕ) → map (λ x. x) xs ≡ xs
map_same [] = refl
map_same (x ∷ xs) = ap (λ (ys : List ℕ). x ∷ ys) (map_same xs)

pub range_more : (n : ℕ) → range_with_len 0 (n + 1) ≡ range_with_len 0 n ++ n ∷ []
range_more n =
    let place : 0 + n ≡ n = omega arith in
    sym (map_same (range_with_len 0 (n + 1))) ∙ map-range_with_len_more (λ (x : ℕ). x) 0 n n place ∙ ap (λ (xs : List ℕ). xs ++ n ∷ []) (map_same (range_with_len 0 n))

-- what stands for each number, and for one more
pub flat_more : {X : Type 0} (f : ℕ → List X) (n : ℕ) → flat_map f (range_with_len 0 (n + 1)) ≡ flat_map f (range_with_len 0 n) ++ f n
flat_more {X} f n =
    ap (λ (xs : List ℕ). flat_map f xs) (range_more n) ∙ flat_map-append f (range_with_len 0 n) (n ∷ []) ∙ ap (λ (rest : List X). flat_map f (range_with_len 0 n) ++ rest) (append-nil (f n))

pub range_there : (n : ℕ) → All (λ q. q < n) (range_with_len 0 n)
range_there n k d lt = let size = length-range_with_len 0 n in let at = get_or-range_with_len 0 n k d (omega arith) in omega arith

-- one row more of a list of numbers
pub row_pushed : {Y : Type 0} (f : ℕ → Y) (old rows new : List Y) (xs : List ℕ) (i : ℕ) (r : Y) → i < length xs → rows ≡ old ++ map f (take i xs) → r ≡ f (get_or xs i 0) → new ≡ rows ++ r ∷ []
    → new ≡ old ++ map f (take (i + 1) xs)
row_pushed {Y} f old rows new xs i r lt rows_are is new_is =
    new_is ∙ ap (λ (rs : List Y). rs ++ r ∷ []) rows_are ∙ append_assoc old (map f (take i xs)) (r ∷ [])
    ∙ ap (λ (y : Y). old ++ (map f (take i xs) ++ y ∷ [])) is
    ∙ ap (λ (ys : List Y). old ++ ys) (sym (map_push f (take i xs) (get_or xs i 0)))
    ∙ ap (λ (ys : List ℕ). old ++ map f ys) (sym (take_more xs i 0 lt))

-- the rows of one number more
pub rows_added : {X : Type 0} (f : ℕ → List X) (n : ℕ) (rows new more : List X) → rows ≡ flat_map f (range_with_len 0 n) → new ≡ rows ++ more → more ≡ f n → new ≡ flat_map f (range_with_len 0 (n + 1))
rows_added {X} f n rows new more rows_are new_is is =
    new_is ∙ ap (λ (rs : List X). rs ++ more) rows_are ∙ ap (λ (rs : List X). flat_map f (range_with_len 0 n) ++ rs) is ∙ sym (flat_more f n)

-- the same below a heading
pub rows_below : {X : Type 0} (f : ℕ → List X) (heading : X) (n : ℕ) (rows new more : List X) → rows ≡ heading ∷ flat_map f (range_with_len 0 n) → new ≡ rows ++ more → more ≡ f n
    → new ≡ heading ∷ flat_map f (range_with_len 0 (n + 1))
rows_below {X} f heading n rows new more rows_are new_is is =
    new_is ∙ ap (λ (rs : List X). rs ++ more) rows_are ∙ ap (λ (rs : List X). heading ∷ (flat_map f (range_with_len 0 n) ++ rs)) is ∙ ap (λ (rs : List X). heading ∷ rs) (sym (flat_more f n))

-- a test that one number below the end passes, and one that none has passed so far
pub any_at : (p : ℕ → Bool) (n i : ℕ) → i < n → p i ≡ true → list_any p (range_with_len 0 n) ≡ true
any_at p n i lt passes =
    let size = length-range_with_len 0 n in
    let at : get_or (range_with_len 0 n) i 0 ≡ i = (let found = get_or-range_with_len 0 n i 0 lt in omega arith) in
    list_any_at p (range_with_len 0 n) i 0 (omega arith) (ap p at ∙ passes)

pub none_more : (p : ℕ → Bool) (n : ℕ) → list_any p (range_with_len 0 n) ≡ false → p n ≡ false → list_any p (range_with_len 0 (n + 1)) ≡ false
none_more p n none fails = ap (λ (xs : List ℕ). list_any p xs) (range_more n) ∙ list_any-append p (range_with_len 0 n) (n ∷ []) ∙ rw (none, fails) refl

-- the first number that passes is the first one of those that are left, or this one
pub first_of_rest : (p : ℕ → Bool) (n i : ℕ) (first : Option ℕ) → i < n → find p (range_with_len i (n - i)) ≡ first → p i ≡ false → find p (range_with_len (i + 1) (n - (i + 1))) ≡ first
first_of_rest p n i first lt is fails =
    let e : n - i ≡ suc (n - (i + 1)) = omega arith in
    let on = rw e at is in
    rw fails at on

pub this_is_first : (p : ℕ → Bool) (n i : ℕ) (first : Option ℕ) → i < n → find p (range_with_len i (n - i)) ≡ first → p i ≡ true → Some i ≡ first
this_is_first p n i first lt is passes =
    let e : n - i ≡ suc (n - (i + 1)) = omega arith in
    let on = rw e at is in
    rw passes at on
