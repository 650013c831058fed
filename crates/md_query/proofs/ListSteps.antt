-- One more number, place or row of a list.
use Rattle.std.proofs.Common.{◌≡◌, ℕ, suc, ◌+◌, ◌<◌, ◌≤◌, Bool, true, false, cond, eqb, ltb, List, [], ◌∷◌, ◌++◌, length, get_or, set, take, map, Option, Some, None, refl, sym, ap, ◌∙◌, inl, inr, subst, arith}
use Rattle.std.specs.Prelude.{All}
use Rattle.std.specs.List.{find, position, position_or_len, range_with_len, slice_get}
use Rattle.std.proofs.lemmas.Bool.{cases_Bool, cases_eq, cases_lt, eq-eqb, ne_eqb, lt-ltb, le-ltb}
use Rattle.std.proofs.lemmas.List.{take_more, length-take-le, map_push, append_assoc, append-nil, get_or-set_same, get_or-set_other, length-append, length-set}
use Rattle.std.proofs.lemmas.List.Elements.{All-nil, All-cons, All-head, All-tail, All-weaker}
use Rattle.std.proofs.lemmas.List.FromFn.{map-range_with_len_more, length-range_with_len, get_or-range_with_len}
use Rattle.md_clique.specs.Places.{places_from, places}
use Rattle.md_clique.proofs.EntryPlaces.{places_from-push}

-- ---- numbers

map_same : (xs : List ℕ) → map (λ x. x) xs ≡ xs
map_same [] = refl
map_same (x ∷ xs) = ap (λ (ys : List ℕ). x ∷ ys) (map_same xs)

pub range_more : (a n : ℕ) → range_with_len a (n + 1) ≡ range_with_len a n ++ (a + n) ∷ []
range_more a n =
    sym (map_same (range_with_len a (n + 1))) ∙ map-range_with_len_more (λ (x : ℕ). x) a n (a + n) refl ∙ ap (λ (xs : List ℕ). xs ++ (a + n) ∷ []) (map_same (range_with_len a n))

-- ---- places

pub places_more : {X : Type 0} (p : X → Bool) (xs : List X) (i : ℕ) (d : X) → i < length xs → places p (take (i + 1) xs) ≡ places p (take i xs) ++ cond (p (get_or xs i d)) (i ∷ []) []
places_more p xs i d lt =
    let n : 0 + length (take i xs) ≡ i = (let e = length-take-le i xs (omega arith) in omega arith) in
    rw (take_more xs i d lt) (places_from-push p 0 (take i xs) (get_or xs i d) ∙ ap (λ (k : ℕ). places p (take i xs) ++ cond (p (get_or xs i d)) (k ∷ []) []) n)

-- the next element is x, and passes or not
pub places_in : {X : Type 0} (p : X → Bool) (xs : List X) (i : ℕ) (x : X) → i < length xs → x ≡ get_or xs i x → p x ≡ true → places p (take (i + 1) xs) ≡ places p (take i xs) ++ i ∷ []
places_in p xs i x lt is passes = places_more p xs i x lt ∙ ap (λ (b : Bool). places p (take i xs) ++ cond b (i ∷ []) []) (ap p (sym is) ∙ passes)

pub places_out : {X : Type 0} (p : X → Bool) (xs : List X) (i : ℕ) (x : X) → i < length xs → x ≡ get_or xs i x → p x ≡ false → places p (take (i + 1) xs) ≡ places p (take i xs)
places_out p xs i x lt is fails =
    places_more p xs i x lt ∙ ap (λ (b : Bool). places p (take i xs) ++ cond b (i ∷ []) []) (ap p (sym is) ∙ fails) ∙ append-nil (places p (take i xs))

pub places_le : {X : Type 0} (p : X → Bool) (k : ℕ) (xs : List X) → length (places_from p k xs) ≤ length xs
places_le p k [] = omega arith
places_le p k (x ∷ xs) =
    let rest = places_le p (k + 1) xs in
    elim (cases_Bool (p x)) [ inl holds ↦ rw holds (omega arith) | inr fails ↦ rw fails (omega arith) ]

-- a number of a range is below its end
pub range_there : (n : ℕ) → All (λ q. q < n) (range_with_len 0 n)
range_there n k d lt = let size = length-range_with_len 0 n in let at = get_or-range_with_len 0 n k d (omega arith) in omega arith

-- what is found has the property that all have
found_has : {X : Type 0} (p : X → Bool) (P : X → Type 0) (xs : List X) (x : X) → All P xs → find p xs ≡ Some x → P x
found_has p P [] x all e = absurd (let none : None ≡ Some x = e in cc)
found_has {X} p P (y ∷ ys) x all e = elim (cases_Bool (p y)) [
  | inl holds ↦ (let found : Some y ≡ Some x = rw holds at e in let same : y ≡ x = cc in subst P same (All-head P y ys all))
  | inr fails ↦ found_has p P ys x (All-tail P y ys all) (rw fails at e)
]

pub found_there : (p : ℕ → Bool) (n q : ℕ) → find p (range_with_len 0 n) ≡ Some q → q < n
found_there p n q e = found_has p (λ (x : ℕ). x < n) (range_with_len 0 n) q (range_there n) e

-- the first place is where the first element stands that passes
abbrev first_at : ℕ → ℕ → ℕ → Option ℕ
first_at k a n = cond (ltb a n) (Some (k + a)) None

one_later : (k a n : ℕ) → first_at (k + 1) a n ≡ first_at k (suc a) (suc n)
one_later k a n = elim (cases_lt a n) [
  | inl less ↦ (let e : (k + 1) + a ≡ k + suc a = omega arith in rw (lt-ltb a n less, lt-ltb (suc a) (suc n) (omega arith), e) refl)
  | inr more ↦ rw (le-ltb a n more, le-ltb (suc a) (suc n) (omega arith)) refl
]

first_from : {X : Type 0} (p : X → Bool) (k : ℕ) (xs : List X) → slice_get (places_from p k xs) 0 ≡ first_at k (position_or_len p xs) (length xs)
first_from p k [] = refl
first_from p k (x ∷ xs) =
    let more : 1 + position_or_len p xs ≡ suc (position_or_len p xs) = omega arith in
    elim (cases_Bool (p x)) [
      | inl holds ↦ (let e : k + 0 ≡ k = omega arith in rw (holds, lt-ltb 0 (suc (length xs)) (omega arith), e) refl)
      | inr fails ↦ rw (fails, more) (first_from p (k + 1) xs ∙ one_later k (position_or_len p xs) (length xs))
    ]

pub first_place : {X : Type 0} (p : X → Bool) (xs : List X) → slice_get (places p xs) 0 ≡ position p xs
first_place p xs =
    let e : 0 + position_or_len p xs ≡ position_or_len p xs = omega arith in
    first_from p 0 xs ∙ ap (λ (a : ℕ). cond (ltb (position_or_len p xs) (length xs)) (Some a) None) e

-- ---- how many there are of each

pub record AreSizes {X : Type 0} (key : X → ℕ) (count : ℕ) (xs : List X) (found : List ℕ) : Type 0 where
  pub each : length found ≡ count
  pub sizes : (k : ℕ) → k < count → get_or found k 0 ≡ length (places (λ x. eqb (key x) k) xs)

pub sizes_more : {X : Type 0} (key : X → ℕ) (count : ℕ) (xs : List X) (i : ℕ) (d : X) (found : List ℕ) (size : ℕ) → i < length xs → key (get_or xs i d) < count → size ≡ get_or found (key (get_or xs i d)) 0 + 1
    → AreSizes key count (take i xs) found → AreSizes key count (take (i + 1) xs) (set found (key (get_or xs i d)) size)
sizes_more key count xs i d found size lt below is_size is = record {
  each = length-set found (key (get_or xs i d)) size ∙ is.each;
  sizes = λ k there.
      let more = places_more (λ x. eqb (key x) k) xs i d lt in
      let old = is.sizes k there in
      let size_of = is.each in
      elim (cases_eq k (key (get_or xs i d))) [
        | inl same ↦ (
            let test : eqb (key (get_or xs i d)) k ≡ true = eq-eqb (key (get_or xs i d)) k (sym same) in
            let long = length-append (places (λ x. eqb (key x) k) (take i xs)) (i ∷ []) in
            let at : get_or (set found (key (get_or xs i d)) size) k 0 ≡ size = rw same (get_or-set_same found (key (get_or xs i d)) size 0 (omega arith)) in
            let was : get_or found (key (get_or xs i d)) 0 ≡ length (places (λ x. eqb (key x) k) (take i xs)) = rw (← same) old in
            rw (more, test) (omega arith))
        | inr other ↦ (
            let test : eqb (key (get_or xs i d)) k ≡ false = ne_eqb (key (get_or xs i d)) k (λ e. other (sym e)) in
            rw (more, test, append-nil (places (λ x. eqb (key x) k) (take i xs)), get_or-set_other found (key (get_or xs i d)) k size 0 other) old)
      ];
}

-- ---- rows

pub pushed_more : {X Y : Type 0} (f : X → Y) (old : List Y) (xs : List X) (i : ℕ) (d : X) → i < length xs → (old ++ map f (take i xs)) ++ f (get_or xs i d) ∷ [] ≡ old ++ map f (take (i + 1) xs)
pushed_more f old xs i d lt =
    append_assoc old (map f (take i xs)) (f (get_or xs i d) ∷ []) ∙ ap (λ ys. old ++ ys) (sym (map_push f (take i xs) (get_or xs i d)) ∙ ap (λ ys. map f ys) (sym (take_more xs i d lt)))

-- ---- one row more, by what the code knows

pub row_pushed : {Y : Type 0} (f : ℕ → Y) (old rows new : List Y) (xs : List ℕ) (i : ℕ) (r : Y) → i < length xs → rows ≡ old ++ map f (take i xs) → r ≡ f (get_or xs i 0) → new ≡ rows ++ r ∷ [] → new ≡ old ++ map f (take (i + 1) xs)
row_pushed f old rows new xs i r lt rows_are is new_is = new_is ∙ ap (λ rs. rs ++ r ∷ []) rows_are ∙ ap (λ x. (old ++ map f (take i xs)) ++ x ∷ []) is ∙ pushed_more f old xs i 0 lt

pub row_of_range : {Y : Type 0} (f : ℕ → Y) (old rows new : List Y) (n : ℕ) (r : Y) → rows ≡ old ++ map f (range_with_len 0 n) → r ≡ f n → new ≡ rows ++ r ∷ [] → new ≡ old ++ map f (range_with_len 0 (n + 1))
row_of_range f old rows new n r rows_are is new_is =
    new_is ∙ ap (λ rs. rs ++ r ∷ []) rows_are ∙ ap (λ x. (old ++ map f (range_with_len 0 n)) ++ x ∷ []) is
    ∙ append_assoc old (map f (range_with_len 0 n)) (f n ∷ []) ∙ ap (λ ys. old ++ ys) (sym (map-range_with_len_more f 0 n n (omega arith)))
