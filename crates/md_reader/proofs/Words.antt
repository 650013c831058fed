-- Names in a set, and the list of them.
use Rattle.std.proofs.Common.{◌≡◌, ℕ, suc, ◌+◌, ◌<◌, ◌≤◌, List, [], ◌∷◌, ◌++◌, length, length-append, map, refl, Bool, true, false, cond, not, ◌&&◌, ◌||◌, Some, None, Vec, sym, ap, subst, ◌∙◌, arith, nat_eq, nat_lt, ◌==◌}
use Rattle.std.specs.List.{list_any, position, position_or_len}
use Rattle.std.specs.Str.{bytes_eq}
use Rattle.std.specs.Cmp.Lexicographic.{pointwise}
use Rattle.std.proofs.lemmas.List.Sums.{prefix_len-le-length}
use Rattle.std.proofs.lemmas.List.{map-append}
use Rattle.std.specs.declared.alloc.Global.{Global}
use Rattle.indexmap.specs.IndexSet.{insert_key}
use Rattle.md_reader.specs.Input.{place_of, with_variable}

abbrev pub Word : Type 0
Word = Vec ℕ Global

abbrev pub words : List Word → List (List ℕ)
words ks = map (λ (k : Word). k.items) ks

abbrev pub is_word : List ℕ → Word → Bool
is_word x k = pointwise nat_eq x k.items

abbrev pub same_word : Word → Word → Bool
same_word a b = pointwise nat_eq a.items b.items

pub pointwise-bytes_eq : (xs ys : List ℕ) → pointwise nat_eq xs ys ≡ bytes_eq xs ys
pointwise-bytes_eq [] [] = refl
pointwise-bytes_eq [] (y ∷ ys) = refl
pointwise-bytes_eq (x ∷ xs) [] = refl
pointwise-bytes_eq (x ∷ xs) (y ∷ ys) = ap (λ b. nat_eq x y && b) (pointwise-bytes_eq xs ys)

any_word : (x : List ℕ) (ks : List Word) → list_any (is_word x) ks ≡ list_any (bytes_eq x) (words ks)
any_word x [] = refl
any_word x (k ∷ ks) = rw (pointwise-bytes_eq x k.items, any_word x ks) refl

place_word : (x : List ℕ) (ks : List Word) → position_or_len (is_word x) ks ≡ position_or_len (bytes_eq x) (words ks)
place_word x [] = refl
place_word x (k ∷ ks) = rw (pointwise-bytes_eq x k.items, place_word x ks) refl

length_words : (ks : List Word) → length (words ks) ≡ length ks
length_words [] = refl
length_words (k ∷ ks) = ap suc (length_words ks)

some_is : (b : Bool) (m n : ℕ) → cond b (Some m) None ≡ Some n → n ≡ m
some_is true m n h = cc
some_is false m n h = absurd (cc)

none_is : (b : Bool) (m : ℕ) → cond b (Some m) None ≡ None → b ≡ false
none_is true m h = absurd (cc)
none_is false m h = refl

pub found_place : (x : List ℕ) (ks : List Word) (n : ℕ) → position (is_word x) ks ≡ Some n → n ≡ place_of x (words ks)
found_place x ks n h = some_is (nat_lt (position_or_len (is_word x) ks) (length ks)) (position_or_len (is_word x) ks) n h ∙ place_word x ks

at_end : (m n : ℕ) → m ≤ n → nat_lt m n ≡ false → n ≡ m
at_end m n le past = grind arith

pub no_place : (x : List ℕ) (ks : List Word) → position (is_word x) ks ≡ None → length ks ≡ place_of x (words ks)
no_place x ks h =
    let past : nat_lt (position_or_len (is_word x) ks) (length ks) ≡ false = none_is _ (position_or_len (is_word x) ks) h in
    let le : position_or_len (is_word x) ks ≤ length ks = prefix_len-le-length (λ k. not (is_word x k)) ks in
    let all : length ks ≡ position_or_len (is_word x) ks = at_end (position_or_len (is_word x) ks) (length ks) le past in
    all ∙ place_word x ks

-- ---- a name that is there, and one that isn't

some_step : (b a : Bool) (n m : ℕ) → (b || a) ≡ true → (a ≡ true → n < m) → cond (not b) (1 + n) 0 < suc m
some_step true a n m h rest = omega arith
some_step false a n m h rest = let l = rest h in omega (arith, l)

among : (x : List ℕ) (vs : List (List ℕ)) → list_any (bytes_eq x) vs ≡ true → place_of x vs < length vs
among x [] h = absurd (cc)
among x (v ∷ vs) h = some_step (bytes_eq x v) (list_any (bytes_eq x) vs) (place_of x vs) (length vs) h (among x vs)

none_step : (b a : Bool) (n m : ℕ) → (b || a) ≡ false → (a ≡ false → n ≡ m) → cond (not b) (1 + n) 0 ≡ suc m
none_step true a n m h rest = absurd (cc)
none_step false a n m h rest = let l = rest h in omega (arith, l)

pub not_among : (x : List ℕ) (vs : List (List ℕ)) → list_any (bytes_eq x) vs ≡ false → place_of x vs ≡ length vs
not_among x [] h = refl
not_among x (v ∷ vs) h = none_step (bytes_eq x v) (list_any (bytes_eq x) vs) (place_of x vs) (length vs) h (not_among x vs)

same_number : (m n : ℕ) → m ≡ n → (m == n) ≡ true
same_number m n e = grind arith

other_number : (m n : ℕ) → m < n → (m == n) ≡ false
other_number m n e = grind arith

pub known_variable : (x : List ℕ) (ks : List Word) → list_any (is_word x) ks ≡ true → words ks ≡ with_variable x (words ks)
unfolding with_variable
known_variable x ks h = rw (other_number _ _ (among x (words ks) (sym (any_word x ks) ∙ h))) refl

new_words : (b : Bool) (k : Word) (ks : List Word) → b ≡ false → words (cond b ks (ks ++ k ∷ [])) ≡ words ks ++ k.items ∷ []
new_words true k ks h = absurd (cc)
new_words false k ks h = map-append (λ (w : Word). w.items) ks (k ∷ [])

own_variable : (k : Word) (ks : List Word) → list_any (is_word k.items) ks ≡ false → words (insert_key same_word ks k) ≡ with_variable k.items (words ks)
unfolding with_variable
own_variable k ks h =
    new_words (list_any (same_word k) ks) k ks h
    ∙ sym (rw (same_number _ _ (not_among k.items (words ks) (sym (any_word k.items ks) ∙ h))) refl)

pub new_variable : (x : List ℕ) (k : Word) (ks : List Word) → k.items ≡ x → list_any (is_word x) ks ≡ false → words (insert_key same_word ks k) ≡ with_variable x (words ks)
new_variable x k ks e = subst (λ (y : List ℕ). list_any (is_word y) ks ≡ false → words (insert_key same_word ks k) ≡ with_variable y (words ks)) e (own_variable k ks)

pub few_variables : (x : List ℕ) (vars : List (List ℕ)) → length (with_variable x vars) ≤ length vars + 1
unfolding with_variable
few_variables x vars = by (place_of x vars == length vars)
  where
    by : (b : Bool) → length (cond b (vars ++ x ∷ []) vars) ≤ length vars + 1
    by true = let a = length-append vars (x ∷ []) in omega (arith, a)
    by false = omega arith
