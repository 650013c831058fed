-- Members of lists, and the elements at their places.
use Rattle.std.proofs.Common.{◌≡◌, ◌⊎◌, inl, inr, refl, sym, subst, arith, ℕ, zero, suc, ◌+◌, ◌<◌, ◌≤◌, Bool, true, false, ◌||◌, ◌==◌, eq-eqb, eqb-true, List, [], ◌∷◌, ◌++◌, length, get_or, Contains, None, Some, slice_get}
use Rattle.std.proofs.lemmas.Option.{slice_get_within}
use Rattle.md_modes.specs.Branches.{some_of}
use Rattle.md_feedback.specs.Search.{is_among}

abbrev pub Member : {A : Type 0} → A → List A → Type 0
Member x [] = ⊥
Member x (y ∷ ys) = (x ≡ y) ⊎ Member x ys

pub member_left : {A : Type 0} (x : A) (xs ys : List A) → Member x xs → Member x (xs ++ ys)
member_left x [] ys m = absurd m
member_left x (y ∷ xs) ys (inl e) = inl e
member_left x (y ∷ xs) ys (inr m) = inr (member_left x xs ys m)

pub member_right : {A : Type 0} (x : A) (xs ys : List A) → Member x ys → Member x (xs ++ ys)
member_right x [] ys m = m
member_right x (y ∷ xs) ys m = inr (member_right x xs ys m)

pub member_split : {A : Type 0} (x : A) (xs ys : List A) → Member x (xs ++ ys) → Member x xs ⊎ Member x ys
member_split x [] ys m = inr m
member_split x (y ∷ xs) ys (inl e) = inl (inl e)
member_split x (y ∷ xs) ys (inr m) = elim (member_split x xs ys m) [ inl a ↦ inl (inr a) | inr b ↦ inr b ]

pub to_contains : {A : Type 0} (x : A) (xs : List A) → Member x xs → Contains xs x
to_contains x [] m = absurd m
to_contains x (y ∷ ys) (inl e) = (0, omega arith, sym e)
to_contains x (y ∷ ys) (inr m) = let r : Contains ys x = to_contains x ys m in (suc r.0, omega (arith, r.1), r.2)

member_at : {A : Type 0} (x : A) (xs : List A) (k : ℕ) → k < length xs → get_or xs k x ≡ x → Member x xs
member_at x [] k lt e = absurd (omega (arith, lt))
member_at x (y ∷ ys) zero lt e = inl (sym e)
member_at x (y ∷ ys) (suc k) lt e = inr (member_at x ys k (omega (arith, lt)) e)

pub from_contains : {A : Type 0} (x : A) (xs : List A) → Contains xs x → Member x xs
from_contains x xs c = member_at x xs c.0 c.1 c.2

-- ---- tests

pub or_true : (a b : Bool) → (a || b) ≡ true → (a ≡ true) ⊎ (b ≡ true)
or_true true b h = inl refl
or_true false b h = inr h

pub or_left : (a b : Bool) → a ≡ true → (a || b) ≡ true
or_left true b h = refl
or_left false b h = absurd (cc)

pub or_right : (a b : Bool) → b ≡ true → (a || b) ≡ true
or_right true b h = refl
or_right false b h = h

pub among_member : (x : ℕ) (xs : List ℕ) → is_among xs x ≡ true → Member x xs
among_member x [] h = absurd (cc)
among_member x (y ∷ ys) h = elim (or_true (y == x) (is_among ys x) h) [ inl e ↦ inl (sym (eqb-true y x e)) | inr m ↦ inr (among_member x ys m) ]

pub member_among : (x : ℕ) (xs : List ℕ) → Member x xs → is_among xs x ≡ true
member_among x [] m = absurd m
member_among x (y ∷ ys) (inl e) = or_left (y == x) (is_among ys x) (eq-eqb y x (sym e))
member_among x (y ∷ ys) (inr m) = or_right (y == x) (is_among ys x) (member_among x ys m)

pub some_found : (p : ℕ → Bool) (xs : List ℕ) → some_of p xs ≡ true → (x : ℕ) × Member x xs × (p x ≡ true)
some_found p [] h = absurd (cc)
some_found p (y ∷ ys) h =
    elim (or_true (p y) (some_of p ys) h) [ inl here ↦ (y, inl refl, here) | inr there ↦ (let r = some_found p ys there in (r.0, inr r.1, r.2)) ]

pub some_true : (p : ℕ → Bool) (xs : List ℕ) (x : ℕ) → Member x xs → p x ≡ true → some_of p xs ≡ true
some_true p [] x m h = absurd m
some_true p (y ∷ ys) x (inl e) h = or_left (p y) (some_of p ys) (subst (λ (z : ℕ). p z ≡ true) e h)
some_true p (y ∷ ys) x (inr m) h = or_right (p y) (some_of p ys) (some_true p ys x m h)

-- ---- places

pub get_seam : {A : Type 0} (xs : List A) (y : A) (ys : List A) → slice_get (xs ++ y ∷ ys) (length xs) ≡ Some y
get_seam [] y ys = refl
get_seam (x ∷ xs) y ys = get_seam xs y ys

pub get_end : {A : Type 0} (xs : List A) (k : ℕ) → length xs ≤ k → slice_get xs k ≡ None
get_end [] k le = refl
get_end (x ∷ xs) zero le = absurd (omega (arith, le))
get_end (x ∷ xs) (suc k) le = get_end xs k (omega (arith, le))

pub no_more : {A : Type 0} (xs : List A) (k : ℕ) (x : A) → length xs ≤ k → slice_get xs k ≡ Some x → ⊥
no_more xs k x le is = let inside : k < length xs = slice_get_within xs k x is in omega (arith, inside, le)

pub some_is : {A : Type 0} (x y : A) → Some x ≡ Some y → x ≡ y
some_is x y e = cc

-- an element of two lists is one of the first, or so much later one of the second
pub get_split : {A : Type 0} (xs ys : List A) (k : ℕ) (x : A) → slice_get (xs ++ ys) k ≡ Some x → (slice_get xs k ≡ Some x) ⊎ ((m : ℕ) × (k ≡ length xs + m) × (slice_get ys m ≡ Some x))
get_split [] ys k x is = inr (k, omega arith, is)
get_split (y ∷ xs) ys zero x is = inl is
get_split (y ∷ xs) ys (suc k) x is = elim (get_split xs ys k x is) [ inl a ↦ inl a | inr b ↦ inr (b.0, omega (arith, b.1), b.2) ]
