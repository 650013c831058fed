-- Pairs that rise.
use Rattle.std.proofs.Common.{ℕ, suc, ◌≡◌, inl, inr, ◌-◌, ◌<◌, sym, ap, subst, arith, List, [], ◌∷◌, ◌++◌, length, get_or, Some, slice_get, All}
use Rattle.std.proofs.lemmas.List.Elements.{All-nil, All-cons, All-head, All-tail, All-append, All-push, All-get_or}
use Rattle.std.proofs.lemmas.Option.{slice_get_within, get_or_from_slice_get}
use Rattle.md_feedback.specs.declared.pairs.Pair.{Pair}
use Rattle.md_feedback.specs.Text.{IsBefore, Rise}

pub before_trans : (p q r : Pair) → IsBefore p q → IsBefore q r → IsBefore p r
before_trans p q r (inl a) (inl b) = inl (omega (arith, a, b))
before_trans p q r (inl a) (inr b) = inl (omega (arith, a, b.0))
before_trans p q r (inr a) (inl b) = inl (omega (arith, a.0, b))
before_trans p q r (inr a) (inr b) = inr (omega (arith, a.0, b.0), omega (arith, a.1, b.1))

-- the last of these
last_index : (n : ℕ) → suc (suc n) - 1 ≡ suc (suc n - 1)
last_index n = omega arith

last_of_more : (x y d : Pair) (ys : List Pair) → get_or (x ∷ y ∷ ys) (length (x ∷ y ∷ ys) - 1) d ≡ get_or (y ∷ ys) (length (y ∷ ys) - 1) d
last_of_more x y d ys = ap (λ k. get_or (x ∷ y ∷ ys) k d) (last_index (length ys))

last_inside : (y d : Pair) (ys : List Pair) → length (y ∷ ys) - 1 < length (y ∷ ys)
last_inside y d ys = omega arith

-- a pair may follow where it comes after the last
pub rise_more : (ps : List Pair) (d p : Pair) → Rise ps → 0 < length ps → IsBefore (get_or ps (length ps - 1) d) p → Rise (ps ++ p ∷ [])
rise_more [] d p rise some h = absurd (omega (arith, some))
rise_more (x ∷ []) d p rise some h = (All-cons (IsBefore x) p [] h (All-nil (IsBefore x)), (All-nil (IsBefore p), tt))
rise_more (x ∷ y ∷ ys) d p rise some h =
    let last : IsBefore (get_or (y ∷ ys) (length (y ∷ ys) - 1) d) p = subst (λ (q : Pair). IsBefore q p) (last_of_more x y d ys) h in
    let here : IsBefore x (get_or (y ∷ ys) (length (y ∷ ys) - 1) d) = All-get_or (IsBefore x) (y ∷ ys) (length (y ∷ ys) - 1) d (last_inside y d ys) rise.0 in
    (All-push (IsBefore x) (y ∷ ys) p rise.0 (before_trans x (get_or (y ∷ ys) (length (y ∷ ys) - 1) d) p here last), rise_more (y ∷ ys) d p rise.1 (omega arith) last)

-- and only there
pub comes_after_last : (ps : List Pair) (d p : Pair) → Rise (ps ++ p ∷ []) → 0 < length ps → IsBefore (get_or ps (length ps - 1) d) p
comes_after_last [] d p rise some = absurd (omega (arith, some))
comes_after_last (x ∷ []) d p rise some = All-head (IsBefore x) p [] rise.0
comes_after_last (x ∷ y ∷ ys) d p rise some =
    subst (λ (q : Pair). IsBefore q p) (sym (last_of_more x y d ys)) (comes_after_last (y ∷ ys) d p rise.1 (omega arith))

pub one_rises : (p : Pair) → Rise (p ∷ [])
one_rises p = (All-nil (IsBefore p), tt)

front_of : (x : Pair) (qs : List Pair) (q : Pair) (rest : List Pair) → All (IsBefore x) (qs ++ q ∷ rest) → All (IsBefore x) (qs ++ q ∷ [])
front_of x [] q rest all = All-cons (IsBefore x) q [] (All-head (IsBefore x) q rest all) (All-nil (IsBefore x))
front_of x (y ∷ qs) q rest all =
    All-cons (IsBefore x) y (qs ++ q ∷ []) (All-head (IsBefore x) y (qs ++ q ∷ rest) all) (front_of x qs q rest (All-tail (IsBefore x) y (qs ++ q ∷ rest) all))

-- the first of pairs that rise
pub rise_front : (ps : List Pair) (p : Pair) (more : List Pair) → Rise (ps ++ p ∷ more) → Rise (ps ++ p ∷ [])
rise_front [] p more rise = one_rises p
rise_front (x ∷ ps) p more rise = (front_of x ps p more rise.0, rise_front ps p more rise.1)

-- pairs behind pairs that come before them
pub rise_append : (ps qs : List Pair) → Rise ps → Rise qs → All (λ p. All (IsBefore p) qs) ps → Rise (ps ++ qs)
rise_append [] qs a b across = b
rise_append (p ∷ ps) qs a b across =
    (All-append (IsBefore p) ps qs a.0 (All-head (λ x. All (IsBefore x) qs) p ps across), rise_append ps qs a.1 b (All-tail (λ x. All (IsBefore x) qs) p ps across))

-- by the last of these, where there is one
pub may_follow : (ps : List Pair) (last p : Pair) → Some last ≡ slice_get ps (length ps - 1) → Rise ps
    → (IsBefore last p → Rise (ps ++ p ∷ [])) × (Rise (ps ++ p ∷ []) → IsBefore last p)
may_follow ps last p is rise =
    let inside : length ps - 1 < length ps = slice_get_within ps (length ps - 1) last (sym is) in
    let some : 0 < length ps = omega (arith, inside) in
    let same : get_or ps (length ps - 1) p ≡ last = get_or_from_slice_get ps (length ps - 1) last p (sym is) in (
      λ before. rise_more ps p p rise some (subst (λ (q : Pair). IsBefore q p) (sym same) before),
      λ more. subst (λ (q : Pair). IsBefore q p) same (comes_after_last ps p p more some),
    )
