-- Two solutions agree on each derived quantity.
use Rattle.std.proofs.Common.{◌≡◌, refl, sym, subst, arith, ℕ, zero, suc, ◌+◌, List, [], ◌∷◌, ◌++◌, Some, slice_get}
use Rattle.std.specs.Prelude.{⊤}
use Rattle.law_turns.specs.Equations.{Quantity, Equation, Solution, value, total, Holds, Solves}
use Rattle.law_turns.specs.Derived.{IsDerived, AreDerived, only_one, none, both}

-- two solutions agree on these
abbrev Agree : Solution → Solution → List Quantity → Type 0
Agree x y [] = ⊤
Agree x y (q ∷ qs) = (value x q ≡ value y q) × Agree x y qs

agree_total : (x y : Solution) (qs : List Quantity) → Agree x y qs → total x qs ≡ total y qs
agree_total x y [] h = refl
agree_total x y (q ∷ qs) h = let here = h.0 in let more = agree_total x y qs h.1 in omega (arith, here, more)

-- lists with one quantity between agreeing ones
one_between : (x y : Solution) (qs before : List Quantity) (q : Quantity) (after : List Quantity) → qs ≡ before ++ (q ∷ after) → Agree x y before → Agree x y after → total x qs + value y q ≡ total y qs + value x q
one_between x y qs [] q after is a b = let more = agree_total x y after b in rw is (omega (arith, more))
one_between x y [] (p ∷ before) q after is a b = absurd (cc is)
one_between x y (r ∷ qs) (p ∷ before) q after is a b =
    let first : r ≡ p = cc is in
    let more = one_between x y qs before q after (cc is) a.1 b in
    let here : value x r ≡ value y r = rw first a.0 in
    omega (arith, more, here)

-- where an equation has one quantity between agreeing ones, the solutions agree on that too
cancel : (x y : Solution) (n : ℕ) (whole : Quantity) (parts before : List Quantity) (q : Quantity) (after : List Quantity) → whole ∷ parts ≡ before ++ (q ∷ after) → Agree x y before → Agree x y after
    → value x whole ≡ total x parts + n → value y whole ≡ total y parts + n → value x q ≡ value y q
cancel x y n whole parts [] q after is c d e f =
    let first : whole ≡ q = cc is in
    let rest : parts ≡ after = cc is in
    let same = agree_total x y parts (subst (λ (qs : List Quantity). Agree x y qs) (sym rest) d) in
    let g : value x q ≡ total x parts + n = subst (λ (p : Quantity). value x p ≡ total x parts + n) first e in
    let h : value y q ≡ total y parts + n = subst (λ (p : Quantity). value y p ≡ total y parts + n) first f in
    omega (arith, same, g, h)
cancel x y n whole parts (p ∷ before) q after is c d e f =
    let first : whole ≡ p = cc is in
    let between = one_between x y parts before q after (cc is) c.1 d in
    let same : value x whole ≡ value y whole = rw first c.0 in
    omega (arith, between, same, e, f)

holds_in : (x : Solution) (es : List Equation) (k : ℕ) (e : Equation) → slice_get es k ≡ Some e → Solves x es → Holds x e
holds_in x [] k e there h = absurd (cc there)
holds_in x (f ∷ es) zero e there h = let same : f ≡ e = cc there in subst (λ (g : Equation). Holds x g) same h.0
holds_in x (f ∷ es) (suc k) e there h = holds_in x es k e there h.1

mutual
  pub determined : (es : List Equation) (x y : Solution) → Solves x es → Solves y es → (q : Quantity) → IsDerived es q → value x q ≡ value y q
  determined es x y h g _ (only_one k e before q after there is a b) =
      let c = holds_in x es k e there h in let d = holds_in y es k e there g in
      cancel x y e.number e.whole e.parts before q after is (all_determined es x y h g before a) (all_determined es x y h g after b) c d

  all_determined : (es : List Equation) (x y : Solution) → Solves x es → Solves y es → (qs : List Quantity) → AreDerived es qs → Agree x y qs
  all_determined es x y h g _ none = tt
  all_determined es x y h g _ (both q qs a b) = (determined es x y h g q a, all_determined es x y h g qs b)
