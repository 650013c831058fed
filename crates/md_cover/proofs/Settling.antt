-- Laws for solving: what one equation settles is derived and has its value, and where no equation settles anything all that is
-- derived is known.
use Rattle.std.proofs.Common.{◌≡◌, refl, ap, ◌∙◌, arith, ℕ, ◌+◌, ◌-◌, List, [], ◌∷◌, ◌++◌, Option, Some, None, slice_get}
use Rattle.law_turns.specs.Equations.{Quantity, Equation, Solution, value, total, Holds}
use Rattle.law_turns.specs.Derived.{IsDerived, AreDerived, only_one, none, both}

-- what is known of quantities
abbrev pub Knowledge : Type 0
Knowledge = Quantity → Option ℕ

-- these quantities, as far as they aren't known
abbrev pub unless_known : Option ℕ → Quantity → List Quantity → List Quantity
unless_known None q qs = q ∷ qs
unless_known (Some n) q qs = qs

abbrev pub unknown_in : Knowledge → List Quantity → List Quantity
unknown_in k [] = []
unknown_in k (q ∷ qs) = unless_known (k q) q (unknown_in k qs)

-- the sum of those that are known
abbrev pub number_of : Option ℕ → ℕ
number_of None = 0
number_of (Some n) = n

abbrev pub known_sum : Knowledge → List Quantity → ℕ
known_sum k [] = 0
known_sum k (q ∷ qs) = number_of (k q) + known_sum k qs

-- what is known is derived, and has the value of a solution
pub record IsSound (es : List Equation) (x : Solution) (k : Knowledge) : Type 0 where
  pub derived : (q : Quantity) (n : ℕ) → k q ≡ Some n → IsDerived es q
  pub valued : (q : Quantity) (n : ℕ) → k q ≡ Some n → n ≡ value x q

-- ---- where nothing is open

pub AllKnown : Knowledge → List Quantity → Type 0
AllKnown k qs = unknown_in k qs ≡ []

-- no equation has exactly one quantity that isn't known
pub record IsClosed (es : List Equation) (k : Knowledge) : Type 0 where
  pub closed : (i : ℕ) (e : Equation) (q : Quantity) → slice_get es i ≡ Some e → unknown_in k (e.whole ∷ e.parts) ≡ q ∷ [] → ⊥

unknown_append : (k : Knowledge) (ps qs : List Quantity) → unknown_in k (ps ++ qs) ≡ unknown_in k ps ++ unknown_in k qs
unknown_append k [] qs = refl
unknown_append k (p ∷ ps) qs = step (k p) (unknown_append k ps qs)
  where
    step : (o : Option ℕ) → unknown_in k (ps ++ qs) ≡ unknown_in k ps ++ unknown_in k qs → unless_known o p (unknown_in k (ps ++ qs)) ≡ unless_known o p (unknown_in k ps) ++ unknown_in k qs
    step None h = ap (λ rs. p ∷ rs) h
    step (Some n) h = h

-- a quantity by itself is known, or open
abbrev IsKnown : Knowledge → Quantity → Type 0
IsKnown k q = (n : ℕ) × (k q ≡ Some n)

known_or : (k : Knowledge) (q : Quantity) (o : Option ℕ) → k q ≡ o → (unknown_in k (q ∷ []) ≡ q ∷ [] → ⊥) → IsKnown k q
known_or k q None is open' = absurd (open' (ap (λ (p : Option ℕ). unless_known p q []) is))
known_or k q (Some n) is open' = (n, is)

first_known : (k : Knowledge) (q : Quantity) (qs : List Quantity) → IsKnown k q → unknown_in k qs ≡ [] → unknown_in k (q ∷ qs) ≡ []
first_known k q qs h more = ap (λ (o : Option ℕ). unless_known o q (unknown_in k qs)) h.1 ∙ more

mutual
  -- then all that is derived is known
  pub all_known : (es : List Equation) (k : Knowledge) → IsClosed es k → (q : Quantity) → IsDerived es q → (n : ℕ) × (k q ≡ Some n)
  all_known es k h _ (only_one i e before q after there is a b) =
      let first = are_known es k h before a in
      let last = are_known es k h after b in
      known_or k q (k q) refl (λ open'. h.closed i e q there
      (ap (unknown_in k) is ∙ (unknown_append k before (q ∷ after) ∙ (ap (λ rs. rs ++ unknown_in k (q ∷ after)) first
      ∙ (unknown_append k (q ∷ []) after ∙ (ap (λ rs. unknown_in k (q ∷ []) ++ rs) last ∙ (ap (λ rs. rs ++ []) open')))))))

  are_known : (es : List Equation) (k : Knowledge) → IsClosed es k → (qs : List Quantity) → AreDerived es qs → unknown_in k qs ≡ []
  are_known es k h _ none = refl
  are_known es k h _ (both q qs a b) = first_known k q qs (all_known es k h q a) (are_known es k h qs b)

-- ---- what one equation settles

record Split (k : Knowledge) (qs : List Quantity) (q : Quantity) : Type 0 where
  before : List Quantity
  after : List Quantity
  is : qs ≡ before ++ (q ∷ after)
  first : unknown_in k before ≡ []
  last : unknown_in k after ≡ []

split_at : (k : Knowledge) (p q : Quantity) (qs : List Quantity) (o : Option ℕ) → k p ≡ o → unless_known o p (unknown_in k qs) ≡ q ∷ [] → (unknown_in k qs ≡ q ∷ [] → Split k qs q) → Split k (p ∷ qs) q
split_at k p q qs None at is more =
    let same : p ≡ q = cc is in
    let rest : unknown_in k qs ≡ [] = cc is in
    record { before = []; after = qs; is = ap (λ (r : Quantity). r ∷ qs) same; first = refl; last = rest }
split_at k p q qs (Some n) at is more =
    let h = more is in
    record { before = p ∷ h.before; after = h.after; is = ap (λ rs. p ∷ rs) h.is; first = first_known k p h.before (n, at) h.first; last = h.last }

split : (k : Knowledge) (qs : List Quantity) (q : Quantity) → unknown_in k qs ≡ q ∷ [] → Split k qs q
split k [] q is = absurd (cc is)
split k (p ∷ qs) q is = split_at k p q qs (k p) refl is (λ more. split k qs q more)

are_derived : (es : List Equation) (x : Solution) (k : Knowledge) → IsSound es x k → (qs : List Quantity) → unknown_in k qs ≡ [] → AreDerived es qs
are_derived es x k sound [] is = none
are_derived es x k sound (q ∷ qs) is = by (k q) refl is (λ more. are_derived es x k sound qs more)
  where
    by : (o : Option ℕ) → k q ≡ o → unless_known o q (unknown_in k qs) ≡ [] → (unknown_in k qs ≡ [] → AreDerived es qs) → AreDerived es (q ∷ qs)
    by None at is more = absurd (cc is)
    by (Some n) at is more = both q qs (sound.derived q n at) (more is)

-- the one quantity of an equation that isn't known is derived
pub settles_derived : (es : List Equation) (x : Solution) (k : Knowledge) → IsSound es x k → (i : ℕ) (e : Equation) (q : Quantity) → slice_get es i ≡ Some e → unknown_in k (e.whole ∷ e.parts) ≡ q ∷ [] → IsDerived es q
settles_derived es x k sound i e q there is =
    let h = split k (e.whole ∷ e.parts) q is in
    only_one i e h.before q h.after there h.is (are_derived es x k sound h.before h.first) (are_derived es x k sound h.after h.last)

known_total : (es : List Equation) (x : Solution) (k : Knowledge) → IsSound es x k → (qs : List Quantity) → unknown_in k qs ≡ [] → known_sum k qs ≡ total x qs
known_total es x k sound [] is = refl
known_total es x k sound (q ∷ qs) is = by (k q) refl is (λ more. known_total es x k sound qs more)
  where
    by : (o : Option ℕ) → k q ≡ o → unless_known o q (unknown_in k qs) ≡ [] → (unknown_in k qs ≡ [] → known_sum k qs ≡ total x qs) → number_of (k q) + known_sum k qs ≡ value x q + total x qs
    by None at is inner = absurd (cc is)
    by (Some n) at is inner = let more = inner is in let here = sound.valued q n at in let this = ap number_of at in omega (arith, more, here, this)

one_total : (es : List Equation) (x : Solution) (k : Knowledge) → IsSound es x k → (qs : List Quantity) (q : Quantity) → unknown_in k qs ≡ q ∷ [] → known_sum k qs + value x q ≡ total x qs
one_total es x k sound [] q is = absurd (cc is)
one_total es x k sound (p ∷ qs) q is = by (k p) refl is (λ more. one_total es x k sound qs q more)
  where
    by : (o : Option ℕ) → k p ≡ o → unless_known o p (unknown_in k qs) ≡ q ∷ [] → (unknown_in k qs ≡ q ∷ [] → known_sum k qs + value x q ≡ total x qs) → (number_of (k p) + known_sum k qs) + value x q ≡ value x p + total x qs
    by None at is inner =
        let same : value x p ≡ value x q = ap (value x) (cc is) in
        let rest = known_total es x k sound qs (cc is) in
        let this = ap number_of at in omega (arith, same, rest, this)
    by (Some n) at is inner = let more = inner is in let here = sound.valued p n at in let this = ap number_of at in omega (arith, more, here, this)

-- its value: the sum, where it is the whole, and else the whole without what is known of the sum
pub settles_whole : (es : List Equation) (x : Solution) (k : Knowledge) → IsSound es x k → (e : Equation) → Holds x e → k e.whole ≡ None → unknown_in k e.parts ≡ [] → known_sum k e.parts + e.number ≡ value x e.whole
settles_whole es x k sound e holds open' is = let sum = known_total es x k sound e.parts is in omega (arith, holds, sum)

pub settles_part : (es : List Equation) (x : Solution) (k : Knowledge) → IsSound es x k → (e : Equation) → Holds x e → (n : ℕ) → k e.whole ≡ Some n → (q : Quantity) → unknown_in k e.parts ≡ q ∷ [] → n - (known_sum k e.parts + e.number) ≡ value x q
settles_part es x k sound e holds n at q is =
    let sum = one_total es x k sound e.parts q is in let whole = sound.valued e.whole n at in omega (arith, holds, sum, whole)
