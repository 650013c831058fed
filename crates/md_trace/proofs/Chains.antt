-- Chains of activations in their contexts: who called whom.
use Rattle.std.proofs.Common.{ℕ, ◌≡◌, ◌<◌, ◌≤◌, inl, inr, List, [], ◌∷◌, length, Option, Some, None, refl, sym, subst, arith}
use Rattle.std.proofs.lemmas.Bool.{eq-eqb, ne_eqb}
use Rattle.md_trace.specs.Activation.{numbered}
use Rattle.md_trace.specs.Context.{Placed, chain}
use Rattle.md_trace.proofs.Numbered.{numbered-below, numbered-either}

-- the number, where there is one, is below n
abbrev pub IsBelow : Option ℕ → ℕ → Type 0
IsBelow None n = Unit {0}
IsBelow (Some a) n = a < n

pub below-more : (o : Option ℕ) (m n : ℕ) → m ≤ n → IsBelow o m → IsBelow o n
below-more None m n le h = tt
below-more (Some a) m n le h = omega arith

-- each activation was called by an earlier one
abbrev pub AreParentsBelow : List Placed → Type 0
AreParentsBelow [] = Unit {0}
AreParentsBelow (x ∷ xs) = IsBelow x.parent (length xs) × AreParentsBelow xs

-- an activation's parent is earlier
pub parent-below : (xs : List Placed) (a : ℕ) (y : Placed) → AreParentsBelow xs → numbered xs a ≡ Some y → IsBelow y.parent a
parent-below [] a y below is = absurd (cc)
parent-below (x ∷ xs) a y below is =
    elim (numbered-either x xs a y is) [
      | inl p ↦ let P : ℕ → Type 0 = λ n. IsBelow y.parent n in let Q : Placed → Type 0 = λ z. IsBelow z.parent (length xs) in subst P (sym p.0) (subst Q (sym p.1) below.0)
      | inr p ↦ parent-below xs a y below.1 p
    ]

-- the newest activation's chain is itself and its parent's chain
pub chain-new : (x : Placed) (xs : List Placed) → chain (x ∷ xs) (Some (length xs)) ≡ x ∷ chain xs x.parent
chain-new x xs = rw (eq-eqb (length xs) (length xs) refl)

-- one more activation changes no earlier chain
pub chain-more : (x : Placed) (xs : List Placed) (o : Option ℕ) → IsBelow o (length xs) → chain (x ∷ xs) o ≡ chain xs o
chain-more x [] None h = refl
chain-more x (y ∷ ys) None h = refl
chain-more x xs (Some a) h = rw (ne_eqb a (length xs) (λ e. absurd (omega arith)))

-- a chain is its activation and the parent's chain
pub chain-unfold : (xs : List Placed) (a : ℕ) (y : Placed) → AreParentsBelow xs → numbered xs a ≡ Some y → chain xs (Some a) ≡ y ∷ chain xs y.parent
chain-unfold [] a y below is = absurd (cc)
chain-unfold (x ∷ xs) a y below is =
    elim (numbered-either x xs a y is) [
      | inl p ↦
          let new = chain-new x xs in
          let older : chain (x ∷ xs) x.parent ≡ chain xs x.parent = chain-more x xs x.parent below.0 in
          let e : a ≡ length xs = p.0 in
          let f : y ≡ x = p.1 in
          cc
      | inr p ↦
          let in_tail = numbered-below xs a y p in
          let rest = chain-unfold xs a y below.1 p in
          let first = chain-more x xs (Some a) in_tail in
          let older : chain (x ∷ xs) y.parent ≡ chain xs y.parent = chain-more x xs y.parent (below-more y.parent a (length xs) (omega arith) (parent-below xs a y below.1 p)) in
          cc
    ]

-- no activation has an empty chain
pub chain-none : (xs : List Placed) → chain xs None ≡ []
chain-none [] = refl
chain-none (x ∷ xs) = refl
