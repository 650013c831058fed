-- An activation in its context is the same activation.
use Rattle.std.proofs.Common.{ℕ, suc, ◌≡◌, inl, inr, List, [], ◌∷◌, length, Some, refl, sym, ap, ◌∙◌, subst, arith}
use Rattle.md_trace.specs.Activation.{Activation, numbered, parent_of, procedure_of}
use Rattle.md_trace.specs.Context.{Placed, place, link_of, placed}
use Rattle.md_trace.proofs.Numbered.{numbered-new, numbered-more, numbered-below, numbered-either, numbered-there}

pub length-placed : (m : ℕ) (xs : List Activation) → length (placed m xs) ≡ length xs
length-placed m [] = refl
length-placed m (x ∷ xs) = ap suc (length-placed m xs)

-- y is the activation x in its context
pub record IsPlaced (x : Activation) (y : Placed) : Type 0 where
  pub parent : y.parent ≡ x.parent
  pub site : y.link.site ≡ x.site
  pub procedure : y.link.procedure ≡ x.procedure

-- an activation in its context has its number, its parent, its site and its procedure
pub numbered-placed : (m : ℕ) (xs : List Activation) (a : ℕ) (x : Activation) → numbered xs a ≡ Some x → (y : Placed) × (numbered (placed m xs) a ≡ Some y) × IsPlaced x y
numbered-placed m [] a x is = absurd (cc)
numbered-placed m (z ∷ zs) a x is =
    let before = placed m zs in
    let new = place m before z.parent (link_of before z) in
    let len = length-placed m zs in
    elim (numbered-either z zs a x is) [
      | inl p ↦
          let Q : Activation → Type 0 = λ w. IsPlaced w new in
          let R : ℕ → Type 0 = λ n. numbered (new ∷ before) n ≡ Some new in
          (new, subst R (len ∙ sym p.0) (numbered-new new before), subst Q (sym p.1) (record { parent = refl; site = refl; procedure = refl }))
      | inr p ↦
          let rest = numbered-placed m zs a x p in
          let below = numbered-below zs a x p in
          (rest.0, numbered-more new before a (omega (arith, len)) ∙ rest.1, rest.2)
    ]

-- who called an activation, and its procedure, are as before it was placed
pub parent_of-placed : (m : ℕ) (xs : List Activation) (a : ℕ) (y : Placed) → numbered (placed m xs) a ≡ Some y → parent_of xs a ≡ y.parent
parent_of-placed m xs a y is =
    let below = numbered-below (placed m xs) a y is in
    let there = numbered-there xs a (omega (arith, length-placed m xs)) in
    let both = numbered-placed m xs a there.0 there.1 in
    let e : parent_of xs a ≡ there.0.parent = rw there.1 in
    let same : both.0 ≡ y = cc (both.1, is) in
    cc (e, both.2.parent, same)

pub procedure_of-placed : (m : ℕ) (xs : List Activation) (a : ℕ) (y : Placed) → numbered (placed m xs) a ≡ Some y → procedure_of xs a ≡ Some y.link.procedure
procedure_of-placed m xs a y is =
    let below = numbered-below (placed m xs) a y is in
    let there = numbered-there xs a (omega (arith, length-placed m xs)) in
    let both = numbered-placed m xs a there.0 there.1 in
    let e : procedure_of xs a ≡ Some there.0.procedure = rw there.1 in
    let same : both.0 ≡ y = cc (both.1, is) in
    cc (e, both.2.procedure, same)
