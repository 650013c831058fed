-- In the run of a generated program each activation makes a context of its own, whose number is the activation's.
use Rattle.std.proofs.Common.{◌≡◌, inl, inr, refl, ap, sym, ◌∙◌, subst, arith, ℕ, suc, ◌+◌, ◌<◌, ◌≤◌, false, List, [], ◌∷◌, length, Some, None, find, length-append}
use Rattle.std.proofs.lemmas.Bool.{eq-eqb, ne_eqb, false_from_ne_true}
use Rattle.std.proofs.lemmas.Bool.Decides.{eqb_tells}
use Rattle.md_trace.specs.Activation.{Activation}
use Rattle.md_trace.specs.Context.{Link, Placed, chain, context_of, contexts, same_link, has_link, has_procedure, with_placed}
use Rattle.md_trace.proofs.Finds.{same-link-true}
use Rattle.md_trace.proofs.Chains.{chain-new, chain-more}

-- ---- no link before

-- no activation was called by this context at this site
abbrev pub IsUnlinked : ℕ → ℕ → List Placed → Type 0
IsUnlinked c site [] = Unit {0}
IsUnlinked c site (x ∷ xs) = ((x.link.caller ≡ Some c → x.link.site ≡ Some site → ⊥) × IsUnlinked c site xs)

-- each activation has no caller, or one whose context is below n
abbrev pub AreCallersBelow : ℕ → List Placed → Type 0
AreCallersBelow n [] = Unit {0}
AreCallersBelow n (x ∷ xs) = ((c : ℕ) → x.link.caller ≡ Some c → c < n) × AreCallersBelow n xs

-- each activation of a chain has a procedure below q
abbrev pub AreProceduresBelow : ℕ → List Placed → Type 0
AreProceduresBelow q [] = Unit {0}
AreProceduresBelow q (x ∷ xs) = (x.link.procedure < q) × AreProceduresBelow q xs

-- greater bounds
callers-more : (m n : ℕ) (xs : List Placed) → m ≤ n → AreCallersBelow m xs → AreCallersBelow n xs
callers-more m n [] le below = tt
callers-more m n (x ∷ xs) le below = (λ c is. omega (arith, below.0 c is), callers-more m n xs le below.1)

procedures-more : (p q : ℕ) (xs : List Placed) → p ≤ q → AreProceduresBelow p xs → AreProceduresBelow q xs
procedures-more p q [] le below = tt
procedures-more p q (x ∷ xs) le below = (omega (arith, below.0), procedures-more p q xs le below.1)

-- a context that is above all callers has called nobody
unlinked-above : (n site : ℕ) (xs : List Placed) → AreCallersBelow n xs → IsUnlinked n site xs
unlinked-above n site [] below = tt
unlinked-above n site (x ∷ xs) below = (λ is at. absurd (omega (arith, below.0 n is)), unlinked-above n site xs below.1)

-- then no activation has such a link
none-linked : (c site q : ℕ) (xs : List Placed) → IsUnlinked c site xs → find (has_link (record { caller = Some c; site = Some site; procedure = q })) xs ≡ None
none-linked c site q [] un = refl
none-linked c site q (x ∷ xs) un =
    let l : Link = record { caller = Some c; site = Some site; procedure = q } in
    let other : same_link l x.link ≡ false =
    false_from_ne_true _ (λ same. let e = same-link-true l x.link same in un.0 (sym (ap (λ (k : Link). k.caller) e)) (sym (ap (λ (k : Link). k.site) e))) in
    rw other (none-linked c site q xs un.1)

-- nor a procedure that is above those of a chain
none-above : (q : ℕ) (xs : List Placed) → AreProceduresBelow q xs → find (has_procedure q) xs ≡ None
none-above q [] below = refl
none-above q (x ∷ xs) below = rw (ne_eqb q x.link.procedure (λ is. absurd (omega (arith, below.0)))) (none-above q xs below.1)

-- ---- one more activation

-- each activation has made the context of its number, and was called by an earlier one
pub record HaveOwnContexts (xs : List Placed) : Type 0 where
  pub made : length (contexts 0 xs) ≡ length xs
  pub own : (a : ℕ) → a < length xs → context_of xs (Some a) ≡ Some a
  pub callers : AreCallersBelow (length xs) xs

-- the activation that p calls at this site, and the same in the context of number n
abbrev pub call_at : (p site q : ℕ) → Activation
call_at p site q = record { parent = Some p; site = Some site; procedure = q }

abbrev placed_at : (p site q n : ℕ) → Placed
placed_at p site q n = record { parent = Some p; link = record { caller = Some p; site = Some site; procedure = q }; context = n }

-- A call by an activation that has called nobody at this site, of a procedure that is above those of the caller's chain, makes a
-- context.
new-context : (p site q : ℕ) (xs : List Placed) → HaveOwnContexts xs → p < length xs → IsUnlinked p site xs → AreProceduresBelow q (chain xs (Some p))
    → with_placed 0 (call_at p site q) xs ≡ placed_at p site q (length xs) ∷ xs
new-context p site q xs has there un below =
    rw (has.own p there, none-linked p site q xs un, none-above q (chain xs (Some p)) below, has.made) refl

-- the new activation has the context of its number, and each other one the context that it had
own-more : (y : Placed) (xs : List Placed) → HaveOwnContexts xs → y.context ≡ length xs → (a : ℕ) → a < suc (length xs) → context_of (y ∷ xs) (Some a) ≡ Some a
own-more y xs has is a below =
    elim (eqb_tells a (length xs)) [
      | inl new ↦ rw new.0 (ap Some (is ∙ sym new.1))
      | inr old ↦ rw old.0 (has.own a (omega (arith, old.1)))
    ]

-- with a new context the activations have their own contexts as before
have-more : (p site q : ℕ) (xs : List Placed) → HaveOwnContexts xs → p < length xs → HaveOwnContexts (placed_at p site q (length xs) ∷ xs)
have-more p site q xs has there = record {
  made = rw (eq-eqb (length xs) (length (contexts 0 xs)) (sym has.made)) (length-append (contexts 0 xs) (q ∷ []) ∙ omega (arith, has.made));
  own = own-more (placed_at p site q (length xs)) xs has refl;
  callers = (λ c is. omega (arith, there, (let same : p ≡ c = cc in same)), callers-more (length xs) (suc (length xs)) xs (omega arith) has.callers);
}

-- ---- what a call adds

-- From xs to ys m activations have come for a call by p at this site, each in a context of its own. Who was there before has
-- called nobody at another site since, and has the chain that it had.
pub record Grows (p site m : ℕ) (xs ys : List Placed) : Type 0 where
  pub has : HaveOwnContexts ys
  pub count : length ys ≡ length xs + m
  pub unlinked : (c s : ℕ) → (c ≡ p → s ≡ site → ⊥) → c < length xs → IsUnlinked c s xs → IsUnlinked c s ys
  pub chains : (c : ℕ) → c < length xs → chain ys (Some c) ≡ chain xs (Some c)

-- links that differ
other-link : (p site c s : ℕ) → (c ≡ p → s ≡ site → ⊥) → Some p ≡ Some c → Some site ≡ Some s → ⊥
other-link p site c s apart is at = apart (let e : c ≡ p = cc in e) (let e : s ≡ site = cc in e)

-- what one new context changes
grows-placed : (p site q : ℕ) (xs : List Placed) → HaveOwnContexts xs → p < length xs → Grows p site 1 xs (placed_at p site q (length xs) ∷ xs)
grows-placed p site q xs has there = record {
  has = have-more p site q xs has there;
  count = omega arith;
  unlinked = λ c s apart below un. (other-link p site c s apart, un);
  chains = λ c below. chain-more (placed_at p site q (length xs)) xs (Some c) below;
}

-- a first call at a site adds one activation
pub grows-new : (p site q : ℕ) (xs : List Placed) → HaveOwnContexts xs → p < length xs → IsUnlinked p site xs → AreProceduresBelow q (chain xs (Some p))
    → Grows p site 1 xs (with_placed 0 (call_at p site q) xs)
grows-new p site q xs has there un below =
    subst (λ (ys : List Placed). Grows p site 1 xs ys) (sym (new-context p site q xs has there un below)) (grows-placed p site q xs has there)

-- the new activation has called nobody
pub unlinked-new : (p site q s : ℕ) (xs : List Placed) → HaveOwnContexts xs → p < length xs → IsUnlinked p site xs → AreProceduresBelow q (chain xs (Some p))
    → IsUnlinked (length xs) s (with_placed 0 (call_at p site q) xs)
unlinked-new p site q s xs has there un below =
    subst (λ (ys : List Placed). IsUnlinked (length xs) s ys) (sym (new-context p site q xs has there un below))
    (other-link p site (length xs) s (λ is at. absurd (omega arith)), unlinked-above (length xs) s xs has.callers)

-- and its procedure is the greatest of its chain
pub below-new : (p site q : ℕ) (xs : List Placed) → HaveOwnContexts xs → p < length xs → IsUnlinked p site xs → AreProceduresBelow q (chain xs (Some p))
    → AreProceduresBelow (suc q) (chain (with_placed 0 (call_at p site q) xs) (Some (length xs)))
below-new p site q xs has there un below =
    subst (λ (ys : List Placed). AreProceduresBelow (suc q) (chain ys (Some (length xs)))) (sym (new-context p site q xs has there un below))
    (subst (λ (ys : List Placed). AreProceduresBelow (suc q) ys) (sym (chain-new (placed_at p site q (length xs)) xs))
    (omega arith, procedures-more q (suc q) (chain xs (Some p)) (omega arith) below))

-- a call, and two calls of the activation that it begins
pub grows-twice : (p site s t m : ℕ) (xs ys zs ws : List Placed) → Grows p site 1 xs ys → Grows (length xs) s m ys zs → Grows (length xs) t m zs ws
    → Grows p site (suc (m + m)) xs ws
grows-twice p site s t m xs ys zs ws new one two = record {
  has = two.has;
  count = omega (arith, new.count, one.count, two.count);
  unlinked = λ c k apart below un.
      let within : c < length ys = omega (arith, new.count) in
      let further : c < length zs = omega (arith, one.count) in
      two.unlinked c k (λ is at. absurd (omega arith)) further (one.unlinked c k (λ is at. absurd (omega arith)) within (new.unlinked c k apart below un));
  chains = λ c below.
      let within : c < length ys = omega (arith, new.count) in
      let further : c < length zs = omega (arith, one.count) in
      two.chains c further ∙ one.chains c within ∙ new.chains c below;
}
