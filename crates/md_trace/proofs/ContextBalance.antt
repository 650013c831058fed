-- The balance of a context is that of its links together.
use Rattle.std.proofs.Common.{ℕ, suc, ◌+◌, ◌≡◌, inl, inr, Bool, true, false, ◌&&◌, cond, List, [], ◌∷◌, Option, Some, None, slice_get, refl, sym, ap, ◌∙◌, arith}
use Rattle.std.proofs.lemmas.Bool.{cases_Bool, eq-eqb, eqb-true}
use Rattle.std.proofs.lemmas.Bool.Decides.{eqb_tells}
use Rattle.std.proofs.lemmas.List.Sums.{sum_by-cons}
use Rattle.std.specs.Prelude.{sum_by}
use Rattle.md_base.specs.declared.measure.Measure.{Measure}
use Rattle.md_base.specs.declared.measure.Measure.TheVariants.{Calls, Exits, Fails, Redos, Excps}
use Rattle.md_trace.specs.declared.event.Event.{Event}
use Rattle.md_trace.specs.Activation.{activations, numbered}
use Rattle.md_trace.specs.Balance.{IsNotFull, ContextsBalance}
use Rattle.md_trace.specs.Context.{Placed, placed_of, has_link}
use Rattle.md_trace.specs.Count.{activation_of, amount, sum_where, capped, passes, passing, set_counts}
use Rattle.md_trace.specs.Links.{Leading, links}
use Rattle.md_trace.specs.Totals.{in_context}
use Rattle.md_trace.proofs.Balanced.{links-balanced}
use Rattle.md_trace.proofs.Finds.{same-link-true}
use Rattle.md_trace.proofs.Histories.{all-at}
use Rattle.md_trace.proofs.LinkFacts.{leading, AreRight, are-calls, are-right, links-distinct}

-- sums of five numbers a member balance where each member's five do
balance-by : {A : Type 0} (c r e f g : A → ℕ) (xs : List A) → ((j : ℕ) (x : A) → slice_get xs j ≡ Some x → c x + r x ≡ (e x + f x) + g x) → sum_by c xs + sum_by r xs ≡ (sum_by e xs + sum_by f xs) + sum_by g xs
balance-by c r e f g [] each = refl
balance-by c r e f g (x ∷ xs) each =
    let here = each 0 x refl in
    let rest = balance-by c r e f g xs (λ j y is. each (suc j) y is) in
    omega (arith, here, rest, sum_by-cons c x xs, sum_by-cons r x xs, sum_by-cons e x xs, sum_by-cons f x xs, sum_by-cons g x xs)

-- tests that agree give one sum
sum-same : (f g : ℕ → Bool) (meas : Measure) (h : List Event) → ((b : ℕ) → f b ≡ g b) → sum_where f meas h ≡ sum_where g meas h
sum-same f g meas [] same = refl
sum-same f g meas (e ∷ h) same =
    ap (λ (b : Bool). cond b (amount meas e) 0 + sum_where f meas h) (same (activation_of e)) ∙ ap (λ n. cond (g (activation_of e)) (amount meas e) 0 + n) (sum-same f g meas h same)

-- a test that nobody passes counts nothing
sum-nobody : (f : ℕ → Bool) (meas : Measure) (h : List Event) → ((b : ℕ) → f b ≡ false) → sum_where f meas h ≡ 0
sum-nobody f meas [] none = refl
sum-nobody f meas (e ∷ h) none = rw (none (activation_of e)) (omega (arith, sum-nobody f meas h none))

-- an activation that has a link is in the context to which that leads
end-of : (m : ℕ) (xs : List Placed) (j b : ℕ) (x : Leading) (y : Placed) → AreRight m xs → slice_get (links m xs) j ≡ Some x → numbered xs b ≡ Some y → has_link x.link y ≡ true → x.to ≡ y.context
end-of m xs j b x y r at is has =
    let mine = r.linked b y is in
    let same : x.link ≡ y.link = same-link-true x.link y.link has in
    let number : j ≡ mine.0 = links-distinct m xs j mine.0 x (leading y.link y.context) at mine.1 same in
    let both : slice_get (links m xs) j ≡ Some (leading y.link y.context) = ap (slice_get (links m xs)) number ∙ mine.1 in
    let e : ◌≡◌ {A = Leading} x (leading y.link y.context) = cc (at, both) in
    ap (λ (z : Leading). z.to) e

-- the context of a link's activations and the link, as one test
inside-at : (m c b j : ℕ) (xs : List Placed) (x : Leading) (o : Option Placed) → AreRight m xs → slice_get (links m xs) j ≡ Some x → x.to ≡ c → numbered xs b ≡ o → passes (in_context c) o && passes (has_link x.link) o ≡ passes (has_link x.link) o
inside-at m c b j xs x None r at to is = refl
inside-at m c b j xs x (Some y) r at to is =
    elim (cases_Bool (has_link x.link y)) [
      | inl has ↦
          let good : in_context c y ≡ true = eq-eqb c y.context (sym to ∙ end-of m xs j b x y r at is has) in
          rw (good, has)
      | inr hasnt ↦ elim (cases_Bool (in_context c y)) [ inl p ↦ rw (p, hasnt) | inr p ↦ rw (p, hasnt) ]
    ]

outside-at : (m c b j : ℕ) (xs : List Placed) (x : Leading) (o : Option Placed) → AreRight m xs → slice_get (links m xs) j ≡ Some x → (x.to ≡ c → ⊥) → numbered xs b ≡ o → passes (in_context c) o && passes (has_link x.link) o ≡ false
outside-at m c b j xs x None r at other is = refl
outside-at m c b j xs x (Some y) r at other is =
    elim (cases_Bool (in_context c y)) [
      | inl good ↦ elim (cases_Bool (has_link x.link y)) [
        | inl has ↦ absurd (other (end-of m xs j b x y r at is has ∙ sym (eqb-true c y.context good)))
        | inr hasnt ↦ rw (good, hasnt)
      ]
      | inr bad ↦ rw bad
    ]

-- what the activations of a context that have a link count
abbrev part : ℕ → List Event → ℕ → Measure → Leading → ℕ
part m h c meas x = capped (sum_where (λ a. passing (placed_of m h) (in_context c) a && passing (placed_of m h) (has_link x.link) a) meas h)

abbrev whole : ℕ → List Event → Measure → Leading → ℕ
whole m h meas x = capped (sum_where (passing (placed_of m h) (has_link x.link)) meas h)

part-inside : (m c j : ℕ) (h : List Event) (x : Leading) (meas : Measure) → AreRight m (placed_of m h) → slice_get (links m (placed_of m h)) j ≡ Some x → x.to ≡ c → part m h c meas x ≡ whole m h meas x
part-inside m c j h x meas r at to =
    let xs = placed_of m h in
    ap capped (sum-same (λ a. passing xs (in_context c) a && passing xs (has_link x.link) a) (passing xs (has_link x.link)) meas h (λ b. inside-at m c b j xs x (numbered xs b) r at to refl))

part-outside : (m c j : ℕ) (h : List Event) (x : Leading) (meas : Measure) → AreRight m (placed_of m h) → slice_get (links m (placed_of m h)) j ≡ Some x → (x.to ≡ c → ⊥) → part m h c meas x ≡ 0
part-outside m c j h x meas r at other =
    let xs = placed_of m h in
    ap capped (sum-nobody (λ a. passing xs (in_context c) a && passing xs (has_link x.link) a) meas h (λ b. outside-at m c b j xs x (numbered xs b) r at other refl))

pub contexts-balanced : ContextsBalance
contexts-balanced t h c is now free =
    let m = t.main in
    let xs = placed_of m h in
    let r = are-right m (activations h) (are-calls t h is) in
    balance-by (part m h c Calls) (part m h c Redos) (part m h c Exits) (part m h c Fails) (part m h c Excps) (links m xs) (λ j x at.
    elim (eqb_tells x.to c) [
      | inl same ↦
          let inside = λ (meas : Measure). part-inside m c j h x meas r at same.1 in
          let whole_balance : whole m h Calls x + whole m h Redos x ≡ (whole m h Exits x + whole m h Fails x) + whole m h Excps x = links-balanced t h x.link is now (all-at (λ (z : Leading). z.to ≡ c → IsNotFull (set_counts m h (has_link z.link))) (links m xs) j x free at same.1) in
          omega (arith, inside Calls, inside Redos, inside Exits, inside Fails, inside Excps, whole_balance)
      | inr other ↦
          let outside = λ (meas : Measure). part-outside m c j h x meas r at other.1 in
          omega (arith, outside Calls, outside Redos, outside Exits, outside Fails, outside Excps)
    ])
