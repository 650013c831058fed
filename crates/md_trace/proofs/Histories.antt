-- What holds in every port history, and how each event changes the current chain.
use Rattle.std.proofs.Common.{ℕ, All, IfSome, IsSomeAnd, MatchOption, slice_get, ◌≡◌, ◌<◌, ◌⊎◌, inl, inr, Bool, true, false, cond, eqb, List, [], ◌∷◌, length, Option, Some, None, refl, sym, ap, ◌∙◌, subst, arith}
use Rattle.std.proofs.lemmas.Bool.{false≢true}
use Rattle.std.proofs.lemmas.Bool.Decides.{eqb_tells}
use Rattle.md_trace.specs.declared.event.Event.{Event}
use Rattle.md_trace.specs.declared.event.Event.TheVariants.{Call, Exit, Redo, Fail, Excp, Alloc}
use Rattle.md_trace.specs.Activation.{activations, numbered, parent_of, procedure_of}
use Rattle.md_trace.specs.PortHistory.{SiteTable, CallSite, IsSiteTable, MayCallAt, MayCall, current, has_exited, CallerRuns, MayFollow, IsPortHistory}
use Rattle.md_trace.specs.Context.{Placed, chain, place, link_of, placed_of, current_chain}
use Rattle.std.proofs.lemmas.Option.{get_or_from_slice_get}
use Rattle.md_trace.proofs.Lists.{get-within}
use Rattle.md_trace.proofs.Numbered.{numbered-there}
use Rattle.md_trace.proofs.Placing.{length-placed, parent_of-placed}
use Rattle.md_trace.proofs.Chains.{IsBelow, AreParentsBelow, below-more, parent-below, chain-new, chain-unfold}

-- parents are earlier, and the current activation and those that have exited were called
pub record IsOrderly (m : ℕ) (h : List Event) : Type 0 where
  pub parents : AreParentsBelow (placed_of m h)
  pub now : IsBelow (current h) (length (activations h))
  pub exited : (a : ℕ) → has_exited h a ≡ true → a < length (activations h)

-- which case of a test gave `true`
after-false : (a b : ℕ) (c : Bool) → cond (eqb a b) false c ≡ true → c ≡ true
after-false a b c is =
    elim (eqb_tells a b) [
      | inl p ↦ absurd (false≢true (rw p.0 at is))
      | inr p ↦ rw p.0 at is
    ]

after-true : (a b : ℕ) (c : Bool) → cond (eqb a b) true c ≡ true → (a ≡ b) ⊎ (c ≡ true)
after-true a b c is =
    elim (eqb_tells a b) [
      | inl p ↦ inl p.1
      | inr p ↦ inr (rw p.0 at is)
    ]

-- the parent of an activation is earlier than it
parent_of-below : (m : ℕ) (h : List Event) (a : ℕ) → IsOrderly m h → a < length (activations h) → IsBelow (parent_of (activations h) a) (length (activations h))
parent_of-below m h a order below =
    let len = length-placed m (activations h) in
    let there = numbered-there (placed_of m h) a (omega (arith, len)) in
    let older = parent-below (placed_of m h) a there.0 order.parents there.1 in
    let P : Option ℕ → Type 0 = λ o. IsBelow o (length (activations h)) in
    subst P (sym (parent_of-placed m (activations h) a there.0 there.1)) (below-more there.0.parent a (length (activations h)) (omega arith) older)

now-below : (a n : ℕ) (o : Option ℕ) → o ≡ Some a → IsBelow o n → a < n
now-below a n o is below = let P : Option ℕ → Type 0 = λ x. IsBelow x n in subst P is below

orderly-after : (t : SiteTable) (m : ℕ) (h : List Event) (e : Event) → IsOrderly m h → MayFollow t h e → IsOrderly m (e ∷ h)
orderly-after t m h (Call a p s q) order may =
    let len = length-placed m (activations h) in
    let P : Option ℕ → Type 0 = λ o. IsBelow o (length (placed_of m h)) in
    let Q : ℕ → Type 0 = λ n. IsBelow (current h) n in
    record {
      parents = (subst P (sym may.2) (subst Q (sym len) order.now), order.parents);
      now = omega (arith, may.0);
      exited = λ b is. let old = order.exited b (after-false b a (has_exited h b) is) in omega arith;
    }
orderly-after t m h (Exit a) order may =
    let below = now-below a (length (activations h)) (current h) may order.now in
    record {
      parents = order.parents;
      now = parent_of-below m h a order below;
      exited = λ b is. elim (after-true b a (has_exited h b) is) [ inl e ↦ omega (arith, e) | inr old ↦ order.exited b old ];
    }
orderly-after t m h (Redo a) order may =
    record {
      parents = order.parents;
      now = order.exited a may.0;
      exited = λ b is. order.exited b (after-false b a (has_exited h b) is);
    }
orderly-after t m h (Fail a) order may =
    let below = now-below a (length (activations h)) (current h) may order.now in
    record {
      parents = order.parents;
      now = parent_of-below m h a order below;
      exited = λ b is. order.exited b (after-false b a (has_exited h b) is);
    }
orderly-after t m h (Excp a) order may =
    let below = now-below a (length (activations h)) (current h) may order.now in
    record {
      parents = order.parents;
      now = parent_of-below m h a order below;
      exited = λ b is. order.exited b (after-false b a (has_exited h b) is);
    }
orderly-after t m h (Alloc a w) order may =
    record { parents = order.parents; now = order.now; exited = order.exited }

pub orderly : (t : SiteTable) (m : ℕ) (h : List Event) → IsPortHistory t h → IsOrderly m h
orderly t m [] is = record { parents = tt; now = tt; exited = λ a h. absurd (false≢true h) }
orderly t m (e ∷ h) is = orderly-after t m h e (orderly t m h is.0) is.1

-- an activation that runs is one of those called
pub current-there : (m a : ℕ) (h : List Event) → IsOrderly m h → current h ≡ Some a → (y : Placed) × (numbered (placed_of m h) a ≡ Some y)
current-there m a h order is =
    let len = length-placed m (activations h) in
    let below = now-below a (length (activations h)) (current h) is order.now in
    numbered-there (placed_of m h) a (omega (arith, len))

-- so is one that has exited
pub exited-there : (m a : ℕ) (h : List Event) → IsOrderly m h → has_exited h a ≡ true → (y : Placed) × (numbered (placed_of m h) a ≡ Some y)
exited-there m a h order is =
    let len = length-placed m (activations h) in
    let below = order.exited a is in
    numbered-there (placed_of m h) a (omega (arith, len))

-- the chain of an activation is the activation and its parent's chain
pub chain-of : (m a : ℕ) (h : List Event) (y : Placed) → IsOrderly m h → numbered (placed_of m h) a ≡ Some y → chain (placed_of m h) (Some a) ≡ y ∷ chain (placed_of m h) (parent_of (activations h) a)
chain-of m a h y order is =
    let unfolded = chain-unfold (placed_of m h) a y order.parents is in
    let e : chain (placed_of m h) (parent_of (activations h) a) ≡ chain (placed_of m h) y.parent = ap (chain (placed_of m h)) (parent_of-placed m (activations h) a y is) in
    cc

-- an activation that is entered again stands before the chain of its caller, which runs
pub chain-redo : (m a : ℕ) (h : List Event) (y : Placed) → IsOrderly m h → numbered (placed_of m h) a ≡ Some y → CallerRuns h a → chain (placed_of m h) (Some a) ≡ y ∷ current_chain m h
chain-redo m a h y order is caller = chain-of m a h y order is ∙ ap (λ o. y ∷ chain (placed_of m h) o) (caller.1 ∙ sym caller.2)

-- a call puts the new activation before the current chain
pub chain-call : (t : SiteTable) (m a : ℕ) (p s : Option ℕ) (q : ℕ) (h : List Event) → IsOrderly m h → MayFollow t h (Call a p s q) →
    current_chain m (Call a p s q ∷ h) ≡ place m (placed_of m h) p (link_of (placed_of m h) (record { parent = p; site = s; procedure = q })) ∷ current_chain m h
chain-call t m a p s q h order may =
    let before = placed_of m h in
    let new = place m before p (link_of before (record { parent = p; site = s; procedure = q })) in
    let len = length-placed m (activations h) in
    let Q : ℕ → Type 0 = λ n. IsBelow (current h) n in
    let P : Option ℕ → Type 0 = λ o. IsBelow o (length before) in
    let below : IsBelow p (length before) = subst P (sym may.2) (subst Q (sym len) order.now) in
    let e : a ≡ length before = may.0 ∙ sym len in
    let first : chain (new ∷ before) (Some a) ≡ chain (new ∷ before) (Some (length before)) = ap (λ n. chain (new ∷ before) (Some n)) e in
    let older : chain before p ≡ chain before (current h) = ap (chain before) may.2 in
    first ∙ chain-new new before ∙ ap (λ c. new ∷ c) older

-- a port history is over a site table
pub table-of : (t : SiteTable) (h : List Event) → IsPortHistory t h → IsSiteTable t
table-of t [] is = is
table-of t (e ∷ h) is = table-of t h is.0

-- what holds of each member of a list
pub all-at : {A : Type 0} (P : A → Type 0) (xs : List A) (k : ℕ) (x : A) → All P xs → slice_get xs k ≡ Some x → P x
all-at P xs k x all is = subst P (get_or_from_slice_get xs k x x is) (all k x (get-within xs k x is))

-- a callee that is given, or any procedure
pub callee-of : (n q : ℕ) (o : Option ℕ) → IfSome o (λ c. c < n) → MatchOption o (q < n) (λ c. q ≡ c) → q < n
callee-of n q None below may = may
callee-of n q (Some c) below may = omega (arith, may)

callee-at : (t : SiteTable) (h : List Event) (p s q : ℕ) (o : Option CallSite) → IsSiteTable t → slice_get t.sites s ≡ o → IsSomeAnd o (MayCallAt t (procedure_of (activations h) p) q) → q < t.procedures
callee-at t h p s q None table is may = absurd may
callee-at t h p s q (Some x) table is may =
    callee-of t.procedures q x.callee (all-at (λ (y : CallSite). IfSome y.callee (λ c. c < t.procedures)) t.sites s x table.callees_are is) may.callee

-- what is called is a procedure of the table
pub callee-below : (t : SiteTable) (h : List Event) (p s : Option ℕ) (q : ℕ) → IsPortHistory t h → MayCall t h p s q → q < t.procedures
callee-below t h None None q is may = let table = table-of t h is in omega (arith, may.1, table.main_is_one)
callee-below t h (Some p) (Some s) q is may = callee-at t h p s q (slice_get t.sites s) (table-of t h is) refl may
callee-below t h None (Some s) q is may = absurd may
callee-below t h (Some p) None q is may = absurd may

-- the procedure of each activation is one of the table
pub procedure-of-table : (t : SiteTable) (h : List Event) (a q : ℕ) → IsPortHistory t h → procedure_of (activations h) a ≡ Some q → q < t.procedures
procedure-of-table t [] a q is has = absurd (cc)
procedure-of-table t (Call b p s r ∷ h) a q is has =
    elim (eqb_tells a (length (activations h))) [
      | inl e ↦
          let new : procedure_of (activations (Call b p s r ∷ h)) a ≡ Some r = rw e.0 in
          let same : r ≡ q = cc (new, has) in
          omega (arith, same, callee-below t h p s r is.0 is.1.3)
      | inr e ↦
          let older : procedure_of (activations (Call b p s r ∷ h)) a ≡ procedure_of (activations h) a = rw e.0 in
          procedure-of-table t h a q is.0 (sym older ∙ has)
    ]
procedure-of-table t (Exit b ∷ h) a q is has = procedure-of-table t h a q is.0 has
procedure-of-table t (Redo b ∷ h) a q is has = procedure-of-table t h a q is.0 has
procedure-of-table t (Fail b ∷ h) a q is has = procedure-of-table t h a q is.0 has
procedure-of-table t (Excp b ∷ h) a q is has = procedure-of-table t h a q is.0 has
procedure-of-table t (Alloc b w ∷ h) a q is has = procedure-of-table t h a q is.0 has
