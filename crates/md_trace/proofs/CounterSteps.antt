-- What each event does to what a counter keeps.
use Rattle.std.proofs.Common.{ℕ, ◌+◌, ◌-◌, ◌≡◌, ◌≢◌, ◌<◌, ◌≤◌, inl, inr, true, false, eqb, if◌then◌else◌, List, [], ◌∷◌, ◌++◌, length, map, reverse, take, Option, Some, IfSome, slice_get, set, refl, sym, ap, ◌∙◌, subst, arith}
use Rattle.std.proofs.lemmas.Bool.{eq-eqb, ne_eqb, cases_eq}
use Rattle.std.proofs.lemmas.List.{reverse-append, reverse-reverse, length-reverse, length-append, length-map, take_at, length-set}
use Rattle.md_base.specs.declared.measure.Counts.{Counts}
use Rattle.md_base.specs.declared.measure.Measure.{Measure}
use Rattle.md_base.specs.declared.measure.Measure.TheVariants.{Calls, Exits, Fails, Redos, Allocs, Words, Excps}
use Rattle.md_trace.specs.declared.event.Event.{Event}
use Rattle.md_trace.specs.declared.event.Event.TheVariants.{Call, Exit, Redo, Fail, Excp, Alloc}
use Rattle.md_trace.specs.Activation.{activations, numbered, parent_of, procedure_of}
use Rattle.md_trace.specs.PortHistory.{SiteTable, MayFollow, IsPortHistory, current}
use Rattle.md_trace.specs.Context.{Placed, chain, placed_of, current_chain, has_procedure}
use Rattle.md_trace.specs.Count.{with_more}
use Rattle.md_trace.specs.Counted.{Counted, CountsFor, CountsUp, Enters, Leaves, AsBefore, longest, procedure_counts, chain_procedures}
use Rattle.md_trace.specs.Laws.{procedure-below}
use Rattle.md_trace.proofs.Lists.{get-set-same, get-set-other, get-push-new}
use Rattle.md_trace.proofs.Numbered.{numbered-there}
use Rattle.md_trace.proofs.Placing.{length-placed, procedure_of-placed}
use Rattle.md_trace.proofs.Histories.{callee-below, procedure-of-table, orderly, current-there, chain-of, chain-redo, chain-call}
use Rattle.md_trace.proofs.Setwise.{newest, set-exit, set-fail, set-excp, set-redo, set-alloc, set-exit-other, set-fail-other, set-excp-other, set-redo-other, set-alloc-other, set-call, set-call-other}
use Rattle.md_trace.proofs.Longest.{chain-longest, current-longest}

-- rows by number, one of which goes from f to g where the others are as they were
pub rows-after : (xs ys : List Counts) (n q : ℕ) (m : Measure) (by : ℕ) (f g : ℕ → Counts) →
    length xs ≡ n → q < n → ((r : ℕ) → r < n → slice_get xs r ≡ Some (f r)) →
    IfSome (slice_get xs q) (λ c. ys ≡ set xs q (with_more c m by)) → g q ≡ with_more (f q) m by → ((r : ℕ) → r ≢ q → g r ≡ f r) →
    (length ys ≡ n) × ((r : ℕ) → r < n → slice_get ys r ≡ Some (g r))
rows-after xs ys n q m by f g len below was write changed others =
    let P : Option Counts → Type 0 = λ o. IfSome o (λ c. ys ≡ set xs q (with_more c m by)) in
    let e : ys ≡ set xs q (with_more (f q) m by) = subst P (was q below) write in
    let row : ℕ → Type 0 = λ r. slice_get ys r ≡ Some (g r) in (
      ap length e ∙ length-set xs q (with_more (f q) m by) ∙ len,
      λ r h. elim (cases_eq r q) [
        | inl same ↦ subst row (sym same) (ap (λ zs. slice_get zs q) e ∙ get-set-same xs q (with_more (f q) m by) (omega (arith, len)) ∙ ap Some (sym changed))
        | inr other ↦ ap (λ zs. slice_get zs r) e ∙ get-set-other xs q r (with_more (f q) m by) other ∙ was r h ∙ ap Some (sym (others r other))
      ],
    )

-- an activation with another procedure fails the test of this one
other-procedure : (r q : ℕ) (y : Placed) → y.link.procedure ≡ q → r ≢ q → has_procedure r y ≡ false
other-procedure r q y is ne = ne_eqb r y.link.procedure (λ e. ne (e ∙ is))

same-procedure : (q : ℕ) (y : Placed) → y.link.procedure ≡ q → has_procedure q y ≡ true
same-procedure q y is = eq-eqb q y.link.procedure (sym is)

-- a chain that is read from its end, one more
pushed : (xs ys zs : List ℕ) (q : ℕ) → ys ≡ xs ++ q ∷ [] → reverse xs ≡ zs → reverse ys ≡ q ∷ zs
pushed xs ys zs q e is = ap reverse e ∙ reverse-append xs (q ∷ []) ∙ ap (λ l. q ∷ l) is

-- the last of a list is the first of it turned
last-of : (xs : List ℕ) (q : ℕ) (zs : List ℕ) → reverse xs ≡ q ∷ zs → slice_get xs (length xs - 1) ≡ Some q
last-of xs q zs is =
    let turned : xs ≡ reverse zs ++ q ∷ [] = sym (reverse-reverse xs) ∙ ap reverse is ∙ reverse-append (q ∷ []) zs in
    let len : length xs - 1 ≡ length (reverse zs) = omega (arith, ap length turned, length-append (reverse zs) (q ∷ [])) in
    ap (λ ys. slice_get ys (length xs - 1)) turned ∙ ap (λ n. slice_get (reverse zs ++ q ∷ []) n) len ∙ get-push-new (reverse zs) q

-- and one less
popped : (xs ys zs : List ℕ) (q : ℕ) → ys ≡ take (length xs - 1) xs → reverse xs ≡ q ∷ zs → reverse ys ≡ zs
popped xs ys zs q e is =
    let turned : xs ≡ reverse zs ++ q ∷ [] = sym (reverse-reverse xs) ∙ ap reverse is ∙ reverse-append (q ∷ []) zs in
    let len : length xs ≡ length (reverse zs) + 1 = ap length turned ∙ length-append (reverse zs) (q ∷ []) in
    let front : take (length xs - 1) xs ≡ reverse zs =
    ap (take (length xs - 1)) turned ∙ take_at (reverse zs) (q ∷ []) (length xs - 1) (omega (arith, len)) in
    ap reverse (e ∙ front) ∙ reverse-reverse zs

-- the activation with a mark, in its context
placed-at : (m : ℕ) (h : List Event) (a q : ℕ) → procedure_of (activations h) a ≡ Some q → (y : Placed) × (numbered (placed_of m h) a ≡ Some y) × (y.link.procedure ≡ q)
placed-at m h a q marked =
    let below = procedure-below (activations h) a q marked in
    let there = numbered-there (placed_of m h) a (omega (arith, length-placed m (activations h))) in
    let is = procedure_of-placed m (activations h) a there.0 there.1 in
    let same : there.0.link.procedure ≡ q = cc (is, marked) in
    (there.0, there.1, same)

-- own counts and how many there are
abbrev OwnAre : SiteTable → List Event → List Counts → Type 0
OwnAre t h own = (length own ≡ t.procedures) × ((r : ℕ) → r < t.procedures → slice_get own r ≡ Some (procedure_counts t.main h r))

-- one more on a measure of one procedure
abbrev Written : List Counts → List Counts → ℕ → Measure → ℕ → Type 0
Written xs ys q m by = IfSome (slice_get xs q) (λ c. ys ≡ set xs q (with_more c m by))

module _ (t : SiteTable) (h : List Event) (xs ys : List Counts) (are : OwnAre t h xs) where
  own-call : (p s : Option ℕ) (q : ℕ) → IsPortHistory t (Call (length (activations h)) p s q ∷ h) → Written xs ys q Calls 1 → OwnAre t (Call (length (activations h)) p s q ∷ h) ys
  own-call p s q is write =
      rows-after xs ys t.procedures q Calls 1 (procedure_counts t.main h) (procedure_counts t.main (Call (length (activations h)) p s q ∷ h))
      are.0 (callee-below t h p s q is.0 is.1.3) are.1 write
      (set-call t t.main (has_procedure q) h p s q is.0 (same-procedure q (newest t.main h p s q) refl))
      (λ r ne. set-call-other t t.main (has_procedure r) h p s q is.0 (other-procedure r q (newest t.main h p s q) refl ne))

  own-exit : (a q : ℕ) → IsPortHistory t h → procedure_of (activations h) a ≡ Some q → Written xs ys q Exits 1 → OwnAre t (Exit a ∷ h) ys
  own-exit a q is marked write =
      let y = placed-at t.main h a q marked in
      rows-after xs ys t.procedures q Exits 1 (procedure_counts t.main h) (procedure_counts t.main (Exit a ∷ h))
      are.0 (procedure-of-table t h a q is marked) are.1 write
      (set-exit t t.main (has_procedure q) h a y.0 y.1 (same-procedure q y.0 y.2))
      (λ r ne. set-exit-other t t.main (has_procedure r) h a y.0 y.1 (other-procedure r q y.0 y.2 ne))

  own-fail : (a q : ℕ) → IsPortHistory t h → procedure_of (activations h) a ≡ Some q → Written xs ys q Fails 1 → OwnAre t (Fail a ∷ h) ys
  own-fail a q is marked write =
      let y = placed-at t.main h a q marked in
      rows-after xs ys t.procedures q Fails 1 (procedure_counts t.main h) (procedure_counts t.main (Fail a ∷ h))
      are.0 (procedure-of-table t h a q is marked) are.1 write
      (set-fail t t.main (has_procedure q) h a y.0 y.1 (same-procedure q y.0 y.2))
      (λ r ne. set-fail-other t t.main (has_procedure r) h a y.0 y.1 (other-procedure r q y.0 y.2 ne))

  own-excp : (a q : ℕ) → IsPortHistory t h → procedure_of (activations h) a ≡ Some q → Written xs ys q Excps 1 → OwnAre t (Excp a ∷ h) ys
  own-excp a q is marked write =
      let y = placed-at t.main h a q marked in
      rows-after xs ys t.procedures q Excps 1 (procedure_counts t.main h) (procedure_counts t.main (Excp a ∷ h))
      are.0 (procedure-of-table t h a q is marked) are.1 write
      (set-excp t t.main (has_procedure q) h a y.0 y.1 (same-procedure q y.0 y.2))
      (λ r ne. set-excp-other t t.main (has_procedure r) h a y.0 y.1 (other-procedure r q y.0 y.2 ne))

  own-redo : (a q : ℕ) → IsPortHistory t h → procedure_of (activations h) a ≡ Some q → Written xs ys q Redos 1 → OwnAre t (Redo a ∷ h) ys
  own-redo a q is marked write =
      let y = placed-at t.main h a q marked in
      rows-after xs ys t.procedures q Redos 1 (procedure_counts t.main h) (procedure_counts t.main (Redo a ∷ h))
      are.0 (procedure-of-table t h a q is marked) are.1 write
      (set-redo t t.main (has_procedure q) h a y.0 y.1 (same-procedure q y.0 y.2))
      (λ r ne. set-redo-other t t.main (has_procedure r) h a y.0 y.1 (other-procedure r q y.0 y.2 ne))

  own-alloc : (zs : List Counts) (a q w : ℕ) → IsPortHistory t h → procedure_of (activations h) a ≡ Some q → Written xs ys q Allocs 1 → Written ys zs q Words w → OwnAre t (Alloc a w ∷ h) zs
  own-alloc zs a q w is marked one more =
      let y = placed-at t.main h a q marked in
      let n = t.procedures in
      let below = procedure-of-table t h a q is marked in
      let f = procedure_counts t.main h in
      let mid : ℕ → Counts = λ r. if eqb r q then with_more (f q) Allocs 1 else f r in
      let g = procedure_counts t.main (Alloc a w ∷ h) in
      let here : mid q ≡ with_more (f q) Allocs 1 = rw (eq-eqb q q refl) in
      let there : (r : ℕ) → r ≢ q → mid r ≡ f r = λ r ne. rw (ne_eqb r q ne) in
      let first = rows-after xs ys n q Allocs 1 f mid are.0 below are.1 one here there in
      rows-after ys zs n q Words w mid g first.0 below first.1 more
      (set-alloc t t.main (has_procedure q) h a w y.0 y.1 (same-procedure q y.0 y.2) ∙ ap (λ c. with_more c Words w) (sym here))
      (λ r ne. set-alloc-other t t.main (has_procedure r) h a w y.0 y.1 (other-procedure r q y.0 y.2 ne) ∙ sym (there r ne))

-- what an activation's exit, fail or exception does to the chain
chain-left : (t : SiteTable) (h : List Event) (a q : ℕ) (zs ys : List ℕ) → IsPortHistory t h → current h ≡ Some a → procedure_of (activations h) a ≡ Some q →
    reverse zs ≡ chain_procedures t.main h → ys ≡ take (length zs - 1) zs →
    reverse ys ≡ map (λ x. x.link.procedure) (chain (placed_of t.main h) (parent_of (activations h) a))
chain-left t h a q zs ys is now marked was less =
    let m = t.main in
    let order = orderly t m h is in
    let y = placed-at m h a q marked in
    let unfolded : current_chain m h ≡ y.0 ∷ chain (placed_of m h) (parent_of (activations h) a) = ap (chain (placed_of m h)) now ∙ chain-of m a h y.0 order y.1 in
    popped zs ys (map (λ x. x.link.procedure) (chain (placed_of m h) (parent_of (activations h) a))) y.0.link.procedure less (was ∙ ap (map (λ (x : Placed). x.link.procedure)) unfolded)

shorter : (t : SiteTable) (h : List Event) (a q : ℕ) → IsPortHistory t h → current h ≡ Some a → procedure_of (activations h) a ≡ Some q →
    length (chain (placed_of t.main h) (parent_of (activations h) a)) ≤ longest t.main h
shorter t h a q is now marked =
    let m = t.main in
    let order = orderly t m h is in
    let y = placed-at m h a q marked in
    let unfolded : length (current_chain m h) ≡ length (y.0 ∷ chain (placed_of m h) (parent_of (activations h) a)) = ap length (ap (chain (placed_of m h)) now ∙ chain-of m a h y.0 order y.1) in
    omega (arith, unfolded, current-longest m h)

pub counter-call : (t : SiteTable) (h : List Event) (k0 k1 k2 : Counted) (p s : Option ℕ) (q : ℕ) → CountsFor k0 t h → MayFollow t h (Call (length (activations h)) p s q) →
    Enters k0 k1 q → CountsUp k1 k2 q Calls 1 → CountsFor k2 t (Call (length (activations h)) p s q ∷ h)
counter-call t h k0 k1 k2 p s q for may enters counts =
    let m = t.main in
    let order = orderly t m h for.history in
    let e = Call (length (activations h)) p s q in
    let W : List Counts → Type 0 = λ xs. Written xs k2.own q Calls 1 in
    let own = own-call t h k0.own k2.own (for.procedures, for.own_are) p s q (for.history, may) (subst W enters.own counts.own) in
    let chained = chain-call t m (length (activations h)) p s q h order may in
    let procs : chain_procedures m (e ∷ h) ≡ q ∷ chain_procedures m h = ap (map (λ (x : Placed). x.link.procedure)) chained in
    let grown = pushed k0.chain k2.chain (chain_procedures m h) q (counts.chain ∙ enters.chain) for.chain_is in
    let len : length k1.chain ≡ length (current_chain m (e ∷ h)) =
    ap length (sym counts.chain) ∙ sym (length-reverse k2.chain) ∙ ap length (grown ∙ sym procs) ∙ length-map (current_chain m (e ∷ h)) (λ x. x.link.procedure) in
    record {
      history = (for.history, may);
      procedures = own.0;
      own_are = own.1;
      chain_is = grown ∙ sym procs;
      room_is = omega (arith, for.room_is, enters.room, enters.fits, counts.room, len);
    }

pub counter-exit : (t : SiteTable) (h : List Event) (k0 k1 k2 : Counted) (a q : ℕ) → CountsFor k0 t h → procedure_of (activations h) a ≡ Some q → MayFollow t h (Exit a) →
    CountsUp k0 k1 q Exits 1 → Leaves k1 k2 → CountsFor k2 t (Exit a ∷ h)
counter-exit t h k0 k1 k2 a q for marked may counts leaves =
    let own = own-exit t h k0.own k1.own (for.procedures, for.own_are) a q for.history marked counts.own in
    let O : List Counts → Type 0 = λ xs. OwnAre t (Exit a ∷ h) xs in
    let own2 = subst O (sym leaves.own) own in
    let less : k2.chain ≡ take (length k0.chain - 1) k0.chain = leaves.chain ∙ ap (λ c. take (length c - 1) c) counts.chain in
    record {
      history = (for.history, may);
      procedures = own2.0;
      own_are = own2.1;
      chain_is = chain-left t h a q k0.chain k2.chain for.history may marked for.chain_is less;
      room_is = omega (arith, for.room_is, counts.room, leaves.room, shorter t h a q for.history may marked);
    }

pub counter-fail : (t : SiteTable) (h : List Event) (k0 k1 k2 : Counted) (a q : ℕ) → CountsFor k0 t h → procedure_of (activations h) a ≡ Some q → MayFollow t h (Fail a) →
    CountsUp k0 k1 q Fails 1 → Leaves k1 k2 → CountsFor k2 t (Fail a ∷ h)
counter-fail t h k0 k1 k2 a q for marked may counts leaves =
    let own = own-fail t h k0.own k1.own (for.procedures, for.own_are) a q for.history marked counts.own in
    let O : List Counts → Type 0 = λ xs. OwnAre t (Fail a ∷ h) xs in
    let own2 = subst O (sym leaves.own) own in
    let less : k2.chain ≡ take (length k0.chain - 1) k0.chain = leaves.chain ∙ ap (λ c. take (length c - 1) c) counts.chain in
    record {
      history = (for.history, may);
      procedures = own2.0;
      own_are = own2.1;
      chain_is = chain-left t h a q k0.chain k2.chain for.history may marked for.chain_is less;
      room_is = omega (arith, for.room_is, counts.room, leaves.room, shorter t h a q for.history may marked);
    }

pub counter-excp : (t : SiteTable) (h : List Event) (k0 k1 k2 : Counted) (a q : ℕ) → CountsFor k0 t h → procedure_of (activations h) a ≡ Some q → MayFollow t h (Excp a) →
    CountsUp k0 k1 q Excps 1 → Leaves k1 k2 → CountsFor k2 t (Excp a ∷ h)
counter-excp t h k0 k1 k2 a q for marked may counts leaves =
    let own = own-excp t h k0.own k1.own (for.procedures, for.own_are) a q for.history marked counts.own in
    let O : List Counts → Type 0 = λ xs. OwnAre t (Excp a ∷ h) xs in
    let own2 = subst O (sym leaves.own) own in
    let less : k2.chain ≡ take (length k0.chain - 1) k0.chain = leaves.chain ∙ ap (λ c. take (length c - 1) c) counts.chain in
    record {
      history = (for.history, may);
      procedures = own2.0;
      own_are = own2.1;
      chain_is = chain-left t h a q k0.chain k2.chain for.history may marked for.chain_is less;
      room_is = omega (arith, for.room_is, counts.room, leaves.room, shorter t h a q for.history may marked);
    }

-- the chain after a redo is that of the activation, which is the one that was current before and it
chain-back : (t : SiteTable) (h : List Event) (a q : ℕ) → IsPortHistory t h → procedure_of (activations h) a ≡ Some q → MayFollow t h (Redo a) →
    (y : Placed) × (y.link.procedure ≡ q) × (chain (placed_of t.main h) (Some a) ≡ y ∷ current_chain t.main h)
chain-back t h a q is marked may =
    let m = t.main in
    let order = orderly t m h is in
    let y = placed-at m h a q marked in
    (y.0, y.2, chain-redo m a h y.0 order y.1 may.1)

-- there is room to go back
pub room-back : (t : SiteTable) (h : List Event) (k : Counted) (a q : ℕ) → CountsFor k t h → procedure_of (activations h) a ≡ Some q → MayFollow t h (Redo a) → length k.chain < k.room
room-back t h k a q for marked may =
    let m = t.main in
    let back = chain-back t h a q for.history marked may in
    let below = procedure-below (activations h) a q marked in
    let len : length k.chain ≡ length (current_chain m h) = sym (length-reverse k.chain) ∙ ap length for.chain_is ∙ length-map (current_chain m h) (λ x. x.link.procedure) in
    omega (arith, len, ap length back.2, chain-longest t m h a for.history below, for.room_is)

pub counter-redo : (t : SiteTable) (h : List Event) (k0 k1 k2 : Counted) (a q : ℕ) → CountsFor k0 t h → procedure_of (activations h) a ≡ Some q → MayFollow t h (Redo a) →
    Enters k0 k1 q → CountsUp k1 k2 q Redos 1 → CountsFor k2 t (Redo a ∷ h)
counter-redo t h k0 k1 k2 a q for marked may enters counts =
    let m = t.main in
    let W : List Counts → Type 0 = λ xs. Written xs k2.own q Redos 1 in
    let own = own-redo t h k0.own k2.own (for.procedures, for.own_are) a q for.history marked (subst W enters.own counts.own) in
    let back = chain-back t h a q for.history marked may in
    let procs : chain_procedures m (Redo a ∷ h) ≡ back.0.link.procedure ∷ chain_procedures m h = ap (map (λ (x : Placed). x.link.procedure)) back.2 in
    let grown = pushed k0.chain k2.chain (chain_procedures m h) q (counts.chain ∙ enters.chain) for.chain_is in
    record {
      history = (for.history, may);
      procedures = own.0;
      own_are = own.1;
      chain_is = grown ∙ ap (λ n. n ∷ chain_procedures m h) (sym back.1) ∙ sym procs;
      room_is = omega (arith, for.room_is, enters.room, counts.room, chain-longest t m h a for.history (procedure-below (activations h) a q marked));
    }

-- the last of the chain is the procedure that runs
pub top-is : (t : SiteTable) (h : List Event) (k : Counted) (a : ℕ) → CountsFor k t h → current h ≡ Some a →
    (q : ℕ) × (procedure_of (activations h) a ≡ Some q) × (slice_get k.chain (length k.chain - 1) ≡ Some q)
top-is t h k a for now =
    let m = t.main in
    let order = orderly t m h for.history in
    let y = current-there m a h order now in
    let rest = chain (placed_of m h) (parent_of (activations h) a) in
    let unfolded : current_chain m h ≡ y.0 ∷ rest = ap (chain (placed_of m h)) now ∙ chain-of m a h y.0 order y.1 in
    let is : reverse k.chain ≡ y.0.link.procedure ∷ map (λ x. x.link.procedure) rest = for.chain_is ∙ ap (map (λ (x : Placed). x.link.procedure)) unfolded in
    (y.0.link.procedure, procedure_of-placed m (activations h) a y.0 y.1, last-of k.chain y.0.link.procedure (map (λ x. x.link.procedure) rest) is)

pub counter-alloc : (t : SiteTable) (h : List Event) (k0 k1 k2 : Counted) (a q w : ℕ) → CountsFor k0 t h → procedure_of (activations h) a ≡ Some q → MayFollow t h (Alloc a w) →
    CountsUp k0 k1 q Allocs 1 → CountsUp k1 k2 q Words w → CountsFor k2 t (Alloc a w ∷ h)
counter-alloc t h k0 k1 k2 a q w for marked may one more =
    let own = own-alloc t h k0.own k1.own (for.procedures, for.own_are) k2.own a q w for.history marked one.own more.own in
    record {
      history = (for.history, may);
      procedures = own.0;
      own_are = own.1;
      chain_is = ap reverse (more.chain ∙ one.chain) ∙ for.chain_is;
      room_is = omega (arith, for.room_is, one.room, more.room, current-longest t.main h);
    }

-- what stays for h where only the room has grown
pub counter-kept : (t : SiteTable) (h : List Event) (k0 k1 : Counted) → CountsFor k0 t h → AsBefore k0 k1 → CountsFor k1 t h
counter-kept t h k0 k1 for same =
    let O : List Counts → Type 0 = λ xs. OwnAre t h xs in
    let own = subst O (sym same.own) (for.procedures, for.own_are) in
    record {
      history = for.history;
      procedures = own.0;
      own_are = own.1;
      chain_is = ap reverse same.chain ∙ for.chain_is;
      room_is = omega (arith, for.room_is, same.room);
    }
