-- Exits, redos, fails and allocations keep what a recorder stands for.
use Rattle.std.proofs.Common.{ℕ, ◌-◌, ◌≡◌, ◌<◌, ◌≤◌, List, [], ◌∷◌, ◌++◌, length, reverse, take, Option, Some, slice_get, set, sym, ap, ◌∙◌, subst, arith}
use Rattle.md_static.specs.Tables.{Static, site_table}
use Rattle.md_static.specs.Sound.{IsSound}
use Rattle.md_trace.specs.declared.event.Event.{Event}
use Rattle.md_trace.specs.declared.event.Event.TheVariants.{Redo}
use Rattle.md_trace.specs.Activation.{activations, parent_of}
use Rattle.md_trace.specs.PortHistory.{SiteTable, current, MayFollow, IsPortHistory}
use Rattle.md_trace.specs.Context.{Placed, chain, contexts, placed_of, current_chain}
use Rattle.md_trace.specs.Links.{Leading, links}
use Rattle.md_trace.specs.Counted.{longest}
use Rattle.md_trace.proofs.Histories.{orderly, chain-of, chain-redo}
use Rattle.md_trace.proofs.LinkFacts.{AreRight, are-right, are-calls}
use Rattle.md_trace.proofs.Longest.{chain-longest, current-longest}
use Rattle.md_trace.proofs.Numbered.{numbered-below}
use Rattle.md_trace.proofs.Placing.{length-placed, parent_of-placed}
use Rattle.md_record.specs.Kept.{Kept, Stands}
use Rattle.md_record.specs.Marks.{BelongsTo}
use Rattle.md_record.specs.Parts.{RowsAre, ActiveIs, AreSteps, nearest}
use Rattle.md_record.proofs.PointerSteps.{nearest-same, nearest-other, active-set, steps-length, chain-pushed, ends-with, chain-popped}
use Rattle.std.proofs.lemmas.List.{length-reverse}

-- a history whose activations are those of before: what is to be shown anew
pub stands-same : (t : SiteTable) (h h2 : List Event) (k0 k2 : Kept) → Stands k0 t h → IsPortHistory t h2 → placed_of t.main h2 ≡ placed_of t.main h →
    k2.rows.statics ≡ k0.rows.statics → k2.rows.nodes ≡ k0.rows.nodes →
    RowsAre t.main h2 (links t.main (placed_of t.main h)) k2.rows.links → ActiveIs (length k0.rows.statics.procs) (current_chain t.main h2) k2.rows.active →
    AreSteps (links t.main (placed_of t.main h)) (current_chain t.main h2) (reverse k2.chain) → longest t.main h2 ≤ k2.room → Stands k2 t h2
stands-same t h h2 k0 k2 st is same statics nodes rows active steps room =
    let m = t.main in
    let S : Static → Type 0 = λ s. IsSound s in
    let T : Static → Type 0 = λ s. t ≡ site_table s t.main in
    let A : Static → Type 0 = λ s. ActiveIs (length s.procs) (current_chain m h2) k2.rows.active in
    let ls : links m (placed_of m h2) ≡ links m (placed_of m h) = ap (links m) same in
    let R : List Leading → Type 0 = λ l. RowsAre m h2 l k2.rows.links in
    let C : List Leading → Type 0 = λ l. AreSteps l (current_chain m h2) (reverse k2.chain) in
    record {
      history = is;
      sound = subst S (sym statics) st.sound;
      table = subst T (sym statics) st.table;
      contexts_are = nodes ∙ st.contexts_are ∙ ap (contexts m) (sym same);
      rows_are = subst R (sym ls) rows;
      active_is = subst A (sym statics) active;
      chain_is = subst C (sym ls) steps;
      room_is = room;
    }

-- the contexts and links of a history are right
pub right-of : (t : SiteTable) (h : List Event) → IsPortHistory t h → AreRight t.main (placed_of t.main h)
right-of t h is = are-right t.main (activations h) (are-calls t h is)

-- the procedure of a mark's context is that of its activation
pub mark-procedure : (t : SiteTable) (h : List Event) (k : Kept) (a top middle q : ℕ) (old : Option ℕ) → Stands k t h → (b : BelongsTo top middle old t h a) → slice_get k.rows.nodes top ≡ Some q → b.activation.link.procedure ≡ q
mark-procedure t h k a top middle q old st b at =
    let m = t.main in
    let y = b.activation in
    let right = right-of t h st.history in
    let proc : slice_get (contexts m (placed_of m h)) y.context ≡ Some y.link.procedure = right.in_contexts a y b.there in
    let same : slice_get (contexts m (placed_of m h)) y.context ≡ Some q = ap (slice_get (contexts m (placed_of m h))) (sym b.top_is) ∙ ap (λ ns. slice_get ns top) (sym st.contexts_are) ∙ at in
    cc (proc, same)

-- a mark's context has a procedure, which is one of the table
pub mark-node : (t : SiteTable) (h : List Event) (k : Kept) (a top middle : ℕ) (old : Option ℕ) → Stands k t h → (b : BelongsTo top middle old t h a) → slice_get k.rows.nodes top ≡ Some b.activation.link.procedure
mark-node t h k a top middle old st b =
    let m = t.main in
    let right = right-of t h st.history in
    ap (λ ns. slice_get ns top) st.contexts_are ∙ ap (slice_get (contexts m (placed_of m h))) b.top_is ∙ right.in_contexts a b.activation b.there

-- after an exit or a fail the pointers are those of the parent's chain, and the kept chain is that chain's
pub left : (t : SiteTable) (h : List Event) (k : Kept) (a top middle q : ℕ) (old : Option ℕ) (active2 : List (Option ℕ)) (chain2 : List (ℕ × ℕ)) → Stands k t h → BelongsTo top middle old t h a → slice_get k.rows.nodes top ≡ Some q →
    q < length k.rows.statics.procs → current h ≡ Some a → active2 ≡ set k.rows.active q old → chain2 ≡ take (length k.chain - 1) k.chain →
    ActiveIs (length k.rows.statics.procs) (chain (placed_of t.main h) (parent_of (activations h) a)) active2
    × AreSteps (links t.main (placed_of t.main h)) (chain (placed_of t.main h) (parent_of (activations h) a)) (reverse chain2)
    × (length (chain (placed_of t.main h) (parent_of (activations h) a)) ≤ longest t.main h)
left t h k a top middle q old active2 chain2 st b at below now active_is chain_is =
    let m = t.main in
    let xs = placed_of m h in
    let order = orderly t m h st.history in
    let y = b.activation in
    let rest = chain xs (parent_of (activations h) a) in
    let unfolded : current_chain m h ≡ y ∷ rest = ap (chain xs) now ∙ chain-of m a h y order b.there in
    let parent : parent_of (activations h) a ≡ y.parent = parent_of-placed m (activations h) a y b.there in
    let mine : y.link.procedure ≡ q = mark-procedure t h k a top middle q old st b at in
    let due : old ≡ nearest q rest = b.old_is ∙ ap (λ p. nearest p (chain xs y.parent)) mine ∙ ap (λ o. nearest q (chain xs o)) (sym parent) in
    let A : List Placed → Type 0 = λ c. ActiveIs (length k.rows.statics.procs) c k.rows.active in
    let S : List Placed → Type 0 = λ c. AreSteps (links m xs) c (reverse k.chain) in
    let w = ends-with (links m xs) y rest k.chain (subst S unfolded st.chain_is) in
    let popped = chain-popped (links m xs) y rest k.chain chain2 chain_is w in
    let R : List (ℕ × ℕ) → Type 0 = λ es. AreSteps (links m xs) rest (reverse es) in (
      active-set (length k.rows.statics.procs) q (y ∷ rest) rest k.rows.active active2 old (subst A unfolded st.active_is) below active_is due
          (λ r ne. sym (nearest-other r y rest (λ e. ne (e ∙ mine)))),
      subst R (sym popped) w.steps,
      omega (arith, ap length unfolded, current-longest m h),
    )

-- after a redo they are those of the activation's chain
pub back : (t : SiteTable) (h : List Event) (k : Kept) (a top middle q : ℕ) (old : Option ℕ) (active2 : List (Option ℕ)) (chain2 : List (ℕ × ℕ)) → Stands k t h → BelongsTo top middle old t h a → slice_get k.rows.nodes top ≡ Some q →
    q < length k.rows.statics.procs → MayFollow t h (Redo a) → active2 ≡ set k.rows.active q (Some top) → chain2 ≡ k.chain ++ (middle, top) ∷ [] →
    ActiveIs (length k.rows.statics.procs) (chain (placed_of t.main h) (Some a)) active2 × AreSteps (links t.main (placed_of t.main h)) (chain (placed_of t.main h) (Some a)) (reverse chain2)
back t h k a top middle q old active2 chain2 st b at below may active_is chain_is =
    let m = t.main in
    let xs = placed_of m h in
    let order = orderly t m h st.history in
    let y = b.activation in
    let c = current_chain m h in
    let unfolded : chain xs (Some a) ≡ y ∷ c = chain-redo m a h y order b.there may.1 in
    let mine : y.link.procedure ≡ q = mark-procedure t h k a top middle q old st b at in
    let due : Some top ≡ nearest q (y ∷ c) = ap Some b.top_is ∙ sym (nearest-same q y c mine) in
    let new : ActiveIs (length k.rows.statics.procs) (y ∷ c) active2 =
    active-set (length k.rows.statics.procs) q c (y ∷ c) k.rows.active active2 (Some top) st.active_is below active_is due (λ r ne. nearest-other r y c (λ e. ne (e ∙ mine))) in
    let pushed : AreSteps (links m xs) (y ∷ c) ((middle, top) ∷ reverse k.chain) = (b.middle_is, b.top_is, st.chain_is) in
    let A : List Placed → Type 0 = λ z. ActiveIs (length k.rows.statics.procs) z active2 in
    let S : List (ℕ × ℕ) → Type 0 = λ es. AreSteps (links m xs) (y ∷ c) es in
    let T : List Placed → Type 0 = λ z. AreSteps (links m xs) z (reverse chain2) in
    (subst A (sym unfolded) new, subst T (sym unfolded) (subst S (sym (chain-pushed k.chain chain2 (middle, top) chain_is)) pushed))

-- the room that a redo needs
pub room-back : (t : SiteTable) (h : List Event) (k : Kept) (a top middle : ℕ) (old : Option ℕ) → Stands k t h → BelongsTo top middle old t h a → MayFollow t h (Redo a) → length k.chain < k.room
room-back t h k a top middle old st b may =
    let m = t.main in
    let xs = placed_of m h in
    let order = orderly t m h st.history in
    let unfolded : chain xs (Some a) ≡ b.activation ∷ current_chain m h = chain-redo m a h b.activation order b.there may.1 in
    let below = numbered-below xs a b.activation b.there in
    let most = chain-longest t m h a st.history (omega (arith, below, length-placed m (activations h))) in
    let len : length k.chain ≡ length (current_chain m h) = sym (length-reverse k.chain) ∙ steps-length (links m xs) (current_chain m h) (reverse k.chain) st.chain_is in
    omega (arith, most, len, ap length unfolded, st.room_is)
