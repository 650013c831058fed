-- What each event but a call does to what a recorder keeps.
use Rattle.std.proofs.Common.{ℕ, ◌-◌, ◌≡◌, ◌≢◌, ◌<◌, List, [], ◌∷◌, ◌++◌, length, take, reverse, false, Option, Some, slice_get, set, if◌then◌else◌, refl, sym, ap, ◌∙◌, subst, arith}
use Rattle.md_base.specs.declared.measure.Counts.{Counts}
use Rattle.md_base.specs.declared.measure.Measure.TheVariants.{Exits, Fails, Redos, Allocs, Words, Excps}
use Rattle.md_trace.specs.declared.event.Event.{Event}
use Rattle.md_trace.specs.declared.event.Event.TheVariants.{Exit, Redo, Fail, Excp, Alloc}
use Rattle.md_trace.specs.Activation.{activations, numbered, parent_of}
use Rattle.md_trace.specs.PortHistory.{SiteTable, current, MayFollow}
use Rattle.md_trace.specs.Context.{Placed, chain, has_link, same_link, placed_of, current_chain}
use Rattle.md_trace.specs.Links.{Leading, links}
use Rattle.md_trace.specs.Count.{with_more}
use Rattle.md_trace.proofs.Finds.{same-link-refl}
use Rattle.md_trace.proofs.Histories.{orderly, chain-of, current-there}
use Rattle.md_trace.proofs.Longest.{chain-longest, current-longest}
use Rattle.md_trace.proofs.Numbered.{numbered-below}
use Rattle.md_trace.proofs.Placing.{length-placed}
use Rattle.md_trace.proofs.Setwise.{set-exit, set-fail, set-excp, set-redo, set-alloc, set-exit-other, set-fail-other, set-excp-other, set-redo-other, set-alloc-other}
use Rattle.md_dynamic.specs.declared.link.LinkRow.{LinkRow}
use Rattle.md_dynamic.specs.Rows.{Rows}
use Rattle.md_record.specs.Parts.{RowsAre, ActiveIs, AreSteps}
use Rattle.md_record.specs.Kept.{Kept, Stands}
use Rattle.md_record.specs.Marks.{BelongsTo}
use Rattle.md_record.proofs.PointerSteps.{ends-with, chain-last}
use Rattle.md_record.proofs.Returns.{stands-same, left, back}
use Rattle.md_record.proofs.RowSteps.{RowsBy, counts_in, rows-by, rows-are, CountsLink, counted, has-same, has-other, links-differ}

-- the rows r1 with another pointer
abbrev pub Points : Rows → Rows → ℕ → Option ℕ → Type 0
Points old new q to = new ≡ record old { active = set old.active q to }

-- a pointer changes nothing else
pub record SameButActive (old new : Rows) : Type 0 where
  pub statics : new.statics ≡ old.statics
  pub nodes : new.nodes ≡ old.nodes
  pub links : new.links ≡ old.links

points-same : (old new : Rows) (q : ℕ) (to : Option ℕ) → Points old new q to → SameButActive old new
points-same old new q to is = record { statics = ap (λ (r : Rows). r.statics) is; nodes = ap (λ (r : Rows). r.nodes) is; links = ap (λ (r : Rows). r.links) is }

rows-into : (m : ℕ) (h : List Event) (ls : List Leading) (r1 r2 : Rows) → r2.links ≡ r1.links → RowsBy (counts_in m h) ls r1.links → RowsAre m h ls r2.links
rows-into m h ls r1 r2 same are = let P : List LinkRow → Type 0 = λ x. RowsAre m h ls x in subst P (sym same) (rows-are m h ls r1.links are)

pub kept-exit : (t : SiteTable) (h : List Event) (k0 k2 : Kept) (r1 : Rows) (a top middle q : ℕ) (old : Option ℕ) → Stands k0 t h → BelongsTo top middle old t h a → slice_get k0.rows.nodes top ≡ Some q → q < length k0.rows.statics.procs →
    MayFollow t h (Exit a) → CountsLink k0.rows r1 middle Exits 1 → Points r1 k2.rows q old → k2.chain ≡ take (length k0.chain - 1) k0.chain → k2.room ≡ k0.room → Stands k2 t (Exit a ∷ h)
kept-exit t h k0 k2 r1 a top middle q old st b at below may counts points popped room =
    let m = t.main in
    let xs = placed_of m h in
    let ls = links m xs in
    let y = b.activation in
    let l : Leading = record { link = y.link; to = y.context } in
    let rows = counted k0.rows r1 ls (counts_in m h) (counts_in m (Exit a ∷ h)) middle l Exits 1 (rows-by m h ls k0.rows.links st.rows_are) b.middle_is counts
    (set-exit t m (has_link y.link) h a y b.there (has-same y.link y refl))
    (λ i z there ne. set-exit-other t m (has_link z.link) h a y b.there (has-other z.link y (links-differ m xs i middle z l there b.middle_is ne))) in
    let same = points-same r1 k2.rows q old points in
    let active : k2.rows.active ≡ set k0.rows.active q old = ap (λ (r : Rows). r.active) points ∙ ap (λ xs. set xs q old) rows.1.active in
    let after = left t h k0 a top middle q old k2.rows.active k2.chain st b at below may active popped in
    stands-same t h (Exit a ∷ h) k0 k2 st (st.history, may) refl (same.statics ∙ rows.1.statics) (same.nodes ∙ rows.1.nodes)
    (rows-into m (Exit a ∷ h) ls r1 k2.rows same.links rows.0) after.0 after.1 (omega (arith, after.2, st.room_is, room))

pub kept-fail : (t : SiteTable) (h : List Event) (k0 k2 : Kept) (r1 : Rows) (a top middle q : ℕ) (old : Option ℕ) → Stands k0 t h → BelongsTo top middle old t h a → slice_get k0.rows.nodes top ≡ Some q → q < length k0.rows.statics.procs →
    MayFollow t h (Fail a) → CountsLink k0.rows r1 middle Fails 1 → Points r1 k2.rows q old → k2.chain ≡ take (length k0.chain - 1) k0.chain → k2.room ≡ k0.room → Stands k2 t (Fail a ∷ h)
kept-fail t h k0 k2 r1 a top middle q old st b at below may counts points popped room =
    let m = t.main in
    let xs = placed_of m h in
    let ls = links m xs in
    let y = b.activation in
    let l : Leading = record { link = y.link; to = y.context } in
    let rows = counted k0.rows r1 ls (counts_in m h) (counts_in m (Fail a ∷ h)) middle l Fails 1 (rows-by m h ls k0.rows.links st.rows_are) b.middle_is counts
    (set-fail t m (has_link y.link) h a y b.there (has-same y.link y refl))
    (λ i z there ne. set-fail-other t m (has_link z.link) h a y b.there (has-other z.link y (links-differ m xs i middle z l there b.middle_is ne))) in
    let same = points-same r1 k2.rows q old points in
    let active : k2.rows.active ≡ set k0.rows.active q old = ap (λ (r : Rows). r.active) points ∙ ap (λ xs. set xs q old) rows.1.active in
    let after = left t h k0 a top middle q old k2.rows.active k2.chain st b at below may active popped in
    stands-same t h (Fail a ∷ h) k0 k2 st (st.history, may) refl (same.statics ∙ rows.1.statics) (same.nodes ∙ rows.1.nodes)
    (rows-into m (Fail a ∷ h) ls r1 k2.rows same.links rows.0) after.0 after.1 (omega (arith, after.2, st.room_is, room))

pub kept-excp : (t : SiteTable) (h : List Event) (k0 k2 : Kept) (r1 : Rows) (a top middle q : ℕ) (old : Option ℕ) → Stands k0 t h → BelongsTo top middle old t h a → slice_get k0.rows.nodes top ≡ Some q → q < length k0.rows.statics.procs →
    MayFollow t h (Excp a) → CountsLink k0.rows r1 middle Excps 1 → Points r1 k2.rows q old → k2.chain ≡ take (length k0.chain - 1) k0.chain → k2.room ≡ k0.room → Stands k2 t (Excp a ∷ h)
kept-excp t h k0 k2 r1 a top middle q old st b at below may counts points popped room =
    let m = t.main in
    let xs = placed_of m h in
    let ls = links m xs in
    let y = b.activation in
    let l : Leading = record { link = y.link; to = y.context } in
    let rows = counted k0.rows r1 ls (counts_in m h) (counts_in m (Excp a ∷ h)) middle l Excps 1 (rows-by m h ls k0.rows.links st.rows_are) b.middle_is counts
    (set-excp t m (has_link y.link) h a y b.there (has-same y.link y refl))
    (λ i z there ne. set-excp-other t m (has_link z.link) h a y b.there (has-other z.link y (links-differ m xs i middle z l there b.middle_is ne))) in
    let same = points-same r1 k2.rows q old points in
    let active : k2.rows.active ≡ set k0.rows.active q old = ap (λ (r : Rows). r.active) points ∙ ap (λ xs. set xs q old) rows.1.active in
    let after = left t h k0 a top middle q old k2.rows.active k2.chain st b at below may active popped in
    stands-same t h (Excp a ∷ h) k0 k2 st (st.history, may) refl (same.statics ∙ rows.1.statics) (same.nodes ∙ rows.1.nodes)
    (rows-into m (Excp a ∷ h) ls r1 k2.rows same.links rows.0) after.0 after.1 (omega (arith, after.2, st.room_is, room))

pub kept-redo : (t : SiteTable) (h : List Event) (k0 k2 : Kept) (r1 : Rows) (a top middle q : ℕ) (old : Option ℕ) → Stands k0 t h → BelongsTo top middle old t h a → slice_get k0.rows.nodes top ≡ Some q → q < length k0.rows.statics.procs →
    MayFollow t h (Redo a) → CountsLink k0.rows r1 middle Redos 1 → Points r1 k2.rows q (Some top) → k2.chain ≡ k0.chain ++ (middle, top) ∷ [] → k2.room ≡ k0.room → Stands k2 t (Redo a ∷ h)
kept-redo t h k0 k2 r1 a top middle q old st b at below may counts points pushed room =
    let m = t.main in
    let xs = placed_of m h in
    let ls = links m xs in
    let y = b.activation in
    let l : Leading = record { link = y.link; to = y.context } in
    let rows = counted k0.rows r1 ls (counts_in m h) (counts_in m (Redo a ∷ h)) middle l Redos 1 (rows-by m h ls k0.rows.links st.rows_are) b.middle_is counts
    (set-redo t m (has_link y.link) h a y b.there (has-same y.link y refl))
    (λ i z there ne. set-redo-other t m (has_link z.link) h a y b.there (has-other z.link y (links-differ m xs i middle z l there b.middle_is ne))) in
    let same = points-same r1 k2.rows q (Some top) points in
    let active : k2.rows.active ≡ set k0.rows.active q (Some top) = ap (λ (r : Rows). r.active) points ∙ ap (λ xs. set xs q (Some top)) rows.1.active in
    let after = back t h k0 a top middle q old k2.rows.active k2.chain st b at below may active pushed in
    let most = chain-longest t m h a st.history (let there = numbered-below xs a y b.there in omega (arith, there, length-placed m (activations h))) in
    stands-same t h (Redo a ∷ h) k0 k2 st (st.history, may) refl (same.statics ∙ rows.1.statics) (same.nodes ∙ rows.1.nodes)
    (rows-into m (Redo a ∷ h) ls r1 k2.rows same.links rows.0) after.0 after.1 (omega (arith, most, st.room_is, room))

-- the last link of the kept chain is that of the activation that runs
pub record RunsAt (t : SiteTable) (h : List Event) (k : Kept) (a : ℕ) : Type 0 where
  pub activation : Placed
  pub there : numbered (placed_of t.main h) a ≡ Some activation
  pub last : ℕ × ℕ
  pub last_is : slice_get k.chain (length k.chain - 1) ≡ Some last
  pub link_is : slice_get (links t.main (placed_of t.main h)) last.0 ≡ Some (record { link = activation.link; to = activation.context })
  pub end_is : last.1 ≡ activation.context

pub runs-at : (t : SiteTable) (h : List Event) (k : Kept) (a : ℕ) → Stands k t h → current h ≡ Some a → RunsAt t h k a
runs-at t h k a st now =
    let m = t.main in
    let xs = placed_of m h in
    let order = orderly t m h st.history in
    let y = current-there m a h order now in
    let rest = chain xs (parent_of (activations h) a) in
    let unfolded : current_chain m h ≡ y.0 ∷ rest = ap (chain xs) now ∙ chain-of m a h y.0 order y.1 in
    let S : List Placed → Type 0 = λ c. AreSteps (links m xs) c (reverse k.chain) in
    let w = ends-with (links m xs) y.0 rest k.chain (subst S unfolded st.chain_is) in
    record { activation = y.0; there = y.1; last = w.last; last_is = chain-last (links m xs) y.0 rest k.chain w; link_is = w.link_is; end_is = w.end_is }

pub kept-alloc : (t : SiteTable) (h : List Event) (k0 k2 : Kept) (r1 : Rows) (a w j : ℕ) → Stands k0 t h → (at : RunsAt t h k0 a) → at.last.0 ≡ j → MayFollow t h (Alloc a w) →
    CountsLink k0.rows r1 j Allocs 1 → CountsLink r1 k2.rows j Words w → k2.chain ≡ k0.chain → k2.room ≡ k0.room → Stands k2 t (Alloc a w ∷ h)
kept-alloc t h k0 k2 r1 a w j st at link may one more chain_same room =
    let m = t.main in
    let xs = placed_of m h in
    let ls = links m xs in
    let y = at.activation in
    let l : Leading = record { link = y.link; to = y.context } in
    let f = counts_in m h in
    let g = counts_in m (Alloc a w ∷ h) in
    let mid : Leading → Counts = λ z. if same_link z.link y.link then with_more (f z) Allocs 1 else f z in
    let there : slice_get ls j ≡ Some l = ap (slice_get ls) (sym link) ∙ at.link_is in
    let here : mid l ≡ with_more (f l) Allocs 1 = rw (same-link-refl y.link) in
    let apart : (i : ℕ) (z : Leading) → slice_get ls i ≡ Some z → i ≢ j → same_link z.link y.link ≡ false = λ i z is ne. has-other z.link y (links-differ m xs i j z l is there ne) in
    let first = counted k0.rows r1 ls f mid j l Allocs 1 (rows-by m h ls k0.rows.links st.rows_are) there one here (λ i z is ne. rw (apart i z is ne)) in
    let second = counted r1 k2.rows ls mid g j l Words w first.0 there more
    (set-alloc t m (has_link y.link) h a w y at.there (has-same y.link y refl) ∙ ap (λ c. with_more c Words w) (sym here))
    (λ i z is ne. set-alloc-other t m (has_link z.link) h a w y at.there (apart i z is ne) ∙ (let e : mid z ≡ f z = rw (apart i z is ne) in sym e)) in
    let A : List (Option ℕ) → Type 0 = λ x. ActiveIs (length k0.rows.statics.procs) (current_chain m h) x in
    let S : List (ℕ × ℕ) → Type 0 = λ es. AreSteps ls (current_chain m h) (reverse es) in
    stands-same t h (Alloc a w ∷ h) k0 k2 st (st.history, may) refl (second.1.statics ∙ first.1.statics) (second.1.nodes ∙ first.1.nodes)
    (rows-are m (Alloc a w ∷ h) ls k2.rows.links second.0) (subst A (sym (second.1.active ∙ first.1.active)) st.active_is) (subst S (sym chain_same) st.chain_is) (omega (arith, st.room_is, room, current-longest m h))
