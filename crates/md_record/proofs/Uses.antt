-- What the tables are asked for is there.
use Rattle.std.proofs.Common.{ℕ, ◌-◌, ◌≡◌, ◌<◌, List, length, find, Option, Some, None, IfSome, slice_get, set, refl, sym, ap, ◌∙◌, subst, arith}
use Rattle.std.specs.Option.{option_map}
use Rattle.std.proofs.lemmas.Bool.{eqb-true}
use Rattle.std.proofs.lemmas.List.{length-set}
use Rattle.md_base.specs.declared.measure.Measure.{Measure}
use Rattle.md_static.specs.Tables.{Static}
use Rattle.md_trace.specs.Count.{with_more}
use Rattle.md_trace.proofs.Histories.{procedure-of-table}
use Rattle.md_trace.proofs.Placing.{procedure_of-placed}
use Rattle.md_dynamic.specs.declared.link.LinkRow.{LinkRow}
use Rattle.md_record.proofs.Events.{runs-at}
use Rattle.md_record.proofs.RowSteps.{CountsLink, SameButLinks}
use Rattle.md_trace.specs.declared.event.Event.{Event}
use Rattle.md_trace.specs.Activation.{activations, procedure_of}
use Rattle.md_trace.specs.PortHistory.{SiteTable, current}
use Rattle.md_trace.specs.Context.{Placed, chain, has_procedure, placed_of}
use Rattle.md_trace.proofs.Finds.{find-passes, chain-there}
use Rattle.md_trace.proofs.Lists.{get-within, get-there}
use Rattle.md_dynamic.specs.Rows.{Rows}
use Rattle.md_record.specs.Kept.{Kept, Stands}
use Rattle.md_record.specs.Marks.{BelongsTo}
use Rattle.md_record.specs.Parts.{nearest}
use Rattle.md_record.proofs.Returns.{right-of, mark-procedure, mark-node}

-- the nearest activation of a procedure is in a context of it
some-nearest : (t : SiteTable) (h : List Event) (k : Kept) (q : ℕ) (o : Option ℕ) (f : Option Placed) → Stands k t h → find (has_procedure q) (chain (placed_of t.main h) o) ≡ f → IfSome (option_map (λ x. x.context) f) (λ v. slice_get k.rows.nodes v ≡ Some q)
some-nearest t h k q o None st is = tt
some-nearest t h k q o (Some y) st is =
    let m = t.main in
    let xs = placed_of m h in
    let right = right-of t h st.history in
    let at = chain-there (has_procedure q) xs o y is in
    let same : q ≡ y.link.procedure = eqb-true q y.link.procedure (find-passes (has_procedure q) (chain xs o) y is) in
    ap (λ ns. slice_get ns y.context) st.contexts_are ∙ right.in_contexts at.0 y at.1 ∙ ap Some (sym same)

pub nearest-of : (t : SiteTable) (h : List Event) (k : Kept) (q : ℕ) (o : Option ℕ) → Stands k t h → IfSome (nearest q (chain (placed_of t.main h) o)) (λ v. slice_get k.rows.nodes v ≡ Some q)
nearest-of t h k q o st = some-nearest t h k q o (find (has_procedure q) (chain (placed_of t.main h) o)) st refl

-- a mark's context and link are there, its context's procedure is one of the table, and the pointer that it saved is a
-- context of that procedure
pub record MarkUse (k : Kept) (top middle : ℕ) (old : Option ℕ) : Type 0 where
  pub top_there : top < length k.rows.nodes
  pub middle_there : middle < length k.rows.links
  pub pointer : (q : ℕ) → slice_get k.rows.nodes top ≡ Some q → q < length k.rows.statics.procs → IfSome old (λ v. slice_get k.rows.nodes v ≡ Some q)

pub mark-use : (t : SiteTable) (h : List Event) (k : Kept) (a top middle : ℕ) (old : Option ℕ) → Stands k t h → BelongsTo top middle old t h a → MarkUse k top middle old
mark-use t h k a top middle old st b =
    let m = t.main in
    let y = b.activation in
    record {
      top_there = get-within k.rows.nodes top y.link.procedure (mark-node t h k a top middle old st b);
      middle_there = get-within k.rows.links middle _ (st.rows_are.right middle (record { link = y.link; to = y.context }) b.middle_is);
      pointer = λ q at below.
          let mine = mark-procedure t h k a top middle q old st b at in
          let P : Option ℕ → Type 0 = λ o. IfSome o (λ v. slice_get k.rows.nodes v ≡ Some q) in
          subst P (sym (b.old_is ∙ ap (λ p. nearest p (chain (placed_of m h) y.parent)) mine)) (nearest-of t h k q y.parent st);
    }

-- a count leaves all but the links
pub count-frame : (r0 r1 : Rows) (j by : ℕ) (measure : Measure) → j < length r0.links → CountsLink r0 r1 j measure by → SameButLinks r0 r1 × (length r1.links ≡ length r0.links)
count-frame r0 r1 j by measure below counts =
    let row = get-there r0.links j below in
    let new : LinkRow = record row.0 { own = with_more row.0.own measure by } in
    let P : Option LinkRow → Type 0 = λ o. IfSome o (λ w. r1 ≡ record r0 { links = set r0.links j (record w { own = with_more w.own measure by }) }) in
    let is : r1 ≡ record r0 { links = set r0.links j new } = subst P row.1 counts in (
      record { statics = ap (λ (r : Rows). r.statics) is; nodes = ap (λ (r : Rows). r.nodes) is; active = ap (λ (r : Rows). r.active) is },
      ap (λ (r : Rows). length r.links) is ∙ length-set r0.links j new,
    )

-- the procedure of a mark is one of the table
pub mark-below : (t : SiteTable) (h : List Event) (k : Kept) (a top middle q : ℕ) (old : Option ℕ) → Stands k t h → BelongsTo top middle old t h a → slice_get k.rows.nodes top ≡ Some q → q < length k.rows.statics.procs
mark-below t h k a top middle q old st b at =
    let m = t.main in
    let y = b.activation in
    let mine = mark-procedure t h k a top middle q old st b at in
    let proc : procedure_of (activations h) a ≡ Some y.link.procedure = procedure_of-placed m (activations h) a y b.there in
    let below = procedure-of-table t h a y.link.procedure st.history proc in
    let procs : t.procedures ≡ length k.rows.statics.procs = ap (λ (z : SiteTable). z.procedures) st.table in
    omega (arith, below, mine, procs)

-- what setting the pointer asks for, when an activation is left
pub record PointerUse (r1 : Rows) (q : ℕ) (to : Option ℕ) : Type 0 where
  pub there : q < length r1.statics.procs
  pub of_procedure : IfSome to (λ v. slice_get r1.nodes v ≡ Some q)

pub leave-use : (t : SiteTable) (h : List Event) (k : Kept) (r1 : Rows) (a top middle q : ℕ) (old : Option ℕ) (measure : Measure) → Stands k t h → BelongsTo top middle old t h a → slice_get k.rows.nodes top ≡ Some q →
    CountsLink k.rows r1 middle measure 1 → PointerUse r1 q old
leave-use t h k r1 a top middle q old measure st b at counts =
    let uses = mark-use t h k a top middle old st b in
    let below = mark-below t h k a top middle q old st b at in
    let frame = count-frame k.rows r1 middle 1 measure uses.middle_there counts in
    let P : List ℕ → Type 0 = λ ns. IfSome old (λ v. slice_get ns v ≡ Some q) in
    record { there = omega (arith, below, ap (λ (z : Static). length z.procs) frame.0.statics); of_procedure = subst P (sym frame.0.nodes) (uses.pointer q at below) }

-- and when it is entered again
pub back-use : (t : SiteTable) (h : List Event) (k : Kept) (r1 : Rows) (a top middle q : ℕ) (old : Option ℕ) (measure : Measure) → Stands k t h → BelongsTo top middle old t h a → slice_get k.rows.nodes top ≡ Some q →
    CountsLink k.rows r1 middle measure 1 → PointerUse r1 q (Some top)
back-use t h k r1 a top middle q old measure st b at counts =
    let uses = mark-use t h k a top middle old st b in
    let below = mark-below t h k a top middle q old st b at in
    let frame = count-frame k.rows r1 middle 1 measure uses.middle_there counts in
    record { there = omega (arith, below, ap (λ (z : Static). length z.procs) frame.0.statics); of_procedure = ap (λ ns. slice_get ns top) frame.0.nodes ∙ at }

-- the link of the activation that runs is there
pub latest-there : (t : SiteTable) (h : List Event) (k : Kept) (a : ℕ) (e : ℕ × ℕ) → Stands k t h → current h ≡ Some a → slice_get k.chain (length k.chain - 1) ≡ Some e → e.0 < length k.rows.links
latest-there t h k a e st now is =
    let at = runs-at t h k a st now in
    let same : at.last ≡ e = cc (at.last_is, is) in
    let P : ℕ × ℕ → Type 0 = λ z. z.0 < length k.rows.links in
    subst P same (get-within k.rows.links at.last.0 _ (st.rows_are.right at.last.0 (record { link = at.activation.link; to = at.activation.context }) at.link_is))
