-- One more on a measure of a link.
use Rattle.std.proofs.Common.{ℕ, ◌≡◌, ◌≢◌, inl, inr, true, false, List, length, Option, Some, IfSome, slice_get, set, sym, ap, ◌∙◌, subst}
use Rattle.std.proofs.lemmas.Bool.{cases_eq}
use Rattle.std.proofs.lemmas.List.{length-set}
use Rattle.md_base.specs.declared.measure.Counts.{Counts}
use Rattle.md_base.specs.declared.measure.Measure.{Measure}
use Rattle.md_trace.specs.declared.event.Event.{Event}
use Rattle.md_trace.specs.Context.{Link, Placed, has_link, same_link}
use Rattle.md_trace.specs.Links.{Leading, links}
use Rattle.md_trace.specs.Count.{with_more, set_counts}
use Rattle.md_trace.proofs.Finds.{same-link-refl, same-link-tells}
use Rattle.md_trace.proofs.LinkFacts.{links-distinct}
use Rattle.md_trace.proofs.Lists.{get-set-same, get-set-other, get-within}
use Rattle.md_dynamic.specs.declared.link.LinkRow.{LinkRow}
use Rattle.md_dynamic.specs.Rows.{Rows}
use Rattle.md_record.specs.Parts.{RowsAre}

-- the row of a link with counts by a function of the link
abbrev pub row_by : (Leading → Counts) → Leading → LinkRow
row_by f x = record { caller = x.link.caller; site = x.link.site; callee = x.to; own = f x }

pub record RowsBy (f : Leading → Counts) (ls : List Leading) (rows : List LinkRow) : Type 0 where
  pub each : length rows ≡ length ls
  pub right : (j : ℕ) (x : Leading) → slice_get ls j ≡ Some x → slice_get rows j ≡ Some (row_by f x)

-- the counts of each link in h
abbrev pub counts_in : ℕ → List Event → Leading → Counts
counts_in m h x = set_counts m h (has_link x.link)

pub rows-by : (m : ℕ) (h : List Event) (ls : List Leading) (rows : List LinkRow) → RowsAre m h ls rows → RowsBy (counts_in m h) ls rows
rows-by m h ls rows are = record { each = are.each; right = are.right }

pub rows-are : (m : ℕ) (h : List Event) (ls : List Leading) (rows : List LinkRow) → RowsBy (counts_in m h) ls rows → RowsAre m h ls rows
rows-are m h ls rows are = record { each = are.each; right = are.right }

-- what a count of a link says
abbrev pub CountsLink : Rows → Rows → ℕ → Measure → ℕ → Type 0
CountsLink old new j measure by = IfSome (slice_get old.links j) (λ row. new ≡ record old { links = set old.links j (record row { own = with_more row.own measure by }) })

-- all but the links is as before
pub record SameButLinks (old new : Rows) : Type 0 where
  pub statics : new.statics ≡ old.statics
  pub nodes : new.nodes ≡ old.nodes
  pub active : new.active ≡ old.active

pub counted : (r0 r1 : Rows) (ls : List Leading) (f g : Leading → Counts) (j : ℕ) (l : Leading) (measure : Measure) (by : ℕ) → RowsBy f ls r0.links → slice_get ls j ≡ Some l → CountsLink r0 r1 j measure by →
    g l ≡ with_more (f l) measure by → ((i : ℕ) (z : Leading) → slice_get ls i ≡ Some z → i ≢ j → g z ≡ f z) → RowsBy g ls r1.links × SameButLinks r0 r1
counted r0 r1 ls f g j l measure by are at counts changed others =
    let new : LinkRow = record (row_by f l) { own = with_more (f l) measure by } in
    let P : Option LinkRow → Type 0 = λ o. IfSome o (λ row. r1 ≡ record r0 { links = set r0.links j (record row { own = with_more row.own measure by }) }) in
    let is : r1 ≡ record r0 { links = set r0.links j new } = subst P (are.right j l at) counts in
    let rows : r1.links ≡ set r0.links j new = ap (λ (r : Rows). r.links) is in
    let row : Counts → LinkRow = λ c. record (row_by f l) { own = c } in (
      record {
        each = ap length rows ∙ length-set r0.links j new ∙ are.each;
        right = λ i z there. elim (cases_eq i j) [
          | inl same ↦
              let e : z ≡ l = cc (sym there, ap (slice_get ls) same, at) in
              ap (λ xs. slice_get xs i) rows ∙ ap (slice_get (set r0.links j new)) same ∙ get-set-same r0.links j new (get-within r0.links j (row_by f l) (are.right j l at)) ∙ ap (λ c. Some (row c)) (sym changed) ∙ ap (λ w. Some (row_by g w)) (sym e)
          | inr other ↦
              ap (λ xs. slice_get xs i) rows ∙ get-set-other r0.links j i new other ∙ are.right i z there ∙ ap (λ c. let w : LinkRow = record (row_by f z) { own = c } in Some w) (sym (others i z there other))
        ];
      },
      record { statics = ap (λ (r : Rows). r.statics) is; nodes = ap (λ (r : Rows). r.nodes) is; active = ap (λ (r : Rows). r.active) is },
    )

-- an activation with a link passes the test of that link, and not that of another
pub has-same : (l : Link) (y : Placed) → y.link ≡ l → has_link l y ≡ true
has-same l y is = let P : Link → Type 0 = λ z. same_link l z ≡ true in subst P (sym is) (same-link-refl l)

pub has-other : (l : Link) (y : Placed) → l ≢ y.link → has_link l y ≡ false
has-other l y ne = elim (same-link-tells l y.link) [ inl same ↦ absurd (ne same.1) | inr other ↦ other.0 ]

-- two links of different numbers differ
pub links-differ : (m : ℕ) (xs : List Placed) (i j : ℕ) (z l : Leading) → slice_get (links m xs) i ≡ Some z → slice_get (links m xs) j ≡ Some l → i ≢ j → z.link ≢ l.link
links-differ m xs i j z l a b ne = λ e. ne (links-distinct m xs i j z l a b e)
