-- What the rows tell of the links of a history: which link a call has, and that it has none yet.
use Rattle.std.proofs.Common.{ℕ, ◌≡◌, ◌<◌, inl, inr, true, false, List, ◌∷◌, [], length, MatchOption, Option, Some, None, slice_get, refl, sym, ap, ◌∙◌, subst, arith}
use Rattle.std.specs.Option.{option_map}
use Rattle.std.proofs.lemmas.Bool.{cases_Bool, false≢true, and_parts, and_from, eqb-true, eq-eqb}
use Rattle.std.proofs.lemmas.Option.{slice_get-map}
use Rattle.md_static.specs.declared.entry.Site.{Site}
use Rattle.md_static.specs.Tables.{call_site, callee_of}
use Rattle.md_trace.specs.declared.event.Event.{Event}
use Rattle.md_trace.specs.PortHistory.{SiteTable}
use Rattle.md_trace.specs.Context.{Link, Placed, contexts, same_option, placed_of}
use Rattle.md_trace.specs.Links.{Leading, is_among, links}
use Rattle.md_trace.proofs.LinkFacts.{leading, among-there, sited-link, contexts-more}
use Rattle.md_trace.proofs.Lists.{get-within, get-there}
use Rattle.md_dynamic.specs.declared.link.LinkRow.{LinkRow}
use Rattle.md_dynamic.specs.OfHistory.{row_of}
use Rattle.md_dynamic.specs.Rows.{is_from, is_call, link_in, callee_in}
use Rattle.md_dynamic.proofs.Positions.{number-below, number-none}
use Rattle.md_record.specs.Kept.{Kept, Stands}
use Rattle.md_record.specs.Parts.{RowsAre}
use Rattle.md_record.proofs.Returns.{right-of}

-- the link of a row
pub row-at : (m : ℕ) (h : List Event) (ls : List Leading) (rows : List LinkRow) (j : ℕ) (row : LinkRow) → RowsAre m h ls rows → slice_get rows j ≡ Some row → (x : Leading) × (slice_get ls j ≡ Some x) × (row ≡ row_of m h x)
row-at m h ls rows j row are at =
    let below = get-within rows j row at in
    let x = get-there ls j (omega (arith, below, are.each)) in
    (x.0, x.1, (let e = are.right j x.0 x.1 in cc (at, e)))

option-is : (v : ℕ) (o : Option ℕ) → same_option (Some v) o ≡ true → o ≡ Some v
option-is v None is = absurd (false≢true is)
option-is v (Some w) is = ap (λ n. Some n) (sym (eqb-true v w is))

option-same : (v : ℕ) (o : Option ℕ) → o ≡ Some v → same_option (Some v) o ≡ true
option-same v o is = ap (same_option (Some v)) is ∙ eq-eqb v v refl

from-true : (v s : ℕ) (l : LinkRow) → is_from v s l ≡ true → (l.caller ≡ Some v) × (l.site ≡ Some s)
from-true v s l is = let both = and_parts (same_option (Some v) l.caller) (same_option (Some s) l.site) is in (option-is v l.caller both.0, option-is s l.site both.1)

from-is : (v s : ℕ) (l : LinkRow) → l.caller ≡ Some v → l.site ≡ Some s → is_from v s l ≡ true
from-is v s l caller site = and_from (same_option (Some v) l.caller) (same_option (Some s) l.site) (option-same v l.caller caller) (option-same s l.site site)

-- the first context is main's
pub first-context : (m : ℕ) (xs : List Placed) → slice_get (contexts m xs) 0 ≡ Some m
first-context m [] = refl
first-context m (x ∷ xs) = contexts-more m x xs 0 m (first-context m xs)

-- the procedure of the context to which a link leads is the link's
pub end-procedure : (t : SiteTable) (h : List Event) (k : Kept) (j to : ℕ) (l : Link) → Stands k t h → slice_get (links t.main (placed_of t.main h)) j ≡ Some (leading l to) → slice_get k.rows.nodes to ≡ Some l.procedure
end-procedure t h k j to l st at =
    let m = t.main in
    let xs = placed_of m h in
    let right = right-of t h st.history in
    elim (right.used j (leading l to) at) [
      | inl root ↦ ap (λ ns. slice_get ns to) st.contexts_are ∙ ap (slice_get (contexts m xs)) (ap (λ (z : Leading). z.to) root) ∙ first-context m xs ∙ ap (λ (z : Leading). Some z.link.procedure) (sym root)
      | inr old ↦ ap (λ ns. slice_get ns to) st.contexts_are ∙ ap (slice_get (contexts m xs)) (ap (λ (z : Leading). z.to) old.3) ∙ right.in_contexts old.0 old.1 old.2 ∙ ap (λ (z : Leading). Some z.link.procedure) (sym old.3)
    ]

-- the links of a plain site are those of its callee
pub sited-plain : (t : SiteTable) (h : List Event) (k : Kept) (s : ℕ) (x : Site) → Stands k t h → slice_get k.rows.statics.sites s ≡ Some x →
    (c : ℕ) → callee_of x.kind ≡ Some c → (e : Leading) (i : ℕ) → slice_get (links t.main (placed_of t.main h)) i ≡ Some e → e.link.site ≡ Some s → e.link.procedure ≡ c
sited-plain t h k s x st there c kind e i at site =
    let table : slice_get t.sites s ≡ Some (call_site x) = ap (λ (z : SiteTable). slice_get z.sites s) st.table ∙ slice_get-map call_site k.rows.statics.sites s ∙ ap (option_map call_site) there in
    let P : Option ℕ → Type 0 = λ o. MatchOption o (e.link.procedure < t.procedures) (λ d. e.link.procedure ≡ d) in
    subst P kind (sited-link t h i e st.history at s (call_site x) site table)

-- what was found is the link of this caller, site and procedure
abbrev IsLink : SiteTable → List Event → ℕ → Link → Type 0
IsLink t h j l = (to : ℕ) × (slice_get (links t.main (placed_of t.main h)) j ≡ Some (leading l to))

abbrev made : Option ℕ → Option ℕ → ℕ → Link
made c s p = record { caller = c; site = s; procedure = p }

pub found-by : (t : SiteTable) (h : List Event) (k : Kept) (v s q j : ℕ) (x : Site) (o : Option ℕ) → Stands k t h → slice_get k.rows.statics.sites s ≡ Some x → callee_of x.kind ≡ o → MatchOption o (q < length k.rows.statics.procs) (λ c. q ≡ c) →
    MatchOption o (callee_in k.rows v s q ≡ Some j) (λ c. link_in k.rows v s ≡ Some j) → IsLink t h j (record { caller = Some v; site = Some s; procedure = q })
found-by t h k v s q j x (Some c) st there kind callee has =
    let m = t.main in
    let at = number-below (is_from v s) k.rows.links j has in
    let is = from-true v s at.0 at.2 in
    let e = row-at m h (links m (placed_of m h)) k.rows.links j at.0 st.rows_are at.1 in
    let caller : e.0.link.caller ≡ Some v = ap (λ (r : LinkRow). r.caller) (sym e.2) ∙ is.0 in
    let site : e.0.link.site ≡ Some s = ap (λ (r : LinkRow). r.site) (sym e.2) ∙ is.1 in
    let procedure : e.0.link.procedure ≡ q = sited-plain t h k s x st there c kind e.0 j e.1 site ∙ sym callee in
    let same : e.0.link ≡ made (Some v) (Some s) q = ap (λ z. made z e.0.link.site e.0.link.procedure) caller ∙ ap (λ z. made (Some v) z e.0.link.procedure) site ∙ ap (λ z. made (Some v) (Some s) z) procedure in
    (e.0.to, e.1 ∙ ap (λ l. Some (leading l e.0.to)) same)
found-by t h k v s q j x None st there kind callee has =
    let m = t.main in
    let at = number-below (is_call k.rows.nodes v s q) k.rows.links j has in
    let both = and_parts (is_from v s at.0) (same_option (Some q) (slice_get k.rows.nodes at.0.callee)) at.2 in
    let is = from-true v s at.0 both.0 in
    let e = row-at m h (links m (placed_of m h)) k.rows.links j at.0 st.rows_are at.1 in
    let caller : e.0.link.caller ≡ Some v = ap (λ (r : LinkRow). r.caller) (sym e.2) ∙ is.0 in
    let site : e.0.link.site ≡ Some s = ap (λ (r : LinkRow). r.site) (sym e.2) ∙ is.1 in
    let end : slice_get k.rows.nodes e.0.to ≡ Some q = ap (λ (r : LinkRow). slice_get k.rows.nodes r.callee) (sym e.2) ∙ option-is q (slice_get k.rows.nodes at.0.callee) both.1 in
    let mine = end-procedure t h k j e.0.to e.0.link st e.1 in
    let procedure : e.0.link.procedure ≡ q = (let f : Some e.0.link.procedure ≡ Some q = sym mine ∙ end in cc) in
    let same : e.0.link ≡ made (Some v) (Some s) q = ap (λ z. made z e.0.link.site e.0.link.procedure) caller ∙ ap (λ z. made (Some v) z e.0.link.procedure) site ∙ ap (λ z. made (Some v) (Some s) z) procedure in
    (e.0.to, e.1 ∙ ap (λ l. Some (leading l e.0.to)) same)

-- where none was found there is no such link
pub fresh-by : (t : SiteTable) (h : List Event) (k : Kept) (v s q : ℕ) (o : Option ℕ) (l : Link) → Stands k t h → l.caller ≡ Some v → l.site ≡ Some s → l.procedure ≡ q →
    MatchOption o (callee_in k.rows v s q ≡ None) (λ c. link_in k.rows v s ≡ None) → is_among l (links t.main (placed_of t.main h)) ≡ false
fresh-by t h k v s q o l st caller site procedure fresh =
    let m = t.main in
    let ls = links m (placed_of m h) in
    elim (cases_Bool (is_among l ls)) [
      | inl good ↦
          let e = among-there l ls good in
          let row = st.rows_are.right e.0 e.1 e.2 in
          let from : is_from v s (row_of m h e.1) ≡ true = from-is v s (row_of m h e.1) (ap (λ (z : Link). z.caller) e.3 ∙ caller) (ap (λ (z : Link). z.site) e.3 ∙ site) in
          let mine : slice_get k.rows.nodes e.1.to ≡ Some q = end-procedure t h k e.0 e.1.to e.1.link st e.2 ∙ ap (λ (z : Link). Some z.procedure) e.3 ∙ ap (λ n. Some n) procedure in
          absurd (contradiction o e.0 (row_of m h e.1) row from mine fresh)
      | inr bad ↦ bad
    ]
  where
    contradiction : (p : Option ℕ) (j : ℕ) (r : LinkRow) → slice_get k.rows.links j ≡ Some r → is_from v s r ≡ true → slice_get k.rows.nodes r.callee ≡ Some q → MatchOption p (callee_in k.rows v s q ≡ None) (λ c. link_in k.rows v s ≡ None) → ⊥
    contradiction (Some c) j r row from mine none = false≢true (sym (number-none (is_from v s) 0 k.rows.links none j r row) ∙ from)
    contradiction None j r row from mine none =
        false≢true (sym (number-none (is_call k.rows.nodes v s q) 0 k.rows.links none j r row) ∙ and_from (is_from v s r) (same_option (Some q) (slice_get k.rows.nodes r.callee)) from (option-same q (slice_get k.rows.nodes r.callee) mine))
