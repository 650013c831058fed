-- A call keeps what a recorder stands for, by each of the three rules.
use Rattle.std.proofs.Common.{ℕ, suc, ◌≡◌, ◌≢◌, ◌<◌, ◌≤◌, inl, inr, Bool, true, false, eqb, List, [], ◌∷◌, ◌++◌, length, reverse, find, Option, Some, None, MatchOption, unwrap_or, slice_get, set, refl, sym, ap, ◌∙◌, subst, arith}
use Rattle.std.specs.Option.{option_map}
use Rattle.std.proofs.lemmas.Bool.{cases_Bool, eq-eqb, ne_eqb, false≢true}
use Rattle.std.proofs.lemmas.List.{length-append, length-reverse}
use Rattle.md_base.specs.declared.measure.Counts.{Counts}
use Rattle.md_base.specs.declared.measure.Measure.{Measure}
use Rattle.md_base.specs.declared.measure.Measure.TheVariants.{Calls, Exits, Fails, Redos, Allocs, Words, Excps}
use Rattle.md_static.specs.declared.entry.Site.{Site}
use Rattle.md_static.specs.Tables.{Static, site_table, callee_of}
use Rattle.md_static.specs.Sound.{IsSound}
use Rattle.md_trace.specs.declared.event.Event.{Event}
use Rattle.md_trace.specs.declared.event.Event.TheVariants.{Call}
use Rattle.md_trace.specs.Activation.{activations, numbered}
use Rattle.md_trace.specs.PortHistory.{SiteTable, current, MayFollow, IsPortHistory}
use Rattle.md_trace.specs.Context.{Link, Placed, chain, context_of, context_at, contexts, has_link, placed_of, current_chain}
use Rattle.md_trace.specs.Links.{Leading, is_among, links}
use Rattle.md_trace.specs.Count.{passes, passing, with_more, sum_where, activation_of, capped, counts_by, set_counts}
use Rattle.md_trace.proofs.Chains.{IsBelow, chain-more}
use Rattle.md_trace.proofs.Finds.{none-finds, find-none, same-link-tells}
use Rattle.md_trace.proofs.Histories.{orderly, chain-call, callee-below}
use Rattle.md_trace.proofs.LinkFacts.{AreRight, leading, there-among, links-distinct, links-more}
use Rattle.md_trace.proofs.Lists.{get-push-old, get-push-new, get-push-either, get-within}
use Rattle.md_trace.proofs.Numbered.{numbered-new}
use Rattle.md_trace.proofs.Placing.{length-placed}
use Rattle.md_trace.proofs.Setwise.{newest, set-call, set-call-other}
use Rattle.md_dynamic.specs.declared.link.LinkRow.{LinkRow}
use Rattle.md_dynamic.specs.Links.{link_row, only_calls}
use Rattle.md_dynamic.specs.Rows.{Rows}
use Rattle.md_record.specs.Kept.{Kept, Stands}
use Rattle.md_record.specs.Marks.{BelongsTo}
use Rattle.md_record.specs.Parts.{RowsAre, ActiveIs, AreSteps, nearest}
use Rattle.md_record.proofs.Events.{Points, RunsAt}
use Rattle.md_record.proofs.PointerSteps.{nearest-same, nearest-other, active-set, steps-more, steps-length, chain-pushed}
use Rattle.md_record.proofs.Returns.{right-of}
use Rattle.md_record.proofs.RowSteps.{row_by, counts_in, rows-by, rows-are, CountsLink, counted, has-same, has-other, links-differ}

-- a call by the activation that runs
abbrev pub the_call : List Event → Option ℕ → ℕ → Event
the_call h s q = Call (length (activations h)) (current h) s q

-- the activation that it begins, in its context
abbrev pub begun : ℕ → List Event → Option ℕ → ℕ → Placed
begun m h s q = newest m h (current h) s q

-- the parts that each call shows anew
pub record Shows (t : SiteTable) (h : List Event) (k0 k2 : Kept) (s : Option ℕ) (q j to : ℕ) : Type 0 where
  pub statics : k2.rows.statics ≡ k0.rows.statics
  pub contexts_are : k2.rows.nodes ≡ contexts t.main (begun t.main h s q ∷ placed_of t.main h)
  pub rows_are : RowsAre t.main (the_call h s q ∷ h) (links t.main (begun t.main h s q ∷ placed_of t.main h)) k2.rows.links
  pub active_is : k2.rows.active ≡ set k0.rows.active q (Some to)
  pub to_is : to ≡ (begun t.main h s q).context
  pub link_is : slice_get (links t.main (begun t.main h s q ∷ placed_of t.main h)) j ≡ Some (leading (begun t.main h s q).link (begun t.main h s q).context)
  pub chain_is : k2.chain ≡ k0.chain ++ (j, to) ∷ []
  pub room : k0.room ≤ k2.room
  pub fits : length k2.chain ≤ k2.room

pub stands-call : (t : SiteTable) (h : List Event) (k0 k2 : Kept) (s : Option ℕ) (q j to : ℕ) → Stands k0 t h → MayFollow t h (the_call h s q) → Shows t h k0 k2 s q j to → Stands k2 t (the_call h s q ∷ h)
stands-call t h k0 k2 s q j to st may new =
    let m = t.main in
    let xs = placed_of m h in
    let x = begun m h s q in
    let c = current_chain m h in
    let order = orderly t m h st.history in
    let chained : current_chain m (the_call h s q ∷ h) ≡ x ∷ c = chain-call t m (length (activations h)) (current h) s q h order may in
    let S : Static → Type 0 = λ z. IsSound z in
    let T : Static → Type 0 = λ z. t ≡ site_table z t.main in
    let procs : t.procedures ≡ length k0.rows.statics.procs = ap (λ (z : SiteTable). z.procedures) st.table in
    let below : q < length k0.rows.statics.procs = omega (arith, callee-below t h (current h) s q st.history may.3, procs) in
    let due : Some to ≡ nearest q (x ∷ c) = ap Some new.to_is ∙ sym (nearest-same q x c refl) in
    let active : ActiveIs (length k0.rows.statics.procs) (x ∷ c) k2.rows.active =
    active-set (length k0.rows.statics.procs) q c (x ∷ c) k0.rows.active k2.rows.active (Some to) st.active_is below new.active_is due (λ r ne. nearest-other r x c ne) in
    let A : List Placed → Type 0 = λ z. ActiveIs (length k0.rows.statics.procs) z k2.rows.active in
    let B : Static → Type 0 = λ z. ActiveIs (length z.procs) (current_chain m (the_call h s q ∷ h)) k2.rows.active in
    let steps : AreSteps (links m (x ∷ xs)) (x ∷ c) ((j, to) ∷ reverse k0.chain) = (new.link_is, new.to_is, steps-more (links m xs) (links m (x ∷ xs)) c (reverse k0.chain) (links-more m x xs) st.chain_is) in
    let turned = chain-pushed k0.chain k2.chain (j, to) new.chain_is in
    let C : List (ℕ × ℕ) → Type 0 = λ es. AreSteps (links m (x ∷ xs)) (x ∷ c) es in
    let D : List Placed → Type 0 = λ z. AreSteps (links m (x ∷ xs)) z (reverse k2.chain) in
    let len : length k2.chain ≡ length (current_chain m (the_call h s q ∷ h)) =
    sym (length-reverse k2.chain) ∙ ap length turned ∙ ap suc (steps-length (links m xs) c (reverse k0.chain) st.chain_is) ∙ ap length (sym chained) in
    record {
      history = (st.history, may);
      sound = subst S (sym new.statics) st.sound;
      table = subst T (sym new.statics) st.table;
      contexts_are = new.contexts_are;
      rows_are = new.rows_are;
      active_is = subst B (sym new.statics) (subst A (sym chained) active);
      chain_is = subst D (sym chained) (subst C (sym turned) steps);
      room_is = omega (arith, len, new.fits, new.room, st.room_is);
    }

-- the mark that the call gives
pub marks-call : (t : SiteTable) (h : List Event) (k0 k2 : Kept) (s : Option ℕ) (q j to : ℕ) (old : Option ℕ) → Stands k0 t h → MayFollow t h (the_call h s q) → Shows t h k0 k2 s q j to → old ≡ nearest q (current_chain t.main h) →
    BelongsTo to j old t (the_call h s q ∷ h) (length (activations h))
marks-call t h k0 k2 s q j to old st may new due =
    let m = t.main in
    let xs = placed_of m h in
    let x = begun m h s q in
    let order = orderly t m h st.history in
    let len = length-placed m (activations h) in
    let R : ℕ → Type 0 = λ n. numbered (x ∷ xs) n ≡ Some x in
    let Q : ℕ → Type 0 = λ n. IsBelow (current h) n in
    let older : chain (x ∷ xs) (current h) ≡ chain xs (current h) = chain-more x xs (current h) (subst Q (sym len) order.now) in
    record {
      activation = x;
      there = subst R len (numbered-new x xs);
      top_is = new.to_is;
      middle_is = new.link_is;
      old_is = due ∙ ap (nearest q) (sym older);
    }

-- there is always a context
contexts-some : (m : ℕ) (xs : List Placed) → 0 < length (contexts m xs)
contexts-some m [] = omega arith
contexts-some m (x ∷ xs) =
    let rest = contexts-some m xs in
    elim (cases_Bool (eqb x.context (length (contexts m xs)))) [
      | inl good ↦ rw good (omega (arith, length-append (contexts m xs) (x.link.procedure ∷ [])))
      | inr bad ↦ rw bad rest
    ]

-- each link leads to a context that is there
pub ends-there : (m : ℕ) (xs : List Placed) (j : ℕ) (y : Leading) → AreRight m xs → slice_get (links m xs) j ≡ Some y → y.to < length (contexts m xs)
ends-there m xs j y r at =
    elim (r.used j y at) [
      | inl root ↦ omega (arith, ap (λ (z : Leading). z.to) root, contexts-some m xs)
      | inr old ↦
          let e : y.to ≡ old.1.context = ap (λ (z : Leading). z.to) old.3 in
          let below = get-within (contexts m xs) old.1.context old.1.link.procedure (r.in_contexts old.0 old.1 old.2) in
          omega (arith, e)
    ]

-- an activation whose context is an older one makes none
pub contexts-stay : (m : ℕ) (x : Placed) (xs : List Placed) → x.context < length (contexts m xs) → contexts m (x ∷ xs) ≡ contexts m xs
contexts-stay m x xs below = rw (ne_eqb x.context (length (contexts m xs)) (λ e. absurd (omega arith)))

pub contexts-grow : (m : ℕ) (x : Placed) (xs : List Placed) → x.context ≡ length (contexts m xs) → contexts m (x ∷ xs) ≡ contexts m xs ++ x.link.procedure ∷ []
contexts-grow m x xs is = rw (eq-eqb x.context (length (contexts m xs)) is)

pub links-stay : (m : ℕ) (x : Placed) (xs : List Placed) → is_among x.link (links m xs) ≡ true → links m (x ∷ xs) ≡ links m xs
links-stay m x xs among = rw among

pub links-grow : (m : ℕ) (x : Placed) (xs : List Placed) → is_among x.link (links m xs) ≡ false → links m (x ∷ xs) ≡ links m xs ++ leading x.link x.context ∷ []
links-grow m x xs fresh = rw fresh

-- Rule 1: the link is there already.
pub shows-found : (t : SiteTable) (h : List Event) (k0 k2 : Kept) (r1 : Rows) (s : Option ℕ) (q j to : ℕ) → Stands k0 t h → MayFollow t h (the_call h s q) → slice_get (links t.main (placed_of t.main h)) j ≡ Some (leading (begun t.main h s q).link to) →
    CountsLink k0.rows r1 j Calls 1 → Points r1 k2.rows q (Some to) → k2.chain ≡ k0.chain ++ (j, to) ∷ [] → k0.room ≤ k2.room → length k2.chain ≤ k2.room → Shows t h k0 k2 s q j to
shows-found t h k0 k2 r1 s q j to st may at counts points chained more fits =
    let m = t.main in
    let xs = placed_of m h in
    let x = begun m h s q in
    let ls = links m xs in
    let right = right-of t h st.history in
    let right2 = right-of t (the_call h s q ∷ h) (st.history, may) in
    let stay : links m (x ∷ xs) ≡ ls = links-stay m x xs (there-among x.link ls j (leading x.link to) at refl) in
    let mine = right2.linked (length xs) x (numbered-new x xs) in
    let mine_old : slice_get ls mine.0 ≡ Some (leading x.link x.context) = ap (λ zs. slice_get zs mine.0) (sym stay) ∙ mine.1 in
    let number : mine.0 ≡ j = links-distinct m xs mine.0 j (leading x.link x.context) (leading x.link to) mine_old at refl in
    let both : ◌≡◌ {A = Leading} (leading x.link to) (leading x.link x.context) = (let e : slice_get ls j ≡ Some (leading x.link x.context) = ap (slice_get ls) (sym number) ∙ mine_old in cc (e, at)) in
    let end : to ≡ x.context = ap (λ (z : Leading). z.to) both in
    let below : x.context < length (contexts m xs) = omega (arith, end, ends-there m xs j (leading x.link to) right at) in
    let g = counts_in m (the_call h s q ∷ h) in
    let rows = counted k0.rows r1 ls (counts_in m h) g j (leading x.link to) Calls 1 (rows-by m h ls k0.rows.links st.rows_are) at counts
    (set-call t m (has_link x.link) h (current h) s q st.history (has-same x.link x refl))
    (λ i z there ne. set-call-other t m (has_link z.link) h (current h) s q st.history (has-other z.link x (links-differ m xs i j z (leading x.link to) there at ne))) in
    let R : List LinkRow → Type 0 = λ rs. RowsAre m (the_call h s q ∷ h) ls rs in
    let L : List Leading → Type 0 = λ l. RowsAre m (the_call h s q ∷ h) l k2.rows.links in
    let nodes : k2.rows.nodes ≡ k0.rows.nodes = ap (λ (r : Rows). r.nodes) points ∙ rows.1.nodes in
    record {
      statics = ap (λ (r : Rows). r.statics) points ∙ rows.1.statics;
      contexts_are = nodes ∙ st.contexts_are ∙ sym (contexts-stay m x xs below);
      rows_are = subst L (sym stay) (subst R (ap (λ (r : Rows). r.links) (sym points)) (rows-are m (the_call h s q ∷ h) ls r1.links rows.0));
      active_is = ap (λ (r : Rows). r.active) points ∙ ap (λ a. set a q (Some to)) rows.1.active;
      to_is = end;
      link_is = ap (λ zs. slice_get zs j) stay ∙ at ∙ ap Some both;
      chain_is = chained;
      room = more;
      fits = fits;
    }

-- nobody who passes has counted for nothing
sum-none : (test : ℕ → Bool) (meas : Measure) (h : List Event) → ((b : ℕ) → test b ≡ false) → sum_where test meas h ≡ 0
sum-none test meas [] none = refl
sum-none test meas (e ∷ h) none = rw (none (activation_of e)) (omega (arith, sum-none test meas h none))

passing-none : (xs : List Placed) (test : Placed → Bool) (b : ℕ) (o : Option Placed) → numbered xs b ≡ o → find test xs ≡ None → passes test o ≡ false
passing-none xs test b None is miss = refl
passing-none xs test b (Some y) is miss = find-none test xs b y miss is

same-only : (c : Counts) → c.calls ≡ 0 → c.exits ≡ 0 → c.fails ≡ 0 → c.redos ≡ 0 → c.allocs ≡ 0 → c.words ≡ 0 → c.excps ≡ 0 → c ≡ only_calls 0
same-only c a e f r l w x =
    let made : ℕ → ℕ → ℕ → ℕ → ℕ → ℕ → ℕ → Counts = λ n o p q r s u. record { calls = n; exits = o; fails = p; redos = q; allocs = r; words = s; excps = u } in
    ap (λ n. made n c.exits c.fails c.redos c.allocs c.words c.excps) a ∙ ap (λ n. made 0 n c.fails c.redos c.allocs c.words c.excps) e
    ∙ ap (λ n. made 0 0 n c.redos c.allocs c.words c.excps) f
    ∙ ap (λ n. made 0 0 0 n c.allocs c.words c.excps) r
    ∙ ap (λ n. made 0 0 0 0 n c.words c.excps) l
    ∙ ap (λ n. made 0 0 0 0 0 n c.excps) w
    ∙ ap (λ n. made 0 0 0 0 0 0 n) x

zero-by : (f : Measure → ℕ) → ((meas : Measure) → f meas ≡ 0) → counts_by (λ meas. capped (f meas)) ≡ only_calls 0
zero-by f none = same-only (counts_by (λ meas. capped (f meas))) (ap capped (none Calls)) (ap capped (none Exits)) (ap capped (none Fails)) (ap capped (none Redos)) (ap capped (none Allocs)) (ap capped (none Words)) (ap capped (none Excps))

-- a link that no activation has counts nothing
zero-counts : (m : ℕ) (h : List Event) (l : Link) → find (has_link l) (placed_of m h) ≡ None → set_counts m h (has_link l) ≡ only_calls 0
zero-counts m h l miss =
    let test = passing (placed_of m h) (has_link l) in
    let none : (meas : Measure) → sum_where test meas h ≡ 0 = λ meas. sum-none test meas h (λ b. passing-none (placed_of m h) (has_link l) b (numbered (placed_of m h) b) refl miss) in
    zero-by (λ meas. sum_where test meas h) none

-- an activation with a link that is not among the links is the first one
pub first-with : (m : ℕ) (xs : List Placed) (l : Link) → AreRight m xs → is_among l (links m xs) ≡ false → find (has_link l) xs ≡ None
first-with m xs l r fresh = none-finds (has_link l) xs (λ b y is.
    elim (same-link-tells l y.link) [
      | inl same ↦ absurd (let j = r.linked b y is in false≢true (sym fresh ∙ there-among l (links m xs) j.0 (leading y.link y.context) j.1 (sym same.1)))
      | inr other ↦ other.0
    ])

-- the context that the second and the third rule give
pub new-context : (m a : ℕ) (xs : List Placed) (o : Option ℕ) (l : Link) (old : Option ℕ) → o ≡ Some a → find (has_link l) xs ≡ None → old ≡ nearest l.procedure (chain xs o) → context_at m xs o l ≡ unwrap_or old (length (contexts m xs))
new-context m a xs o l old now miss due =
    let n = length (contexts m xs) in
    ap (λ p. context_at m xs p l) now
    ∙ ap (λ f. unwrap_or (option_map (λ (y : Placed). y.context) f) (unwrap_or (nearest l.procedure (chain xs (Some a))) n)) miss
    ∙ ap (λ p. unwrap_or (nearest l.procedure (chain xs p)) n) (sym now)
    ∙ ap (λ p. unwrap_or p n) (sym due)

-- the rows with one more
pub rows-grown : (t : SiteTable) (h : List Event) (s q v : ℕ) (rows rows2 : List LinkRow) → IsPortHistory t h →
    is_among (begun t.main h (Some s) q).link (links t.main (placed_of t.main h)) ≡ false → (begun t.main h (Some s) q).link.caller ≡ Some v → RowsAre t.main h (links t.main (placed_of t.main h)) rows →
    rows2 ≡ rows ++ link_row v s (begun t.main h (Some s) q).context 1 ∷ [] → RowsAre t.main (the_call h (Some s) q ∷ h) (links t.main (begun t.main h (Some s) q ∷ placed_of t.main h)) rows2
rows-grown t h s q v rows rows2 is fresh caller are more =
    let m = t.main in
    let xs = placed_of m h in
    let x = begun m h (Some s) q in
    let ls = links m xs in
    let h2 = the_call h (Some s) q ∷ h in
    let grow = links-grow m x xs fresh in
    let miss = first-with m xs x.link (right-of t h is) fresh in
    let own : set_counts m h2 (has_link x.link) ≡ only_calls 1 = set-call t m (has_link x.link) h (current h) (Some s) q is (has-same x.link x refl) ∙ ap (λ c. with_more c Calls 1) (zero-counts m h x.link miss) in
    let row : ◌≡◌ {A = LinkRow} (link_row v s x.context 1) (row_by (counts_in m h2) (leading x.link x.context)) =
    ap (λ (c : Option ℕ). let r : LinkRow = record { caller = c; site = Some s; callee = x.context; own = only_calls 1 } in r) (sym caller)
    ∙ ap (λ (c : Counts). let r : LinkRow = record { caller = x.link.caller; site = Some s; callee = x.context; own = c } in r) (sym own) in
    let R : List Leading → Type 0 = λ l. RowsAre m h2 l rows2 in
    let new : LinkRow = link_row v s x.context 1 in
    let all : RowsAre m h2 (ls ++ leading x.link x.context ∷ []) rows2 = record {
      each = omega (arith, ap length more, length-append rows (new ∷ []), length-append ls (leading x.link x.context ∷ []), are.each);
      right = λ i z there. elim (get-push-either ls (leading x.link x.context) z i there) [
        | inl last ↦
            let read : slice_get rows2 i ≡ Some new = ap (λ rs. slice_get rs i) more ∙ ap (slice_get (rows ++ new ∷ [])) (last.0 ∙ sym are.each) ∙ get-push-new rows new in
            read ∙ ap Some row ∙ ap (λ w. Some (row_by (counts_in m h2) w)) (sym last.1)
        | inr old ↦
            let ne : z.link ≢ x.link = λ e. false≢true (sym fresh ∙ there-among x.link ls i z old e) in
            let still : set_counts m h2 (has_link z.link) ≡ set_counts m h (has_link z.link) = set-call-other t m (has_link z.link) h (current h) (Some s) q is (has-other z.link x ne) in
            ap (λ rs. slice_get rs i) more ∙ get-push-old rows new i (get-within rows i (row_by (counts_in m h) z) (are.right i z old)) ∙ are.right i z old
            ∙ ap (λ (c : Counts). let r : LinkRow = record { caller = z.link.caller; site = z.link.site; callee = z.to; own = c } in Some r) (sym still)
      ];
    } in
    subst R (sym grow) all

-- the site of a call, as the tables have it
pub record SiteOf (t : SiteTable) (h : List Event) (k : Kept) (a v s q : ℕ) : Type 0 where
  pub row : Site
  pub there : slice_get k.rows.statics.sites s ≡ Some row
  pub owner : slice_get k.rows.nodes v ≡ Some row.owner
  pub callee : MatchOption (callee_of row.kind) (q < length k.rows.statics.procs) (λ c. q ≡ c)

-- a callee's link that calls from this context at this site
pub caller-of : (t : SiteTable) (h : List Event) (k : Kept) (a q : ℕ) (s : Option ℕ) → (at : RunsAt t h k a) → current h ≡ Some a → (begun t.main h s q).link.caller ≡ Some at.activation.context
caller-of t h k a q s at now = ap (context_of (placed_of t.main h)) now ∙ ap (option_map (λ (y : Placed). y.context)) at.there
