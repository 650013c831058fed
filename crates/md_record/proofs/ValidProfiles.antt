-- The profile of a history is valid.
use Rattle.std.proofs.Common.{ℕ, suc, ◌≡◌, ◌≢◌, ◌<◌, inl, inr, Bool, true, All, List, [], ◌∷◌, length, drop, map, get_or, MatchOption, IfSome, IsSomeAnd, Option, Some, None, slice_get, refl, sym, ap, ◌∙◌, subst, arith}
use Rattle.std.specs.Prelude.{AllPairs}
use Rattle.std.specs.Option.{option_map}
use Rattle.std.proofs.lemmas.Bool.{eq-eqb, lt-ltb}
use Rattle.std.proofs.lemmas.List.{length-map}
use Rattle.std.proofs.lemmas.Option.{slice_get-map, get_or_from_slice_get}
use Rattle.md_static.specs.declared.entry.Site.{Site}
use Rattle.md_static.specs.Tables.{Static, call_site, callee_of}
use Rattle.md_trace.specs.declared.event.Event.{Event}
use Rattle.md_trace.specs.Activation.{activations}
use Rattle.md_trace.specs.PortHistory.{SiteTable, CallSite}
use Rattle.md_trace.specs.Context.{Link, Placed, contexts, placed_of}
use Rattle.md_trace.specs.Links.{Leading, root_link, links}
use Rattle.md_trace.proofs.Histories.{procedure-of-table, table-of}
use Rattle.md_trace.proofs.LinkFacts.{leading, are-calls, links-distinct, links-few, links-more}
use Rattle.md_trace.proofs.Lists.{get-within, get-there}
use Rattle.md_trace.proofs.Placing.{length-placed, procedure_of-placed}
use Rattle.md_dynamic.specs.declared.link.LinkRow.{LinkRow}
use Rattle.md_dynamic.specs.Profile.{ProfileRows}
use Rattle.md_dynamic.specs.Valid.{IsRoot, MayCall, Joins, Fits, link_key, is_below, leads_down, AllReached, AreValid, IsValid}
use Rattle.md_record.specs.Kept.{Kept, Stands}
use Rattle.md_dynamic.specs.OfHistory.{row_of}
use Rattle.md_record.proofs.LinkRows.{first-context, end-procedure}
use Rattle.md_record.proofs.Made.{made-by, sited-by, few-calls, contexts-few}
use Rattle.md_record.proofs.Returns.{right-of}

-- what holds of each member by its place holds of all
all-from : {A : Type 0} (P : A → Type 0) (xs : List A) → ((k : ℕ) (x : A) → slice_get xs k ≡ Some x → P x) → All P xs
all-from P xs each k d below =
    let x = get-there xs k below in
    subst P (sym (get_or_from_slice_get xs k x.0 d x.1)) (each k x.0 x.1)

get-drop : {A : Type 0} (xs : List A) (k : ℕ) → slice_get (drop 1 xs) k ≡ slice_get xs (suc k)
get-drop [] k = refl
get-drop (x ∷ xs) k = refl

-- link 0 is the root link
pub first-link : (m : ℕ) (xs : List Placed) → slice_get (links m xs) 0 ≡ Some (leading (root_link m) 0)
first-link m [] = refl
first-link m (x ∷ xs) = links-more m x xs 0 (leading (root_link m) 0) (first-link m xs)

-- a row is that of a link
pub record RowOf (t : SiteTable) (h : List Event) (k : ℕ) (row : LinkRow) : Type 0 where
  pub link : Leading
  pub there : slice_get (links t.main (placed_of t.main h)) k ≡ Some link
  pub is : row ≡ row_of t.main h link

row-at : (t : SiteTable) (h : List Event) (r : Kept) (k : ℕ) (row : LinkRow) → Stands r t h → slice_get r.rows.links k ≡ Some row → RowOf t h k row
row-at t h r k row st is =
    let ls = links t.main (placed_of t.main h) in
    let x = get-there ls k (let below = get-within r.rows.links k row is in omega (arith, below, st.rows_are.each)) in
    record { link = x.0; there = x.1; is = (let e = st.rows_are.right k x.0 x.1 in cc (e, is)) }

-- the site of a link, as the tables have it
site-at : (sites : List Site) (s : ℕ) (c : CallSite) → slice_get (map call_site sites) s ≡ Some c → (x : Site) × (slice_get sites s ≡ Some x) × (c ≡ call_site x)
site-at sites s c is =
    let within = get-within (map call_site sites) s c is in
    let x = get-there sites s (omega (arith, length-map sites call_site)) in
    let mapped : slice_get (map call_site sites) s ≡ Some (call_site x.0) = slice_get-map call_site sites s ∙ ap (option_map call_site) x.1 in
    (x.0, x.1, cc (mapped, is))

may-call : (n q : ℕ) (o : Option ℕ) → MatchOption o (q < n) (λ c. q ≡ c) → IfSome o (λ c. c ≡ q)
may-call n q None may = tt
may-call n q (Some c) may = sym may

fits-by : (statics : Static) (nodes : List ℕ) (v s w q : ℕ) (x : Site) (caller site : Option ℕ) → caller ≡ Some v → site ≡ Some s → slice_get nodes v ≡ Some x.owner → slice_get statics.sites s ≡ Some x → slice_get nodes w ≡ Some q →
    IfSome (callee_of x.kind) (λ c. c ≡ q) → IsSomeAnd caller (λ u. IsSomeAnd site (λ z. Joins statics nodes u z w))
fits-by statics nodes v s w q x caller site from at owner there to callee =
    let A : Option ℕ → Type 0 = λ o. IsSomeAnd o (λ r. MayCall x x.owner r) in
    let B : Option Site → Type 0 = λ o. IsSomeAnd o (λ z. IsSomeAnd (slice_get nodes w) (λ r. MayCall z x.owner r)) in
    let C : Option ℕ → Type 0 = λ o. IsSomeAnd o (λ p. IsSomeAnd (slice_get statics.sites s) (λ z. IsSomeAnd (slice_get nodes w) (λ r. MayCall z p r))) in
    let joins : Joins statics nodes v s w = subst C (sym owner) (subst B (sym there) (subst A (sym to) (refl, callee))) in
    let D : Option ℕ → Type 0 = λ o. IsSomeAnd o (λ z. Joins statics nodes v z w) in
    let E : Option ℕ → Type 0 = λ o. IsSomeAnd o (λ u. IsSomeAnd site (λ z. Joins statics nodes u z w)) in
    subst E (sym from) (subst D (sym at) joins)

-- each link but the first fits
link-fits : (t : SiteTable) (h : List Event) (r : Kept) (k : ℕ) (row : LinkRow) → Stands r t h → slice_get r.rows.links (suc k) ≡ Some row → Fits r.rows.statics r.rows.nodes row
link-fits t h r k row st at =
    let m = t.main in
    let xs = placed_of m h in
    let right = right-of t h st.history in
    let of_link = row-at t h r (suc k) row st at in
    let x = of_link.link in
    let no_root : x.link ≡ root_link m → ⊥ = λ e. (let same : suc k ≡ 0 = links-distinct m xs (suc k) 0 x (leading (root_link m) 0) of_link.there (first-link m xs) e in omega (arith, same)) in
    let F : LinkRow → Type 0 = λ z. Fits r.rows.statics r.rows.nodes z in
    subst F (sym of_link.is) (elim (right.used (suc k) x of_link.there) [
      | inl root ↦ absurd (no_root (ap (λ (z : Leading). z.link) root))
      | inr old ↦
          let y = old.1 in
          let same : x.link ≡ y.link = ap (λ (z : Leading). z.link) old.3 in
          elim (sited-by t h old.0 y st.history old.2) [
            | inl root ↦ absurd (no_root (same ∙ root))
            | inr s ↦
                let table : map call_site r.rows.statics.sites ≡ t.sites = ap (λ (z : SiteTable). z.sites) (sym st.table) in
                let site = site-at r.rows.statics.sites s.site s.row (ap (λ zs. slice_get zs s.site) table ∙ s.row_is) in
                let caller : x.link.caller ≡ Some s.caller = ap (λ (l : Link). l.caller) same ∙ s.caller_is in
                let number : x.link.site ≡ Some s.site = ap (λ (l : Link). l.site) same ∙ s.site_is in
                let owner : slice_get r.rows.nodes s.caller ≡ Some site.0.owner = ap (λ ns. slice_get ns s.caller) st.contexts_are ∙ s.owner ∙ ap (λ (c : CallSite). Some c.owner) site.2 in
                let end : slice_get r.rows.nodes x.to ≡ Some y.link.procedure = ap (λ ns. slice_get ns x.to) st.contexts_are ∙ ap (slice_get (contexts m xs)) (ap (λ (z : Leading). z.to) old.3) ∙ right.in_contexts old.0 y old.2 in
                let Q : Option ℕ → Type 0 = λ o. IfSome o (λ c. c ≡ y.link.procedure) in
                let callee = subst Q (ap (λ (c : CallSite). c.callee) site.2) (may-call t.procedures y.link.procedure s.row.callee s.callee) in
                fits-by r.rows.statics r.rows.nodes s.caller s.site x.to y.link.procedure site.0 x.link.caller x.link.site caller number owner site.1 end callee
          ]
    ])

-- the key of a link is its link
key-of : (t : SiteTable) (h : List Event) (r : Kept) (k : ℕ) (row : LinkRow) → Stands r t h → (x : RowOf t h k row) → link_key r.rows.nodes row ≡ (x.link.link.caller, x.link.link.site, Some x.link.link.procedure)
key-of t h r k row st x =
    let l = x.link.link in
    let end = end-procedure t h r k x.link.to l st x.there in
    ap (link_key r.rows.nodes) x.is ∙ ap (λ o. (l.caller, l.site, o)) end

same-links : (a b : Link) → ◌≡◌ {A = Option ℕ × Option ℕ × Option ℕ} (a.caller, a.site, Some a.procedure) (b.caller, b.site, Some b.procedure) → a ≡ b
same-links a b same =
    let caller : a.caller ≡ b.caller = ap (λ (z : Option ℕ × Option ℕ × Option ℕ). z.0) same in
    let site : a.site ≡ b.site = ap (λ (z : Option ℕ × Option ℕ × Option ℕ). z.1) same in
    let procedure : a.procedure ≡ b.procedure = (let e : Some a.procedure ≡ Some b.procedure = ap (λ (z : Option ℕ × Option ℕ × Option ℕ). z.2) same in cc) in
    let made : Option ℕ → Option ℕ → ℕ → Link = λ c s q. record { caller = c; site = s; procedure = q } in
    ap (λ c. made c a.site a.procedure) caller ∙ ap (λ s. made b.caller s a.procedure) site ∙ ap (λ q. made b.caller b.site q) procedure

rows-differ : (t : SiteTable) (h : List Event) (r : Kept) (i j : ℕ) (a b : LinkRow) → Stands r t h → slice_get r.rows.links i ≡ Some a → slice_get r.rows.links j ≡ Some b → i < j → link_key r.rows.nodes a ≢ link_key r.rows.nodes b
rows-differ t h r i j a b st at_i at_j less same =
    let x = row-at t h r i a st at_i in
    let y = row-at t h r j b st at_j in
    let links_same = same-links x.link.link y.link.link (sym (key-of t h r i a st x) ∙ same ∙ key-of t h r j b st y) in
    let numbers : i ≡ j = links-distinct t.main (placed_of t.main h) i j x.link y.link x.there y.there links_same in
    absurd (omega (arith, numbers, less))

all-differ : (t : SiteTable) (h : List Event) (r : Kept) → Stands r t h → AllPairs (λ a b. link_key r.rows.nodes a ≢ link_key r.rows.nodes b) (drop 1 r.rows.links)
all-differ t h r st i j d less long =
    let rest = drop 1 r.rows.links in
    let a = get-there rest i (omega (arith, less, long)) in
    let b = get-there rest j long in
    let differ = rows-differ t h r (suc i) (suc j) a.0 b.0 st (sym (get-drop r.rows.links i) ∙ a.1) (sym (get-drop r.rows.links j) ∙ b.1) (omega (arith, less)) in
    let P : LinkRow → Type 0 = λ z. link_key r.rows.nodes z ≢ link_key r.rows.nodes (get_or rest j d) in
    let Q : LinkRow → Type 0 = λ z. link_key r.rows.nodes a.0 ≢ link_key r.rows.nodes z in
    subst P (sym (get_or_from_slice_get rest i a.0 d a.1)) (subst Q (sym (get_or_from_slice_get rest j b.0 d b.1)) differ)

-- a context but the first is the end of a link from a lower one
below-some : (u v : ℕ) (o : Option ℕ) → o ≡ Some u → u < v → is_below o v ≡ true
below-some u v None is below = absurd (cc)
below-some u v (Some w) is below = let e : w ≡ u = cc in lt-ltb w v (omega (arith, e, below))

reached : (t : SiteTable) (h : List Event) (r : Kept) → Stands r t h → AllReached (length r.rows.nodes) r.rows.links
reached t h r st v above below =
    let m = t.main in
    let xs = placed_of m h in
    let right = right-of t h st.history in
    let p = get-there r.rows.nodes v below in
    let node : slice_get (contexts m xs) v ≡ Some p.0 = ap (λ ns. slice_get ns v) (sym st.contexts_are) ∙ p.1 in
    elim (made-by m v p.0 (activations h) (are-calls t h st.history) node) [
      | inl first ↦ absurd (omega (arith, first.0, above))
      | inr made ↦
          let y = made.activation in
          let j = right.linked made.number y made.there in
          let row = row_of m h (leading y.link y.context) in
          let there = st.rows_are.right j.0 (leading y.link y.context) j.1 in
          let down : leads_down v row ≡ true = rw (eq-eqb y.context v made.context_is, below-some made.caller v y.link.caller made.caller_is made.below) in
          (j.0, row, get-within r.rows.links j.0 row there, get_or_from_slice_get r.rows.links j.0 row row there, down)
    ]

-- each context's procedure is there
node-there : (t : SiteTable) (h : List Event) (r : Kept) (v p : ℕ) → Stands r t h → slice_get r.rows.nodes v ≡ Some p → p < length r.rows.statics.procs
node-there t h r v p st is =
    let m = t.main in
    let xs = placed_of m h in
    let procs : t.procedures ≡ length r.rows.statics.procs = ap (λ (z : SiteTable). z.procedures) st.table in
    let node : slice_get (contexts m xs) v ≡ Some p = ap (λ ns. slice_get ns v) (sym st.contexts_are) ∙ is in
    elim (made-by m v p (activations h) (are-calls t h st.history) node) [
      | inl first ↦ let table = table-of t h st.history in omega (arith, first.1, table.main_is_one, procs)
      | inr made ↦
          let proc = procedure_of-placed m (activations h) made.number made.activation made.there in
          let below = procedure-of-table t h made.number made.activation.link.procedure st.history proc in
          omega (arith, below, made.procedure_is, procs)
    ]

root-row : (t : SiteTable) (h : List Event) (r : Kept) → Stands r t h → IsSomeAnd (slice_get r.rows.links 0) IsRoot
root-row t h r st =
    let P : Option LinkRow → Type 0 = λ o. IsSomeAnd o IsRoot in
    subst P (sym (st.rows_are.right 0 (leading (root_link t.main) 0) (first-link t.main (placed_of t.main h)))) (record { caller = refl; site = refl; callee = refl })

-- all rules
pub valid-rows : (t : SiteTable) (h : List Event) (r : Kept) → Stands r t h → AreValid r.rows.statics r.rows.nodes r.rows.links
valid-rows t h r st =
    let m = t.main in
    let xs = placed_of m h in
    let calls = few-calls t h st.history in
    let size = length-placed m (activations h) in
    record {
      sound = st.sound;
      rows = record {
        some_nodes = (let some = get-within (contexts m xs) 0 m (first-context m xs) in omega (arith, some, ap length st.contexts_are));
        few_nodes = omega (arith, contexts-few m xs, calls, size, ap length st.contexts_are);
        some_links = (let some = get-within (links m xs) 0 _ (first-link m xs) in omega (arith, some, st.rows_are.each));
        few_links = omega (arith, links-few m xs, calls, size, st.rows_are.each);
        nodes_there = all-from (λ p. p < length r.rows.statics.procs) r.rows.nodes (λ v p is. node-there t h r v p st is);
        root = root-row t h r st;
      };
      links_fit = all-from (Fits r.rows.statics r.rows.nodes) (drop 1 r.rows.links) (λ k row is. link-fits t h r k row st (sym (get-drop r.rows.links k) ∙ is));
      links_differ = all-differ t h r st;
      all_reached = reached t h r st;
    }

pub valid-profile : (t : SiteTable) (h : List Event) (r : Kept) (finished : Bool) (p : ProfileRows) → Stands r t h → p ≡ record { statics = r.rows.statics; nodes = r.rows.nodes; links = r.rows.links; finished = finished } → IsValid p
valid-profile t h r finished p st is = subst IsValid (sym is) (valid-rows t h r st)
