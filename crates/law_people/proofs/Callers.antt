-- The rows of a procedure's callers add up to its own counts: each link to it comes from the root or from one call site.
use Rattle.std.proofs.Common.{◌≡◌, ℕ, zero, suc, ◌+◌, ◌<◌, Bool, true, false, ◌&&◌, eqb, cond, List, [], ◌∷◌, length, map, All, Option, Some, None, IfSome, refl, sym, ap, subst, ◌∙◌, inl, inr, arith}
use Rattle.std.specs.Prelude.{codes, slice_index}
use Rattle.std.specs.List.{flat_map, range_with_len, slice_get, sum_by}
use Rattle.std.proofs.lemmas.Bool.{cases_eq, cases_Bool, eq-eqb, ne_eqb}
use Rattle.std.proofs.lemmas.List.Elements.{All-head, All-map, All-tail}
use Rattle.std.proofs.lemmas.List.Sums.{sum_by-cons, sum_by-append}
use Rattle.md_base.specs.declared.measure.Measure.{Measure}
use Rattle.md_base.specs.declared.measure.Measure.TheVariants.{Calls, Exits, Fails, Redos, Allocs, Words, Excps}
use Rattle.md_base.specs.Counts.{count_of}
use Rattle.md_trace.specs.Context.{same_option}
use Rattle.md_dynamic.specs.declared.link.LinkRow.{LinkRow}
use Rattle.md_dynamic.specs.Profile.{ProfileRows}
use Rattle.md_dynamic.specs.Valid.{IsValid}
use Rattle.md_clique.specs.Places.{places_from}
use Rattle.md_cost.specs.FileView.{IsFileView, file_view, join_of, procedure_at}
use Rattle.md_cost.specs.SumOf.{sum_of}
use Rattle.md_cost.specs.View.{View, Join, OfLink, OfProcedure}
use Rattle.md_cost.specs.Totals.{count_at}
use Rattle.md_cost.specs.Tree.{IsTree}
use Rattle.md_cost.proofs.SumSteps.{sum_of_both, sum_same}
use Rattle.md_cost.proofs.ValidSteps.{all_sites_there, valid_sound}
use Rattle.md_cost.proofs.ViewSteps.{callee_there}
use Rattle.md_people.proofs.Adding.{no_sum, range_one}
use Rattle.md_people.specs.Callers.{caller_rows, caller_rows_at, comes_first, in_order, links_row, links_to, placed_with, row_if_any}
use Rattle.md_people.specs.Counts.{own_counts, sums_by}
use Rattle.md_people.specs.Ports.{PortsRow}
use Rattle.md_people.specs.Words.{caller_words, proc_at}

-- ---- sums

flat_sum : {X Y : Type 0} (h : Y → ℕ) (F : X → List Y) (xs : List X) → sum_by h (flat_map F xs) ≡ sum_by (λ x. sum_by h (F x)) xs
flat_sum h F [] = refl
flat_sum {X} h F (x ∷ xs) =
    let one = sum_by-append h (F x) (flat_map F xs) in
    let all = sum_by-cons (λ (z : X). sum_by h (F z)) x xs in
    let rest = flat_sum h F xs in
    omega arith

-- places of a list's elements that pass
places_cons : {X : Type 0} (o : ℕ → ℕ) (p : X → Bool) (k : ℕ) (x : X) (xs : List X) → sum_by o (places_from p k (x ∷ xs)) ≡ cond (p x) (o k) 0 + sum_by o (places_from p (k + 1) xs)
places_cons o p k x xs = elim (cases_Bool (p x)) [
  | inl holds ↦ rw holds (sum_by-cons o k (places_from p (k + 1) xs))
  | inr fails ↦ rw fails (omega arith)
]

-- ---- rows

abbrev own_in : Measure → PortsRow → ℕ
own_in m row = sum_of row.own m

told : (n : Measure → ℕ) (m : Measure) → sum_of (sums_by n) m ≡ n m
told n Calls = refl
told n Exits = refl
told n Fails = refl
told n Redos = refl
told n Allocs = refl
told n Words = refl
told n Excps = refl

row_sum : (v : View) (by m : Measure) (ls : List ℕ) (last : List ℕ) → sum_by (own_in m) (row_if_any v by ls last) ≡ sum_by (λ l. own_counts v (OfLink l) m) ls
row_sum v by m [] last = refl
row_sum v by m (l ∷ ls) last =
    let row = links_row v by (l ∷ ls) last in
    let one = sum_by-cons (own_in m) row [] in
    let is : own_in m row ≡ sum_by (λ x. own_counts v (OfLink x) m) (l ∷ ls) = told (λ k. sum_by (λ x. own_counts v (OfLink x) k) (l ∷ ls)) m in
    one ∙ (ap (λ k. k + 0) is ∙ omega arith)

placed_sum : (m : Measure) (row : PortsRow) (rows : List PortsRow) → sum_by (own_in m) (placed_with row rows) ≡ own_in m row + sum_by (own_in m) rows
placed_sum m row [] = sum_by-cons (own_in m) row []
placed_sum m row (next ∷ rows) =
    let split = sum_by-cons (own_in m) next rows in
    elim (cases_Bool (comes_first next row)) [
      | inl before ↦ (let rest = placed_sum m row rows in let more = sum_by-cons (own_in m) next (placed_with row rows) in rw before (omega arith))
      | inr after ↦ rw after (sum_by-cons (own_in m) row (next ∷ rows))
    ]

order_sum : (m : Measure) (rows : List PortsRow) → sum_by (own_in m) (in_order rows) ≡ sum_by (own_in m) rows
order_sum m [] = refl
order_sum m (row ∷ rows) =
    let rest = order_sum m rows in
    let with_row = placed_sum m row (in_order rows) in
    let split = sum_by-cons (own_in m) row rows in
    omega arith

-- ---- links by their sites

-- a link's site, if it has one, is one of so many
abbrev IsBelow : Option ℕ → ℕ → Type 0
IsBelow o n = IfSome o (λ t. t < n)

site_sum : (P : Bool) (o : Option ℕ) (w n : ℕ) → IsBelow o n → cond (P && same_option o None) w 0 + sum_by (λ s. cond (P && same_option o (Some s)) w 0) (range_with_len 0 n) ≡ cond P w 0
site_sum false o w n there = ap (λ k. 0 + k) (no_sum (range_with_len 0 n)) ∙ omega arith
site_sum true None w n there = let z : sum_by (λ (s : ℕ). cond (true && same_option None (Some s)) w 0) (range_with_len 0 n) ≡ 0 = no_sum (range_with_len 0 n) in ap (λ k. w + k) z ∙ omega arith
site_sum true (Some t) w n there = ap (λ k. 0 + k) (range_one w 0 n t (omega arith) (omega arith)) ∙ omega arith

by_site : (P : Join → Bool) (o : ℕ → ℕ) (n k : ℕ) (xs : List Join) → All (λ x. IsBelow x.site n) xs
    → sum_by o (places_from (λ x. P x && same_option x.site None) k xs) + sum_by (λ s. sum_by o (places_from (λ x. P x && same_option x.site (Some s)) k xs)) (range_with_len 0 n) ≡ sum_by o (places_from P k xs)
by_site P o n k [] all = ap (λ k. 0 + k) (no_sum (range_with_len 0 n)) ∙ omega arith
by_site P o n k (x ∷ xs) all =
    let root = places_cons o (λ y. P y && same_option y.site None) k x xs in
    let sites = sum_of_both
    (λ (s : ℕ). sum_by o (places_from (λ y. P y && same_option y.site (Some s)) k (x ∷ xs)))
    (λ (s : ℕ). cond (P x && same_option x.site (Some s)) (o k) 0)
    (λ (s : ℕ). sum_by o (places_from (λ y. P y && same_option y.site (Some s)) (k + 1) xs))
    (range_with_len 0 n) (λ i s at. places_cons o (λ y. P y && same_option y.site (Some s)) k x xs) in
    let whole = places_cons o P k x xs in
    let one = site_sum (P x) x.site (o k) n (All-head (λ y. IsBelow y.site n) x xs all) in
    let rest = by_site P o n (k + 1) xs (All-tail (λ y. IsBelow y.site n) x xs all) in
    omega arith

-- links to contexts that pass, by their places
link_sum : (m : Measure) (P : Join → Bool) (T : LinkRow → Bool) (o : ℕ → ℕ) (k : ℕ) (rs : List LinkRow) → ((i : ℕ) (r : LinkRow) → slice_get rs i ≡ Some r → o (k + i) ≡ count_of r.own m)
    → ((i : ℕ) (r : LinkRow) → slice_get rs i ≡ Some r → P (join_of r) ≡ T r) → sum_by o (places_from P k (map join_of rs)) ≡ sum_by (λ r. cond (T r) (count_of r.own m) 0) rs
link_sum m P T o k [] counts same = refl
link_sum m P T o k (r ∷ rs) counts same =
    let first = places_cons o P k (join_of r) (map join_of rs) in
    let at : o k ≡ count_of r.own m = ap o (omega arith) ∙ counts 0 r refl in
    let is : cond (P (join_of r)) (o k) 0 ≡ cond (T r) (count_of r.own m) 0 = ap (λ b. cond b (o k) 0) (same 0 r refl) ∙ ap (λ c. cond (T r) c 0) at in
    let all = sum_by-cons (λ (x : LinkRow). cond (T x) (count_of x.own m) 0) r rs in
    let rest = link_sum m P T o (k + 1) rs (λ i x here. ap o (omega arith) ∙ counts (suc i) x here) (λ i x here. same (suc i) x here) in
    omega arith

-- ---- the procedure of a link's context

index_there : (xs : List ℕ) (c : ℕ) → c < length xs → slice_get xs c ≡ Some (slice_index xs c)
index_there [] c lt = absurd (omega arith)
index_there (x ∷ xs) zero lt = refl
index_there (x ∷ xs) (suc c) lt = index_there xs c (omega arith)

either_way : (p q : ℕ) → eqb p q ≡ eqb q p
either_way p q = elim (cases_eq p q) [
  | inl same ↦ eq-eqb p q same ∙ sym (eq-eqb q p (sym same))
  | inr apart ↦ ne_eqb p q apart ∙ sym (ne_eqb q p (λ e. apart (sym e)))
]

module _ (f : ProfileRows) (valid : IsValid f) (ks es : List ℕ) (ps : List (List ℕ)) (tree : IsTree (length f.nodes) f.links ks es) (by m : Measure) (q : ℕ) where
  abbrev w : View
  w = file_view f ks es ps

  abbrev own_of : ℕ → ℕ
  own_of l = own_counts w (OfLink l) m

  abbrev leads : Join → Bool
  leads x = eqb (proc_at w x.callee) q

  leads_there : (i : ℕ) (r : LinkRow) → slice_get f.links i ≡ Some r → leads (join_of r) ≡ same_option (Some q) (procedure_at f r.callee)
  leads_there i r at =
      let size = tree.cliques_are.each in
      let below = callee_there f (valid_sound f valid).links ks es tree i r at in
      either_way (proc_at w r.callee) q ∙ sym (ap (λ o. same_option (Some q) o) (index_there f.nodes r.callee (omega (arith, below, size))))

  rows_sum : sum_by (own_in m) (caller_rows w by q) ≡ own_counts w (OfProcedure q) m
  rows_sum =
      let sites = range_with_len 0 (length f.statics.sites) in
      let split = sum_by-append (own_in m) (row_if_any w by (links_to w q None) (codes "root")) (flat_map (caller_rows_at w by q) sites) in
      let root = row_sum w by m (links_to w q None) (codes "root") in
      let others =
      flat_sum (own_in m) (caller_rows_at w by q) sites
      ∙ sum_same (λ s. sum_by (own_in m) (caller_rows_at w by q s)) (λ s. sum_by own_of (links_to w q (Some s))) sites (λ i s at. row_sum w by m (links_to w q (Some s)) (caller_words w.statics s)) in
      let together = by_site leads own_of (length f.statics.sites) 0 (map join_of f.links) (All-map (λ x. IsBelow x.site (length f.statics.sites)) join_of f.links (all_sites_there f valid)) in
      let links = link_sum m leads (λ r. same_option (Some q) (procedure_at f r.callee)) own_of 0 f.links (λ i r at. let e : 0 + i ≡ i = omega arith in ap own_of e ∙ ap (λ (o : Option LinkRow). count_at o m) at) leads_there in
      omega (arith, split, root, others, together, links)

pub callers_sum : (f : ProfileRows) (v : View) (by m : Measure) (q : ℕ) → IsValid f → IsFileView f v → sum_by (λ (row : PortsRow). sum_of row.own m) (in_order (caller_rows v by q)) ≡ own_counts v (OfProcedure q) m
callers_sum f v by m q valid viewed =
    let Adds : View → Type 0 = λ x. sum_by (own_in m) (caller_rows x by q) ≡ own_counts x (OfProcedure q) m in
    order_sum m (caller_rows v by q) ∙ subst Adds (sym viewed.is) (rows_sum f valid v.cliques v.entries viewed.paths viewed.tree by m q)
