-- At a site that is not higher-order all links lead to one procedure.
use Rattle.std.proofs.Common.{◌≡◌, ℕ, zero, suc, ◌+◌, ◌<◌, ◌≤◌, Bool, true, false, ◌&&◌, eqb, List, [], ◌∷◌, ◌++◌, length, get_or, drop, map, Option, Some, None, All, IfSome, IsSomeAnd, refl, sym, ap, ◌∙◌, inl, inr, arith}
use Rattle.std.specs.List.{flat_map, range_with_len, slice_get}
use Rattle.std.proofs.lemmas.Bool.{cases_eq, cases_Bool, eq-eqb, eqb-true, ne_eqb}
use Rattle.std.proofs.lemmas.List.{append-nil}
use Rattle.std.proofs.lemmas.Option.{slice_get-get_or, slice_get_within, get_or_from_slice_get}
use Rattle.md_base.specs.declared.measure.Measure.{Measure}
use Rattle.md_trace.specs.Context.{same_option}
use Rattle.md_static.specs.declared.entry.Site.{Site}
use Rattle.md_static.specs.declared.entry.SiteKind.TheVariants.{Plain}
use Rattle.md_static.specs.Tables.{Static, callee_of}
use Rattle.md_dynamic.specs.declared.link.LinkRow.{LinkRow}
use Rattle.md_dynamic.specs.Profile.{ProfileRows}
use Rattle.md_dynamic.specs.Valid.{IsRoot, IsValid, Fits, Joins, MayCall}
use Rattle.md_clique.specs.Places.{places, places_from}
use Rattle.md_cost.specs.FileView.{IsFileView, join_of}
use Rattle.md_cost.specs.View.{View, Join}
use Rattle.md_people.specs.Callers.{callee_rows_at, links_to, row_if_any}
use Rattle.md_people.specs.Gathered.{links_at}
use Rattle.md_people.specs.Ports.{PortsRow}
use Rattle.md_people.specs.Words.{called_words}
use Rattle.md_people.proofs.Links.{places_map}
use Rattle.md_people.proofs.Views.{statics_are}
use Rattle.md_people.proofs.Slots.{links_of, places_same}

call_in : (a : Option ℕ) (b : Option Site) (c : Option ℕ) (r : ℕ) (x : Site) → IsSomeAnd a (λ p. IsSomeAnd b (λ y. IsSomeAnd c (λ q. MayCall y p q))) → b ≡ Some x → x.kind ≡ Plain r → c ≡ Some r
call_in None b c r x h e k = absurd h
call_in (Some p) None c r x h e k = absurd h
call_in (Some p) (Some y) None r x h e k = absurd h
call_in (Some p) (Some y) (Some q) r x h e k =
    let same : y ≡ x = cc in
    let kind : y.kind ≡ Plain r = ap (λ (z : Site). z.kind) same ∙ k in
    let is : r ≡ q = rw kind at h.1 in
    ap (λ (n : ℕ). Some n) (sym is)

fits_call : (t : Static) (nodes : List ℕ) (callee s r : ℕ) (x : Site) (caller site : Option ℕ) → IsSomeAnd caller (λ v. IsSomeAnd site (λ u. Joins t nodes v u callee)) → site ≡ Some s → slice_get t.sites s ≡ Some x → x.kind ≡ Plain r → slice_get nodes callee ≡ Some r
fits_call t nodes callee s r x None site h e at k = absurd h
fits_call t nodes callee s r x (Some v) None h e at k = absurd h
fits_call t nodes callee s r x (Some v) (Some u) h e at k =
    let same : u ≡ s = cc in
    call_in (slice_get nodes v) (slice_get t.sites u) (slice_get nodes callee) r x h (ap (λ (n : ℕ). slice_get t.sites n) same ∙ at) k

root_site : (o : Option LinkRow) (row : LinkRow) → IsSomeAnd o IsRoot → o ≡ Some row → row.site ≡ None
root_site None row h e = absurd h
root_site (Some r) row h e = let same : r ≡ row = cc in rw (← same) h.site

fits_at : (t : Static) (nodes : List ℕ) (links : List LinkRow) → All (Fits t nodes) (drop 1 links) → (p : ℕ) (row : LinkRow) → slice_get links (suc p) ≡ Some row → Fits t nodes row
fits_at t nodes [] all p row at = cc
fits_at t nodes (x ∷ xs) all p row at =
    let within = slice_get_within xs p row at in
    let is : get_or xs p row ≡ row = get_or_from_slice_get xs p row row at in
    rw is at (all p row within)

none_some : (n : ℕ) → None ≡ Some n → ⊥
none_some n e = cc

-- nothing but one number counts
flat_none : (f : ℕ → List PortsRow) (i n r : ℕ) → r < i → ((q : ℕ) → (q ≡ r → ⊥) → f q ≡ []) → flat_map f (range_with_len i n) ≡ []
flat_none f i zero r lt none = refl
flat_none f i (suc n) r lt none = ap (λ (rs : List PortsRow). rs ++ flat_map f (range_with_len (i + 1) n)) (none i (λ e. absurd (omega arith))) ∙ flat_none f (i + 1) n r (omega arith) none

flat_one : (f : ℕ → List PortsRow) (i n r : ℕ) → i ≤ r → r < i + n → ((q : ℕ) → (q ≡ r → ⊥) → f q ≡ []) → flat_map f (range_with_len i n) ≡ f r
flat_one f i zero r le lt none = absurd (omega arith)
flat_one f i (suc n) r le lt none = elim (cases_eq i r) [
  | inl here ↦ ap (λ (rs : List PortsRow). f i ++ rs) (flat_none f (i + 1) n r (omega arith) none) ∙ append-nil (f i) ∙ ap f here
  | inr later ↦ ap (λ (rs : List PortsRow). rs ++ flat_map f (range_with_len (i + 1) n)) (none i later) ∙ flat_one f (i + 1) n r (omega arith) (omega arith) none
]

no_places : {X : Type 0} (k : ℕ) (xs : List X) → places_from (λ _. false) k xs ≡ []
no_places k [] = refl
no_places k (x ∷ xs) = no_places (k + 1) xs

turned_option : (s : ℕ) (o : Option ℕ) → same_option (Some s) o ≡ same_option o (Some s)
turned_option s None = refl
turned_option s (Some t) = elim (cases_eq s t) [
  | inl e ↦ rw (eq-eqb s t e, eq-eqb t s (sym e)) refl
  | inr ne ↦ rw (ne_eqb s t ne, ne_eqb t s (λ e. ne (sym e))) refl
]

pub site_places : (f : ProfileRows) (v : View) → IsFileView f v → (s : ℕ) → places (same_option (Some s)) (map (λ (y : LinkRow). y.site) f.links) ≡ links_at v s
site_places f v viewed s =
    places_map (same_option (Some s)) (λ (y : LinkRow). y.site) f.links
    ∙ places_same (λ (y : LinkRow). same_option (Some s) y.site) (λ (y : LinkRow). same_option y.site (Some s)) f.links (λ i y is. turned_option s y.site)
    ∙ sym (places_map (λ (j : Join). same_option j.site (Some s)) join_of f.links)
    ∙ sym (ap (λ (js : List Join). places (λ (j : Join). same_option j.site (Some s)) js) (ap (λ (w : View). w.links) viewed.is))

callee_in : (x : Site) (r n : ℕ) → x.kind ≡ Plain r → IfSome (callee_of x.kind) (λ q. q < n) → r < n
callee_in x r n k h = rw k at h

module _ (f : ProfileRows) (valid : IsValid f) (v : View) (viewed : IsFileView f v) (by : Measure) (s r : ℕ) (x : Site) (at : slice_get f.statics.sites s ≡ Some x) (plain : x.kind ≡ Plain r) where
  leads : (i : ℕ) (row : LinkRow) → slice_get f.links i ≡ Some row → row.site ≡ Some s → get_or f.nodes row.callee 0 ≡ r
  leads zero row is here = absurd (none_some s (sym (root_site (slice_get f.links 0) row valid.rows.root is) ∙ here))
  leads (suc p) row is here = get_or_from_slice_get f.nodes row.callee r 0 (fits_call f.statics f.nodes row.callee s r x row.caller row.site (fits_at f.statics f.nodes f.links valid.links_fit p row is) here at plain)

  same_some : (o : Option ℕ) → same_option o (Some s) ≡ true → o ≡ Some s
  same_some None h = absurd (bad h)
    where
      bad : false ≡ true → ⊥
      bad e = cc
  same_some (Some t) h = ap (λ (n : ℕ). Some n) (eqb-true t s h)

  told_links : links_to v r (Some s) ≡ links_at v s
  told_links =
      links_of f v viewed r (Some s)
      ∙ places_same (λ (y : LinkRow). eqb (get_or f.nodes y.callee 0) r && same_option y.site (Some s)) (λ (y : LinkRow). same_option y.site (Some s)) f.links
      (λ i y is. elim (cases_Bool (same_option y.site (Some s))) [
        | inl here ↦ rw (here, eq-eqb (get_or f.nodes y.callee 0) r (leads i y is (same_some y.site here))) refl
        | inr other ↦ rw other (and_false (eqb (get_or f.nodes y.callee 0) r))
      ])
      ∙ sym (places_map (λ (j : Join). same_option j.site (Some s)) join_of f.links)
      ∙ sym (ap (λ (js : List Join). places (λ (j : Join). same_option j.site (Some s)) js) (ap (λ (w : View). w.links) viewed.is))
    where
      and_false : (b : Bool) → (b && false) ≡ false
      and_false true = refl
      and_false false = refl

  no_links : (q : ℕ) → (q ≡ r → ⊥) → links_to v q (Some s) ≡ []
  no_links q apart =
      links_of f v viewed q (Some s)
      ∙ places_same (λ (y : LinkRow). eqb (get_or f.nodes y.callee 0) q && same_option y.site (Some s)) (λ _. false) f.links
      (λ i y is. elim (cases_Bool (same_option y.site (Some s))) [
        | inl here ↦ (let to = leads i y is (same_some y.site here) in rw (ne_eqb (get_or f.nodes y.callee 0) q (λ e. apart (sym e ∙ to))) refl)
        | inr other ↦ rw other (and_false (eqb (get_or f.nodes y.callee 0) q))
      ])
      ∙ no_places 0 f.links
    where
      and_false : (b : Bool) → (b && false) ≡ false
      and_false true = refl
      and_false false = refl

  pub one_callee : (n : ℕ) → r < n → flat_map (callee_rows_at v by s) (range_with_len 0 n) ≡ row_if_any v by (links_at v s) (called_words v.statics s r)
  one_callee n lt =
      flat_one (callee_rows_at v by s) 0 n r (omega arith) (omega arith) (λ q apart. ap (λ (ls : List ℕ). row_if_any v by ls (called_words v.statics s q)) (no_links q apart))
      ∙ ap (λ (ls : List ℕ). row_if_any v by ls (called_words v.statics s r)) told_links

-- the same where a site is read
pub callee_at : (f : ProfileRows) (valid : IsValid f) (v : View) (viewed : IsFileView f v) (by : Measure) (s r : ℕ) (d : Site) → s < length f.statics.sites → (get_or f.statics.sites s d).kind ≡ Plain r
    → flat_map (callee_rows_at v by s) (range_with_len 0 (length v.statics.procs)) ≡ row_if_any v by (links_at v s) (called_words v.statics s r)
callee_at f valid v viewed by s r d there plain =
    let below : r < length f.statics.procs = callee_in (get_or f.statics.sites s d) r (length f.statics.procs) plain (valid.sound.callees_there s d there) in
    let procs : length v.statics.procs ≡ length f.statics.procs = ap (λ (t : Static). length t.procs) (statics_are f v viewed) in
    one_callee f valid v viewed by s r (get_or f.statics.sites s d) (slice_get-get_or f.statics.sites s d there) plain (length v.statics.procs) (rw procs below)
