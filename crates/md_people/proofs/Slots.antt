-- Links by the site from which they lead to a procedure.
use Rattle.std.proofs.Common.{append-nil, ◌≡◌, ℕ, suc, ◌+◌, ◌<◌, Bool, true, false, ◌&&◌, eqb, cond, List, [], ◌∷◌, ◌++◌, length, get_or, map, take, Option, Some, None, IfSome, refl, sym, ap, ◌∙◌, inl, inr, arith}
use Rattle.std.specs.Prelude.{All, unwrap_or}
use Rattle.std.specs.List.{flat_map, range_with_len, slice_get}
use Rattle.std.proofs.lemmas.Bool.{cases_eq, cases_Bool, eq-eqb, ne_eqb}
use Rattle.std.proofs.lemmas.List.{append_assoc}
use Rattle.std.proofs.lemmas.List.Concat.{flat_map-append}
use Rattle.std.proofs.lemmas.Option.{slice_get_within, get_or_from_slice_get}
use Rattle.md_base.specs.declared.measure.Measure.{Measure}
use Rattle.md_trace.specs.Context.{same_option}
use Rattle.md_dynamic.specs.declared.link.LinkRow.{LinkRow}
use Rattle.md_dynamic.specs.Profile.{ProfileRows}
use Rattle.md_clique.specs.Places.{places, places_from}
use Rattle.md_cost.specs.FileView.{IsFileView, join_of}
use Rattle.md_cost.specs.View.{View, Join}
use Rattle.md_people.specs.Callers.{links_to}
use Rattle.md_people.specs.Gathered.{callee_slot, caller_slot}
use Rattle.md_people.specs.Ports.{PortsRow}
use Rattle.md_people.specs.Words.{proc_at}
use Rattle.md_people.proofs.Links.{places_map, places_more}
use Rattle.md_people.proofs.Ranges.{flat_more}

-- tests that agree on all elements have the same places
places_same_from : {X : Type 0} (p q : X → Bool) (k : ℕ) (xs : List X) → ((i : ℕ) (x : X) → slice_get xs i ≡ Some x → p x ≡ q x) → places_from p k xs ≡ places_from q k xs
places_same_from p q k [] same = refl
places_same_from p q k (x ∷ xs) same =
    let rest = places_same_from p q (k + 1) xs (λ i y at. same (suc i) y at) in
    let first = same 0 x refl in
    elim (cases_Bool (q x)) [
      | inl holds ↦ rw (first, holds) (ap (λ (ks : List ℕ). k ∷ ks) rest)
      | inr fails ↦ rw (first, fails) rest
    ]

pub places_same : {X : Type 0} (p q : X → Bool) (xs : List X) → ((i : ℕ) (x : X) → slice_get xs i ≡ Some x → p x ≡ q x) → places p xs ≡ places q xs
places_same p q xs same = places_same_from p q 0 xs same

eqb_turned : (a b : ℕ) → eqb a b ≡ eqb b a
eqb_turned a b = elim (cases_eq a b) [
  | inl e ↦ rw (eq-eqb a b e, eq-eqb b a (sym e)) refl
  | inr ne ↦ rw (ne_eqb a b ne, ne_eqb b a (λ e. ne (sym e))) refl
]

-- the slot of a site below n, and that of the root link
site_slot : (b : Bool) (o : Option ℕ) (n k : ℕ) → k < n → same_option (Some k) (cond b (Some (unwrap_or o n)) None) ≡ (b && same_option o (Some k))
site_slot false o n k lt = refl
site_slot true None n k lt = ne_eqb k n (λ e. absurd (omega arith))
site_slot true (Some s) n k lt = eqb_turned k s

root_slot : (b : Bool) (o : Option ℕ) (n : ℕ) → IfSome o (λ s. s < n) → same_option (Some n) (cond b (Some (unwrap_or o n)) None) ≡ (b && same_option o None)
root_slot false o n below = refl
root_slot true None n below = eq-eqb n n refl
root_slot true (Some s) n below = let lt : s < n = below in ne_eqb n s (λ e. absurd (omega arith))

pub slot_below : (f : ProfileRows) (q : ℕ) (r : LinkRow) → IfSome r.site (λ s. s < length f.statics.sites) → IfSome (caller_slot f q r) (λ k. k < length f.statics.sites + 1)
slot_below f q r there = below (eqb (get_or f.nodes r.callee 0) q) r.site (length f.statics.sites) there
  where
    below : (b : Bool) (o : Option ℕ) (n : ℕ) → IfSome o (λ s. s < n) → IfSome (cond b (Some (unwrap_or o n)) None) (λ k. k < n + 1)
    below false o n h = tt
    below true None n h = let lt : n < n + 1 = omega arith in lt
    below true (Some s) n h = let lt : s < n = h in let less : s < n + 1 = omega arith in less

pub links_of : (f : ProfileRows) (v : View) → IsFileView f v → (q : ℕ) (s : Option ℕ) → links_to v q s ≡ places (λ (r : LinkRow). eqb (get_or f.nodes r.callee 0) q && same_option r.site s) f.links
links_of f v viewed q s =
    ap (λ (js : List Join). places (λ (x : Join). eqb (proc_at v x.callee) q && same_option x.site s) js) (ap (λ (w : View). w.links) viewed.is)
    ∙ places_map (λ (x : Join). eqb (proc_at v x.callee) q && same_option x.site s) join_of f.links
    ∙ ap (λ (ns : List ℕ). places (λ (r : LinkRow). eqb (get_or ns r.callee 0) q && same_option r.site s) f.links) (ap (λ (w : View). w.nodes) viewed.is)

module _ (f : ProfileRows) (sites_there : All (λ (r : LinkRow). IfSome r.site (λ s. s < length f.statics.sites)) f.links) (v : View) (viewed : IsFileView f v) (by : Measure) (q : ℕ) where
  pub site_links : (k : ℕ) → k < length f.statics.sites → places (same_option (Some k)) (map (caller_slot f q) f.links) ≡ links_to v q (Some k)
  site_links k lt =
      places_map (same_option (Some k)) (caller_slot f q) f.links
      ∙ places_same (λ (r : LinkRow). same_option (Some k) (caller_slot f q r)) (λ (r : LinkRow). eqb (get_or f.nodes r.callee 0) q && same_option r.site (Some k)) f.links
      (λ i r at. site_slot (eqb (get_or f.nodes r.callee 0) q) r.site (length f.statics.sites) k lt)
      ∙ sym (links_of f v viewed q (Some k))

  there_at : (i : ℕ) (r : LinkRow) → slice_get f.links i ≡ Some r → IfSome r.site (λ s. s < length f.statics.sites)
  there_at i r at =
      let within = slice_get_within f.links i r at in
      let is : get_or f.links i r ≡ r = get_or_from_slice_get f.links i r r at in
      rw is at (sites_there i r within)

  pub root_links : places (same_option (Some (length f.statics.sites))) (map (caller_slot f q) f.links) ≡ links_to v q None
  root_links =
      places_map (same_option (Some (length f.statics.sites))) (caller_slot f q) f.links
      ∙ places_same (λ (r : LinkRow). same_option (Some (length f.statics.sites)) (caller_slot f q r)) (λ (r : LinkRow). eqb (get_or f.nodes r.callee 0) q && same_option r.site None) f.links
      (λ i r at. root_slot (eqb (get_or f.nodes r.callee 0) q) r.site (length f.statics.sites) (there_at i r at))
      ∙ sym (links_of f v viewed q None)

-- the slot of a procedure below n
callee_is : (b : Bool) (p r : ℕ) → same_option (Some r) (cond b (Some p) None) ≡ (eqb p r && b)
callee_is true p r = eqb_turned r p ∙ and_true (eqb p r)
  where
    and_true : (b : Bool) → b ≡ (b && true)
    and_true true = refl
    and_true false = refl
callee_is false p r = and_false (eqb p r)
  where
    and_false : (b : Bool) → false ≡ (b && false)
    and_false true = refl
    and_false false = refl

pub callee_below : (f : ProfileRows) (s n : ℕ) (r : LinkRow) → get_or f.nodes r.callee 0 < n → IfSome (callee_slot f s r) (λ k. k < n)
callee_below f s n r lt = below (same_option r.site (Some s)) (get_or f.nodes r.callee 0) lt
  where
    below : (b : Bool) (p : ℕ) → p < n → IfSome (cond b (Some p) None) (λ k. k < n)
    below true p h = h
    below false p h = tt

pub callee_links : (f : ProfileRows) (v : View) → IsFileView f v → (s r : ℕ) → places (same_option (Some r)) (map (callee_slot f s) f.links) ≡ links_to v r (Some s)
callee_links f v viewed s r =
    places_map (same_option (Some r)) (callee_slot f s) f.links
    ∙ places_same (λ (x : LinkRow). same_option (Some r) (callee_slot f s x)) (λ (x : LinkRow). eqb (get_or f.nodes x.callee 0) r && same_option x.site (Some s)) f.links
    (λ i x at. callee_is (same_option x.site (Some s)) (get_or f.nodes x.callee 0) r)
    ∙ sym (links_of f v viewed r (Some s))

-- the rows of one element more, where it passes
pub placed_rows : {X : Type 0} (g : ℕ → List PortsRow) (p : X → Bool) (xs : List X) (i : ℕ) (x : X) → i < length xs → x ≡ get_or xs i x
    → flat_map g (places p (take (i + 1) xs)) ≡ flat_map g (places p (take i xs)) ++ cond (p x) (g i) []
placed_rows {X} g p xs i x lt is =
    ap (λ (ks : List ℕ). flat_map g ks) (places_more p xs i x lt is) ∙ flat_map-append g (places p (take i xs)) (cond (p x) (i ∷ []) [])
    ∙ ap (λ (rs : List PortsRow). flat_map g (places p (take i xs)) ++ rs) (one (p x))
  where
    one : (b : Bool) → flat_map g (cond b (i ∷ []) []) ≡ cond b (g i) []
    one true = append-nil (g i)
    one false = refl

-- one site more
pub caller_more : (f : ℕ → List PortsRow) (root rows new more : List PortsRow) (n : ℕ) → rows ≡ root ++ flat_map f (range_with_len 0 n) → new ≡ rows ++ more → more ≡ f n → new ≡ root ++ flat_map f (range_with_len 0 (n + 1))
caller_more f root rows new more n rows_are new_is is =
    new_is ∙ ap (λ (rs : List PortsRow). rs ++ more) rows_are ∙ append_assoc root (flat_map f (range_with_len 0 n)) more
    ∙ ap (λ (rs : List PortsRow). root ++ (flat_map f (range_with_len 0 n) ++ rs)) is ∙ ap (λ (rs : List PortsRow). root ++ rs) (sym (flat_more f n))
