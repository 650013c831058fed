-- The links of a sound profile as `cliques` and `entering` take them.
use Rattle.std.proofs.Common.{◌≡◌, ℕ, zero, suc, ◌<◌, ◌≤◌, List, [], ◌∷◌, length, get_or, All, IfSome, IfErr, Result, Ok, Err, ◌⊎◌, Option, Some, None, true, refl, sym, ap, ◌∙◌, inl, inr, arith}
use Rattle.std.specs.List.{slice_get}
use Rattle.std.proofs.lemmas.Bool.{cases_lt, cases_eq, cases_order, eq-eqb, ne_eqb, leb-true}
use Rattle.std.proofs.lemmas.Option.{slice_get-get_or, slice_get_within, get_or_from_slice_get}
use Rattle.md_trace.specs.Reaches.{Reaches, here, more}
use Rattle.md_trace.specs.Cliques.{AreCliques}
use Rattle.md_dynamic.specs.declared.link.LinkRow.{LinkRow}
use Rattle.md_clique.specs.Cliques.{clique_count}
use Rattle.md_clique.specs.Entries.{edges_of, enters, AreReached, AreEntries, MayFault}
use Rattle.md_clique.specs.declared.entries.EnterFault.{EnterFault}
use Rattle.md_clique.specs.declared.entries.EnterFault.TheVariants.{TwoEntries, NoMemory}
use Rattle.md_clique.proofs.Walks.{walk_on}
use Rattle.md_clique.proofs.Naming.{lt_clique_count}
use Rattle.md_clique.proofs.Entered.{clique_there, edge_is_link}
use Rattle.md_clique.proofs.EnteredOnce.{its_place, only_place}
use Rattle.md_cost.specs.Paths.{ends, leads_up, EntriesRise}
use Rattle.md_cost.specs.Sound.{AreSound}
use Rattle.md_cost.specs.Tree.{MayRefuse}

pub length-ends : (xs : List LinkRow) → length (ends xs) ≡ length xs
length-ends [] = refl
length-ends (x ∷ xs) = ap suc (length-ends xs)

pub ends_at : (xs : List LinkRow) (p : ℕ) (x : LinkRow) → slice_get xs p ≡ Some x → slice_get (ends xs) p ≡ Some (x.caller, x.callee)
ends_at [] p x is = cc
ends_at (y ∷ ys) zero x is = let e : y ≡ x = cc in rw e refl
ends_at (y ∷ ys) (suc p) x is = ends_at ys p x is

pub row_at : (xs : List LinkRow) (p : ℕ) (o : Option ℕ) (b : ℕ) → slice_get (ends xs) p ≡ Some (o, b) → (x : LinkRow) × (slice_get xs p ≡ Some x) × (x.caller ≡ o) × (x.callee ≡ b)
row_at [] p o b is = cc
row_at (y ∷ ys) zero o b is = let e : (y.caller, y.callee) ≡ (o, b) = cc in (y, refl, ap (λ (q : Option ℕ × ℕ). q.0) e, ap (λ (q : Option ℕ × ℕ). q.1) e)
row_at (y ∷ ys) (suc p) o b is = row_at ys p o b is

some_same : (x a : ℕ) → Some x ≡ Some a → x ≡ a
some_same x a e = cc

-- a link that starts somewhere has an edge
pub edge_there : (xs : List (Option ℕ × ℕ)) (p a b : ℕ) → slice_get xs p ≡ Some (Some a, b) → (t : ℕ) × (slice_get (edges_of xs) t ≡ Some (a, b))
edge_there [] p a b is = cc
edge_there ((None, y) ∷ ys) zero a b is = let q : None ≡ Some a = ap (λ (x : Option ℕ × ℕ). x.0) (let e : (None, y) ≡ (Some a, b) = cc in e) in cc
edge_there ((None, y) ∷ ys) (suc p) a b is = edge_there ys p a b is
edge_there ((Some x, y) ∷ ys) zero a b is =
    let e : (Some x, y) ≡ (Some a, b) = cc in
    let f : Some x ≡ Some a = ap (λ (q : Option ℕ × ℕ). q.0) e in
    let g : y ≡ b = ap (λ (q : Option ℕ × ℕ). q.1) e in
    let h : x ≡ a = some_same x a f in
    (0, rw (h, g) refl)
edge_there ((Some x, y) ∷ ys) (suc p) a b is = let r = edge_there ys p a b is in (suc r.0, r.1)

-- where no link leads to an older context, no edge does
up_is : (o : Option ℕ) (a b c : ℕ) → o ≡ Some a → c ≡ b → leads_up o c ≡ true → a ≤ b
up_is o a b c starts ends up = leb-true a b (rw (starts, ends) at up)

pub edges_up : (links : List LinkRow) → All (λ (r : LinkRow). leads_up r.caller r.callee ≡ true) links → All (λ (edge : ℕ × ℕ). edge.0 ≤ edge.1) (edges_of (ends links))
edges_up links up k d lt =
    let at = slice_get-get_or (edges_of (ends links)) k d lt in
    let l = edge_is_link (ends links) k (get_or (edges_of (ends links)) k d).0 (get_or (edges_of (ends links)) k d).1 at in
    let r = row_at links l.0 (Some (get_or (edges_of (ends links)) k d).0) (get_or (edges_of (ends links)) k d).1 l.1 in
    let its : leads_up r.0.caller r.0.callee ≡ true = rw (get_or_from_slice_get links l.0 r.0 r.0 r.1) at (up l.0 r.0 (slice_get_within links l.0 r.0 r.1)) in
    up_is r.0.caller (get_or (edges_of (ends links)) k d).0 (get_or (edges_of (ends links)) k d).1 r.0.callee r.2 r.3 its

same_pair : (o p : Option ℕ) (a b : ℕ) → o ≡ p → a ≡ b → ◌≡◌ {A = Option ℕ × ℕ} (o, a) (p, b)
same_pair o p a b e f = rw (e, f) refl

module _ (n : ℕ) (links : List LinkRow) (sound : AreSound n links) where
  -- each end is one of the contexts
  pub ends_there : (p : ℕ) (row : LinkRow) → slice_get links p ≡ Some row → (row.callee < n) × ((a : ℕ) → row.caller ≡ Some a → a < n)
  ends_there zero row at =
      let e : sound.root_row ≡ row = (let q : Some sound.root_row ≡ Some row = sym sound.root_there ∙ at in cc) in
      let some = sound.some_contexts in
      let zero_end : row.callee ≡ 0 = rw e at sound.root.callee in
      let none : row.caller ≡ None = rw e at sound.root.caller in
      (omega arith, λ a called. (let q : None ≡ Some a = sym none ∙ called in cc))
  ends_there (suc p) row at =
      let between = sound.others p row at in
      (between.callee_there, λ a called. (let q : Some between.start ≡ Some a = sym between.caller ∙ called in let e : between.start ≡ a = cc in rw e at between.start_there))

  start_within : (p : ℕ) (row : LinkRow) (o : Option ℕ) → slice_get links p ≡ Some row → row.caller ≡ o → IfSome o (λ a. a < n)
  start_within p row None at is = tt
  start_within p row (Some a) at is = (ends_there p row at).1 a is

  pub start_there : (p : ℕ) (row : LinkRow) → slice_get links p ≡ Some row → IfSome row.caller (λ a. a < n)
  start_there p row at = start_within p row row.caller at refl

  ends_within : (p : ℕ) (o : Option ℕ) (b : ℕ) → slice_get (ends links) p ≡ Some (o, b) → (b < n) × IfSome o (λ a. a < n)
  ends_within p None b at = let r = row_at links p None b at in let t = ends_there p r.0 r.1 in (rw r.3 at t.0, tt)
  ends_within p (Some a) b at = let r = row_at links p (Some a) b at in let t = ends_there p r.0 r.1 in (rw r.3 at t.0, t.1 a r.2)

  pub ends_all : All (λ (link : Option ℕ × ℕ). (link.1 < n) × IfSome link.0 (λ from. from < n)) (ends links)
  ends_all k d lt = let x = get_or (ends links) k d in ends_within k (get_or (ends links) k d).0 (get_or (ends links) k d).1 (slice_get-get_or (ends links) k d lt)

  pub edges_all : All (λ (link : ℕ × ℕ). (link.0 < n) × (link.1 < n)) (edges_of (ends links))
  edges_all k d lt =
      let at = slice_get-get_or (edges_of (ends links)) k d lt in
      let l = edge_is_link (ends links) k (get_or (edges_of (ends links)) k d).0 (get_or (edges_of (ends links)) k d).1 at in
      let w = ends_within l.0 (Some (get_or (edges_of (ends links)) k d).0) (get_or (edges_of (ends links)) k d).1 l.1 in
      (w.1, w.0)

  -- a link from a lower context is an edge
  lower_edge : (c : ℕ) → 0 < c → c < n → (a : ℕ) × (a < c) × Reaches (edges_of (ends links)) a c
  lower_edge c some lt =
      let from = sound.called c some lt in
      let at : slice_get (ends links) from.place ≡ Some (Some from.start, c) = ends_at links from.place from.row from.there ∙ ap Some (same_pair from.row.caller (Some from.start) from.row.callee c from.caller from.callee) in
      let e = edge_there (ends links) from.place from.start c at in
      (from.start, from.lower, more e.0 from.start c c e.1 (here c))

  all_reached : (m c : ℕ) → c < m → c < n → Reaches (edges_of (ends links)) 0 c
  all_reached zero c h lt = absurd (omega arith)
  all_reached (suc m) c h lt = elim (cases_lt 0 c) [
    | inl some ↦ (let l = lower_edge c some lt in let less : l.0 < c = l.1 in walk_on (edges_of (ends links)) 0 l.0 c (all_reached m l.0 (omega arith) (omega arith)) l.2)
    | inr none ↦ (let e : c ≡ 0 = omega arith in rw e (here 0))
  ]

  pub reached : AreReached (ends links) n
  reached = record {
    place = 0;
    root = 0;
    is_root = ends_at links 0 sound.root_row sound.root_there ∙ ap Some (same_pair sound.root_row.caller None sound.root_row.callee 0 sound.root.caller sound.root.callee);
    reached = λ v lt. all_reached (suc v) v (omega arith) lt;
  }

  module _ (cliques found : List ℕ) (are : AreCliques n (edges_of (ends links)) cliques) (entries_are : AreEntries cliques (ends links) found) where
    -- the least context of a clique
    least : (k : ℕ) (m : ℕ) → ((u : ℕ) → u < m → get_or cliques u 0 ≡ k → ⊥) ⊎ ((c : ℕ) × (c < m) × (get_or cliques c 0 ≡ k) × ((u : ℕ) → u < c → get_or cliques u 0 ≡ k → ⊥))
    least k zero = inl (λ u lt e. absurd (omega arith))
    least k (suc m) = elim (least k m) as (λ _. ((u : ℕ) → u < suc m → get_or cliques u 0 ≡ k → ⊥) ⊎ ((c : ℕ) × (c < suc m) × (get_or cliques c 0 ≡ k) × ((u : ℕ) → u < c → get_or cliques u 0 ≡ k → ⊥))) [
      | inr c ↦ (let lt : c.0 < m = c.1 in inr (c.0, omega arith, c.2, c.3))
      | inl none ↦ elim (cases_eq (get_or cliques m 0) k) as (λ _. ((u : ℕ) → u < suc m → get_or cliques u 0 ≡ k → ⊥) ⊎ ((c : ℕ) × (c < suc m) × (get_or cliques c 0 ≡ k) × ((u : ℕ) → u < c → get_or cliques u 0 ≡ k → ⊥))) [
        | inl is ↦ inr (m, omega arith, is, none)
        | inr other ↦ inl (λ u lt e. elim (cases_eq u m) [ inl same ↦ other (rw (← same) e) | inr apart ↦ none u (omega arith) e ])
      ]
    ]

    pub rises : EntriesRise cliques found links
    rises k some few =
        let v = clique_there n (edges_of (ends links)) cliques are k few in
        elim (least k n) [
          | inl none ↦ absurd (none v.0 v.1 v.2)
          | inr c ↦ (
              let above : 0 < c.0 = elim (cases_lt 0 c.0) [
                | inl lt ↦ lt
                | inr le ↦ (let zero_c : c.0 ≡ 0 = omega arith in
                    let is_zero : get_or cliques 0 0 ≡ k = rw zero_c at c.2 in
                    let w = are.in_order 0 0 sound.some_contexts (omega arith) in
                    let less : w.0 < 0 = w.1 in absurd (omega arith))
              ] in
              let from = sound.called c.0 above c.1 in
              let lower : from.start < c.0 = from.lower in
              let c_there : c.0 < n = c.1 in
              let start_there : from.start < n = omega arith in
              let other : get_or cliques from.start 0 ≡ k → ⊥ = c.3 from.start from.lower in
              let below : get_or cliques from.start 0 < k = elim (cases_order (get_or cliques from.start 0) k) [
                | inl is ↦ absurd (other is)
                | inr apart ↦ elim apart [
                  | inl less ↦ less
                  | inr more_k ↦ (let u = are.in_order from.start k start_there more_k in let lt : u.0 < from.start = u.1 in absurd (c.3 u.0 (omega arith) u.2))
                ]
              ] in
              let at : slice_get (ends links) from.place ≡ Some (Some from.start, c.0) = ends_at links from.place from.row from.there ∙ ap Some (same_pair from.row.caller (Some from.start) from.row.callee c.0 from.caller from.callee) in
              let passes : enters cliques k (Some from.start, c.0) ≡ true = rw (eq-eqb (get_or cliques c.0 0) k c.2, ne_eqb (get_or cliques from.start 0) k other) refl in
              let its = its_place (enters cliques k) 0 (ends links) from.place (Some from.start, c.0) at passes in
              let one = entries_are.one k few in
              let is : get_or found k 0 ≡ from.place = only_place its.0 (get_or found k 0) from.place (rw one at its.1) in
              record { row = from.row; start = from.start; there = rw is from.there; caller = from.caller; below = (let size = are.each in omega arith); lower = below })
        ]

-- a context's link ends at a context
pub callees_there : (n : ℕ) (links : List LinkRow) → AreSound n links → All (λ (row : LinkRow). row.callee < n) links
callees_there n links sound k d lt = (ends_there n links sound k (get_or links k d) (slice_get-get_or links k d lt)).0

-- there is a clique
pub some_clique : (n : ℕ) (es : List (ℕ × ℕ)) (cliques : List ℕ) → 0 < n → AreCliques n es cliques → 0 < clique_count cliques
some_clique n es cliques some are = let size = are.each in let lt = lt_clique_count cliques 0 (omega arith) in omega arith

-- what is said of an answer that isn't Ok
pub if_err : {A : Type 0} (P Q : EnterFault → Type 0) (r : Result A EnterFault) → ((e : EnterFault) → P e → Q e) → IfErr r P → IfErr r Q
if_err P Q (Ok a) step h = tt
if_err P Q (Err e) step h = step e h

pub refuses : (n : ℕ) (links : List LinkRow) (cliques : List ℕ) → AreCliques n (edges_of (ends links)) cliques → (fault : EnterFault) → MayFault cliques (ends links) fault → MayRefuse n links fault
refuses n links cliques are (TwoEntries k a b) may = record { cliques = cliques; cliques_are = are; twice = may }
refuses n links cliques are NoMemory may = tt
