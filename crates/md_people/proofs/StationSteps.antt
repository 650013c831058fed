-- The stations of a context are its path up to clique 0.
use Rattle.std.proofs.Common.{◌≡◌, ℕ, zero, suc, ◌+◌, ◌<◌, ◌≤◌, List, [], ◌∷◌, ◌++◌, length, get_or, map, take, reverse, refl, sym, ap, ◌∙◌, inl, inr, arith}
use Rattle.std.specs.Prelude.{unwrap_or, option_and_then}
use Rattle.std.specs.List.{enumerate_from, slice_get}
use Rattle.std.proofs.lemmas.Bool.{cases_lt, eq-eqb, ne_eqb}
use Rattle.std.proofs.lemmas.Option.{slice_get_read, slice_get_within}
use Rattle.std.proofs.lemmas.List.{append_assoc, map_push, take_more, take_all}
use Rattle.std.proofs.lemmas.List.FromFn.{length-enumerate_from, get_or-enumerate_from}
use Rattle.md_dynamic.specs.declared.link.LinkRow.{LinkRow}
use Rattle.md_dynamic.specs.Profile.{ProfileRows}
use Rattle.md_clique.specs.Cliques.{clique_count}
use Rattle.md_clique.proofs.Naming.{lt_clique_count}
use Rattle.md_cost.specs.FileView.{IsFileView, join_of}
use Rattle.md_cost.specs.Paths.{ends, path_of, path_to, start_of, start_of_row}
use Rattle.md_cost.specs.Sound.{AreSound}
use Rattle.md_cost.specs.Tree.{IsTree}
use Rattle.md_cost.specs.View.{View, Join}
use Rattle.md_cost.proofs.PathSteps.{path_stops, path_goes}
use Rattle.md_cost.proofs.WalkSteps.{parent_some, up_there, up_goes}
use Rattle.md_cost.proofs.ViewSteps.{lower, started, view_cliques, view_entries}
use Rattle.md_clique.specs.Entries.{AreEntries}
use Rattle.md_cost.proofs.EntrySteps.{entry_there}
use Rattle.md_cost.proofs.TreeSteps.{length-ends}
use Rattle.md_cost.specs.Walking.{upward}
use Rattle.md_people.specs.Context.{entered_from, stations, stations_up}
use Rattle.md_people.specs.Words.{clique_at}

-- one row more of numbered items
pub numbered_more : {X Y : Type 0} (f : ℕ × X → Y) (xs : List X) (i : ℕ) (d : X) → i < length xs
    → map f (take (i + 1) (enumerate_from 0 xs)) ≡ map f (take i (enumerate_from 0 xs)) ++ f (i, get_or xs i d) ∷ []
numbered_more {X} {Y} f xs i d lt =
    let place : 0 + i ≡ i = omega arith in
    ap (λ (ys : List (ℕ × X)). map f ys) (take_more (enumerate_from 0 xs) i (0, d) (omega (arith, length-enumerate_from 0 xs)))
    ∙ map_push f (take i (enumerate_from 0 xs)) (get_or (enumerate_from 0 xs) i (0, d))
    ∙ ap (λ (y : ℕ × X). map f (take i (enumerate_from 0 xs)) ++ f y ∷ []) (get_or-enumerate_from 0 xs i (0, d) lt)
    ∙ ap (λ (n : ℕ). map f (take i (enumerate_from 0 xs)) ++ f (n, get_or xs i d) ∷ []) place

pub numbered_all : {X Y : Type 0} (f : ℕ × X → Y) (xs : List X) (i : ℕ) → length xs ≤ i → map f (take i (enumerate_from 0 xs)) ≡ map f (enumerate_from 0 xs)
numbered_all {X} f xs i end = ap (λ (ys : List (ℕ × X)). map f ys) (take_all i (enumerate_from 0 xs) (omega (arith, length-enumerate_from 0 xs)))

-- where a link starts, by the view's links and by those of the profile
join_starts : (links : List LinkRow) (p : ℕ) → unwrap_or (option_and_then (λ (x : Join). x.caller) (slice_get (map join_of links) p)) 0 ≡ start_of_row (slice_get links p)
join_starts [] p = refl
join_starts (r ∷ rs) zero = refl
join_starts (r ∷ rs) (suc p) = join_starts rs p

-- the link that enters a clique is there, and where it starts
pub entry_within : (cliques entries : List ℕ) (links : List LinkRow) (k : ℕ) → AreEntries cliques (ends links) entries → k < clique_count cliques → get_or entries k 0 < length links
entry_within cliques entries links k are lt =
    let link = entry_there cliques (ends links) entries are k lt in
    let within = slice_get_within (ends links) (get_or entries k 0) link.link link.there in
    let long = length-ends links in
    omega arith

pub start_told : (links : List LinkRow) (entries : List ℕ) (k i : ℕ) (row : LinkRow) → i < length links → row ≡ get_or links i row → i ≡ get_or entries k 0 → start_of links entries k ≡ unwrap_or row.caller 0
start_told links entries k i row lt is at = ap (λ (p : ℕ). start_of_row (slice_get links p)) (sym at) ∙ ap start_of_row (slice_get_read links (length links) i row refl lt is)

module _ (f : ProfileRows) (sound : AreSound (length f.nodes) f.links) (cliques found : List ℕ) (tree : IsTree (length f.nodes) f.links cliques found) where
  abbrev starts : ℕ → ℕ
  starts k = start_of f.links found k

  pub start_lower : (k : ℕ) → 0 < k → k < clique_count cliques → get_or cliques (start_of f.links found k) 0 < k
  start_lower k some few = lower f sound cliques found tree k some few

  pub start_there : (k : ℕ) → 0 < k → k < clique_count cliques → start_of f.links found k < length cliques
  start_there k some few = started f sound cliques found tree k some few

  pub path_end : (c : ℕ) → get_or cliques c 0 ≡ 0 → path_of cliques found f.links c ≡ c ∷ []
  path_end c is = path_stops cliques (start_of f.links found) 0 (get_or cliques c 0) c (omega arith)

  pub path_on : (c : ℕ) → c < length cliques → 0 < get_or cliques c 0 → path_of cliques found f.links c ≡ c ∷ path_of cliques found f.links (start_of f.links found (get_or cliques c 0))
  path_on c lt some =
      let there = start_there (get_or cliques c 0) some (lt_clique_count cliques c lt) in
      sym (up_there cliques (start_of f.links found) start_lower start_there c lt) ∙ up_goes cliques (start_of f.links found) start_lower start_there c lt
      ∙ ap (λ (p : ℕ). c ∷ upward cliques (start_of f.links found) p) (parent_some cliques (start_of f.links found) start_lower start_there c some)
      ∙ ap (λ (ds : List ℕ). c ∷ ds) (up_there cliques (start_of f.links found) start_lower start_there (start_of f.links found (get_or cliques c 0)) there)

  -- one station more
  pub station_more : (before whole : List ℕ) (c : ℕ) → c < length cliques → 0 < get_or cliques c 0 → before ++ path_of cliques found f.links c ≡ whole
      → (before ++ c ∷ []) ++ path_of cliques found f.links (start_of f.links found (get_or cliques c 0)) ≡ whole
  station_more before whole c lt some is =
      append_assoc before (c ∷ []) (path_of cliques found f.links (start_of f.links found (get_or cliques c 0)))
      ∙ ap (λ (ds : List ℕ). before ++ ds) (sym (path_on c lt some)) ∙ is

  module _ (v : View) (viewed : IsFileView f v) where
    pub entered_told : (k : ℕ) → entered_from v k ≡ start_of f.links found k
    entered_told k =
        ap (λ (js : List Join). unwrap_or (option_and_then (λ (x : Join). x.caller) (slice_get js (get_or v.entries k 0))) 0) (ap (λ (w : View). w.links) viewed.is)
        ∙ join_starts f.links (get_or v.entries k 0)
        ∙ ap (λ (es : List ℕ). start_of f.links es k) (view_entries f sound cliques found tree v viewed)

    pub clique_told : (c : ℕ) → clique_at v c ≡ get_or cliques c 0
    clique_told c = ap (λ (ks : List ℕ). get_or ks c 0) (view_cliques f sound cliques found tree v viewed)

    up_told : (n c : ℕ) → stations_up v n c ≡ path_to cliques (start_of f.links found) 0 n c
    up_told zero c = refl
    up_told (suc n) c = elim (cases_lt 0 (get_or cliques c 0)) [
      | inl some ↦ (
          let ne : clique_at v c ≡ 0 → ⊥ = λ e. (let is = clique_told c in absurd (omega arith)) in
          rw (ne_eqb (clique_at v c) 0 ne) (
          ap (λ (d : ℕ). c ∷ stations_up v n d) (entered_told (clique_at v c) ∙ ap (λ (k : ℕ). start_of f.links found k) (clique_told c))
          ∙ ap (λ (ds : List ℕ). c ∷ ds) (up_told n (start_of f.links found (get_or cliques c 0)))
          ∙ sym (path_goes cliques (start_of f.links found) 0 n c some)))
      | inr none ↦ (
          let e : clique_at v c ≡ 0 = (let is = clique_told c in omega arith) in
          rw (eq-eqb (clique_at v c) 0 e) (sym (path_stops cliques (start_of f.links found) 0 (suc n) c none)))
    ]

    -- the stations are the path from its end on
    pub stations_told : (c : ℕ) → stations v c ≡ reverse (path_of cliques found f.links c)
    stations_told c = ap (λ (n : ℕ). reverse (stations_up v n c)) (clique_told c) ∙ ap (λ (ds : List ℕ). reverse ds) (up_told (get_or cliques c 0) c)
