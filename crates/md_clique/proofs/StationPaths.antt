-- The stations of an activation are the path of its context up to clique 0.
use Rattle.std.proofs.Common.{◌≡◌, ℕ, ◌<◌, Bool, not, eqb, List, [], ◌∷◌, length, get_or, map, filter, Option, refl, sym, ap, ◌∙◌, subst, inl, inr}
use Rattle.std.proofs.lemmas.Bool.{cases_eq, cases_Bool, eq-eqb, ne_eqb}
use Rattle.md_trace.specs.Reaches.{Reaches, ReachesBoth, here, more}
use Rattle.md_trace.specs.Context.{Placed, contexts}
use Rattle.md_trace.specs.Links.{links}
use Rattle.md_trace.specs.Cliques.{AreCliques, edges}
use Rattle.md_trace.specs.Totals.{stations}
use Rattle.md_clique.specs.OneEntry.{ends_of, IsPathUp}
use Rattle.md_clique.proofs.Walks.{walk_on}
use Rattle.md_clique.proofs.Growth.{IsGrown, HasEdge, one_step}
use Rattle.md_clique.proofs.Growing.{IsWell, AreLinked, AllReach, reach_on}
use Rattle.md_clique.proofs.Naming.{lt_clique_count}
use Rattle.md_clique.proofs.EnteredOnce.{root_zero, entry_starts}

-- in another clique than k
abbrev elsewhere : List ℕ → ℕ → Placed → Bool
elsewhere cliques k y = not (eqb (get_or cliques y.context 0) k)

reach_filter : (es : List (ℕ × ℕ)) (c : ℕ) (p : Placed → Bool) (ys : List Placed) → AllReach es c ys → AllReach es c (filter p ys)
reach_filter es c p [] h = tt
reach_filter es c p (y ∷ ys) h = elim (cases_Bool (p y)) [
  | inl holds ↦ rw holds (h.0, reach_filter es c p ys h.1)
  | inr fails ↦ rw fails (reach_filter es c p ys h.1)
]

reach_stations : (es : List (ℕ × ℕ)) (c : ℕ) (cliques : List ℕ) (ys : List Placed) → AllReach es c ys → AllReach es c (stations cliques ys)
reach_stations es c cliques [] h = tt
reach_stations es c cliques (y ∷ ys) h = (h.0, reach_filter es c (elsewhere cliques (get_or cliques y.context 0)) (stations cliques ys) (reach_stations es c cliques ys h.1))

-- all of a chain reach its first context
reach_linked : (es : List (ℕ × ℕ)) (x : Placed) (xs : List Placed) → AreLinked es (x ∷ xs) → AllReach es x.context (x ∷ xs)
reach_linked es x [] h = (here x.context, tt)
reach_linked es x (y ∷ ys) h = (here x.context, reach_on es y.context x.context (y ∷ ys) (one_step es h.0.0 y.context x.context h.0.1) (reach_linked es y ys h.1))

filter_again : (p : Placed → Bool) (ys : List Placed) → filter p (filter p ys) ≡ filter p ys
filter_again p [] = refl
filter_again p (y ∷ ys) = elim (cases_Bool (p y)) [
  | inl holds ↦ rw (holds, holds) (ap (λ (zs : List Placed). y ∷ zs) (filter_again p ys))
  | inr fails ↦ rw fails (filter_again p ys)
]

-- who reaches a context is one
reaches_below : (n : ℕ) (es : List (ℕ × ℕ)) → IsGrown n es → (a b : ℕ) → Reaches es a b → b < n → a < n
reaches_below n es grown a b (here x) h = h
reaches_below n es grown a b (more k x y z edge rest) h = (grown.within k x y edge).0

-- a path up goes on from another context of the clique
path_from : (cliques : List ℕ) (links : List (Option ℕ × ℕ)) (c d : ℕ) (cs : List ℕ) → get_or cliques c 0 ≡ get_or cliques d 0 → IsPathUp cliques links (c ∷ cs) → IsPathUp cliques links (d ∷ cs)
path_from cliques links c d [] e h = sym e ∙ h
path_from cliques links c d (b ∷ bs) e h = (rw e at h.0, h.1)

module _ (m : ℕ) (ps : List Placed) (is : IsWell m ps) (cliques : List ℕ) (are : AreCliques (length (contexts m ps)) (edges (links m ps)) cliques) where
  -- nothing that reaches the caller's context is in the clique of what it called from outside
  none_inside : (x y : Placed) → HasEdge (edges (links m ps)) y.context x.context → (get_or cliques y.context 0 ≡ get_or cliques x.context 0 → ⊥) → (ws : List Placed) → AllReach (edges (links m ps)) y.context ws → filter (elsewhere cliques (get_or cliques x.context 0)) ws ≡ ws
  none_inside x y edge out [] h = refl
  none_inside x y edge out (w ∷ ws) h =
      let step = one_step (edges (links m ps)) edge.0 y.context x.context edge.1 in
      let there = is.grown.within edge.0 y.context x.context edge.1 in
      let below = reaches_below (length (contexts m ps)) (edges (links m ps)) is.grown w.context y.context h.0 there.0 in
      let apart : get_or cliques w.context 0 ≡ get_or cliques x.context 0 → ⊥ = λ (e : get_or cliques w.context 0 ≡ get_or cliques x.context 0).
      (let both = (are.classes w.context x.context below there.1).0 e in
      let round : ReachesBoth (edges (links m ps)) y.context x.context = record { forth = step; back = walk_on (edges (links m ps)) x.context w.context y.context both.back h.0 } in
      out ((are.classes y.context x.context there.0 there.1).1 round)) in
      rw (ne_eqb (get_or cliques w.context 0) (get_or cliques x.context 0) apart) (ap (λ (zs : List Placed). w ∷ zs) (none_inside x y edge out ws h.1))

  pub path_up : (x : Placed) (xs : List Placed) → AreLinked (edges (links m ps)) (x ∷ xs) → IsPathUp cliques (ends_of (links m ps)) (map (λ (w : Placed). w.context) (stations cliques (x ∷ xs)))
  path_up x [] h = rw h (root_zero m ps is cliques are)
  path_up x (y ∷ ys) h =
      let before = path_up y ys h.1 in
      let there = is.grown.within h.0.0 y.context x.context h.0.1 in
      let size = are.each in
      let above : List Placed = filter (elsewhere cliques (get_or cliques y.context 0)) (stations cliques ys) in
      elim (cases_eq (get_or cliques y.context 0) (get_or cliques x.context 0)) [
        | inl same ↦ (
            let stays : filter (elsewhere cliques (get_or cliques x.context 0)) above ≡ above = subst (λ (k : ℕ). filter (elsewhere cliques k) (filter (elsewhere cliques (get_or cliques y.context 0)) (stations cliques ys)) ≡ filter (elsewhere cliques (get_or cliques y.context 0)) (stations cliques ys)) same (filter_again (elsewhere cliques (get_or cliques y.context 0)) (stations cliques ys)) in
            rw (eq-eqb (get_or cliques y.context 0) (get_or cliques x.context 0) same, stays) (path_from cliques (ends_of (links m ps)) y.context x.context (map (λ (w : Placed). w.context) above) same before))
        | inr out ↦ (
            let reach = (reach_linked (edges (links m ps)) y ys h.1).1 in
            let stays : filter (elsewhere cliques (get_or cliques x.context 0)) above ≡ above = none_inside x y h.0 out above (reach_filter (edges (links m ps)) y.context (elsewhere cliques (get_or cliques y.context 0)) (stations cliques ys) (reach_stations (edges (links m ps)) y.context cliques ys reach)) in
            let k = lt_clique_count cliques x.context (rw size there.1) in
            let start = entry_starts m ps is cliques are (get_or cliques x.context 0) y.context x.context h.0.0 h.0.1 refl out k in
            rw (ne_eqb (get_or cliques y.context 0) (get_or cliques x.context 0) out, stays) (start, before))
      ]
