-- Each clique is entered: a walk from the root link's end comes into it from outside.
use Rattle.std.proofs.Common.{◌≡◌, ℕ, zero, suc, ◌+◌, ◌<◌, Bool, true, List, [], ◌∷◌, length, get_or, Option, Some, None, refl, ap, inl, inr, arith}
use Rattle.std.specs.List.{slice_get}
use Rattle.std.proofs.lemmas.Bool.{cases_lt, cases_eq, cases_Bool, eq-eqb, ne_eqb}
use Rattle.md_trace.specs.Reaches.{Reaches, here, more}
use Rattle.md_trace.specs.Cliques.{AreCliques}
use Rattle.md_clique.specs.Places.{places_from}
use Rattle.md_clique.specs.Cliques.{clique_count}
use Rattle.md_clique.specs.Entries.{edges_of, enters, entries, AreReached}

-- some node has the last number
last_there : (cs : List ℕ) → 0 < clique_count cs → (v : ℕ) × (v < length cs) × (get_or cs v 0 + 1 ≡ clique_count cs)
last_there [] some = absurd (omega arith)
last_there (c ∷ cs) some = elim (cases_lt (c + 1) (clique_count cs)) as (λ _. (v : ℕ) × (v < length (c ∷ cs)) × (get_or (c ∷ cs) v 0 + 1 ≡ clique_count (c ∷ cs))) [
  | inl less ↦ (let w = last_there cs (omega arith) in let there : w.0 < length cs = w.1 in let last : get_or cs w.0 0 + 1 ≡ clique_count cs = w.2 in (suc w.0, omega arith, omega arith))
  | inr most ↦ (0, omega arith, omega arith)
]

-- each clique has a node
pub clique_there : (n : ℕ) (es : List (ℕ × ℕ)) (cs : List ℕ) → AreCliques n es cs → (k : ℕ) → k < clique_count cs → (v : ℕ) × (v < n) × (get_or cs v 0 ≡ k)
clique_there n es cs are k h =
    let w = last_there cs (omega arith) in
    let size = are.each in
    let there : w.0 < length cs = w.1 in
    let last : get_or cs w.0 0 + 1 ≡ clique_count cs = w.2 in
    elim (cases_eq (get_or cs w.0 0) k) as (λ _. (v : ℕ) × (v < n) × (get_or cs v 0 ≡ k)) [
      | inl e ↦ (w.0, omega arith, e)
      | inr ne ↦ (let l = are.in_order w.0 k (omega arith) (omega arith) in let less : l.0 < w.0 = l.1 in (l.0, omega arith, l.2))
    ]

-- a walk that ends in a clique and doesn't begin there takes a link into it
crosses : (es : List (ℕ × ℕ)) (cs : List ℕ) (k a b : ℕ) → Reaches es a b → get_or cs b 0 ≡ k → (get_or cs a 0 ≡ k → ⊥) → (t x y : ℕ) × (slice_get es t ≡ Some (x, y)) × (get_or cs y 0 ≡ k) × (get_or cs x 0 ≡ k → ⊥)
crosses es cs k a b (here x) ends out = absurd (out ends)
crosses es cs k a b (more t x y z link rest) ends out = elim (cases_eq (get_or cs y 0) k) as (λ _. (t x y : ℕ) × (slice_get es t ≡ Some (x, y)) × (get_or cs y 0 ≡ k) × (get_or cs x 0 ≡ k → ⊥)) [
  | inl e ↦ (t, x, y, link, e, out)
  | inr ne ↦ crosses es cs k y b rest ends ne
]

-- an edge is a link
pub edge_is_link : (links : List (Option ℕ × ℕ)) (t x y : ℕ) → slice_get (edges_of links) t ≡ Some (x, y) → (p : ℕ) × (slice_get links p ≡ Some (Some x, y))
edge_is_link [] t x y is = cc
edge_is_link ((None, to) ∷ links) t x y is = let r = edge_is_link links t x y is in (suc r.0, r.1)
edge_is_link ((Some from, to) ∷ links) zero x y is = let e : (from, to) ≡ (x, y) = cc in (0, ap (λ (q : ℕ × ℕ). Some (Some q.0, q.1)) e)
edge_is_link ((Some from, to) ∷ links) (suc t) x y is = let r = edge_is_link links t x y is in (suc r.0, r.1)

-- an element that passes has a place
some_place : {X : Type 0} (p : X → Bool) (k : ℕ) (xs : List X) (i : ℕ) (x : X) → slice_get xs i ≡ Some x → p x ≡ true → 0 < length (places_from p k xs)
some_place p k [] i x is passes = cc
some_place p k (y ∷ ys) zero x is passes = let e : y ≡ x = cc in rw (e, passes) (omega arith)
some_place p k (y ∷ ys) (suc i) x is passes = elim (cases_Bool (p y)) [
  | inl holds ↦ rw holds (omega arith)
  | inr fails ↦ rw fails (some_place p (k + 1) ys i x is passes)
]

pub is_entered : (cliques : List ℕ) (links : List (Option ℕ × ℕ)) → AreCliques (length cliques) (edges_of links) cliques → AreReached links (length cliques) → (k : ℕ) → k < clique_count cliques → 0 < length (entries cliques links k)
is_entered cliques links are reached k h =
    let w = clique_there (length cliques) (edges_of links) cliques are k h in
    elim (cases_eq (get_or cliques reached.root 0) k) [
      | inl e ↦ some_place (enters cliques k) 0 links reached.place (None, reached.root) reached.is_root (rw (eq-eqb (get_or cliques reached.root 0) k e) refl)
      | inr ne ↦ (
          let c = crosses (edges_of links) cliques k reached.root w.0 (reached.reached w.0 w.1) w.2 ne in
          let l = edge_is_link links c.0 c.1 c.2 c.3 in
          some_place (enters cliques k) 0 links l.0 (Some c.1, c.2) l.1 (rw (eq-eqb (get_or cliques c.2 0) k c.4, ne_eqb (get_or cliques c.1 0) k c.5) refl))
    ]
