-- Each clique of a run is entered by one link.
use Rattle.std.proofs.Common.{◌≡◌, ℕ, zero, suc, ◌+◌, ◌<◌, Bool, true, false, not, eqb, List, [], ◌∷◌, length, get_or, Option, Some, None, refl, sym, ap, ◌∙◌, inl, inr, arith}
use Rattle.std.specs.List.{slice_get}
use Rattle.std.proofs.lemmas.Bool.{cases_lt, cases_Bool, eq-eqb, ne_eqb, eqb-true, eqb-false, and_parts, not-true}
use Rattle.md_trace.specs.Reaches.{ReachesBoth}
use Rattle.md_trace.specs.Context.{Placed, contexts}
use Rattle.md_trace.specs.Links.{Leading, links}
use Rattle.md_trace.specs.Cliques.{AreCliques, with_edge, edges}
use Rattle.md_clique.specs.Places.{places_from}
use Rattle.md_clique.specs.Cliques.{clique_count}
use Rattle.md_clique.specs.Entries.{edges_of, enters, entries, AreReached}
use Rattle.md_clique.specs.OneEntry.{ends_of, StartsEntry}
use Rattle.md_clique.proofs.Walks.{walk_on}
use Rattle.md_clique.proofs.Growth.{Leaves, one_step}
use Rattle.md_clique.proofs.Growing.{IsWell, AllCalled}
use Rattle.md_clique.proofs.Entered.{is_entered}

pub ends_edges : (ls : List Leading) → edges_of (ends_of ls) ≡ edges ls
ends_edges [] = refl
ends_edges (x ∷ xs) = ap (with_edge x.link.caller x.to) (ends_edges xs)

-- among links that start somewhere, a link and its edge have one place
pub link_at : (ls : List Leading) → AllCalled ls → (i : ℕ) (o : Option ℕ) (b : ℕ) → slice_get (ends_of ls) i ≡ Some (o, b) → (a : ℕ) × (o ≡ Some a) × (slice_get (edges ls) i ≡ Some (a, b))
link_at [] all i o b is = cc
link_at (x ∷ xs) all zero o b is =
    let q : (x.link.caller, x.to) ≡ (o, b) = cc in
    let f : x.link.caller ≡ o = ap (λ (p : Option ℕ × ℕ). p.0) q in
    let g : x.to ≡ b = ap (λ (p : Option ℕ × ℕ). p.1) q in
    (all.0.0, sym f ∙ all.0.1, rw (all.0.1, g) refl)
link_at (x ∷ xs) all (suc i) o b is =
    let r = link_at xs all.1 i o b is in
    (r.0, r.1, rw all.0.1 r.2)

pub edge_at : (ls : List Leading) → AllCalled ls → (i a b : ℕ) → slice_get (edges ls) i ≡ Some (a, b) → slice_get (ends_of ls) i ≡ Some (Some a, b)
edge_at [] all i a b is = cc
edge_at (x ∷ xs) all zero a b is =
    let h : Some (all.0.0, x.to) ≡ Some (a, b) = rw all.0.1 at is in
    let q : (all.0.0, x.to) ≡ (a, b) = cc in
    let f : all.0.0 ≡ a = ap (λ (p : ℕ × ℕ). p.0) q in
    let g : x.to ≡ b = ap (λ (p : ℕ × ℕ). p.1) q in
    rw (all.0.1, f, g) refl
edge_at (x ∷ xs) all (suc i) a b is = edge_at xs all.1 i a b (rw all.0.1 at is)

-- what a link that enters shows
pub enters_parts : (cliques : List ℕ) (k : ℕ) (o : Option ℕ) (b : ℕ) → enters cliques k (o, b) ≡ true → (get_or cliques b 0 ≡ k) × ((a : ℕ) → o ≡ Some a → get_or cliques a 0 ≡ k → ⊥)
enters_parts cliques k None b e = let p = and_parts (eqb (get_or cliques b 0) k) true e in (eqb-true (get_or cliques b 0) k p.0, λ a n. cc)
enters_parts cliques k (Some c) b e =
    let p = and_parts (eqb (get_or cliques b 0) k) (not (eqb (get_or cliques c 0) k)) e in
    let out : eqb (get_or cliques c 0) k ≡ false = not-true (eqb (get_or cliques c 0) k) p.1 in
    (eqb-true (get_or cliques b 0) k p.0, λ a n same. (let q : c ≡ a = cc in eqb-false (get_or cliques c 0) k out (rw q same)))

-- no element passes
none_places : {X : Type 0} (p : X → Bool) (k : ℕ) (xs : List X) → ((i : ℕ) (x : X) → slice_get xs i ≡ Some x → p x ≡ true → ⊥) → places_from p k xs ≡ []
none_places p k [] none = refl
none_places p k (x ∷ xs) none = elim (cases_Bool (p x)) [
  | inl holds ↦ absurd (none 0 x refl holds)
  | inr fails ↦ rw fails (none_places p (k + 1) xs (λ i y is. none (suc i) y is))
]

-- at most one element passes, and one does
one_place : {X : Type 0} (p : X → Bool) (k : ℕ) (xs : List X) → ((i j : ℕ) (x y : X) → slice_get xs i ≡ Some x → p x ≡ true → slice_get xs j ≡ Some y → p y ≡ true → i ≡ j) → 0 < length (places_from p k xs) → (q : ℕ) × (places_from p k xs ≡ q ∷ [])
one_place p k [] same some = absurd (omega arith)
one_place p k (x ∷ xs) same some = elim (cases_Bool (p x)) as (λ _. (q : ℕ) × (places_from p k (x ∷ xs) ≡ q ∷ [])) [
  | inl holds ↦ (k, rw (holds, none_places p (k + 1) xs (λ i y is passes. (let e : 0 ≡ suc i = same 0 (suc i) x y refl holds is passes in absurd (omega arith)))) refl)
  | inr fails ↦ (let r = one_place p (k + 1) xs (λ i j y z iy py jz pz. (let e : suc i ≡ suc j = same (suc i) (suc j) y z iy py jz pz in omega arith)) (rw fails at some) in (r.0, rw fails r.1))
]

-- the place of an element that passes is among the places
pub its_place : {X : Type 0} (p : X → Bool) (k : ℕ) (xs : List X) (i : ℕ) (x : X) → slice_get xs i ≡ Some x → p x ≡ true → (j : ℕ) × (slice_get (places_from p k xs) j ≡ Some (k + i))
its_place p k [] i x is passes = cc
its_place p k (y ∷ ys) zero x is passes = let e : y ≡ x = cc in let z : k + 0 ≡ k = omega arith in (0, rw (e, passes, z) refl)
its_place p k (y ∷ ys) (suc i) x is passes =
    let r = its_place p (k + 1) ys i x is passes in
    let z : (k + 1) + i ≡ k + suc i = omega arith in
    elim (cases_Bool (p y)) as (λ _. (j : ℕ) × (slice_get (places_from p k (y ∷ ys)) j ≡ Some (k + suc i))) [
      | inl holds ↦ (suc r.0, rw holds (rw z at r.1))
      | inr fails ↦ (r.0, rw fails (rw z at r.1))
    ]

-- a list of one place has that place
pub only_place : (j q i : ℕ) → slice_get (q ∷ []) j ≡ Some (0 + i) → q ≡ i
only_place zero q i is = let e : q ≡ 0 + i = cc in omega arith
only_place (suc j) q i is = cc

-- the root link ends where each context is reached from
pub all_reached : (m : ℕ) (ps : List Placed) → IsWell m ps → AreReached (ends_of (links m ps)) (length (contexts m ps))
all_reached m ps is = record {
  place = 0;
  root = 0;
  is_root = rw is.rooted.1 refl;
  reached = λ v h. rw ends_edges (is.grown.reached v h);
}

module _ (m : ℕ) (ps : List Placed) (is : IsWell m ps) (cliques : List ℕ) (are : AreCliques (length (contexts m ps)) (edges (links m ps)) cliques) where
  -- a link that enters leaves a clique
  enters_leaves : (k t a b : ℕ) → slice_get (edges (links m ps)) t ≡ Some (a, b) → get_or cliques b 0 ≡ k → (get_or cliques a 0 ≡ k → ⊥) → Leaves (edges (links m ps)) t a b
  enters_leaves k t a b edge ends out = record {
    edge = edge;
    no_return = λ back. (let w = is.grown.within t a b edge in
        let both : ReachesBoth (edges (links m ps)) a b = record { forth = one_step (edges (links m ps)) t a b edge; back = back } in
        out ((are.classes a b w.0 w.1).1 both ∙ ends));
  }

  -- two ends in one clique reach each other
  reach_both : (b d k : ℕ) → b < length (contexts m ps) → d < length (contexts m ps) → get_or cliques b 0 ≡ k → get_or cliques d 0 ≡ k → ReachesBoth (edges (links m ps)) b d
  reach_both b d k lb ld eb ed = (are.classes b d lb ld).0 (eb ∙ sym ed)

  abbrev rest : List Leading
  rest = is.rooted.0

  edges_rest : edges (links m ps) ≡ edges rest
  edges_rest = rw is.rooted.1 refl

  -- a link of the rest that enters the clique is a leaving edge
  rest_leaves : (k i : ℕ) (o : Option ℕ) (b : ℕ) → slice_get (ends_of rest) i ≡ Some (o, b) → enters cliques k (o, b) ≡ true → (a : ℕ) × Leaves (edges (links m ps)) i a b × (get_or cliques b 0 ≡ k) × (b < length (contexts m ps)) × (a < length (contexts m ps))
  rest_leaves k i o b at enter =
      let l = link_at rest is.rooted.2 i o b at in
      let p = enters_parts cliques k o b enter in
      let edge : slice_get (edges (links m ps)) i ≡ Some (l.0, b) = rw edges_rest l.2 in
      let w = is.grown.within i l.0 b edge in
      (l.0, enters_leaves k i l.0 b edge p.0 (p.1 l.0 l.1), p.0, w.1, w.0)

  -- no leaving link ends in the root's clique
  not_root : (k j a b : ℕ) → get_or cliques 0 0 ≡ k → Leaves (edges (links m ps)) j a b → get_or cliques b 0 ≡ k → b < length (contexts m ps) → a < length (contexts m ps) → ⊥
  not_root k j a b root leaves ends lb la =
      let both = reach_both b 0 k lb is.grown.some ends root in
      leaves.no_return (walk_on (edges (links m ps)) b 0 a both.forth (is.grown.reached a la))

  same_entry : (k i j : ℕ) (x y : Option ℕ × ℕ) → slice_get ((None, 0) ∷ ends_of rest) i ≡ Some x → enters cliques k x ≡ true → slice_get ((None, 0) ∷ ends_of rest) j ≡ Some y → enters cliques k y ≡ true → i ≡ j
  same_entry k zero zero x y ix ex jy ey = refl
  same_entry k zero (suc j) x y ix ex jy ey =
      let e : (None, 0) ≡ x = cc in
      let root = (enters_parts cliques k None 0 (ap (enters cliques k) e ∙ ex)).0 in
      let r = rest_leaves k j y.0 y.1 jy ey in
      absurd (not_root k j r.0 y.1 root r.1 r.2 r.3 r.4)
  same_entry k (suc i) zero x y ix ex jy ey =
      let e : (None, 0) ≡ y = cc in
      let root = (enters_parts cliques k None 0 (ap (enters cliques k) e ∙ ey)).0 in
      let r = rest_leaves k i x.0 x.1 ix ex in
      absurd (not_root k i r.0 x.1 root r.1 r.2 r.3 r.4)
  same_entry k (suc i) (suc j) x y ix ex jy ey =
      let r = rest_leaves k i x.0 x.1 ix ex in
      let s = rest_leaves k j y.0 y.1 jy ey in
      let both = reach_both x.1 y.1 k r.3 s.3 r.2 s.2 in
      ap suc (is.grown.one i r.0 x.1 j s.0 y.1 r.1 s.1 both.forth both.back)

  ends_are : ends_of (links m ps) ≡ (None, 0) ∷ ends_of rest
  ends_are = rw is.rooted.1 refl

  pub one_entry : (k : ℕ) → k < clique_count cliques → (q : ℕ) × (entries cliques (ends_of (links m ps)) k ≡ q ∷ [])
  one_entry k h =
      let size = are.each in
      let all : AreCliques (length cliques) (edges_of (ends_of (links m ps))) cliques = rw (size, ends_edges) are in
      let some = is_entered cliques (ends_of (links m ps)) all (rw size (all_reached m ps is)) k h in
      rw ends_are (one_place (enters cliques k) 0 ((None, 0) ∷ ends_of rest) (same_entry k) (rw ends_are at some))

  -- the root's clique has number 0
  pub root_zero : get_or cliques 0 0 ≡ 0
  root_zero = elim (cases_lt 0 (get_or cliques 0 0)) [
    | inl more ↦ (let w = are.in_order 0 0 is.grown.some more in let none : w.0 < 0 = w.1 in absurd (omega arith))
    | inr none ↦ omega arith
  ]

  pub root_entry : 0 < clique_count cliques → entries cliques (ends_of (links m ps)) 0 ≡ 0 ∷ []
  root_entry h =
      let one = one_entry 0 h in
      let in_zero : eqb (get_or cliques 0 0) 0 ≡ true = eq-eqb (get_or cliques 0 0) 0 root_zero in
      let e : 0 ∷ places_from (enters cliques 0) 1 (ends_of rest) ≡ one.0 ∷ [] = rw (ends_are, in_zero) at one.1 in
      let first : one.0 ≡ 0 = cc in
      one.1 ∙ ap (λ (q : ℕ). q ∷ []) first

  -- the one link that enters the clique of a context starts where a link into it from outside starts
  pub entry_starts : (k c to t : ℕ) → slice_get (edges (links m ps)) t ≡ Some (c, to) → get_or cliques to 0 ≡ k → (get_or cliques c 0 ≡ k → ⊥) → k < clique_count cliques → StartsEntry cliques (ends_of (links m ps)) k c
  entry_starts k c to t edge ends out h =
      let one = one_entry k h in
      let its = edge_at rest is.rooted.2 t c to (rw edges_rest at edge) in
      let link : slice_get (ends_of (links m ps)) (suc t) ≡ Some (Some c, to) = rw ends_are its in
      let passes : enters cliques k (Some c, to) ≡ true = rw (eq-eqb (get_or cliques to 0) k ends, ne_eqb (get_or cliques c 0) k out) refl in
      let at = its_place (enters cliques k) 0 (ends_of (links m ps)) (suc t) (Some c, to) link passes in
      record { place = one.0; to = to; only = one.1; link = (let q : one.0 ≡ suc t = only_place at.0 one.0 (suc t) (rw one.1 at at.1) in rw q link) }
