-- At the end all nodes are closed, and the classes are those of mutual reachability: classes don't rise along a walk.
use Rattle.std.proofs.Common.{◌≡◌, ◌≢◌, ℕ, ◌<◌, ◌≤◌, List, length, get_or, None, refl, sym, ap, ◌∙◌, inl, inr, arith}
use Rattle.std.proofs.lemmas.Option.{slice_get_within, get_or_from_slice_get}
use Rattle.md_trace.specs.Reaches.{Reaches, here, more}
use Rattle.md_clique.specs.declared.search.State.{State}
use Rattle.md_clique.specs.declared.search.State.TheVariants.{New, Closed}
use Rattle.md_clique.specs.declared.adjacency.Adjacency.{Adjacency}
use Rattle.md_clique.specs.Links.{start_of, end_of}
use Rattle.md_clique.specs.Search.{Kept, Stands, AreClosed, AreClasses, state_of}
use Rattle.md_clique.proofs.Close.{what_is}

pub falls_along : (links : List (ℕ × ℕ)) (states : List State) (count : ℕ) → AreClosed links states count → (a b : ℕ) → Reaches links a b → (c : ℕ) → state_of states a ≡ Closed c → (d : ℕ) × (state_of states b ≡ Closed d) × (d ≤ c)
falls_along links states count closed a b (here x) c is = (c, is, omega arith)
falls_along links states count closed a b (more k x y z link rest) c is =
    let w = slice_get_within links k (x, y) link in
    let pair : get_or links k (0, 0) ≡ (x, y) = get_or_from_slice_get links k (x, y) (0, 0) link in
    let st : start_of links k ≡ x = ap (λ (p : ℕ × ℕ). p.0) pair in
    let en : end_of links k ≡ y = ap (λ (p : ℕ × ℕ). p.1) pair in
    let f = closed.falls k c w (rw st is) in
    let on = falls_along links states count closed y b rest f.0 (rw en at f.1) in
    let low : f.0 ≤ c = f.2 in
    let lower : on.0 ≤ f.0 = on.2 in
    (on.0, on.1, omega arith)

module _ (links : List (ℕ × ℕ)) (lists : Adjacency) (k : Kept) (stands : Stands links lists None k) (none_open : length k.trail ≡ 0) (seen : (v : ℕ) → v < length k.states → state_of k.states v ≢ New) where
  all_closed : (v : ℕ) → v < length k.states → (c : ℕ) × (state_of k.states v ≡ Closed c)
  all_closed v there = elim (what_is (state_of k.states v)) [
    | inl w ↦ elim w [
      | inl n ↦ absurd (seen v there n)
      | inr o ↦ (let p = (stands.trail.opened v o.0 o.1).0 in absurd (omega arith))
    ]
    | inr c ↦ c
  ]

  pub are_classes : AreClasses links (length k.states) k.states k.count
  are_classes = record {
    each = refl;
    below = λ v there. let c = all_closed v there in rw c.1 (stands.closed.below v c.0 c.1);
    apart = λ a b la lb both.
        let ca = all_closed a la in
        let cb = all_closed b lb in
        let fall = falls_along links k.states k.count stands.closed a b both.forth ca.0 ca.1 in
        let rise = falls_along links k.states k.count stands.closed b a both.back cb.0 cb.1 in
        let same_b : Closed fall.0 ≡ Closed cb.0 = sym fall.1 ∙ cb.1 in
        let same_a : Closed rise.0 ≡ Closed ca.0 = sym rise.1 ∙ ca.1 in
        let eb : fall.0 ≡ cb.0 = cc in
        let ea : rise.0 ≡ ca.0 = cc in
        let low : fall.0 ≤ ca.0 = fall.2 in
        let up : rise.0 ≤ cb.0 = rise.2 in
        rw (ca.1, cb.1) (omega arith);
    together = λ a b la lb same.
        let ca = all_closed a la in
        let cb = all_closed b lb in
        let e : ca.0 ≡ cb.0 = rw (ca.1, cb.1) at same in
        record {
          forth = stands.closed.together a b ca.0 ca.1 (cb.1 ∙ ap Closed (sym e));
          back = stands.closed.together b a cb.0 cb.1 (ca.1 ∙ ap Closed e);
        };
  }
