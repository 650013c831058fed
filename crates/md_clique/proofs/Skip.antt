-- The last pending node has no links left.
use Rattle.std.proofs.Common.{◌≡◌, ℕ, ◌+◌, ◌-◌, ◌<◌, ◌≤◌, List, length, get_or, take, None, sym, inl, inr, arith}
use Rattle.std.specs.Prelude.{sum_by}
use Rattle.std.proofs.lemmas.Bool.{cases_lt}
use Rattle.std.proofs.lemmas.List.{get_or-take, length-take-le, take_all}
use Rattle.std.proofs.lemmas.List.Sums.{sum_by_more}
use Rattle.md_clique.specs.declared.adjacency.Adjacency.{Adjacency}
use Rattle.md_clique.specs.Search.{Kept, Stands, MaySkip, AreWaiting, AreSettled, IsLeft, last_pending, nothing_pending, pending_at}
use Rattle.md_clique.specs.Kept.{looks, work}

module _ (links : List (ℕ × ℕ)) (lists : Adjacency) (k : Kept) (stands : Stands links lists None k) (may : MaySkip k) where
  shorter : length (take (length k.pending - 1) k.pending) ≡ length k.pending - 1
  shorter = length-take-le (length k.pending - 1) k.pending (omega arith)

  kept_at : (a : ℕ) → a < length k.pending - 1 → pending_at (take (length k.pending - 1) k.pending) a ≡ pending_at k.pending a
  kept_at a h = get_or-take (length k.pending - 1) k.pending a nothing_pending h

  new_waiting : AreWaiting lists.starts.items (take (length k.pending - 1) k.pending) k.trail
  new_waiting = record {
    rising = λ a b le h. let n = shorter in rw (kept_at a (omega arith), kept_at b (omega arith)) (stands.waiting.rising a b le (omega arith));
    within = λ a h. let n = shorter in rw (kept_at a (omega arith)) (stands.waiting.within a (omega arith));
    begins = λ a h. let n = shorter in rw (kept_at a (omega arith)) (stands.waiting.begins a (omega arith));
    some = λ a h. let n = shorter in rw (kept_at a (omega arith)) (stands.waiting.some a (omega arith));
    theirs = λ a h. let n = shorter in rw (kept_at a (omega arith)) (stands.waiting.theirs a (omega arith));
  }

  -- nothing was left of the last one
  still_left : (i p : ℕ) → i < length k.trail → get_or lists.starts.items (get_or k.trail i 0) 0 ≤ p → IsLeft k.pending i p → IsLeft (take (length k.pending - 1) k.pending) i p
  still_left i p there from left = let at : left.0 < length k.pending = left.1 in elim (cases_lt left.0 (length k.pending - 1)) [
    | inl l ↦ (left.0, rw shorter l, rw (kept_at left.0 l) left.2, rw (kept_at left.0 l) left.3)
    | inr g ↦ (
        let last : left.0 ≡ length k.pending - 1 = omega arith in
        let place : (last_pending k.pending).place ≡ i = rw last at left.2 in
        let below : p < (last_pending k.pending).to = rw last at left.3 in
        let some = may.some in
        let begins : (last_pending k.pending).from ≡ get_or lists.starts.items (get_or k.trail i 0) 0 = rw place at (stands.waiting.begins (length k.pending - 1) (omega arith)) in
        let none = may.none_left in
        absurd (omega arith))
  ]

  new_settled : AreSettled lists None (record k { pending = take (length k.pending - 1) k.pending })
  new_settled = record {
    settled = λ i p there from to. elim (stands.settled.settled i p there from to) [
      | inl left ↦ inl (still_left i p there from left)
      | inr done ↦ inr done
    ];
  }

  pub skip_stands : Stands links lists None (record k { pending = take (length k.pending - 1) k.pending })
  skip_stands = record { trail = stands.trail; parts = stands.parts; waiting = new_waiting; walked = stands.walked; settled = new_settled; closed = stands.closed; room = stands.room }

  -- the sum without the last one
  less : sum_by looks (take (length k.pending - 1) k.pending) + looks (last_pending k.pending) ≡ sum_by looks k.pending
  less =
      let some = may.some in
      let on : length k.pending - 1 + 1 ≡ length k.pending = omega arith in
      let all : take (length k.pending) k.pending ≡ k.pending = take_all (length k.pending) k.pending (omega arith) in
      let more : sum_by looks (take (length k.pending - 1 + 1) k.pending) ≡ sum_by looks (take (length k.pending - 1) k.pending) + looks (last_pending k.pending) = sum_by_more looks k.pending (length k.pending - 1) nothing_pending (omega arith) in
      sym (rw (on, all) at more)

  pub skip_works : work lists (record k { pending = take (length k.pending - 1) k.pending }) < work lists k
  skip_works = let e = less in omega arith
