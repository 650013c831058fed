-- One link more is looked at.
use Rattle.std.proofs.Common.{◌≡◌, ◌⊎◌, ℕ, ◌+◌, ◌-◌, ◌<◌, ◌≤◌, List, length, get_or, set, Option, Some, None, sym, ap, ◌∙◌, inl, inr, arith}
use Rattle.std.specs.Prelude.{sum_by}
use Rattle.std.proofs.lemmas.Bool.{cases_eq, cases_lt}
use Rattle.std.proofs.lemmas.List.{get_or-set_same, get_or-set_other, length-set}
use Rattle.std.proofs.lemmas.List.Sums.{sum_by-set}
use Rattle.md_clique.specs.declared.adjacency.Adjacency.{Adjacency}
use Rattle.md_clique.specs.declared.search.Pending.{Pending}
use Rattle.md_clique.specs.Search.{Kept, Stands, MayPass, AreWaiting, AreSettled, IsLeft, last_pending, nothing_pending, passed, pending_at}
use Rattle.md_clique.specs.Kept.{looks, work}

-- one link less is left
abbrev lowered : Pending → Pending
lowered w = record w { to = w.to - 1 }

module _ (links : List (ℕ × ℕ)) (lists : Adjacency) (but : Option ℕ) (k : Kept) (stands : Stands links lists None k) (may : MayPass lists but k) where
  last : ℕ
  last = length k.pending - 1

  at : length k.pending - 1 < length k.pending
  at = let some = may.some in omega arith

  new_at : pending_at (set k.pending (length k.pending - 1) (lowered (last_pending k.pending))) (length k.pending - 1) ≡ lowered (last_pending k.pending)
  new_at = get_or-set_same k.pending (length k.pending - 1) (lowered (last_pending k.pending)) nothing_pending at

  old_at : (a : ℕ) → (a ≡ length k.pending - 1 → ⊥) → pending_at (set k.pending (length k.pending - 1) (lowered (last_pending k.pending))) a ≡ pending_at k.pending a
  old_at a other = get_or-set_other k.pending (length k.pending - 1) a (lowered (last_pending k.pending)) nothing_pending other

  size : length (set k.pending (length k.pending - 1) (lowered (last_pending k.pending))) ≡ length k.pending
  size = length-set k.pending (length k.pending - 1) (lowered (last_pending k.pending))

  same_place : (a : ℕ) → (pending_at (set k.pending (length k.pending - 1) (lowered (last_pending k.pending))) a).place ≡ (pending_at k.pending a).place
  same_place a = elim (cases_eq a (length k.pending - 1)) [
    | inl e ↦ rw e (ap (λ (w : Pending). w.place) new_at)
    | inr other ↦ ap (λ (w : Pending). w.place) (old_at a other)
  ]

  same_from : (a : ℕ) → (pending_at (set k.pending (length k.pending - 1) (lowered (last_pending k.pending))) a).from ≡ (pending_at k.pending a).from
  same_from a = elim (cases_eq a (length k.pending - 1)) [
    | inl e ↦ rw e (ap (λ (w : Pending). w.from) new_at)
    | inr other ↦ ap (λ (w : Pending). w.from) (old_at a other)
  ]

  lower_to : (pending_at (set k.pending (length k.pending - 1) (lowered (last_pending k.pending))) (length k.pending - 1)).to ≡ (last_pending k.pending).to - 1
  lower_to = ap (λ (w : Pending). w.to) new_at

  same_to : (a : ℕ) → (a ≡ length k.pending - 1 → ⊥) → (pending_at (set k.pending (length k.pending - 1) (lowered (last_pending k.pending))) a).to ≡ (pending_at k.pending a).to
  same_to a other = ap (λ (w : Pending). w.to) (old_at a other)

  fewer_to : (a : ℕ) → (pending_at (set k.pending (length k.pending - 1) (lowered (last_pending k.pending))) a).to ≤ (pending_at k.pending a).to
  fewer_to a = elim (cases_eq a (length k.pending - 1)) [
    | inl e ↦ (let low = lower_to in rw e (omega arith))
    | inr other ↦ (let same = same_to a other in omega arith)
  ]

  new_waiting : AreWaiting lists.starts.items (set k.pending (length k.pending - 1) (lowered (last_pending k.pending))) k.trail
  new_waiting = record {
    rising = λ a b le h. rw (same_place a, same_place b) (stands.waiting.rising a b le (rw size at h));
    within = λ a h. rw (same_place a) (stands.waiting.within a (rw size at h));
    begins = λ a h. rw (same_place a, same_from a) (stands.waiting.begins a (rw size at h));
    some = λ a h. elim (cases_eq a (length k.pending - 1)) [
      | inl e ↦ (let low = lower_to in let left = may.left in let from = same_from (length k.pending - 1) in rw e (omega arith))
      | inr other ↦ (let was = stands.waiting.some a (rw size at h) in let from = same_from a in let to = same_to a other in omega arith)
    ];
    theirs = λ a h. (let was = stands.waiting.theirs a (rw size at h) in let to = fewer_to a in rw (same_place a) (omega arith));
  }

  -- what was left is left, or it is the link that is passed
  still_left : (i p : ℕ) → IsLeft k.pending i p → IsLeft (set k.pending (length k.pending - 1) (lowered (last_pending k.pending))) i p ⊎ ((i ≡ (last_pending k.pending).place) × (p ≡ (last_pending k.pending).to - 1))
  still_left i p left = elim (cases_eq left.0 (length k.pending - 1)) [
    | inl e ↦ elim (cases_lt p ((last_pending k.pending).to - 1)) [
      | inl less ↦ inl (length k.pending - 1, rw size at, same_place (length k.pending - 1) ∙ (rw e at left.2), rw lower_to less)
      | inr more ↦ (let place : (last_pending k.pending).place ≡ i = rw e at left.2 in let below : p < (last_pending k.pending).to = rw e at left.3 in inr (sym place, omega arith))
    ]
    | inr other ↦ inl (left.0, rw size left.1, same_place left.0 ∙ left.2, rw (same_to left.0 other) left.3)
  ]

  new_settled : AreSettled lists but (passed k)
  new_settled = record {
    settled = λ i p there from to. elim (stands.settled.settled i p there from to) [
      | inl left ↦ elim (still_left i p left) [
        | inl still ↦ inl still
        | inr this ↦ inr (rw (this.0, this.1) may.settled)
      ]
      | inr done ↦ elim done [
        | inl settled ↦ inr (inl settled)
        | inr but ↦ (let none : None ≡ Some (get_or lists.ends.items p 0) = but in cc)
      ]
    ];
  }

  pub pass_stands : Stands links lists but (passed k)
  pass_stands = record { trail = stands.trail; parts = stands.parts; waiting = new_waiting; walked = stands.walked; settled = new_settled; closed = stands.closed; room = stands.room }

  pub pass_works : work lists (passed k) < work lists k
  pass_works =
      let s : sum_by looks (set k.pending (length k.pending - 1) (lowered (last_pending k.pending))) + looks (last_pending k.pending) ≡ sum_by looks k.pending + looks (lowered (last_pending k.pending)) = sum_by-set looks k.pending (length k.pending - 1) (lowered (last_pending k.pending)) nothing_pending at in
      let left = may.left in
      omega arith
