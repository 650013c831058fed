-- A new node is entered, at the end of the trail.
use Rattle.std.proofs.Common.{◌≡◌, ◌⊎◌, ℕ, ◌+◌, ◌*◌, ◌<◌, List, [], ◌∷◌, ◌++◌, length, get_or, set, cond, ◌^◌, Some, None, refl, sym, subst, ◌∙◌, inl, inr, arith}
use Rattle.std.proofs.lemmas.Bool.{cases_lt, cases_eq}
use Rattle.std.proofs.lemmas.List.{get_or-set_same, get_or-set_other, length-set, get_or_append_left, get_or_push, length_push}
use Rattle.std.specs.Prelude.{sum_by}
use Rattle.std.proofs.lemmas.List.Sums.{sum_by-set, sum_by_push}
use Rattle.md_trace.specs.Reaches.{here}
use Rattle.md_clique.specs.declared.search.State.{State}
use Rattle.md_clique.specs.declared.search.State.TheVariants.{New, Open, Closed}
use Rattle.md_clique.specs.declared.adjacency.Adjacency.{Adjacency}
use Rattle.md_clique.specs.declared.search.Pending.{Pending}
use Rattle.md_clique.specs.Links.{AreListed, AreWithin, start_of, end_of}
use Rattle.md_clique.specs.Search.{Kept, Stands, MayEnter, IsTrail, AreParts, AreWaiting, AreWalked, AreSettled, AreClosed, HasRoom, IsLeft, IsSettled, nothing_pending, pending_at, state_of, is_new, count_new, NoneRenewed}
use Rattle.md_clique.specs.Kept.{looks, work}
use Rattle.md_clique.proofs.Parts.{not_later_push, not_later_before}

mul_more : (a b : ℕ) → a * (b + 1) ≡ a * b + a
mul_more a b = omega arith

-- a node that is excepted may be any where nothing is
pub excepts : (links : List (ℕ × ℕ)) (lists : Adjacency) (k : Kept) (v : ℕ) → Stands links lists None k → Stands links lists (Some v) k
excepts links lists k v stands = record {
  trail = stands.trail;
  parts = stands.parts;
  waiting = stands.waiting;
  walked = stands.walked;
  settled = record {
    settled = λ i p there from to. elim (stands.settled.settled i p there from to) [
      | inl left ↦ inl left
      | inr done ↦ elim done [
        | inl settled ↦ inr (inl settled)
        | inr but ↦ (let none : None ≡ Some (get_or lists.ends.items p 0) = but in cc)
      ]
    ];
  };
  closed = stands.closed;
  room = stands.room;
}

module _ (links : List (ℕ × ℕ)) (lists : Adjacency) (k : Kept) (within : AreWithin links (length k.states)) (listed : AreListed links (length k.states) lists.starts.items lists.ends.items) (v : ℕ) (stands : Stands links lists (Some v) k) (may : MayEnter links k v) where
  at_v : state_of (set k.states v (Open (length k.trail))) v ≡ Open (length k.trail)
  at_v = get_or-set_same k.states v (Open (length k.trail)) New may.there

  elsewhere : (u : ℕ) → (u ≡ v → ⊥) → state_of (set k.states v (Open (length k.trail))) u ≡ state_of k.states u
  elsewhere u ne = get_or-set_other k.states v u (Open (length k.trail)) New ne

  -- a node that isn't new is another
  other : (u : ℕ) (s : State) → state_of k.states u ≡ s → (New ≡ s → ⊥) → u ≡ v → ⊥
  other u s is not_new e = not_new (sym may.is_new ∙ (rw (← e) is))

  trail_old : (i : ℕ) → i < length k.trail → get_or (k.trail ++ v ∷ []) i 0 ≡ get_or k.trail i 0
  trail_old i h = get_or_append_left k.trail (v ∷ []) 0 i h

  trail_top : get_or (k.trail ++ v ∷ []) (length k.trail) 0 ≡ v
  trail_top = get_or_push k.trail v 0 (length k.trail) refl

  longer : length (k.trail ++ v ∷ []) ≡ length k.trail + 1
  longer = length_push k.trail v

  new_trail : IsTrail (k.trail ++ v ∷ []) (set k.states v (Open (length k.trail)))
  new_trail = record {
    placed = λ i there. let n = longer in elim (cases_lt i (length k.trail)) [
      | inl l ↦ rw (trail_old i l, elsewhere (get_or k.trail i 0) (other (get_or k.trail i 0) (Open i) (stands.trail.placed i l) (λ h. cc))) (stands.trail.placed i l)
      | inr g ↦ (let e : i ≡ length k.trail = omega arith in rw (e, trail_top) at_v)
    ];
    opened = λ u i is. let n = longer in elim (cases_eq u v) [
      | inl e ↦ (let o : Open i ≡ Open (length k.trail) = sym is ∙ (rw e at_v) in let same : i ≡ length k.trail = cc in (omega arith, rw (same, e) trail_top))
      | inr ne ↦ (let o = stands.trail.opened u i (sym (elsewhere u ne) ∙ is) in let lt : i < length k.trail = o.0 in (omega arith, rw (trail_old i o.0) o.1))
    ];
  }

  new_parts : AreParts (k.first ++ length k.trail ∷ []) (length (k.trail ++ v ∷ []))
  new_parts = record {
    covers = λ none. let n = length_push k.first (length k.trail) in absurd (omega arith);
    bottom = elim (cases_lt 0 (length k.first)) [
      | inl l ↦ rw (get_or_append_left k.first (length k.trail ∷ []) 0 0 l) stands.parts.bottom
      | inr g ↦ (let z : length k.first ≡ 0 = omega arith in let t : length k.trail ≡ 0 = stands.parts.covers z in rw (get_or_push k.first (length k.trail) 0 0 z) t)
    ];
    rising = λ a b lt h. let n = length_push k.first (length k.trail) in elim (cases_lt b (length k.first)) [
      | inl l ↦ (let la : a < length k.first = omega arith in rw (get_or_append_left k.first (length k.trail ∷ []) 0 a la, get_or_append_left k.first (length k.trail ∷ []) 0 b l) (stands.parts.rising a b lt l))
      | inr g ↦ (let e : length k.first ≡ b = omega arith in let la : a < length k.first = omega arith in
          rw (get_or_append_left k.first (length k.trail ∷ []) 0 a la, get_or_push k.first (length k.trail) 0 b e) (stands.parts.within a la))
    ];
    within = λ a h. let n = length_push k.first (length k.trail) in let m = longer in elim (cases_lt a (length k.first)) [
      | inl l ↦ (let w = stands.parts.within a l in rw (get_or_append_left k.first (length k.trail ∷ []) 0 a l) (omega arith))
      | inr g ↦ (let e : length k.first ≡ a = omega arith in rw (get_or_push k.first (length k.trail) 0 a e) (omega arith))
    ];
  }

  -- it is pending, with all its links
  abbrev its : Pending
  its = record { place = length k.trail; from = get_or lists.starts.items v 0; to = get_or lists.starts.items (v + 1) 0 }

  more : length (k.pending ++ its ∷ []) ≡ length k.pending + 1
  more = length_push k.pending its

  old_pending : (a : ℕ) → a < length k.pending → pending_at (k.pending ++ its ∷ []) a ≡ pending_at k.pending a
  old_pending a lt = get_or_append_left k.pending (its ∷ []) nothing_pending a lt

  new_pending : (a : ℕ) → length k.pending ≡ a → pending_at (k.pending ++ its ∷ []) a ≡ its
  new_pending a e = get_or_push k.pending its nothing_pending a e

  new_waiting : AreWaiting lists.starts.items (k.pending ++ its ∷ []) (k.trail ++ v ∷ [])
  new_waiting = record {
    rising = λ a b le h. let n = more in elim (cases_lt b (length k.pending)) [
      | inl l ↦ (let la : a < length k.pending = omega arith in rw (old_pending a la, old_pending b l) (stands.waiting.rising a b le l))
      | inr g ↦ (let e : length k.pending ≡ b = omega arith in elim (cases_lt a (length k.pending)) [
        | inl la ↦ (let w = stands.waiting.within a la in rw (old_pending a la, new_pending b e) (omega arith))
        | inr ga ↦ (let same : length k.pending ≡ a = omega arith in rw (new_pending a same, new_pending b e) (omega arith))
      ])
    ];
    within = λ a h. let n = more in let m = longer in elim (cases_lt a (length k.pending)) [
      | inl l ↦ (let w = stands.waiting.within a l in rw (old_pending a l) (omega arith))
      | inr g ↦ (let e : length k.pending ≡ a = omega arith in rw (new_pending a e) (omega arith))
    ];
    begins = λ a h. let n = more in elim (cases_lt a (length k.pending)) [
      | inl l ↦ rw (old_pending a l, trail_old (pending_at k.pending a).place (stands.waiting.within a l)) (stands.waiting.begins a l)
      | inr g ↦ (let e : length k.pending ≡ a = omega arith in rw (new_pending a e, trail_top) refl)
    ];
    some = λ a h. let n = more in elim (cases_lt a (length k.pending)) [
      | inl l ↦ rw (old_pending a l) (stands.waiting.some a l)
      | inr g ↦ (let e : length k.pending ≡ a = omega arith in rw (new_pending a e) (listed.rising v may.there))
    ];
    theirs = λ a h. let n = more in elim (cases_lt a (length k.pending)) [
      | inl l ↦ rw (old_pending a l, trail_old (pending_at k.pending a).place (stands.waiting.within a l)) (stands.waiting.theirs a l)
      | inr g ↦ (let e : length k.pending ≡ a = omega arith in rw (new_pending a e, trail_top) (omega arith))
    ];
  }

  -- what was left is left
  still_left : (i p : ℕ) → IsLeft k.pending i p → IsLeft (k.pending ++ its ∷ []) i p
  still_left i p left = let n = more in let at : left.0 < length k.pending = left.1 in (left.0, omega arith, rw (old_pending left.0 left.1) left.2, rw (old_pending left.0 left.1) left.3)

  new_walked : AreWalked links (k.first ++ length k.trail ∷ []) (k.trail ++ v ∷ [])
  new_walked = record {
    reaches = λ i j li lj not_later. let m = longer in elim (cases_lt i (length k.trail)) [
      | inl old ↦ elim (cases_lt j (length k.trail)) [
        | inl both ↦ rw (trail_old i old, trail_old j both) (stands.walked.reaches i j old both (not_later_before k.first (length k.trail) i j not_later))
        | inr last ↦ (let e : j ≡ length k.trail = omega arith in rw (e, trail_old i old, trail_top) (may.reached i old))
      ]
      | inr g ↦ (let ei : i ≡ length k.trail = omega arith in elim (cases_lt j (length k.trail)) [
        | inl low ↦ (
            let n = length_push k.first (length k.trail) in
            let e : get_or (k.first ++ length k.trail ∷ []) (length k.first) 0 ≡ length k.trail = get_or_push k.first (length k.trail) 0 (length k.first) refl in
            let lt : i < get_or (k.first ++ length k.trail ∷ []) (length k.first) 0 = not_later (length k.first) (omega arith) (omega arith) in
            absurd (omega arith))
        | inr last ↦ (let ej : j ≡ length k.trail = omega arith in rw (ei, ej) (here (get_or (k.trail ++ v ∷ []) (length k.trail) 0)))
      ])
    ];
  }

  -- what was settled is settled, and so is the node itself
  still_settled : (i u : ℕ) → i < length k.trail → IsSettled k.first k.states i u → IsSettled (k.first ++ length k.trail ∷ []) (set k.states v (Open (length k.trail))) i u
  still_settled i u old was = elim was [
    | inl closed ↦ inl (closed.0, elsewhere u (other u (Closed closed.0) closed.1 (λ h. cc)) ∙ closed.1)
    | inr o ↦ inr (o.0, elsewhere u (other u (Open o.0) o.1 (λ h. cc)) ∙ o.1, not_later_push k.first (length k.trail) i o.0 old o.2)
  ]

  itself : (i : ℕ) → i < length k.trail → IsSettled (k.first ++ length k.trail ∷ []) (set k.states v (Open (length k.trail))) i v
  itself i old = inr (
    length k.trail,
    at_v,
    λ c lt above. let n = length_push k.first (length k.trail) in elim (cases_lt c (length k.first)) [
      | inl l ↦ (let w = stands.parts.within c l in let e = get_or_append_left k.first (length k.trail ∷ []) 0 c l in absurd (omega arith))
      | inr g ↦ (let e = get_or_push k.first (length k.trail) 0 c (omega arith) in omega arith)
    ],
  )

  abbrev pub entered : Kept
  entered = record k { trail = k.trail ++ v ∷ []; first = k.first ++ length k.trail ∷ []; pending = k.pending ++ its ∷ []; states = set k.states v (Open (length k.trail)) }

  its_left : (i p : ℕ) → i ≡ length k.trail → p < get_or lists.starts.items (get_or (k.trail ++ v ∷ []) i 0 + 1) 0 → IsLeft (k.pending ++ its ∷ []) i p
  its_left i p e to =
      let n = more in
      let last = new_pending (length k.pending) refl in
      (length k.pending, omega arith, rw last (sym e), rw last (rw (e, trail_top) at to))

  new_settled : AreSettled lists None entered
  new_settled = record {
    settled = λ i p there from to. let m = longer in elim (cases_lt i (length k.trail)) as (λ _. IsLeft (k.pending ++ its ∷ []) i p ⊎ (IsSettled (k.first ++ length k.trail ∷ []) (set k.states v (Open (length k.trail))) i (get_or lists.ends.items p 0) ⊎ (None ≡ Some (get_or lists.ends.items p 0)))) [
      | inl old ↦ elim (stands.settled.settled i p old (rw (trail_old i old) at from) (rw (trail_old i old) at to)) [
        | inl left ↦ inl (still_left i p left)
        | inr done ↦ elim done [
          | inl settled ↦ inr (inl (still_settled i (get_or lists.ends.items p 0) old settled))
          | inr but ↦ (let same : v ≡ get_or lists.ends.items p 0 = cc in inr (inl (subst (λ (u : ℕ). IsSettled (k.first ++ length k.trail ∷ []) (set k.states v (Open (length k.trail))) i u) same (itself i old))))
        ]
      ]
      | inr g ↦ inl (its_left i p (omega arith) to)
    ];
  }

  was_closed : (u c : ℕ) → state_of (set k.states v (Open (length k.trail))) u ≡ Closed c → state_of k.states u ≡ Closed c
  was_closed u c is = elim (cases_eq u v) [
    | inl e ↦ (let o : Closed c ≡ Open (length k.trail) = sym is ∙ (rw e at_v) in cc)
    | inr ne ↦ sym (elsewhere u ne) ∙ is
  ]

  new_closed : AreClosed links (set k.states v (Open (length k.trail))) k.count
  new_closed = record {
    together = λ a b c ca cb. stands.closed.together a b c (was_closed a c ca) (was_closed b c cb);
    falls = λ t c lt st. let f = stands.closed.falls t c lt (was_closed (start_of links t) c st) in
        (f.0, elsewhere (end_of links t) (other (end_of links t) (Closed f.0) f.1 (λ h. cc)) ∙ f.1, f.2);
    below = λ u c is. stands.closed.below u c (was_closed u c is);
  }

  fewer : count_new (set k.states v (Open (length k.trail))) + 1 ≡ count_new k.states
  fewer =
      let f : State → ℕ = λ s. cond (is_new s) 1 0 in
      let s : count_new (set k.states v (Open (length k.trail))) + f (state_of k.states v) ≡ count_new k.states + f (Open (length k.trail)) = sum_by-set f k.states v (Open (length k.trail)) New may.there in
      let e : f (state_of k.states v) ≡ 1 = rw may.is_new refl in
      omega arith

  new_room : HasRoom (k.trail ++ v ∷ []) (k.first ++ length k.trail ∷ []) (set k.states v (Open (length k.trail))) k.count
  new_room = record {
    on_trail = let m = longer in let f = fewer in let r = stands.room.on_trail in rw length-set (omega arith);
    in_classes = let n = length_push k.first (length k.trail) in let f = fewer in let r = stands.room.in_classes in rw length-set (omega arith);
    fits = rw length-set stands.room.fits;
  }

  -- there is a place for it
  pub enter_fits : length k.trail < 2 ^ 32
  enter_fits = let f = fewer in let r = stands.room.on_trail in let b = stands.room.fits in omega arith

  pub enter_stands : Stands links lists None entered
  enter_stands = record { trail = new_trail; parts = new_parts; waiting = new_waiting; walked = new_walked; settled = new_settled; closed = new_closed; room = new_room }

  -- it has no more links than there are
  pub enter_works : work lists entered < work lists k
  enter_works =
      let f = fewer in
      let n = length_push k.first (length k.trail) in
      let p : sum_by looks (k.pending ++ its ∷ []) ≡ sum_by looks k.pending + looks its = sum_by_push looks k.pending its in
      let to = listed.within v may.there in
      let times : (length lists.ends.items + 4) * (count_new (set k.states v (Open (length k.trail))) + 1) ≡ (length lists.ends.items + 4) * count_new (set k.states v (Open (length k.trail))) + (length lists.ends.items + 4) = mul_more (length lists.ends.items + 4) (count_new (set k.states v (Open (length k.trail)))) in
      let was = rw f at times in
      omega arith

  pub enter_renews : NoneRenewed k.states (set k.states v (Open (length k.trail)))
  enter_renews = record {
    each = length-set k.states v (Open (length k.trail));
    seen = λ u fresh. elim (cases_eq u v) [
      | inl e ↦ rw e may.is_new
      | inr ne ↦ sym (elsewhere u ne) ∙ fresh
    ];
  }
