-- The last part is closed as a class.
use Rattle.std.proofs.Common.{◌≡◌, ◌≢◌, ℕ, suc, ◌+◌, ◌*◌, ◌-◌, ◌<◌, ◌≤◌, ◌⊎◌, Bool, cond, List, [], ◌∷◌, length, get_or, take, drop, ◌^◌, Some, None, refl, sym, ap, ◌∙◌, inl, inr, arith}
use Rattle.std.proofs.lemmas.Bool.{cases_lt}
use Rattle.std.proofs.lemmas.List.{get_or-take, length-take-le, get_or_past, get_or-drop, length-drop}
use Rattle.std.proofs.lemmas.List.Sums.{sum_by-cons}
use Rattle.md_trace.specs.Reaches.{Reaches}
use Rattle.md_clique.specs.declared.search.State.{State}
use Rattle.md_clique.specs.declared.search.State.TheVariants.{New, Open, Closed}
use Rattle.md_clique.specs.declared.adjacency.Adjacency.{Adjacency}
use Rattle.md_clique.specs.Links.{AreListed, start_of, end_of}
use Rattle.md_clique.specs.Search.{Kept, Stands, MayClose, IsTrail, AreParts, AreWaiting, AreWalked, AreSettled, AreClosed, HasRoom, IsLeft, IsSettled, last_first, pending_at, state_of, is_new, count_new, NoneRenewed}
use Rattle.md_clique.specs.Kept.{work}
use Rattle.md_clique.proofs.Parts.{not_later_than_last, not_later_joined, not_later_apart}

-- lists that are new at the same places have as many new nodes
pub count_same : (xs ys : List State) → length xs ≡ length ys → ((i : ℕ) → i < length xs → is_new (get_or xs i New) ≡ is_new (get_or ys i New)) → count_new xs ≡ count_new ys
count_same [] [] e same = refl
count_same [] (y ∷ ys) e same = absurd (omega arith)
count_same (x ∷ xs) [] e same = absurd (omega arith)
count_same (x ∷ xs) (y ∷ ys) e same =
    let f : State → ℕ = λ s. cond (is_new s) 1 0 in
    let first : is_new x ≡ is_new y = same 0 (omega arith) in
    let rest : count_new xs ≡ count_new ys = count_same xs ys (omega arith) (λ i h. same (suc i) (omega arith)) in
    let head : f x ≡ f y = ap (λ (b : Bool). cond b 1 0) first in
    let cx : count_new (x ∷ xs) ≡ f x + count_new xs = sum_by-cons f x xs in
    let cy : count_new (y ∷ ys) ≡ f y + count_new ys = sum_by-cons f y ys in
    omega arith

-- what a state is
pub what_is : (s : State) → ((s ≡ New) ⊎ ((i : ℕ) × (s ≡ Open i))) ⊎ ((c : ℕ) × (s ≡ Closed c))
what_is New = inl (inl refl)
what_is (Open i) = inl (inr (i, refl))
what_is (Closed c) = inr (c, refl)

-- the nodes from a place of the trail on are closed as a class, and no other changes
pub record Closes (trail : List ℕ) (s class : ℕ) (old new : List State) : Type 0 where
  pub each : length new ≡ length old
  pub shut : (i : ℕ) → s ≤ i → i < length trail → state_of new (get_or trail i 0) ≡ Closed class
  pub others : (v : ℕ) → ((i : ℕ) → s ≤ i → i < length trail → get_or trail i 0 ≢ v) → state_of new v ≡ state_of old v

module _ (links : List (ℕ × ℕ)) (lists : Adjacency) (k : Kept) (listed : AreListed links (length k.states) lists.starts.items lists.ends.items) (stands : Stands links lists None k) (may : MayClose k) (states : List State) (closes : Closes k.trail (last_first k.first) k.count k.states states) where
  same_new : (v : ℕ) → state_of k.states v ≡ New → state_of states v ≡ New
  same_new v is = closes.others v (λ i le lt e. let o : New ≡ Open i = sym is ∙ (rw (← e) (stands.trail.placed i lt)) in cc) ∙ is

  same_closed : (v c : ℕ) → state_of k.states v ≡ Closed c → state_of states v ≡ Closed c
  same_closed v c is = closes.others v (λ i le lt e. let o : Closed c ≡ Open i = sym is ∙ (rw (← e) (stands.trail.placed i lt)) in cc) ∙ is

  same_open : (v j : ℕ) → state_of k.states v ≡ Open j → j < last_first k.first → state_of states v ≡ Open j
  same_open v j is below = closes.others v (λ i le lt e. let o : Open j ≡ Open i = sym is ∙ (rw (← e) (stands.trail.placed i lt)) in let q : j ≡ i = cc in absurd (omega arith)) ∙ is

  shut_open : (v j : ℕ) → state_of k.states v ≡ Open j → last_first k.first ≤ j → state_of states v ≡ Closed k.count
  shut_open v j is le = let o = stands.trail.opened v j is in rw (o.1) at (closes.shut j le o.0)

  was_new : (v : ℕ) → state_of states v ≡ New → state_of k.states v ≡ New
  was_new v is = elim (what_is (state_of k.states v)) [
    | inl w ↦ elim w [
      | inl n ↦ n
      | inr o ↦ elim (cases_lt o.0 (last_first k.first)) [
        | inl below ↦ (let q : New ≡ Open o.0 = sym is ∙ same_open v o.0 o.1 below in cc)
        | inr above ↦ (let q : New ≡ Closed k.count = sym is ∙ shut_open v o.0 o.1 above in cc)
      ]
    ]
    | inr c ↦ (let q : New ≡ Closed c.0 = sym is ∙ same_closed v c.0 c.1 in cc)
  ]

  was_open : (v j : ℕ) → state_of states v ≡ Open j → (state_of k.states v ≡ Open j) × (j < last_first k.first)
  was_open v j is = elim (what_is (state_of k.states v)) [
    | inl w ↦ elim w [
      | inl n ↦ (let q : Open j ≡ New = sym is ∙ same_new v n in cc)
      | inr o ↦ elim (cases_lt o.0 (last_first k.first)) [
        | inl below ↦ (let q : Open j ≡ Open o.0 = sym is ∙ same_open v o.0 o.1 below in let e : o.0 ≡ j = cc in (rw e at (o.1), rw e at below))
        | inr above ↦ (let q : Open j ≡ Closed k.count = sym is ∙ shut_open v o.0 o.1 above in cc)
      ]
    ]
    | inr c ↦ (let q : Open j ≡ Closed c.0 = sym is ∙ same_closed v c.0 c.1 in cc)
  ]

  was_closed : (v d : ℕ) → state_of states v ≡ Closed d → (state_of k.states v ≡ Closed d) ⊎ ((j : ℕ) × (state_of k.states v ≡ Open j) × (last_first k.first ≤ j) × (d ≡ k.count))
  was_closed v d is = elim (what_is (state_of k.states v)) [
    | inl w ↦ elim w [
      | inl n ↦ (let q : Closed d ≡ New = sym is ∙ same_new v n in cc)
      | inr o ↦ elim (cases_lt o.0 (last_first k.first)) [
        | inl below ↦ (let q : Closed d ≡ Open o.0 = sym is ∙ same_open v o.0 o.1 below in cc)
        | inr above ↦ (let q : Closed d ≡ Closed k.count = sym is ∙ shut_open v o.0 o.1 above in let e : d ≡ k.count = cc in inr (o.0, o.1, above, e))
      ]
    ]
    | inr c ↦ (let q : Closed d ≡ Closed c.0 = sym is ∙ same_closed v c.0 c.1 in let e : c.0 ≡ d = cc in inl (rw e at (c.1)))
  ]

  top_within : last_first k.first < length k.trail
  top_within = let some = may.some in stands.parts.within (length k.first - 1) (omega arith)

  cut : length (take (last_first k.first) k.trail) ≡ last_first k.first
  cut = let t = top_within in length-take-le (last_first k.first) k.trail (omega arith)

  trail_at : (i : ℕ) → i < last_first k.first → get_or (take (last_first k.first) k.trail) i 0 ≡ get_or k.trail i 0
  trail_at i h = get_or-take (last_first k.first) k.trail i 0 h

  shorter : length (take (length k.first - 1) k.first) ≡ length k.first - 1
  shorter = length-take-le (length k.first - 1) k.first (omega arith)

  first_at : (a : ℕ) → a < length k.first - 1 → get_or (take (length k.first - 1) k.first) a 0 ≡ get_or k.first a 0
  first_at a h = get_or-take (length k.first - 1) k.first a 0 h

  new_trail : IsTrail (take (last_first k.first) k.trail) states
  new_trail = record {
    placed = λ i h. let c = cut in let t = top_within in let lt : i < last_first k.first = omega arith in
        rw (trail_at i lt) (same_open (get_or k.trail i 0) i (stands.trail.placed i (omega arith)) lt);
    opened = λ v i is. let w = was_open v i is in let o = stands.trail.opened v i w.0 in
        (rw cut w.1, trail_at i w.1 ∙ o.1);
  }

  new_parts : AreParts (take (length k.first - 1) k.first) (length (take (last_first k.first) k.trail))
  new_parts = record {
    covers = λ none. let n = shorter in let some = may.some in let z : length k.first - 1 ≡ 0 = omega arith in
        let b : last_first k.first ≡ 0 = rw z stands.parts.bottom in cut ∙ b;
    bottom = elim (cases_lt 0 (length k.first - 1)) [
      | inl l ↦ first_at 0 l ∙ stands.parts.bottom
      | inr g ↦ (let n = shorter in get_or_past (take (length k.first - 1) k.first) 0 0 (omega arith))
    ];
    rising = λ a b lt h. let n = shorter in rw (first_at a (omega arith), first_at b (omega arith)) (stands.parts.rising a b lt (omega arith));
    within = λ a h. let n = shorter in let lt : a < length k.first - 1 = omega arith in
        rw (first_at a lt, cut) (stands.parts.rising a (length k.first - 1) lt (omega arith));
  }

  new_waiting : AreWaiting lists.starts.items k.pending (take (last_first k.first) k.trail)
  new_waiting = record {
    rising = stands.waiting.rising;
    within = λ a h. rw cut (may.none_pending a h);
    begins = λ a h. rw (trail_at (pending_at k.pending a).place (may.none_pending a h)) (stands.waiting.begins a h);
    some = stands.waiting.some;
    theirs = λ a h. rw (trail_at (pending_at k.pending a).place (may.none_pending a h)) (stands.waiting.theirs a h);
  }

  new_walked : AreWalked links (take (length k.first - 1) k.first) (take (last_first k.first) k.trail)
  new_walked = record {
    reaches = λ i j hi hj not_later. let c = cut in let t = top_within in
        let li : i < last_first k.first = omega arith in let lj : j < last_first k.first = omega arith in
        rw (trail_at i li, trail_at j lj) (stands.walked.reaches i j (omega arith) (omega arith) (not_later_apart k.first i j not_later (λ h. li)));
  }

  abbrev pub closed : Kept
  closed = record k { trail = take (last_first k.first) k.trail; first = take (length k.first - 1) k.first; states = states; count = k.count + 1 }

  still_settled : (i u : ℕ) → IsSettled k.first k.states i u → IsSettled (take (length k.first - 1) k.first) states i u
  still_settled i u was = elim was [
    | inl c ↦ inl (c.0, same_closed u c.0 c.1)
    | inr o ↦ elim (cases_lt o.0 (last_first k.first)) [
      | inl below ↦ inr (o.0, same_open u o.0 o.1 below, not_later_joined k.first i o.0 o.2)
      | inr above ↦ inl (k.count, shut_open u o.0 o.1 above)
    ]
  ]

  new_settled : AreSettled lists None closed
  new_settled = record {
    settled = λ i p h from to. let c = cut in let top = top_within in let li : i < last_first k.first = omega arith in
        elim (stands.settled.settled i p (omega arith) (rw (trail_at i li) at from) (rw (trail_at i li) at to)) [
          | inl left ↦ inl left
          | inr done ↦ elim done [
            | inl settled ↦ inr (inl (still_settled i (get_or lists.ends.items p 0) settled))
            | inr but ↦ inr (inr but)
          ]
        ];
  }

  -- no link of the last part is left
  none_left : (i p : ℕ) → last_first k.first ≤ i → IsLeft k.pending i p → ⊥
  none_left i p le left = let low = may.none_pending left.0 left.1 in let e : (pending_at k.pending left.0).place ≡ i = left.2 in absurd (omega arith)

  -- a link from the last part ends at a node that is closed now
  ends_closed : (t : ℕ) → t < length links → (i : ℕ) → state_of k.states (start_of links t) ≡ Open i → last_first k.first ≤ i → (d : ℕ) × (state_of states (end_of links t) ≡ Closed d) × (d ≤ k.count)
  ends_closed t lt i is le =
      let at = stands.trail.opened (start_of links t) i is in
      let p = listed.all t lt in
      elim (stands.settled.settled i p.0 at.0 (rw at.1 p.1) (rw at.1 p.2)) as (λ _. (d : ℕ) × (state_of states (end_of links t) ≡ Closed d) × (d ≤ k.count)) [
        | inl left ↦ absurd (none_left i p.0 le left)
        | inr done ↦ elim done as (λ _. (d : ℕ) × (state_of states (end_of links t) ≡ Closed d) × (d ≤ k.count)) [
          | inl settled ↦ elim (rw (p.3) at settled) as (λ _. (d : ℕ) × (state_of states (end_of links t) ≡ Closed d) × (d ≤ k.count)) [
            | inl c ↦ (let b = stands.closed.below (end_of links t) c.0 c.1 in (c.0, same_closed (end_of links t) c.0 c.1, omega arith))
            | inr w ↦ elim (cases_lt w.0 (last_first k.first)) as (λ _. (d : ℕ) × (state_of states (end_of links t) ≡ Closed d) × (d ≤ k.count)) [
              | inl below ↦ (let some = may.some in let lo : i < last_first k.first = w.2 (length k.first - 1) (omega arith) below in absurd (omega arith))
              | inr above ↦ (k.count, shut_open (end_of links t) w.0 w.1 above, omega arith)
            ]
          ]
          | inr but ↦ (let none : None ≡ Some (get_or lists.ends.items p.0 0) = but in cc)
        ]
      ]

  in_part : (u v i j : ℕ) → state_of k.states u ≡ Open i → state_of k.states v ≡ Open j → last_first k.first ≤ j → Reaches links u v
  in_part u v i j ou ov le = let a = stands.trail.opened u i ou in let b = stands.trail.opened v j ov in
      rw (a.1, b.1) at (stands.walked.reaches i j a.0 b.0 (not_later_than_last k.first (length k.trail) i j stands.parts le))

  new_closed : AreClosed links states (k.count + 1)
  new_closed = record {
    together = λ u v d cu cv. elim (was_closed u d cu) [
      | inl old_u ↦ elim (was_closed v d cv) [
        | inl old_v ↦ stands.closed.together u v d old_u old_v
        | inr o ↦ (let b = stands.closed.below u d old_u in let e : d ≡ k.count = o.3 in absurd (omega arith))
      ]
      | inr ou ↦ elim (was_closed v d cv) [
        | inl old_v ↦ (let b = stands.closed.below v d old_v in let e : d ≡ k.count = ou.3 in absurd (omega arith))
        | inr ov ↦ in_part u v ou.0 ov.0 ou.1 ov.1 ov.2
      ]
    ];
    falls = λ t c lt is. elim (was_closed (start_of links t) c is) as (λ _. (d : ℕ) × (state_of states (end_of links t) ≡ Closed d) × (d ≤ c)) [
      | inl old ↦ (let f = stands.closed.falls t c lt old in (f.0, same_closed (end_of links t) f.0 f.1, f.2))
      | inr o ↦ (let e : c ≡ k.count = o.3 in rw e (ends_closed t lt o.0 o.1 o.2))
    ];
    below = λ v d is. elim (was_closed v d is) [
      | inl old ↦ (let b = stands.closed.below v d old in omega arith)
      | inr o ↦ (let e : d ≡ k.count = o.3 in omega arith)
    ];
  }

  as_many : count_new states ≡ count_new k.states
  as_many = count_same states k.states closes.each (λ i h. elim (what_is (state_of k.states i)) [
    | inl w ↦ elim w [
      | inl n ↦ rw (n, same_new i n) refl
      | inr o ↦ elim (cases_lt o.0 (last_first k.first)) [
        | inl below ↦ rw (o.1, same_open i o.0 o.1 below) refl
        | inr above ↦ rw (o.1, shut_open i o.0 o.1 above) refl
      ]
    ]
    | inr c ↦ rw (c.1, same_closed i c.0 c.1) refl
  ])

  new_room : HasRoom (take (last_first k.first) k.trail) (take (length k.first - 1) k.first) states (k.count + 1)
  new_room = record {
    on_trail = let c = cut in let t = top_within in let m = as_many in let r = stands.room.on_trail in let e = closes.each in omega arith;
    in_classes = let n = shorter in let m = as_many in let some = may.some in let r = stands.room.in_classes in let e = closes.each in omega arith;
    fits = rw closes.each stands.room.fits;
  }

  pub count_fits : k.count + 1 < 2 ^ 32
  count_fits = let some = may.some in let r = stands.room.in_classes in let f = stands.room.fits in omega arith

  pub close_stands : Stands links lists None closed
  close_stands = record { trail = new_trail; parts = new_parts; waiting = new_waiting; walked = new_walked; settled = new_settled; closed = new_closed; room = new_room }

  pub close_works : work lists closed < work lists k
  close_works =
      let n = shorter in
      let some = may.some in
      let same : (length lists.ends.items + 4) * count_new states ≡ (length lists.ends.items + 4) * count_new k.states = ap (λ (n : ℕ). (length lists.ends.items + 4) * n) as_many in
      omega arith

  pub close_renews : NoneRenewed k.states states
  close_renews = record { each = closes.each; seen = was_new }

-- closing the nodes of the rest of the trail closes them from that place on
pub closes_from_part : (trail : List ℕ) (s class : ℕ) (old new : List State) → length new ≡ length old → ((i : ℕ) → i < length (drop s trail) → state_of new (get_or (drop s trail) i 0) ≡ Closed class) → ((v : ℕ) → ((i : ℕ) → i < length (drop s trail) → get_or (drop s trail) i 0 ≢ v) → state_of new v ≡ state_of old v) → Closes trail s class old new
closes_from_part trail s class old new each shut others = record {
  each = each;
  shut = λ i le lt.
      let n : length (drop s trail) ≡ length trail - s = length-drop s trail in
      let e : get_or (drop s trail) (i - s) 0 ≡ get_or trail (s + (i - s)) 0 = get_or-drop s trail (i - s) 0 in
      let q : s + (i - s) ≡ i = omega arith in
      rw (e, q) at (shut (i - s) (omega arith));
  others = λ v none. others v (λ i lt. let n : length (drop s trail) ≡ length trail - s = length-drop s trail in
      let e : get_or (drop s trail) i 0 ≡ get_or trail (s + i) 0 = get_or-drop s trail i 0 in
      rw e (none (s + i) (omega arith) (omega arith)));
}

-- the nodes of the rest of the trail are there
pub closed_there : (links : List (ℕ × ℕ)) (lists : Adjacency) (k : Kept) (s : ℕ) → Stands links lists None k → (i : ℕ) → i < length (drop s k.trail) → get_or (drop s k.trail) i 0 < length k.states
closed_there links lists k s stands i low =
    let n : length (drop s k.trail) ≡ length k.trail - s = length-drop s k.trail in
    let e : get_or (drop s k.trail) i 0 ≡ get_or k.trail (s + i) 0 = get_or-drop s k.trail i 0 in
    let stood : state_of k.states (get_or k.trail (s + i) 0) ≡ Open (s + i) = stands.trail.placed (s + i) (omega (arith, n, low)) in
    rw e (elim (cases_lt (get_or k.trail (s + i) 0) (length k.states)) [
      | inl there ↦ there
      | inr past ↦ absurd (let new = get_or_past k.states (get_or k.trail (s + i) 0) New past in cc (stood, new))
    ])
