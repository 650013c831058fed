-- The last two parts reach each other, and become one.
use Rattle.std.proofs.Common.{◌≡◌, ℕ, ◌-◌, ◌<◌, ◌≤◌, List, length, get_or, take, None, ◌∙◌, inl, inr, arith}
use Rattle.std.proofs.lemmas.Bool.{cases_lt}
use Rattle.std.proofs.lemmas.List.{get_or-take, length-take-le}
use Rattle.md_trace.specs.Reaches.{Reaches}
use Rattle.md_clique.proofs.Walks.{walk_on}
use Rattle.md_clique.specs.declared.adjacency.Adjacency.{Adjacency}
use Rattle.md_clique.specs.Search.{Kept, Stands, MayJoin, AreParts, AreWalked, AreSettled, NotLater, last_first, HasRoom}
use Rattle.md_clique.specs.Kept.{work}
use Rattle.md_clique.proofs.Parts.{not_later_than_last, not_later_joined, not_later_apart}

module _ (links : List (ℕ × ℕ)) (lists : Adjacency) (k : Kept) (stands : Stands links lists None k) (may : MayJoin links k) where
  -- the lowest part begins at 0, so there are two
  two : 1 < length k.first
  two = elim (cases_lt 1 (length k.first)) [
    | inl l ↦ l
    | inr g ↦ (let z : length k.first - 1 ≡ 0 = omega arith in
        let b : last_first k.first ≡ 0 = rw z stands.parts.bottom in
        let e = may.earlier in absurd (omega arith))
  ]

  shorter : length (take (length k.first - 1) k.first) ≡ length k.first - 1
  shorter = length-take-le (length k.first - 1) k.first (omega arith)

  kept_at : (a : ℕ) → a < length k.first - 1 → get_or (take (length k.first - 1) k.first) a 0 ≡ get_or k.first a 0
  kept_at a h = get_or-take (length k.first - 1) k.first a 0 h

  new_parts : AreParts (take (length k.first - 1) k.first) (length k.trail)
  new_parts = record {
    covers = λ none. let n = shorter in let t = two in absurd (omega arith);
    bottom = let t = two in kept_at 0 (omega arith) ∙ stands.parts.bottom;
    rising = λ a b lt h. let n = shorter in rw (kept_at a (omega arith), kept_at b (omega arith)) (stands.parts.rising a b lt (omega arith));
    within = λ a h. let n = shorter in rw (kept_at a (omega arith)) (stands.parts.within a (omega arith));
  }

  -- all of the last part reach the link, and its end reaches all from there on
  crosses : (a b : ℕ) → a < length k.trail → b < length k.trail → last_first k.first ≤ a → b < last_first k.first → NotLater (take (length k.first - 1) k.first) a b → Reaches links (get_or k.trail a 0) (get_or k.trail b 0)
  crosses a b la lb above below not_later =
      let up : Reaches links (get_or k.trail a 0) (get_or k.trail may.i 0) = stands.walked.reaches a may.i la may.above (not_later_than_last k.first (length k.trail) a may.i stands.parts may.in_last) in
      let lj : may.j < length k.trail = (let e = may.earlier in let i = may.in_last in let t = may.above in omega arith) in
      let down : Reaches links (get_or k.trail may.j 0) (get_or k.trail b 0) =
      stands.walked.reaches may.j b lj lb (not_later_apart k.first may.j b
      (λ c cl bc. let n = shorter in let lt : c < length k.first - 1 = omega arith in
      let e = kept_at c lt in
      let m : get_or k.first c 0 < last_first k.first = stands.parts.rising c (length k.first - 1) lt (omega arith) in
      let q : a < get_or (take (length k.first - 1) k.first) c 0 = not_later c cl bc in
      absurd (omega arith))
      (λ h. may.earlier)) in
      walk_on links _ _ _ up (walk_on links _ _ _ may.reached down)

  new_walked : AreWalked links (take (length k.first - 1) k.first) k.trail
  new_walked = record {
    reaches = λ a b la lb not_later. elim (cases_lt b (last_first k.first)) [
      | inl below ↦ elim (cases_lt a (last_first k.first)) [
        | inl under ↦ stands.walked.reaches a b la lb (not_later_apart k.first a b not_later (λ h. under))
        | inr above ↦ crosses a b la lb above below not_later
      ]
      | inr over ↦ stands.walked.reaches a b la lb (not_later_apart k.first a b not_later (λ h. absurd (omega arith)))
    ];
  }

  new_settled : AreSettled lists None (record k { first = take (length k.first - 1) k.first })
  new_settled = record {
    settled = λ i p there from to. elim (stands.settled.settled i p there from to) [
      | inl left ↦ inl left
      | inr done ↦ elim done [
        | inl settled ↦ elim settled [
          | inl closed ↦ inr (inl (inl closed))
          | inr o ↦ inr (inl (inr (o.0, o.1, not_later_joined k.first i o.0 o.2)))
        ]
        | inr but ↦ inr (inr but)
      ]
    ];
  }

  new_room : HasRoom k.trail (take (length k.first - 1) k.first) k.states k.count
  new_room = record { on_trail = stands.room.on_trail; in_classes = let n = shorter in let r = stands.room.in_classes in omega arith; fits = stands.room.fits }

  pub join_stands : Stands links lists None (record k { first = take (length k.first - 1) k.first })
  join_stands = record { trail = stands.trail; parts = new_parts; waiting = stands.waiting; walked = new_walked; settled = new_settled; closed = stands.closed; room = new_room }

  pub join_works : work lists (record k { first = take (length k.first - 1) k.first }) < work lists k
  join_works = let n = shorter in let t = two in omega arith
