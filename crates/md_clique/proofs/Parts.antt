-- Parts of the trail, and which places stand in a part that is not later.
use Rattle.std.proofs.Common.{◌≡◌, ℕ, ◌+◌, ◌-◌, ◌<◌, ◌≤◌, List, [], ◌∷◌, ◌++◌, length, get_or, take, inl, inr, arith}
use Rattle.std.proofs.lemmas.Bool.{cases_lt}
use Rattle.std.proofs.lemmas.List.{get_or_append_left, get_or_push, length_push, get_or-take, length-take-le}
use Rattle.md_clique.specs.Search.{AreParts, NotLater, last_first}

-- no part begins above the last one
pub le_last : (first : List ℕ) (n k : ℕ) → AreParts first n → k < length first → get_or first k 0 ≤ last_first first
le_last first n k p h =
    elim (cases_lt k (length first - 1)) [
      | inl l ↦ (let r : get_or first k 0 < last_first first = p.rising k (length first - 1) l (omega arith) in omega arith)
      | inr g ↦ (let e : k ≡ length first - 1 = omega arith in rw e (omega arith))
    ]

-- nothing is later than a place of the last part
pub not_later_than_last : (first : List ℕ) (n i j : ℕ) → AreParts first n → last_first first ≤ j → NotLater first i j
not_later_than_last first n i j p h k kl jk = let l : get_or first k 0 ≤ last_first first = le_last first n k p kl in absurd (omega arith)

-- a part that begins above both places changes nothing between them
pub not_later_push : (first : List ℕ) (top i j : ℕ) → i < top → NotLater first i j → NotLater (first ++ top ∷ []) i j
not_later_push first top i j h old k kl jk =
    elim (cases_lt k (length first)) [
      | inl l ↦ (let e : get_or (first ++ top ∷ []) k 0 ≡ get_or first k 0 = get_or_append_left first (top ∷ []) 0 k l in rw e (old k l (rw e at jk)))
      | inr g ↦ (let n : length (first ++ top ∷ []) ≡ length first + 1 = length_push first top in
          let e : get_or (first ++ top ∷ []) k 0 ≡ top = get_or_push first top 0 k (omega arith) in rw e h)
    ]

pub not_later_before : (first : List ℕ) (top i j : ℕ) → NotLater (first ++ top ∷ []) i j → NotLater first i j
not_later_before first top i j new k kl jk =
    let e : get_or (first ++ top ∷ []) k 0 ≡ get_or first k 0 = get_or_append_left first (top ∷ []) 0 k kl in
    let n : length (first ++ top ∷ []) ≡ length first + 1 = length_push first top in
    let r : get_or (first ++ top ∷ []) k 0 ≡ get_or first k 0 → i < get_or first k 0 = λ (q : get_or (first ++ top ∷ []) k 0 ≡ get_or first k 0). rw q at (new k (omega arith) (rw q jk)) in
    r e

-- what is not later stays so where the last part is joined to the one before it
pub not_later_joined : (first : List ℕ) (i j : ℕ) → NotLater first i j → NotLater (take (length first - 1) first) i j
not_later_joined first i j old k kl jk =
    let n : length (take (length first - 1) first) ≡ length first - 1 = length-take-le (length first - 1) first (omega arith) in
    let lt : k < length first - 1 = omega arith in
    let e : get_or (take (length first - 1) first) k 0 ≡ get_or first k 0 = get_or-take (length first - 1) first k 0 lt in
    rw e (old k (omega arith) (rw e at jk))

-- it was so before the join, where no part begins between the two at the last beginning
pub not_later_apart : (first : List ℕ) (i j : ℕ) → NotLater (take (length first - 1) first) i j → (j < last_first first → i < last_first first) → NotLater first i j
not_later_apart first i j new last k kl jk =
    elim (cases_lt k (length first - 1)) [
      | inl l ↦ (
          let n : length (take (length first - 1) first) ≡ length first - 1 = length-take-le (length first - 1) first (omega arith) in
          let e : get_or (take (length first - 1) first) k 0 ≡ get_or first k 0 = get_or-take (length first - 1) first k 0 l in
          rw e at (new k (omega arith) (rw e jk)))
      | inr g ↦ (let e : k ≡ length first - 1 = omega arith in rw e (last (rw e at jk)))
    ]
