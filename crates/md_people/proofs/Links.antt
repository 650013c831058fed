-- The links of a view, and those of its profile.
use Rattle.std.proofs.Common.{◌≡◌, ℕ, zero, suc, ◌+◌, ◌<◌, Bool, cond, List, [], ◌∷◌, ◌++◌, length, get_or, map, take, refl, sym, ap, ◌∙◌, inl, inr, arith}
use Rattle.std.specs.Prelude.{All, unwrap_or}
use Rattle.std.specs.List.{slice_get}
use Rattle.std.proofs.lemmas.Bool.{cases_Bool}
use Rattle.std.proofs.lemmas.List.{length-take-le, take_more}
use Rattle.std.proofs.lemmas.List.Elements.{All-nil, All-cons, All-weaker}
use Rattle.md_base.specs.declared.measure.Measure.{Measure}
use Rattle.md_dynamic.specs.declared.link.LinkRow.{LinkRow}
use Rattle.md_clique.specs.Places.{places_from, places}
use Rattle.md_clique.proofs.EntryPlaces.{places_from-push}
use Rattle.md_cost.specs.declared.sums.Sums.{Sums}
use Rattle.md_cost.specs.FileView.{join_of}
use Rattle.md_cost.specs.SumOf.{sum_of}
use Rattle.md_cost.specs.View.{Join}
use Rattle.md_people.specs.Counts.{sums_by}

-- the next element passes a test, or it doesn't
pub places_more : {X : Type 0} (p : X → Bool) (xs : List X) (i : ℕ) (x : X) → i < length xs → x ≡ get_or xs i x → places p (take (i + 1) xs) ≡ places p (take i xs) ++ cond (p x) (i ∷ []) []
places_more {X} p xs i x lt is =
    let n : 0 + length (take i xs) ≡ i = (let e = length-take-le i xs (omega arith) in omega arith) in
    ap (λ (ys : List X). places p ys) (take_more xs i x lt)
    ∙ places_from-push p 0 (take i xs) (get_or xs i x)
    ∙ ap (λ (k : ℕ). places p (take i xs) ++ cond (p (get_or xs i x)) (k ∷ []) []) n
    ∙ ap (λ (y : X). places p (take i xs) ++ cond (p y) (i ∷ []) []) (sym is)

places_map_from : {X Y : Type 0} (p : Y → Bool) (g : X → Y) (k : ℕ) (xs : List X) → places_from p k (map g xs) ≡ places_from (λ x. p (g x)) k xs
places_map_from p g k [] = refl
places_map_from p g k (x ∷ xs) =
    let rest = places_map_from p g (k + 1) xs in
    elim (cases_Bool (p (g x))) [
      | inl holds ↦ rw holds (ap (λ (ys : List ℕ). k ∷ ys) rest)
      | inr fails ↦ rw fails rest
    ]

pub places_map : {X Y : Type 0} (p : Y → Bool) (g : X → Y) (xs : List X) → places p (map g xs) ≡ places (λ x. p (g x)) xs
places_map p g xs = places_map_from p g 0 xs

-- a place is within the list
places_below : {X : Type 0} (p : X → Bool) (k : ℕ) (xs : List X) → All (λ q. q < k + length xs) (places_from p k xs)
places_below p k [] = All-nil (λ q. q < k + 0)
places_below p k (x ∷ xs) =
    let rest = All-weaker (λ q. q < (k + 1) + length xs) (λ q. q < k + length (x ∷ xs)) (λ q lt. omega arith) (places_from p (k + 1) xs) (places_below p (k + 1) xs) in
    elim (cases_Bool (p x)) [
      | inl holds ↦ rw holds (All-cons (λ q. q < k + length (x ∷ xs)) k (places_from p (k + 1) xs) (omega arith) rest)
      | inr fails ↦ rw fails rest
    ]

pub places_there : {X : Type 0} (p : X → Bool) (xs : List X) → All (λ q. q < length xs) (places p xs)
places_there p xs = All-weaker (λ q. q < 0 + length xs) (λ q. q < length xs) (λ q lt. omega arith) (places p xs) (places_below p 0 xs)

-- a link of a profile without its counts
pub join_told : (links : List LinkRow) (l : ℕ) (row : LinkRow) (d : Join) → row ≡ get_or links l row → l < length links → unwrap_or (slice_get (map join_of links) l) d ≡ join_of row
join_told [] l row d is lt = absurd (omega arith)
join_told (r ∷ rs) zero row d is lt = ap join_of (sym is)
join_told (r ∷ rs) (suc l) row d is lt = join_told rs l row d is (omega arith)

-- sums that tell numbers by measure
pub sums_told : (s : Sums) (n : Measure → ℕ) → ((m : Measure) → sum_of s m ≡ n m) → s ≡ sums_by n
sums_told s n is = λ i. sums_by (λ (m : Measure). is m i)
