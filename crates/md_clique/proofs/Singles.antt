-- Where no link leads to a lower node, each node is a clique by itself.
use Rattle.std.proofs.Common.{◌≡◌, ℕ, zero, suc, ◌+◌, ◌-◌, ◌<◌, ◌≤◌, eqb, List, [], ◌∷◌, ◌++◌, length, get_or, take, drop, map, All, refl, sym, ap, ◌∙◌, inl, inr, arith}
use Rattle.std.specs.List.{range_with_len}
use Rattle.std.proofs.lemmas.Bool.{cases_eq, eq-eqb, ne_eqb}
use Rattle.std.proofs.lemmas.Option.{slice_get_within, get_or_from_slice_get}
use Rattle.std.proofs.lemmas.List.FromFn.{map-range_with_len_more, length-range_with_len, get_or-range_with_len}
use Rattle.md_trace.specs.Reaches.{Reaches, here, more}
use Rattle.md_trace.specs.Cliques.{AreCliques}
use Rattle.md_clique.specs.Cliques.{clique_count}
use Rattle.md_clique.specs.Members.{AreLaidOut, start_at}
use Rattle.md_clique.specs.Places.{places_from}
use Rattle.md_clique.proofs.Naming.{lt_clique_count, clique_count_le}

map_same : (xs : List ℕ) → map (λ x. x) xs ≡ xs
map_same [] = refl
map_same (x ∷ xs) = ap (λ (ys : List ℕ). x ∷ ys) (map_same xs)

pub range_more : (n : ℕ) → range_with_len 0 (n + 1) ≡ range_with_len 0 n ++ n ∷ []
range_more n = sym (map_same (range_with_len 0 (n + 1))) ∙ map-range_with_len_more (λ (x : ℕ). x) 0 n n (omega arith) ∙ ap (λ (xs : List ℕ). xs ++ n ∷ []) (map_same (range_with_len 0 n))

pub number_is : (n v : ℕ) → v < n → get_or (range_with_len 0 n) v 0 ≡ v
number_is n v lt = let at = get_or-range_with_len 0 n v 0 lt in omega arith

pub count_is : (n : ℕ) → clique_count (range_with_len 0 n) ≡ n
count_is zero = refl
count_is (suc n) =
    let size = length-range_with_len 0 (suc n) in
    let le : clique_count (range_with_len 0 (suc n)) ≤ suc n = clique_count_le (range_with_len 0 (suc n)) (suc n) (λ v lt. let at = number_is (suc n) v (omega arith) in omega arith) in
    let at = number_is (suc n) n (omega arith) in
    let last = lt_clique_count (range_with_len 0 (suc n)) n (omega arith) in
    omega arith

pub rises : (links : List (ℕ × ℕ)) → All (λ (link : ℕ × ℕ). link.0 ≤ link.1) links → (a b : ℕ) → Reaches links a b → a ≤ b
rises links up a b (here c) = omega arith
rises links up a c (more k x y z at rest) =
    let first : x ≤ y = rw (get_or_from_slice_get links k (x, y) (x, y) at) at (up k (x, y) (slice_get_within links k (x, y) at)) in
    let then = rises links up y z rest in
    omega arith

pub singles : (n : ℕ) (links : List (ℕ × ℕ)) → All (λ (link : ℕ × ℕ). link.0 ≤ link.1) links → AreCliques n links (range_with_len 0 n)
singles n links up = record {
  each = length-range_with_len 0 n;
  classes = λ a b lt less. (
    λ same. (let e : a ≡ b = sym (number_is n a lt) ∙ same ∙ number_is n b less in record { forth = rw e (here b); back = rw e (here b) }),
    λ both. (let le = rises links up a b both.forth in let ge = rises links up b a both.back in let e : a ≡ b = omega arith in rw e refl),
  );
  in_order = λ b k lt below. (let at = number_is n b lt in let less : k < b = omega arith in (k, less, number_is n k (omega arith)));
}

-- each has itself as its one member
none_below : (k a n : ℕ) → k < a → places_from (λ x. eqb x k) a (range_with_len a n) ≡ []
none_below k a zero lt = refl
none_below k a (suc n) lt = rw (ne_eqb a k (λ e. absurd (omega arith))) (none_below k (a + 1) n (omega arith))

one_there : (k a n : ℕ) → a ≤ k → k < a + n → places_from (λ x. eqb x k) a (range_with_len a n) ≡ k ∷ []
one_there k a zero le lt = absurd (omega arith)
one_there k a (suc n) le lt = elim (cases_eq a k) [
  | inl same ↦ rw (eq-eqb a k same) (rw same (ap (λ (xs : List ℕ). k ∷ xs) (none_below k (k + 1) n (omega arith))))
  | inr other ↦ rw (ne_eqb a k other) (one_there k (a + 1) n (omega arith) (omega arith))
]

one_taken : (k : ℕ) (xs : List ℕ) → k < length xs → take 1 (drop k xs) ≡ get_or xs k 0 ∷ []
one_taken k [] lt = absurd (omega arith)
one_taken zero (x ∷ xs) lt = refl
one_taken (suc k) (x ∷ xs) lt = one_taken k xs (omega arith)

pub singles_laid : (n : ℕ) → AreLaidOut (range_with_len 0 n) (range_with_len 0 n) (range_with_len 0 (n + 1)) n
singles_laid n = record {
  rising = λ k lt. (let a = start_is k (omega arith) in let b = start_is (k + 1) (omega arith) in omega arith);
  within = λ k lt. (let b = start_is (k + 1) (omega arith) in let size = length-range_with_len 0 n in omega arith);
  members = λ k lt. (
      let size = length-range_with_len 0 n in
      let one : k + 1 - k ≡ 1 = omega arith in
      let at = number_is n k lt in
      rw (start_is k (omega arith), start_is (k + 1) (omega arith), one) (one_taken k (range_with_len 0 n) (omega arith) ∙ ap (λ (v : ℕ). v ∷ []) at ∙ sym (one_there k 0 n (omega arith) (omega arith))));
}
  where
    start_is : (k : ℕ) → k < n + 1 → start_at (range_with_len 0 (n + 1)) (range_with_len 0 n) k ≡ k
    start_is k lt = let at = get_or-range_with_len 0 (n + 1) k (length (range_with_len 0 n)) lt in omega arith
