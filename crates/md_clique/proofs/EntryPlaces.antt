-- The places of the links that enter a clique, one link more, and what is known of them.
use Rattle.std.proofs.Common.{◌≡◌, ℕ, ◌+◌, ◌<◌, ◌≤◌, Bool, true, false, cond, List, [], ◌∷◌, ◌++◌, length, get_or, set, take, Option, Some, None, refl, sym, ap, ◌∙◌, inl, inr, arith}
use Rattle.std.specs.List.{slice_get}
use Rattle.std.proofs.lemmas.Option.{slice_get_within, get_or_from_slice_get}
use Rattle.std.proofs.lemmas.Bool.{cases_eq, cases_Bool, eq-eqb, ne_eqb, ltb-true, ltb-false}
use Rattle.std.proofs.lemmas.List.{get_or-set_same, get_or-set_other, length-set, take_more, take_all, length-take-le, append-nil}
use Rattle.md_trace.specs.Cliques.{AreCliques}
use Rattle.md_clique.specs.Places.{places_from}
use Rattle.md_clique.specs.Cliques.{clique_count}
use Rattle.md_clique.specs.Entries.{is_outside, enters, entries, edges_of, AreEntries, AreReached, IsEnteredTwice}
use Rattle.md_clique.specs.declared.entries.Twice.{Twice}
use Rattle.md_clique.specs.Found.{AreFound, IsLowestTwice, first_of, is_lower}
use Rattle.md_clique.proofs.Entered.{is_entered}

-- one more element at the end
pub places_from-push : {X : Type 0} (p : X → Bool) (k : ℕ) (xs : List X) (x : X) → places_from p k (xs ++ x ∷ []) ≡ places_from p k xs ++ cond (p x) ((k + length xs) ∷ []) []
places_from-push p k [] x = elim (cases_Bool (p x)) [
  | inl holds ↦ (let e : k + 0 ≡ k = omega arith in rw (holds, e) refl)
  | inr fails ↦ rw fails refl
]
places_from-push p k (y ∷ ys) x =
    let rest = places_from-push p (k + 1) ys x in
    let e : (k + 1) + length ys ≡ k + length (y ∷ ys) = omega arith in
    elim (cases_Bool (p y)) [
      | inl holds ↦ rw (holds, rest, e) refl
      | inr fails ↦ rw (fails, rest, e) refl
    ]

-- there is none where the first one is no place
none_first : {X : Type 0} (p : X → Bool) (k : ℕ) (xs : List X) → k + length xs ≤ 4294967295 → first_of (places_from p k xs) ≡ 4294967295 → places_from p k xs ≡ []
none_first p k [] few none = refl
none_first p k (x ∷ xs) few none = elim (cases_Bool (p x)) [
  | inl holds ↦ (let e : k ≡ 4294967295 = rw holds at none in absurd (omega arith))
  | inr fails ↦ rw fails (none_first p (k + 1) xs (omega arith) (rw fails at none))
]

-- lists of places that grow at their ends
first_stays : (xs : List ℕ) (a : ℕ) → (xs ≡ [] → ⊥) → first_of (xs ++ a ∷ []) ≡ first_of xs
first_stays [] a some = absurd (some refl)
first_stays (x ∷ xs) a some = refl

two_stay : (xs : List ℕ) (a b c : ℕ) → take 2 xs ≡ a ∷ b ∷ [] → take 2 (xs ++ c ∷ []) ≡ a ∷ b ∷ []
two_stay [] a b c two = cc
two_stay (x ∷ []) a b c two = cc
two_stay (x ∷ y ∷ zs) a b c two = two

no_two : (xs : List ℕ) (a b : ℕ) → take 2 xs ≡ a ∷ b ∷ [] → xs ≡ [] → ⊥
no_two [] a b two none = cc
no_two (x ∷ xs) a b two none = cc

second : (xs : List ℕ) (b : ℕ) → (xs ≡ [] → ⊥) → length xs ≤ 1 → take 2 (xs ++ b ∷ []) ≡ first_of xs ∷ b ∷ []
second [] b some one = absurd (some refl)
second (x ∷ []) b some one = refl
second (x ∷ y ∷ zs) b some one = absurd (omega arith)

only : (xs : List ℕ) → 0 < length xs → length xs ≤ 1 → xs ≡ first_of xs ∷ []
only [] some one = absurd (omega arith)
only (x ∷ []) some one = refl
only (x ∷ y ∷ zs) some one = absurd (omega arith)

pub found_none : (cliques : List ℕ) (links : List (Option ℕ × ℕ)) (first : List ℕ) → length first ≡ clique_count cliques → ((q : ℕ) → q < clique_count cliques → get_or first q 0 ≡ 4294967295) → AreFound cliques links 0 first None
found_none cliques links first each none = record { each = each; firsts = none; lowest = λ q lt. omega arith }

module _ (cliques : List ℕ) (links : List (Option ℕ × ℕ)) (k : ℕ) (first : List ℕ) (twice : Option Twice) (is : AreFound cliques links k first twice) (start : Option ℕ) (to : ℕ) (at : slice_get links k ≡ Some (start, to)) where
  abbrev pub its : ℕ
  its = get_or cliques to 0

  abbrev pub old : ℕ → List ℕ
  old q = entries cliques (take k links) q

  abbrev pub new : ℕ → List ℕ
  new q = entries cliques (take (k + 1) links) q

  -- the link enters the clique of its end, where it starts outside, and no other
  grows : (q : ℕ) → new q ≡ old q ++ cond (enters cliques q (start, to)) (k ∷ []) []
  grows q =
      let lt = slice_get_within links k (start, to) at in
      let more = take_more links k (start, to) lt in
      let n : 0 + length (take k links) ≡ k = (let e = length-take-le k links (omega arith) in omega arith) in
      let e = get_or_from_slice_get links k (start, to) (start, to) at in
      rw (more, e) (places_from-push (enters cliques q) 0 (take k links) (start, to) ∙ (rw n refl))

  other : (q : ℕ) → (its ≡ q → ⊥) → new q ≡ old q
  other q ne = grows q ∙ (rw (ne_eqb its q ne) (append-nil (old q)))

  inside : is_outside cliques its start ≡ false → (q : ℕ) → new q ≡ old q
  inside from q = elim (cases_eq its q) [
    | inl e ↦ (let same = eq-eqb its q e in grows q ∙ (rw (same, ← e, from) (append-nil (old its))))
    | inr ne ↦ other q ne
  ]

  entered : is_outside cliques its start ≡ true → new its ≡ old its ++ k ∷ []
  entered from = grows its ∙ (rw (eq-eqb its its refl, from) refl)

  lowest_inside : is_outside cliques its start ≡ false → (t : Option Twice) → IsLowestTwice (clique_count cliques) old t → IsLowestTwice (clique_count cliques) new t
  lowest_inside from None low = λ q lt. rw (inside from q) (low q lt)
  lowest_inside from (Some t) low = (low.0, ap (λ (xs : List ℕ). take 2 xs) (inside from t.clique) ∙ low.1, λ q lt. rw (inside from q) (low.2 q lt))

  pub found_inside : is_outside cliques its start ≡ false → AreFound cliques links (k + 1) first twice
  found_inside from = record {
    each = is.each;
    firsts = λ q lt. is.firsts q lt ∙ ap first_of (sym (inside from q));
    lowest = lowest_inside from twice is.lowest;
  }

  module _ (from : is_outside cliques its start ≡ true) (there : its < clique_count cliques) where
    -- the first link that enters the clique
    pub is_none : k < 4294967295 → get_or first its 0 ≡ 4294967295 → old its ≡ []
    is_none few none =
        let n : length (take k links) ≤ k = (let lt = slice_get_within links k (start, to) at in let e = length-take-le k links (omega arith) in omega arith) in
        none_first (enters cliques its) 0 (take k links) (omega arith) (sym (is.firsts its there) ∙ none)

    one_more : old its ≡ [] → new its ≡ k ∷ []
    one_more none = entered from ∙ ap (λ (xs : List ℕ). xs ++ k ∷ []) none

    lowest_first : old its ≡ [] → (t : Option Twice) → IsLowestTwice (clique_count cliques) old t → IsLowestTwice (clique_count cliques) new t
    lowest_first none None low = λ q lt. elim (cases_eq its q) [
      | inl e ↦ (let one : new q ≡ k ∷ [] = rw (← e) (one_more none) in rw one (omega arith))
      | inr ne ↦ rw (other q ne) (low q lt)
    ]
    lowest_first none (Some t) low = (
      low.0,
      ap (λ (xs : List ℕ). take 2 xs) (other t.clique (λ e. no_two (old t.clique) t.a t.b low.1 (rw e at none))) ∙ low.1,
      λ q lt. elim (cases_eq its q) [
        | inl e ↦ (let one : new q ≡ k ∷ [] = rw (← e) (one_more none) in rw one (omega arith))
        | inr ne ↦ rw (other q ne) (low.2 q lt)
      ],
    )

    pub found_first : old its ≡ [] → AreFound cliques links (k + 1) (set first its k) twice
    found_first none = record {
      each = length-set first its k ∙ is.each;
      firsts = λ q lt. elim (cases_eq its q) [
        | inl e ↦ (let size = is.each in let at : get_or (set first its k) its 0 ≡ k = get_or-set_same first its k 0 (omega arith) in
            rw (← e) (at ∙ ap first_of (sym (one_more none))))
        | inr ne ↦ (get_or-set_other first its q k 0 (λ (r : q ≡ its). ne (sym r)) ∙ is.firsts q lt ∙ ap first_of (sym (other q ne)))
      ];
      lowest = lowest_first none twice is.lowest;
    }

    module _ (some : old its ≡ [] → ⊥) where
      firsts_stay : (q : ℕ) → q < clique_count cliques → get_or first q 0 ≡ first_of (new q)
      firsts_stay q lt = elim (cases_eq its q) [
        | inl e ↦ (let stays : first_of (new its) ≡ first_of (old its) = ap first_of (entered from) ∙ first_stays (old its) k some in
            rw (← e) (is.firsts its there ∙ sym stays))
        | inr ne ↦ (is.firsts q lt ∙ ap first_of (sym (other q ne)))
      ]

      lowest_higher : (t : Option Twice) → is_lower its t ≡ false → IsLowestTwice (clique_count cliques) old t → IsLowestTwice (clique_count cliques) new t
      lowest_higher None not_lower low = cc
      lowest_higher (Some t) not_lower low =
          let le : t.clique ≤ its = ltb-false its t.clique not_lower in (
            low.0,
            elim (cases_eq its t.clique) [
              | inl e ↦ rw (← e, entered from) (two_stay (old its) t.a t.b k (rw e low.1))
              | inr ne ↦ ap (λ (xs : List ℕ). take 2 xs) (other t.clique ne) ∙ low.1
            ],
            λ q lt. rw (other q (λ e. absurd (omega arith))) (low.2 q lt),
          )

      pub found_higher : is_lower its twice ≡ false → AreFound cliques links (k + 1) first twice
      found_higher not_lower = record { each = is.each; firsts = firsts_stay; lowest = lowest_higher twice not_lower is.lowest }

      -- so far it was entered by one, and each lower one by one at most
      one_so_far : (t : Option Twice) → is_lower its t ≡ true → IsLowestTwice (clique_count cliques) old t → (q : ℕ) → q ≤ its → length (old q) ≤ 1
      one_so_far None lower low q le = low q (omega arith)
      one_so_far (Some t) lower low q le = let lt : its < t.clique = ltb-true its t.clique lower in low.2 q (omega arith)

      pub found_lower : is_lower its twice ≡ true → AreFound cliques links (k + 1) first (Some (record { clique = its; a = get_or first its 0; b = k }))
      found_lower lower =
          let one = one_so_far twice lower is.lowest in
          record {
            each = is.each;
            firsts = firsts_stay;
            lowest = (
              there,
              rw (entered from, is.firsts its there) (second (old its) k some (one its (omega arith))),
              λ q lt. rw (other q (λ e. absurd (omega arith))) (one q (omega arith)),
            );
          }

-- after all links, where each clique is entered
module _ (cliques : List ℕ) (links : List (Option ℕ × ℕ)) (first : List ℕ) (are : AreCliques (length cliques) (edges_of links) cliques) (reached : AreReached links (length cliques)) where
  all : take (length links) links ≡ links
  all = take_all (length links) links (omega arith)

  pub found_all : AreFound cliques links (length links) first None → AreEntries cliques links first
  found_all is = record {
    each = is.each;
    one = λ q lt. (
        let one : length (entries cliques links q) ≤ 1 = rw all at (is.lowest q lt) in
        let at : get_or first q 0 ≡ first_of (entries cliques links q) = rw all at (is.firsts q lt) in
        rw at (only (entries cliques links q) (is_entered cliques links are reached q lt) one));
  }

  pub found_twice : (t : Twice) → AreFound cliques links (length links) first (Some t) → IsEnteredTwice cliques links t.clique t.a t.b
  found_twice t is = record {
    there = is.lowest.0;
    two = rw all at is.lowest.1;
    lowest = λ q lt. (
        let there = is.lowest.0 in
        let one : length (entries cliques links q) ≤ 1 = rw all at (is.lowest.2 q lt) in
        let some = is_entered cliques links are reached q (omega arith) in
        omega arith);
  }
