-- Which names have a row: those of either profile whose difference is told.
use Rattle.std.proofs.Common.{◌≡◌, ℕ, Bool, true, false, not, ◌&&◌, ◌||◌, List, [], ◌∷◌, refl, ap, ◌∙◌, inl, inr}
use Rattle.std.specs.List.{filter, list_any}
use Rattle.std.proofs.lemmas.Bool.{cases_Bool}
use Rattle.std.proofs.lemmas.List.Folds.{list_any-append}
use Rattle.std.proofs.lemmas.Slice.Eq.{bytes_eq-Decides}
use Rattle.md_base.specs.declared.measure.Measure.{Measure}
use Rattle.md_cost.specs.View.{View}
use Rattle.md_people.specs.Compare.{all_names, is_told, named_with, names_in_order, names_of, precedes, same_name, told_names}

abbrev has : List ℕ → List (List ℕ) → Bool
has name names = list_any (same_name name) names

-- ---- tests

other_first : (a b c : Bool) → (b || (a || c)) ≡ (a || (b || c))
other_first true true c = refl
other_first true false c = refl
other_first false b c = refl

either : (a b : Bool) → (a || (b && not a)) ≡ (a || b)
either true b = refl
either false true = refl
either false false = refl

both_pass : (a b : Bool) → ((true || a) && b) ≡ (b || (a && b))
both_pass true true = refl
both_pass true false = refl
both_pass false true = refl
both_pass false false = refl

none_passes : (a : Bool) → (a && false) ≡ false
none_passes true = refl
none_passes false = refl

-- ---- lists

-- of equal names both pass a test or neither
has_filtered : (p : List ℕ → Bool) (name : List ℕ) (xs : List (List ℕ)) → has name (filter p xs) ≡ (has name xs && p name)
has_filtered p name [] = refl
has_filtered p name (x ∷ xs) =
    let rest = has_filtered p name xs in
    elim (cases_Bool (same_name name x)) [
      | inl same ↦ (
          let e : name ≡ x = (bytes_eq-Decides name x).0 same in
          elim (cases_Bool (p x)) [
            | inl passes ↦ (let also : p name ≡ true = ap p e ∙ passes in rw (passes, same, also) refl)
            | inr fails ↦ (let also : p name ≡ false = ap p e ∙ fails in rw (fails, rest, same, also) (none_passes (has name xs)))
          ])
      | inr other ↦ elim (cases_Bool (p x)) [
        | inl passes ↦ rw (passes, other) rest
        | inr fails ↦ rw (fails, other) rest
      ]
    ]

module _ (v w : View) (by : Measure) where
  has_with : (name x : List ℕ) (ys : List (List ℕ)) → has name (named_with v w by x ys) ≡ (same_name name x || has name ys)
  has_with name x [] = refl
  has_with name x (y ∷ ys) = elim (cases_Bool (precedes v w by x y)) [
    | inl before ↦ rw before refl
    | inr behind ↦ rw behind (ap (λ (b : Bool). same_name name y || b) (has_with name x ys) ∙ other_first (same_name name x) (same_name name y) (has name ys))
  ]

  has_in_order : (name : List ℕ) (xs : List (List ℕ)) → has name (names_in_order v w by xs) ≡ has name xs
  has_in_order name [] = refl
  has_in_order name (x ∷ xs) = has_with name x (names_in_order v w by xs) ∙ ap (λ (b : Bool). same_name name x || b) (has_in_order name xs)

  has_all : (name : List ℕ) → has name (all_names v w) ≡ (has name (names_of v) || has name (names_of w))
  has_all name =
      let fresh : List ℕ → Bool = λ (n : List ℕ). not (has n (names_of v)) in
      list_any-append (same_name name) (names_of v) (filter fresh (names_of w))
      ∙ ap (λ (b : Bool). has name (names_of v) || b) (has_filtered fresh name (names_of w))
      ∙ either (has name (names_of v)) (has name (names_of w))

  pub has_row : (least : ℕ) (name : List ℕ) → has name (told_names v w by least) ≡ ((has name (names_of v) || has name (names_of w)) && is_told v w by least name)
  has_row least name =
      has_in_order name (filter (is_told v w by least) (all_names v w)) ∙ has_filtered (is_told v w by least) name (all_names v w)
      ∙ ap (λ (b : Bool). b && is_told v w by least name) (has_all name)
