-- What is told of names in two profiles.
use Rattle.std.proofs.Common.{◌≡◌, ℕ, ◌+◌, Bool, not, List, [], ◌∷◌, ◌++◌, length, map, Option, Some, None, append_assoc, refl, sym, ap, ◌∙◌, inl, inr, arith}
use Rattle.std.specs.Prelude.{All, is_some}
use Rattle.std.specs.Cmp.Lexicographic.{nat_list_eq_equiv}
use Rattle.std.specs.List.{filter, find, list_any, range_with_len}
use Rattle.std.specs.Option.{option_map}
use Rattle.std.proofs.lemmas.Bool.{cases_Bool}
use Rattle.std.proofs.lemmas.List.Elements.{All-weaker, filter-append, filter_agree}
use Rattle.std.proofs.lemmas.List.FromFn.{map-range_with_len_more}
use Rattle.md_base.specs.declared.measure.Measure.{Measure}
use Rattle.md_cost.specs.View.{View}
use Rattle.md_people.specs.Compare.{all_names, difference, is_told, names_of, own_named, same_name, total_named}
use Rattle.md_people.specs.Counts.{whole_of}
use Rattle.md_people.specs.Words.{full_name, proc_named}
use Rattle.md_static.specs.Tables.{Static}
use Rattle.md_compare.specs.Cost.{cost_named, cost_of, difference_of, own_in, total_in}
use Rattle.md_compare.specs.Named.{AreCostsOf}
use Rattle.md_compare.specs.Told.{IsToldBy, IsToldOf, difference_in, is_new_in, is_told_in, names_in}
use Rattle.md_compare.specs.declared.cost.Cost.{Cost}
use Rattle.md_compare.specs.declared.told.Both.{Both}
use Rattle.md_compare.specs.declared.told.Margin.{Margin}
use Rattle.md_compare.specs.declared.told.Told.{Told}

abbrev Names : Type 0
Names = List (List ℕ)

-- the names of one procedure more, of which g tells some
pub names_more : (g : Names → Names) → ((xs ys : Names) → g (xs ++ ys) ≡ g xs ++ g ys) → (s : Static) (i : ℕ) (name : List ℕ) (before now after : Names)
    → now ≡ before ++ g (map (full_name s) (range_with_len 0 i)) → after ≡ now ++ g (name ∷ []) → name ≡ full_name s i → after ≡ before ++ g (map (full_name s) (range_with_len 0 (i + 1)))
names_more g appends s i name before now after now_is after_is is =
    let place : 0 + i ≡ i = omega arith in
    after_is ∙ ap (λ (xs : Names). xs ++ g (name ∷ [])) now_is ∙ append_assoc before (g (map (full_name s) (range_with_len 0 i))) (g (name ∷ []))
    ∙ ap (λ (n : List ℕ). before ++ (g (map (full_name s) (range_with_len 0 i)) ++ g (n ∷ []))) is
    ∙ ap (λ (xs : Names). before ++ xs) (sym (appends (map (full_name s) (range_with_len 0 i)) (full_name s i ∷ [])))
    ∙ ap (λ (xs : Names). before ++ g xs) (sym (map-range_with_len_more (full_name s) 0 i i place))

pub twice_filtered : (p q : List ℕ → Bool) (xs ys : Names) → filter p (filter q (xs ++ ys)) ≡ filter p (filter q xs) ++ filter p (filter q ys)
twice_filtered p q xs ys = ap (filter p) (filter-append q xs ys) ∙ filter-append p (filter q xs) (filter q ys)

-- ---- numbers

option_twice : {X Y Z : Type 0} (f : X → Y) (g : Y → Z) (o : Option X) → option_map g (option_map f o) ≡ option_map (λ x. g (f x)) o
option_twice f g None = refl
option_twice f g (Some x) = refl

pub own_told : (v : View) (by : Measure) (name : List ℕ) → own_in (cost_named v by name) ≡ own_named v by name
own_told v by name = option_twice (cost_of v by) (λ (c : Cost). c.own) (proc_named v.statics name)

pub total_told : (v : View) (by : Measure) (name : List ℕ) → total_in (cost_named v by name) ≡ total_named v by name
total_told v by name = option_twice (cost_of v by) (λ (c : Cost). c.total) (proc_named v.statics name)

pub difference_told : (v w : View) (by : Measure) (name : List ℕ) → difference_of (cost_named v by name) (cost_named w by name) ≡ difference v w by name
difference_told v w by name = rw (own_told v by name, own_told w by name, total_told v by name, total_told w by name) refl

-- a name that no procedure has
any_named : (h : ℕ → Cost) (f : ℕ → List ℕ) (name : List ℕ) (qs : List ℕ) → is_some (option_map h (find (λ q. same_name (f q) name) qs)) ≡ list_any (same_name name) (map f qs)
any_named h f name [] = refl
any_named h f name (q ∷ qs) =
    let turned : same_name name (f q) ≡ same_name (f q) name = nat_list_eq_equiv.symm name (f q) in
    elim (cases_Bool (same_name (f q) name)) [
      | inl same ↦ rw (turned, same) refl
      | inr other ↦ rw (turned, other) (any_named h f name qs)
    ]

module _ (v w : View) (by : Measure) (both : Both) (old : AreCostsOf v by both.old) (new : AreCostsOf w by both.new) where
  pub difference_is : (name : List ℕ) → difference_in both name ≡ difference v w by name
  difference_is name = rw (old name, new name) (difference_told v w by name)

  told_is : (margin : Margin) → margin.whole ≡ whole_of v by → (name : List ℕ) → is_told_in both margin name ≡ is_told v w by margin.least name
  told_is margin whole name = rw (difference_is name, whole) refl

  new_is : (name : List ℕ) → is_new_in both name ≡ not (list_any (same_name name) (names_of v))
  new_is name = ap (λ (o : Option Cost). not (is_some o)) (old name) ∙ ap not (any_named (cost_of v by) (full_name v.statics) name (range_with_len 0 (length v.statics.procs)))

  -- the names that are told are those of the definition
  pub all_told : (margin : Margin) → margin.whole ≡ whole_of v by → (s t : Static) → v.statics ≡ s → w.statics ≡ t
      → filter (is_told_in both margin) (names_in s) ++ filter (is_told_in both margin) (filter (is_new_in both) (names_in t)) ≡ filter (is_told v w by margin.least) (all_names v w)
  all_told margin whole s t vs wt =
      let p = is_told_in both margin in
      let r = is_told v w by margin.least in
      let fresh : List ℕ → Bool = λ (name : List ℕ). not (list_any (same_name name) (names_of v)) in
      let left : filter p (names_in s) ≡ filter r (names_of v) = filter_agree p r (told_is margin whole) (names_in s) ∙ ap (λ (u : Static). filter r (names_in u)) (sym vs) in
      let right : filter p (filter (is_new_in both) (names_in t)) ≡ filter r (filter fresh (names_of w)) =
      filter_agree p r (told_is margin whole) (filter (is_new_in both) (names_in t)) ∙ ap (filter r) (filter_agree (is_new_in both) fresh new_is (names_in t) ∙ ap (λ (u : Static). filter fresh (names_in u)) (sym wt)) in
      ap (λ (xs : Names). xs ++ filter p (filter (is_new_in both) (names_in t))) left ∙ ap (λ (xs : Names). filter r (names_of v) ++ xs) right ∙ sym (filter-append r (names_of v) (filter fresh (names_of w)))

  -- each entry has what its name costs in both
  pub entries_are : (told : List Told) → All (IsToldBy both) told → All (IsToldOf v w by) told
  entries_are = All-weaker (IsToldBy both) (IsToldOf v w by) (λ (x : Told) (is : IsToldBy both x). record {
    apart = is.apart ∙ difference_is x.name.items;
    old = is.old ∙ old x.name.items;
    new = is.new ∙ new x.name.items;
  })
