-- The definitions, worked out on small cases: each wrong rule would give something else.
use Rattle.std.proofs.Common.{◌≡◌, ◌∙◌, refl, ap, ℕ, zero, suc, Bool, true, false, List, [], ◌∷◌, Some, None}
use Rattle.md_hlds.specs.declared.goal.Term.TheVariants.{Var}
use Rattle.md_hlds.specs.declared.goal.Cmp.TheVariants.{Lt}
use Rattle.md_hlds.specs.HldsGoal.{Fails, Unifies, Compares, Raises, HldsGoal, At, SimpleGoal, HoCallGoal, ConjGoal, DisjGoal, IfGoal, NotGoal, SomeGoal, nothing, also}
use Rattle.md_hlds.specs.Trace.{Turn, Call, Exit, Redo, Items}
use Rattle.md_det.specs.declared.finding.Finding.{Finding}
use Rattle.md_det.specs.declared.pair.Bound.TheVariants.{One}
use Rattle.md_det.specs.Pairs.{pair}
use Rattle.law_events.specs.History.{history}
use Rattle.law_turns.specs.Counts.{turns_of, PortCounts, port_counts}
use Rattle.law_turns.specs.Equations.{Quantity, Entries, Exits, Equation, sums, equals, is_count, goal_equations}
use Rattle.law_turns.specs.Derived.{IsDerived, only_one, none, both}

-- main's call, then two calls at site 7 of procedure 3, the first of which exits twice, and a turn of the goal 5 in each
items : Items
items =
    Turn 0 None 2 ∷ Call 0 None None 1 ∷ Turn 0 (Some 4) 1 ∷ Call 1 (Some 0) (Some 7) 3 ∷ Turn 1 (Some 5) 1 ∷ Exit 1 ∷ Redo 1 ∷ Exit 1
    ∷ Turn 0 (Some 4) 1 ∷ Call 2 (Some 0) (Some 7) 3 ∷ Turn 2 (Some 5) 1 ∷ []

-- main's call is a turn of no goal
two_turns : (turns_of items 4 ≡ 2) × (turns_of items 5 ≡ 2) × (turns_of items 0 ≡ 0)
unfolding items
two_turns = (refl, refl, refl)

their_counts : ((port_counts (history items)).procedure_calls 3 ≡ 2) × ((port_counts (history items)).procedure_exits 3 ≡ 2) × ((port_counts (history items)).procedure_exits 1 ≡ 0) × ((port_counts (history items)).procedure_calls 1 ≡ 1)
unfolding items
their_counts = (refl, refl, refl, refl)

their_sites : ((port_counts (history items)).site_calls 7 ≡ 2) × ((port_counts (history items)).site_exits 7 ≡ 2) × ((port_counts (history items)).site_exits 6 ≡ 0)
unfolding items
their_sites = (refl, refl, refl)

-- ---- equations

abbrev of_pair : Bool → Finding
of_pair may_fail = record { switch = None; pair = pair may_fail One }

abbrev of_switch : Bool → Finding
of_switch whole = record { switch = Some (record { var = 0; whole = whole }); pair = pair false One }

abbrev counts : PortCounts
counts = record { procedure_calls = λ q. 10; procedure_exits = λ q. 20; site_calls = λ x. 30; site_exits = λ x. 40 }

abbrev unify : HldsGoal
unify = At 5 (SimpleGoal (Unifies 0 (Var 1)))

abbrev test : HldsGoal
test = At 5 (SimpleGoal (Compares 0 Lt 1))

-- Z = 0, ( N < Z -> S = N ; S = Z ), numbered from 0: the test may fail, the unifications don't
sign : goal_equations (of_pair true ∷ of_pair false ∷ of_pair true ∷ of_pair true ∷ of_pair false ∷ of_pair false ∷ []) counts 0 (At 5 (ConjGoal (also unify (also (At 5 (IfGoal test unify unify)) nothing))))
    ≡ equals (Entries 1) (Entries 0) ∷ equals (Exits 1) (Entries 1)
    ∷ equals (Entries 2) (Exits 1)
    ∷ equals (Entries 3) (Entries 2)
    ∷ equals (Entries 4) (Exits 3) ∷ equals (Exits 4) (Entries 4)
    ∷ sums (Entries 2) (Entries 4 ∷ Entries 5 ∷ []) ∷ equals (Exits 5) (Entries 5)
    ∷ sums (Exits 2) (Exits 4 ∷ Exits 5 ∷ [])
    ∷ equals (Exits 0) (Exits 2) ∷ []
sign = refl

-- a switch on all functors enters one arm; one that lacks some has no equation of its entries; any other disjunction enters its
-- first arm
whole_switch : goal_equations (of_switch true ∷ of_pair false ∷ of_pair true ∷ []) counts 0 (At 5 (DisjGoal (also unify (also test nothing))))
    ≡ equals (Exits 1) (Entries 1) ∷ sums (Exits 0) (Exits 1 ∷ Exits 2 ∷ []) ∷ sums (Entries 0) (Entries 1 ∷ Entries 2 ∷ []) ∷ []
whole_switch = refl

other_switch : goal_equations (of_switch false ∷ of_pair false ∷ of_pair true ∷ []) counts 0 (At 5 (DisjGoal (also unify (also test nothing))))
    ≡ equals (Exits 1) (Entries 1) ∷ sums (Exits 0) (Exits 1 ∷ Exits 2 ∷ []) ∷ []
other_switch = refl

no_switch : goal_equations (of_pair true ∷ of_pair false ∷ of_pair true ∷ []) counts 0 (At 5 (DisjGoal (also unify (also test nothing))))
    ≡ equals (Entries 1) (Entries 0) ∷ equals (Exits 1) (Entries 1) ∷ sums (Exits 0) (Exits 1 ∷ Exits 2 ∷ []) ∷ []
no_switch = refl

-- refuses a rule by which an alternative enters each arm as often as it is entered, and one that adds up two arms alone
three_arms : goal_equations (of_pair true ∷ of_pair false ∷ of_pair true ∷ of_pair false ∷ []) counts 0 (At 5 (DisjGoal (also unify (also test (also unify nothing)))))
    ≡ equals (Entries 1) (Entries 0) ∷ equals (Exits 1) (Entries 1) ∷ equals (Exits 3) (Entries 3) ∷ sums (Exits 0) (Exits 1 ∷ Exits 2 ∷ Exits 3 ∷ []) ∷ []
three_arms = refl

whole_switch_of_three : goal_equations (of_switch true ∷ of_pair false ∷ of_pair true ∷ of_pair false ∷ []) counts 0 (At 5 (DisjGoal (also unify (also test (also unify nothing)))))
    ≡ equals (Exits 1) (Entries 1) ∷ equals (Exits 3) (Entries 3) ∷ sums (Exits 0) (Exits 1 ∷ Exits 2 ∷ Exits 3 ∷ []) ∷ sums (Entries 0) (Entries 1 ∷ Entries 2 ∷ Entries 3 ∷ []) ∷ []
whole_switch_of_three = refl

-- a negation is entered as often as it succeeds or its goal does; `some` succeeds as its goal does; a call has its site's counts
others : goal_equations [] counts 0 (At 5 (NotGoal (At 5 (SomeGoal [] (At 5 (HoCallGoal 6 0 []))))))
    ≡ equals (Entries 1) (Entries 0) ∷ equals (Entries 2) (Entries 1) ∷ is_count (Entries 2) 30 ∷ is_count (Exits 2) 40 ∷ equals (Exits 1) (Exits 2) ∷ sums (Entries 0) (Exits 0 ∷ Exits 1 ∷ []) ∷ []
others = refl

-- `fail` never succeeds, and an exception is never thrown in a finished run
never : goal_equations [] counts 0 (At 5 (ConjGoal (also (At 5 (SimpleGoal Fails)) (also (At 5 (SimpleGoal (Raises 0))) nothing))))
    ≡ equals (Entries 1) (Entries 0) ∷ is_count (Exits 1) 0 ∷ equals (Entries 2) (Exits 1) ∷ is_count (Entries 2) 0 ∷ is_count (Exits 2) 0 ∷ equals (Exits 0) (Exits 2) ∷ []
never = refl

-- ---- what is derived

abbrev two : List Equation
two = sums (Entries 0) (Exits 0 ∷ Exits 1 ∷ []) ∷ is_count (Exits 0) 3 ∷ is_count (Entries 0) 5 ∷ []

derived_last : IsDerived two (Exits 1)
derived_last =
    only_one 0 (sums (Entries 0) (Exits 0 ∷ Exits 1 ∷ [])) (Entries 0 ∷ Exits 0 ∷ []) (Exits 1) [] refl refl
    (both (Entries 0) (Exits 0 ∷ []) (only_one 2 (is_count (Entries 0) 5) [] (Entries 0) [] refl refl none none) (both (Exits 0) [] (only_one 1 (is_count (Exits 0) 3) [] (Exits 0) [] refl refl none none) none))
    none

abbrev one : List Equation
one = sums (Entries 0) (Exits 0 ∷ Exits 1 ∷ []) ∷ []

-- a sum of two quantities that aren't known says nothing of either: refuses a rule by which what stands in an equation is derived
nothing_derived : (q : Quantity) → IsDerived one q → ⊥
nothing_derived _ (only_one zero e (x ∷ xs) q after there split (both _ _ d ds) others) = nothing_derived x d
nothing_derived _ (only_one zero e [] q (x ∷ xs) there split none (both _ _ d ds)) = nothing_derived x d
nothing_derived _ (only_one zero e [] q [] there split none none) = absurd (let its : sums (Entries 0) (Exits 0 ∷ Exits 1 ∷ []) ≡ e = cc in let alone : Entries 0 ∷ (Exits 0 ∷ Exits 1 ∷ []) ≡ q ∷ [] = ap (λ (x : Equation). x.whole ∷ x.parts) its ∙ split in cc)
nothing_derived _ (only_one (suc k) e before q after there split ds others) = absurd (cc)
