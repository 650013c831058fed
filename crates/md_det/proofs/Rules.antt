-- More of the determinism rules, computed where a wrong rule would give another determinism.
use Rattle.std.proofs.Common.{◌≡◌, refl, true, false, List, [], ◌∷◌, Option, Some, None, map}
use Rattle.std.specs.Prelude.{codes}
use Rattle.md_hlds.specs.declared.types.Mode.TheVariants.{In, Out}
use Rattle.md_hlds.specs.declared.types.Det.{Det}
use Rattle.md_hlds.specs.declared.types.Det.TheVariants.{Semidet, Multi, Nondet, Failure}
use Rattle.md_hlds.specs.declared.types.Det.TheVariants.{Det as One}
use Rattle.md_hlds.specs.HldsGoal.{HldsGoal}
use Rattle.md_hlds.specs.Hlds.{HldsType, number, text, closure, gathered_types}
use Rattle.md_modes.proofs.Worked.{conj, disj, is_int, is_text, same, made, apply, succeed, fail, choose, at_most, new_line, predicate, main, program, colour_type, hand_over, hello}
use Rattle.md_modes.proofs.Rules.{raises}
use Rattle.md_det.specs.declared.fault.DetFault.{DetFault}
use Rattle.md_det.specs.declared.fault.DetFault.TheVariants.{Declared, IoInBacktracking}
use Rattle.md_det.specs.Faults.{det_fault}
use Rattle.md_det.specs.Throws.{throws}
use Rattle.md_det.proofs.Worked.{inferred}

-- of an integer a functor is always missing; equal keys make no switch; an argument that is bound may differ
switches :
    inferred One (disj 5 (is_int 5 0 1 ∷ is_int 5 0 2 ∷ [])
    ∷ disj 5 (is_int 5 0 1 ∷ is_int 5 0 1 ∷ [])
    ∷ disj 5 (made 5 1 (codes "nil") [] ∷ made 5 1 (codes "cons") (2 ∷ 3 ∷ []) ∷ [])
    ∷ disj 5 (made 5 1 (codes "nil") [] ∷ made 5 1 (codes "cons") (0 ∷ 3 ∷ []) ∷ [])
    ∷ disj 5 (made 5 1 (codes "cons") (2 ∷ 3 ∷ []) ∷ [])
    ∷ [])
    ≡ (Some (Declared 4 One Semidet) ∷ Some (Declared 4 One Nondet) ∷ None ∷ Some (Declared 4 One Semidet) ∷ Some (Declared 4 One Semidet) ∷ [])
unfolding det_fault inferred
switches = refl

-- p(S, P) :- .., where S is a string and P a semidet function of no argument
abbrev question : HldsType
question = closure (gathered_types (number ∷ [])) (Out ∷ []) Semidet

abbrev of_text : List HldsGoal → List (Option DetFault)
unfolding det_fault
of_text bodies = map (λ b. det_fault (program [] (hand_over ∷ predicate 4 (codes "p") ((text, In) ∷ (question, In) ∷ []) One 4 b ∷ []))) bodies

-- a switch on a string; the same string twice; a call of a semidet closure
texts :
    of_text (disj 5 (is_text 5 0 (codes "a") ∷ is_text 5 0 (codes "b") ∷ []) ∷ disj 5 (is_text 5 0 (codes "a") ∷ is_text 5 0 (codes "a") ∷ []) ∷ apply 5 1 (2 ∷ []) ∷ [])
    ≡ (Some (Declared 4 One Semidet) ∷ Some (Declared 4 One Nondet) ∷ Some (Declared 4 One Semidet) ∷ [])
unfolding det_fault of_text
texts = refl

-- a body that only throws is within every declaration; a test before it may fail; an arm that throws leaves the other's
abbrev of_errors : Det → List HldsGoal → List (Option DetFault)
unfolding det_fault
of_errors det bodies = map (λ b. det_fault (program [] (hand_over ∷ predicate 4 (codes "p") ((text, In) ∷ (number, In) ∷ []) det 4 b ∷ []))) bodies

only_throws : map (λ det. of_errors det (raises 5 0 ∷ [])) (One ∷ Semidet ∷ Multi ∷ Nondet ∷ Failure ∷ []) ≡ ((None ∷ []) ∷ (None ∷ []) ∷ (None ∷ []) ∷ (None ∷ []) ∷ (None ∷ []) ∷ [])
unfolding det_fault of_errors
only_throws = refl

throws_besides :
    of_errors One (conj 5 (at_most 5 1 1 ∷ raises 5 0 ∷ [])
    ∷ choose 5 (at_most 5 1 1) (succeed 5) (raises 5 0)
    ∷ conj 5 (disj 5 (succeed 5 ∷ succeed 5 ∷ []) ∷ raises 5 0 ∷ [])
    ∷ disj 5 (succeed 5 ∷ raises 5 0 ∷ [])
    ∷ disj 5 (fail 5 ∷ raises 5 0 ∷ [])
    ∷ [])
    ≡ (Some (Declared 4 One Failure) ∷ None ∷ None ∷ None ∷ None ∷ [])
unfolding det_fault of_errors
throws_besides = refl

-- whether a program has such a goal
told_to_throw : map throws (hello ∷ program [] (hand_over ∷ predicate 4 (codes "p") ((text, In) ∷ []) One 1 (disj 5 (fail 5 ∷ conj 5 (succeed 5 ∷ raises 5 0 ∷ []) ∷ [])) ∷ []) ∷ []) ≡ (false ∷ true ∷ [])
told_to_throw = refl

-- ---- io states in arms

-- an arm of a switch may write, since no other arm is tried after it; an arm of an alternative may not. Refuses a rule by which no arm
-- of a disjunction writes, and one by which each does.
states_in_arms :
    map (λ body. det_fault (program (colour_type ∷ []) (main 3 body ∷ [])))
    (conj 3 (made 3 2 (codes "red") []
    ∷ disj 4 (conj 4 (made 4 2 (codes "red") [] ∷ new_line 4 0 1 ∷ []) ∷ conj 5 (made 5 2 (codes "green") [] ∷ same 5 1 0 ∷ [])
    ∷ conj 6 (made 6 2 (codes "blue") [] ∷ same 6 1 0 ∷ []) ∷ []) ∷ [])
    ∷ conj 3 (made 3 2 (codes "red") []
    ∷ disj 4 (conj 4 (succeed 4 ∷ new_line 4 0 1 ∷ []) ∷ conj 5 (made 5 2 (codes "green") [] ∷ same 5 1 0 ∷ [])
    ∷ conj 6 (made 6 2 (codes "blue") [] ∷ same 6 1 0 ∷ []) ∷ []) ∷ [])
    ∷ [])
    ≡ (None ∷ Some (IoInBacktracking 4) ∷ [])
unfolding det_fault
states_in_arms = refl
