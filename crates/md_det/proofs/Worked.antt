-- The determinism rules, computed on small programs: accepted ones and what is found at their goals, and then each fault
-- in each place. The words of each theorem were worked out by hand from the rules, and `refl` says that the definitions
-- give them.
use Rattle.std.proofs.Common.{◌≡◌, refl, ℕ, true, false, Bool, List, [], ◌∷◌, Option, Some, None, map}
use Rattle.std.specs.Prelude.{codes}
use Rattle.md_hlds.specs.declared.types.Mode.TheVariants.{In, Out, Di, Uo}
use Rattle.md_hlds.specs.declared.types.Det.{Det}
use Rattle.md_hlds.specs.declared.types.Det.TheVariants.{Semidet, Multi, Nondet, Failure}
use Rattle.md_hlds.specs.declared.types.Det.TheVariants.{Det as One}
use Rattle.md_hlds.specs.HldsGoal.{HldsGoal}
use Rattle.md_hlds.specs.Hlds.{Hlds, Procedure, number, world, named}
use Rattle.md_modes.proofs.Worked.{conj, disj, is_int, same, made, call, succeed, fail, choose, unless, some, at_most, write_int, new_line, predicate, main, program, list, list_type, colour_type, functor, type_of, hand_over, hello, count, member, one_member, no_member, closures, loop, queens, modules, failing_arm}
use Rattle.md_det.specs.declared.pair.Bound.TheVariants as bound
use Rattle.md_det.specs.declared.pair.Pair.{Pair}
use Rattle.md_det.specs.declared.fault.DetFault.{DetFault}
use Rattle.md_det.specs.declared.finding.Finding.{Finding}
use Rattle.md_det.specs.declared.fault.DetFault.TheVariants.{Declared, ManyInCondition, IoInBacktracking}
use Rattle.md_det.specs.Pairs.{pair}
use Rattle.md_det.specs.Determinism.{sure, unsure}
use Rattle.md_det.specs.Faults.{det_fault}
use Rattle.md_det.specs.Findings.{program_findings}

-- ---- accepted programs

accepted :
    map det_fault (program [] (hand_over ∷ []) ∷ hello ∷ count ∷ one_member ∷ no_member ∷ closures ∷ loop ∷ queens ∷ modules ∷ [])
    ≡ (None ∷ None ∷ None ∷ None ∷ None ∷ None ∷ None ∷ None ∷ None ∷ [])
unfolding det_fault
accepted = refl

-- ---- what is found at the goals

abbrev pub finding : Pair → Finding
finding p = record { switch = None; pair = p }

abbrev pub switch_finding : ℕ → Bool → Pair → Finding
switch_finding x whole p = record { switch = Some (record { var = x; whole = whole }); pair = p }

abbrev pub many : Bool → Pair
many may_fail = pair may_fail bound.Many

-- place, del and safe after main: the disjunctions of place and safe are switches, that of del is none
queens_findings :
    program_findings queens
    ≡ (finding sure
    ∷ switch_finding 0 true (many true)
    ∷ finding sure ∷ finding sure ∷ finding sure
    ∷ finding (many true) ∷ finding sure ∷ finding (many true) ∷ finding sure ∷ finding unsure ∷ finding sure ∷ finding (many true)
    ∷ finding (many true) ∷ finding unsure ∷ finding (many false)
    ∷ finding sure ∷ finding sure ∷ finding sure
    ∷ finding (many true) ∷ finding (many true) ∷ finding sure
    ∷ switch_finding 2 true unsure
    ∷ finding sure
    ∷ finding unsure ∷ finding sure ∷ finding sure ∷ finding sure ∷ finding unsure ∷ finding unsure ∷ finding unsure ∷ finding unsure
    ∷ finding sure ∷ finding sure ∷ finding unsure
    ∷ [])
unfolding program_findings
queens_findings = refl

-- ---- faults of declarations

-- code(C, N) with a disjunction of these arms on lines of their own
abbrev pub code_of : Det → List HldsGoal → Hlds
code_of det arms = program (colour_type ∷ list_type ∷ []) (hand_over
    ∷ predicate 4 (codes "code") ((named (codes "colour"), In) ∷ (number, Out) ∷ []) det 3 (disj 5 arms) ∷ [])

abbrev pub arm : ℕ → List ℕ → ℕ → HldsGoal
arm l colour n = conj l (made l 0 colour [] ∷ is_int l 1 n ∷ [])

abbrev pub red : HldsGoal
red = arm 5 (codes "red") 1

abbrev pub green : HldsGoal
green = arm 6 (codes "green") 2

abbrev pub blue : HldsGoal
blue = arm 7 (codes "blue") 3

-- a functor is missing; none is; one comes twice, so it is no switch; an arm whose first part is a conjunction; an arm that
-- begins with another goal; an arm that may have two solutions
faults_of_switches :
    map det_fault (code_of One (red ∷ green ∷ [])
    ∷ code_of Semidet (red ∷ green ∷ [])
    ∷ code_of One (red ∷ green ∷ blue ∷ [])
    ∷ code_of One (red ∷ green ∷ blue ∷ green ∷ [])
    ∷ code_of One (red ∷ green ∷ conj 7 (conj 7 (made 7 0 (codes "blue") [] ∷ succeed 7 ∷ []) ∷ is_int 7 1 3 ∷ []) ∷ [])
    ∷ code_of One (red ∷ green ∷ conj 7 (succeed 7 ∷ made 7 0 (codes "blue") [] ∷ is_int 7 1 3 ∷ []) ∷ [])
    ∷ code_of One (red ∷ green ∷ conj 7 (made 7 0 (codes "blue") [] ∷ disj 7 (is_int 7 1 3 ∷ is_int 7 1 4 ∷ []) ∷ []) ∷ [])
    ∷ [])
    ≡ (Some (Declared 4 One Semidet) ∷ None ∷ None ∷ Some (Declared 4 One Nondet) ∷ Some (Declared 4 One Nondet) ∷ Some (Declared 4 One Nondet)
    ∷ Some (Declared 4 One Multi) ∷ [])
unfolding det_fault
faults_of_switches = refl

-- a predicate p(N, L) that is declared on line 4, beside member; further variables are 2 to 5
abbrev pub with_body : Det → HldsGoal → Hlds
with_body det body = program (list_type ∷ type_of 30 (codes "box") (functor (codes "box") (number ∷ []) ∷ []) ∷ []) (hand_over
    ∷ predicate 4 (codes "p") ((number, In) ∷ (list, In) ∷ []) det 6 body ∷ member
    ∷ predicate 8 (codes "none") [] Failure 0 (fail 9) ∷ [])

-- what the body of p is found to be, where it isn't what is declared
unfoldable pub inferred : Det → List HldsGoal → List (Option DetFault)
unfolding det_fault
inferred det bodies = map (λ b. det_fault (with_body det b)) bodies

-- each kind of goal: it succeeds once, or may fail
once_or_fails :
    inferred Failure (succeed 5 ∷ is_int 5 2 1 ∷ made 5 2 (codes "nil") [] ∷ same 5 2 0 ∷ made 5 2 (codes "p") [] ∷ is_int 5 0 1 ∷ same 5 0 0
    ∷ at_most 5 0 0 ∷ unless 5 (fail 5) ∷ fail 5 ∷ call 5 (codes "none") [] ∷ [])
    ≡ (Some (Declared 4 Failure One) ∷ Some (Declared 4 Failure One) ∷ Some (Declared 4 Failure One) ∷ Some (Declared 4 Failure One)
    ∷ Some (Declared 4 Failure One) ∷ Some (Declared 4 Failure Semidet) ∷ Some (Declared 4 Failure Semidet) ∷ Some (Declared 4 Failure Semidet)
    ∷ Some (Declared 4 Failure Semidet) ∷ None ∷ None ∷ [])
unfolding det_fault inferred
once_or_fails = refl

-- taken apart: a type with two functors; with one; with one and an argument that is bound
taken_apart :
    inferred Failure (made 5 1 (codes "cons") (2 ∷ 3 ∷ []) ∷ conj 5 (made 5 2 (codes "box") (0 ∷ []) ∷ made 5 2 (codes "box") (3 ∷ []) ∷ [])
    ∷ conj 5 (made 5 2 (codes "box") (0 ∷ []) ∷ made 5 2 (codes "box") (0 ∷ []) ∷ []) ∷ [])
    ≡ (Some (Declared 4 Failure Semidet) ∷ Some (Declared 4 Failure One) ∷ Some (Declared 4 Failure Semidet) ∷ [])
unfolding det_fault inferred
taken_apart = refl

-- goals together: many and none in turn are none; once and many; arms that may all fail; one that can't; none of two; a
-- choice; a cut
together :
    inferred One (conj 5 (call 5 (codes "member") (2 ∷ 1 ∷ []) ∷ fail 5 ∷ [])
    ∷ conj 5 (is_int 5 3 1 ∷ call 5 (codes "member") (2 ∷ 1 ∷ []) ∷ [])
    ∷ disj 5 (is_int 5 0 1 ∷ at_most 5 0 0 ∷ [])
    ∷ disj 5 (succeed 5 ∷ fail 5 ∷ [])
    ∷ disj 5 (succeed 5 ∷ succeed 5 ∷ [])
    ∷ disj 5 (fail 5 ∷ fail 5 ∷ [])
    ∷ choose 5 (at_most 5 0 0) (succeed 5) (fail 5)
    ∷ choose 5 (fail 5) (succeed 5) (disj 5 (succeed 5 ∷ succeed 5 ∷ []))
    ∷ some 5 (2 ∷ []) (call 5 (codes "member") (2 ∷ 1 ∷ []))
    ∷ some 5 [] (disj 5 (succeed 5 ∷ succeed 5 ∷ []))
    ∷ some 5 [] (fail 5)
    ∷ [])
    ≡ (Some (Declared 4 One Failure) ∷ Some (Declared 4 One Nondet) ∷ Some (Declared 4 One Nondet) ∷ None ∷ Some (Declared 4 One Multi)
    ∷ Some (Declared 4 One Failure) ∷ Some (Declared 4 One Semidet) ∷ Some (Declared 4 One Multi) ∷ Some (Declared 4 One Semidet) ∷ None
    ∷ Some (Declared 4 One Failure) ∷ [])
unfolding det_fault inferred
together = refl

-- ---- faults of goals

-- pick(X) :- ( X = 1 ; X = 2 ).
abbrev pub pick : Procedure
pick = predicate 8 (codes "pick") ((number, Out) ∷ []) Multi 1 (disj 9 (is_int 9 0 1 ∷ is_int 9 0 2 ∷ []))

abbrev pub with_main : HldsGoal → Hlds
with_main body = program [] (main 5 body ∷ pick ∷ [])

-- A condition with many solutions that binds what occurs outside it, and one that doesn't. An io state after a goal with
-- many solutions, in an alternative, within a conjunction there, before such a goal. Outer before inner, and before what is
-- declared.
faults_of_goals :
    map det_fault (with_main (choose 3 (call 3 (codes "pick") (2 ∷ [])) (write_int 3 2 0 1) (same 3 1 0))
    ∷ with_main (choose 3 (call 3 (codes "pick") (2 ∷ [])) (same 4 1 0) (same 3 1 0))
    ∷ with_main (conj 3 (call 3 (codes "pick") (2 ∷ []) ∷ write_int 4 2 0 1 ∷ []))
    ∷ with_main (disj 3 (same 4 1 0 ∷ new_line 5 0 1 ∷ []))
    ∷ with_main (conj 3 (call 3 (codes "pick") (2 ∷ []) ∷ conj 4 (succeed 4 ∷ write_int 5 2 0 1 ∷ []) ∷ []))
    ∷ with_main (conj 3 (new_line 3 0 1 ∷ call 4 (codes "pick") (2 ∷ []) ∷ []))
    ∷ with_main (disj 3 (choose 4 (call 4 (codes "pick") (2 ∷ [])) (write_int 5 2 0 1) (same 6 1 0) ∷ same 7 1 0 ∷ []))
    ∷ [])
    ≡ (Some (ManyInCondition 3) ∷ None ∷ Some (IoInBacktracking 4) ∷ Some (IoInBacktracking 4) ∷ Some (IoInBacktracking 5)
    ∷ Some (Declared 2 One Multi) ∷ Some (ManyInCondition 4) ∷ [])
unfolding det_fault
faults_of_goals = refl

-- io in a predicate that isn't det, before its goals; the predicates in text order; an else part that always fails
faults_of_declarations :
    map det_fault (failing_arm
    ∷ program [] (predicate 2 (codes "main") ((world, Di) ∷ (world, Uo) ∷ []) Multi 2 (disj 3 (same 4 1 0 ∷ same 5 1 0 ∷ [])) ∷ [])
    ∷ program [] (hand_over ∷ predicate 4 (codes "p") [] One 0 (fail 5) ∷ predicate 6 (codes "q") ((world, Di) ∷ []) Semidet 1 (fail 7) ∷ [])
    ∷ [])
    ≡ (Some (Declared 2 One Semidet) ∷ Some (IoInBacktracking 2) ∷ Some (Declared 4 One Failure) ∷ [])
unfolding det_fault
faults_of_declarations = refl
