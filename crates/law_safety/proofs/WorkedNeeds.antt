-- Each hypothesis of the laws is needed. Here are small programs that the checks refuse, or that no text spells, and that go
-- wrong in the definition of a run; and goals of an accepted program that have another number of answers than their pair
-- says, where a hypothesis on the environment or on the trace doesn't hold.
use Rattle.std.proofs.Common.{◌≡◌, refl, sym, ap, subst, ℕ, true, false, List, [], ◌∷◌, Option, Some, None, codes}
use Rattle.std.proofs.lemmas.Bool.{false≢true}
use Rattle.md_hlds.specs.declared.types.Mode.TheVariants.{In, Out, Di, Uo}
use Rattle.md_hlds.specs.declared.types.Det.TheVariants.{Failure, Multi}
use Rattle.md_hlds.specs.declared.types.Det.TheVariants.{Det as One}
use Rattle.md_hlds.specs.HldsGoal.{Raises, HldsGoal, At, SimpleGoal, gathered, numbered_from}
use Rattle.md_hlds.specs.Hlds.{Hlds, Procedure, number, world, named}
use Rattle.md_hlds.specs.Value.{Value, Literal, Built, no_values}
use Rattle.md_hlds.specs.Switch.{Key, FunctorKey, arm_for}
use Rattle.md_hlds.specs.Trace.{Turn, Call, Fail, Stuck, Frame}
use Rattle.md_hlds.specs.Run.{run, main_items}
use Rattle.md_reader.specs.Grammar.{Spells}
use Rattle.md_reader.specs.Duplicates.{second_type_definition, second_functor, second_procedure, duplicate}
use Rattle.md_inst.specs.declared.fault.ModeFault.TheVariants.{Unbound}
use Rattle.md_modes.specs.Modes.{entry, mode_fault}
use Rattle.md_modes.proofs.Worked.{conj, disj, is_int, same, made, call, fail, add, write_int, new_line, predicate, main, program, io_args, colour_type, hand_over}
use Rattle.md_det.specs.declared.fault.DetFault.TheVariants.{Declared}
use Rattle.md_det.specs.declared.pair.Bound.TheVariants.{Zero}
use Rattle.md_det.specs.Pairs.{pair}
use Rattle.md_det.specs.Switches.{switch_of}
use Rattle.md_det.specs.Determinism.{sure, goal_pair}
use Rattle.md_det.specs.Faults.{det_fault}
use Rattle.law_safety.specs.Safe.{HasNoStuck}
use Rattle.law_safety.specs.Answers.{body_trace, answer_count, AnswersAsDeclared, is_over, ComesToItsEnd}
use Rattle.law_safety.specs.Known as known
use Rattle.law_safety.specs.Known.{place, Begins, switches_on, IsKeyed, IsChosen}
use Rattle.law_safety.specs.GoalAnswers.{goal_trace}
use Rattle.law_safety.proofs.Spelled.{spelled, spelled_at}

-- ---- no fault of modes

-- main(IO0, IO) :- io.write_int(X, IO0, IO).
abbrev unbound : Hlds
unbound = program [] (main 3 (write_int 3 2 0 1) ∷ [])

unbound_is_refused : mode_fault unbound ≡ Some (Unbound 3)
unfolding mode_fault
unbound_is_refused = refl

unbound_runs : run unbound 100 ≡ (Turn 0 None 4 ∷ Call 0 None None 0 ∷ Turn 0 (Some 0) 1 ∷ Stuck ∷ [])
unfolding run
unbound_runs = refl

unbound_is_stuck : HasNoStuck (run unbound 100) → ⊥
unfolding run
unbound_is_stuck h = h

-- ---- no fault of determinism

-- pick(X) :- ( X = 1 ; X = 2 ), declared det
abbrev picker : Procedure
picker = predicate 4 (codes "pick") ((number, Out) ∷ []) One 1 (disj 5 (is_int 5 0 1 ∷ is_int 5 0 2 ∷ []))

abbrev two_answers : Hlds
two_answers = program [] (hand_over ∷ picker ∷ [])

two_answers_have_modes : mode_fault two_answers ≡ None
unfolding mode_fault
two_answers_have_modes = refl

two_answers_are_refused : det_fault two_answers ≡ Some (Declared 4 One Multi)
unfolding det_fault
two_answers_are_refused = refl

two_answers_are_counted : answer_count (body_trace two_answers (1, picker) (None ∷ []) 5 1 2) ≡ 2
two_answers_are_counted = refl

two_answers_are_not_declared : AnswersAsDeclared two_answers → ⊥
two_answers_are_not_declared h = absurd (let one : 2 ≡ 1 = h 1 picker refl (None ∷ []) (tt, tt) 5 1 2 tt refl in cc one)

-- main(IO0, IO) :- p, IO = IO0.   p :- fail, declared det
abbrev failing_main : Procedure
failing_main = main 2 (conj 3 (call 3 (codes "p") [] ∷ same 3 1 0 ∷ []))

abbrev failer : Procedure
failer = predicate 4 (codes "p") [] One 0 (fail 5)

abbrev no_answer : Hlds
no_answer = program [] (failing_main ∷ failer ∷ [])

no_answer_has_modes : mode_fault no_answer ≡ None
unfolding mode_fault
no_answer_has_modes = refl

no_answer_is_refused : det_fault no_answer ≡ Some (Declared 4 One Failure)
unfolding det_fault
no_answer_is_refused = refl

no_answer_is_counted : answer_count (body_trace no_answer (1, failer) [] 5 1 2) ≡ 0
no_answer_is_counted = refl

no_answer_runs :
    run no_answer 100
    ≡ (Turn 0 None 4 ∷ Call 0 None None 0 ∷ Turn 0 (Some 0) 1 ∷ Turn 0 (Some 1) 1 ∷ Call 1 (Some 0) (Some 0) 1 ∷ Turn 1 (Some 3) 1 ∷ Fail 1 ∷ Fail 0 ∷ [])
unfolding run
no_answer_runs = refl

-- main's run is neither finished nor thrown, and the budget doesn't cut it
no_answer_has_no_end : ComesToItsEnd no_answer 100 → ⊥
unfolding run
no_answer_has_no_end h =
    let same : ◌≡◌ {A = Option (ℕ × Procedure)} (Some (0, failing_main)) (Some h.main) = h.called in
    let is : ◌≡◌ {A = ℕ × Procedure} (0, failing_main) h.main = cc same in
    let over : is_over 100 (main_items no_answer 100 h.main) ≡ false = subst (λ (m : ℕ × Procedure). is_over 100 (main_items no_answer 100 m) ≡ false) is refl in
    false≢true (h.ends over)

-- ---- what the grammar gives

-- main(IO0, IO) :- p(X, X), IO = IO0.   p(A, B) :- A = 1, C = A + B, where A is an output and B an input: the rules take the
-- arguments from left to right, and so B as bound by A
abbrev same_main : Procedure
same_main = main 3 (conj 3 (call 3 (codes "p") (2 ∷ 2 ∷ []) ∷ same 3 1 0 ∷ []))

abbrev same_twice : Hlds
same_twice = program [] (same_main ∷ predicate 4 (codes "p") ((number, Out) ∷ (number, In) ∷ []) One 3 (conj 5 (is_int 5 0 1 ∷ add 5 2 0 1 ∷ [])) ∷ [])

same_twice_has_modes : mode_fault same_twice ≡ None
unfolding mode_fault
same_twice_has_modes = refl

same_twice_is_det : det_fault same_twice ≡ None
unfolding det_fault
same_twice_is_det = refl

same_twice_is_stuck : HasNoStuck (run same_twice 100) → ⊥
unfolding run
same_twice_is_stuck h = h

no_text_spells_same_twice : (bytes : List ℕ) → Spells bytes same_twice → ⊥
no_text_spells_same_twice bytes h =
    let tidy = (spelled_at same_twice.procedures 0 same_main (spelled bytes same_twice h) refl).0 in
    absurd (let none : 1 ≡ 0 = tidy.0.0 in cc none)

-- A main with the io state handed the other way round, main(IO, IO0) :- io.nl(IO0, IO), and after it one as it should be: the
-- rules find the second, and a run calls the first.
abbrev two_mains : Hlds
two_mains = program [] (predicate 2 (codes "main") ((world, Uo) ∷ (world, Di) ∷ []) One 2 (new_line 3 1 0) ∷ predicate 4 (codes "main") io_args One 2 (same 5 1 0) ∷ [])

two_mains_have_modes : mode_fault two_mains ≡ None
unfolding mode_fault
two_mains_have_modes = refl

two_mains_are_det : det_fault two_mains ≡ None
unfolding det_fault
two_mains_are_det = refl

two_mains_are_stuck : HasNoStuck (run two_mains 100) → ⊥
unfolding run
two_mains_are_stuck h = h

no_text_spells_two_mains : (bytes : List ℕ) → Spells bytes two_mains → ⊥
unfolding duplicate second_type_definition second_functor second_procedure
no_text_spells_two_mains bytes h =
    let twice : duplicate two_mains ≡ Some 4 = refl in
    let once = h.once in
    absurd (cc (twice, once))

-- ---- inputs that have values

abbrev arm : List ℕ → ℕ → HldsGoal
arm colour n = conj 5 (made 5 0 colour [] ∷ is_int 5 1 n ∷ [])

abbrev red : HldsGoal
red = arm (codes "red") 1

abbrev arms : List HldsGoal
arms = red ∷ arm (codes "green") 2 ∷ arm (codes "blue") 3 ∷ []

-- code(C, N) :- ( C = red, N = 1 ; C = green, N = 2 ; C = blue, N = 3 ).
abbrev code : Procedure
code = predicate 4 (codes "code") ((named (codes "colour"), In) ∷ (number, Out) ∷ []) One 2 (disj 5 arms)

abbrev coded : Hlds
coded = program (colour_type ∷ []) (hand_over ∷ code ∷ [])

coded_has_modes : mode_fault coded ≡ None
unfolding mode_fault
coded_has_modes = refl

coded_is_det : det_fault coded ≡ None
unfolding det_fault
coded_is_det = refl

-- a colour's value
abbrev colour : List ℕ → Value
colour name = Built name no_values

code_has_one_answer : answer_count (body_trace coded (1, code) (Some (colour (codes "green")) ∷ None ∷ []) 5 1 2) ≡ 1
code_has_one_answer = refl

code_of_none_has_three : answer_count (body_trace coded (1, code) (None ∷ None ∷ []) 5 1 2) ≡ 3
code_of_none_has_three = refl

-- ---- the arm that is chosen

-- the first arm, which is the goal of number 2, and its first part
abbrev first_arm : Begins coded (1, code) false 2 red (entry code)
first_arm = known.arm false 2 red _ (entry code) (known.arms false 1 5 (gathered arms) (entry code) known.body)

abbrev first_part : Begins coded (1, code) false 3 (made 5 0 (codes "red") []) (entry code)
first_part = known.part false 3 (made 5 0 (codes "red") []) _ (entry code) (known.parts false 2 5 _ (entry code) first_arm)

arm_switches_on : switches_on first_arm ≡ Some 0
arm_switches_on = refl

first_part_switches_on : switches_on first_part ≡ Some 0
first_part_switches_on = refl

-- the checks have it that `C = red, N = 1` can't fail as an arm, and where C is green it fails
arm_is_sure : goal_pair (place coded code false) (switches_on first_arm) red (entry code) ≡ sure
arm_is_sure = refl

abbrev with_colour : List ℕ → Frame
with_colour name = record { act = 0; env = Some (colour name) ∷ None ∷ []; goals = []; pairs = [] }

chosen_arm_has_one_answer : answer_count (goal_trace coded (with_colour (codes "red")) 2 red 5 1) ≡ 1
chosen_arm_has_one_answer = refl

other_arm_has_none : answer_count (goal_trace coded (with_colour (codes "green")) 2 red 5 1) ≡ 0
other_arm_has_none = refl

same_key : (x : ℕ) (j k : Key) → ◌≡◌ {A = Option (ℕ × Key)} (Some (x, j)) (Some (x, k)) → j ≡ k
same_key x j k is =
    let pairs : ◌≡◌ {A = ℕ × Key} (x, j) (x, k) = cc is in
    ap (λ (p : ℕ × Key). p.1) pairs

green_is_not_chosen : IsChosen coded (switches_on first_arm) red (with_colour (codes "green")).env → ⊥
green_is_not_chosen h =
    false≢true (subst (λ (k : Key). IsKeyed k (Some (colour (codes "green")))) (sym (same_key 0 (FunctorKey (codes "red") 0) h.0 h.1)) h.2)

-- where the arm of blue is missing, the switch isn't whole, and none of its arms is for blue
abbrev two_arms : List HldsGoal
two_arms = red ∷ arm (codes "green") 2 ∷ []

blue_is_missing : switch_of coded (gathered two_arms) (entry code) ≡ Some (record { var = 0; whole = false })
blue_is_missing = refl

no_arm_for_blue : arm_for (colour (codes "blue")) (FunctorKey (codes "red") 0 ∷ FunctorKey (codes "green") 0 ∷ []) (numbered_from 2 (gathered two_arms)) ≡ None
no_arm_for_blue = refl

none_is_missing : switch_of coded (gathered arms) (entry code) ≡ Some (record { var = 0; whole = true })
none_is_missing = refl

-- ---- a trace that is deep enough and isn't thrown

shallow_arm_has_none : answer_count (goal_trace coded (with_colour (codes "red")) 2 red 1 1) ≡ 0
shallow_arm_has_none = refl

-- what throws can't fail, and has no answer
abbrev throws : HldsGoal
throws = At 5 (SimpleGoal (Raises 0))

throws_cannot_fail : goal_pair (place coded code false) None throws (entry code) ≡ pair false Zero
throws_cannot_fail = refl

throws_has_no_answer : answer_count (goal_trace coded (record { act = 0; env = Some (Literal (codes "no")) ∷ []; goals = []; pairs = [] }) 1 throws 5 1) ≡ 0
throws_has_no_answer = refl
