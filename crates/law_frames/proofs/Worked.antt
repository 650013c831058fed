-- The definitions, computed on small clauses, and a run that the laws make. Each result was worked out by hand: with a
-- choice left open after a cut, the failure address of another construct, or a redo that comes back to the wrong place it
-- would be another.
use Rattle.std.proofs.Common.{◌≡◌, refl, ap, sym, arith, ℕ, pos, Bool, true, false, ◌||◌, nat_eq, is_some, List, [], ◌∷◌, ◌++◌, Some, None, true≢false}
use Rattle.std.specs.Prelude.{codes}
use Rattle.md_hlds.specs.declared.types.Det.TheVariants.{Failure, Nondet}
use Rattle.md_hlds.specs.declared.goal.PredName.{PredName}
use Rattle.md_hlds.specs.HldsGoal.{HldsGoal, At, GoalExpr, Succeeds, Fails, SimpleGoal, CallGoal, ConjGoal, DisjGoal, IfGoal, gathered, Numbered, numbered_goal, numbered_from}
use Rattle.md_hlds.specs.Hlds.{Hlds, Procedure}
use Rattle.md_hlds.specs.Value.{Number, value_at}
use Rattle.md_hlds.specs.Trace.{Turn, Call, Exit, Redo, Fail, Items, back}
use Rattle.md_hlds.specs.Run.{run}
use Rattle.law_frames.specs.Ways.{Leaves, Address, pop, port, to, tries, redoes, Way, on, joins, holds, denies, finds, exits, yields, parts_way, part_way, condition_way, negation_way, some_way, arms_address, arm_way, cut_body, whole_body}
use Rattle.law_frames.specs.Stores.{Act, Choice, choice, Store, arms_choices, trimmed, copy_all, with_height, top, HandsOver, had, handed, none_over}
use Rattle.law_frames.specs.Standing.{Doing, Runs, Misses}
use Rattle.law_frames.specs.Running.{InRun}
use Rattle.law_steps.specs.Makes.{with_main}
use Rattle.law_frames.proofs.Beginning.{begins_cut}
use Rattle.law_frames.proofs.RunLemmas.{in_run_begins, in_run_turns, in_run_moves, in_run_stops}
use Rattle.law_frames.proofs.Conditions.{if_goes}
use Rattle.law_frames.proofs.Disjunctions.{disjunction_tries}
use Rattle.law_frames.proofs.FailureLemmas.{after_missing}
use Rattle.law_frames.proofs.SimpleTurns.{simple_goes, simple_fails, conjunction_goes}
use Rattle.law_frames.specs.Calls.{none_in, frame_written}
use Rattle.law_frames.proofs.Calling.{CallsOf, plain_call, whole_called}
use Rattle.law_frames.proofs.AnyTurns.{frame_of_call}
use Rattle.law_frames.proofs.Exits.{after_yielding}
use Rattle.law_frames.proofs.Ends.{after_holding, after_joining}

abbrev goal : GoalExpr → HldsGoal
goal t = At 0 t

abbrev called : List ℕ → PredName
called name = record { qualifier = None; name = name }

-- a call of a procedure that has one answer, and one of a procedure that may have more
abbrev once : ℕ → HldsGoal
once site = goal (CallGoal site (called (codes "once")) [])

abbrev often : ℕ → HldsGoal
often site = goal (CallGoal site (called (codes "often")) [])

-- ---- a condition that may leave choices, before a call that may leave one

-- ( often -> once ; once ), often
abbrev choice_goal : HldsGoal
choice_goal = goal (IfGoal (often 0) (once 1) (once 2))

abbrev clause : HldsGoal
clause = goal (ConjGoal (gathered (choice_goal ∷ often 3 ∷ [])))

-- the conjunction is goal 0, the if-then-else 1, its condition 2, its parts 3 and 4, and the last call 5
abbrev leaves : Leaves
leaves n = nat_eq n 0 || nat_eq n 2 || nat_eq n 5

-- Nothing is open before the if-then-else, and so it fails to the port; and so do its parts and the call after it, since
-- the choices of the condition are cut. After that call there may be a choice.
abbrev last_call : Way
last_call = on port (numbered_goal 5 (often 3)) (yields pop)

parts : parts_way leaves 1 (gathered (choice_goal ∷ often 3 ∷ [])) port (yields pop) ≡ on port (numbered_goal 1 choice_goal) last_call
parts = refl

then_way : part_way leaves 1 port (numbered_goal 3 (once 1)) last_call ≡ on port (numbered_goal 3 (once 1)) last_call
then_way = refl

-- the condition runs above a choice, and fails to the newest; its end cuts to the height that goal 1 keeps
condition : (t e : Way) → condition_way leaves 1 (numbered_goal 2 (often 0)) t e ≡ on pop (numbered_goal 2 (often 0)) (holds pop true 1 t)
condition t e = refl

-- a condition that leaves none fails to the else part at once, and cuts nothing
condition_once : (t e : Way) → condition_way leaves 1 (numbered_goal 3 (once 0)) t e ≡ on (to e) (numbered_goal 3 (once 0)) (holds (to e) false 1 t)
condition_once t e = refl

-- a body whose first answer is kept is cut, where it may leave choices, and a redo comes back into the body, not to its port
body : cut_body leaves (numbered_goal 0 clause) ≡ on port (numbered_goal 0 clause) (exits pop true)
body = refl

body_once : cut_body leaves (numbered_goal 3 (once 1)) ≡ on port (numbered_goal 3 (once 1)) (exits port false)
body_once = refl

body_often : whole_body leaves (numbered_goal 0 clause) ≡ on port (numbered_goal 0 clause) (yields pop)
body_often = refl

-- ---- negations and quantified goals

-- \+ once, before w: it fails to a, and goes on with w where the call fails
negation : (a : Address) (w : Way) → negation_way leaves 1 a (numbered_goal 3 (once 1)) w ≡ on (to w) (numbered_goal 3 (once 1)) (denies (to w) false 1 a)
negation a w = refl

negation_often : (a : Address) (w : Way) → negation_way leaves 1 a (numbered_goal 2 (often 0)) w ≡ on pop (numbered_goal 2 (often 0)) (denies pop true 1 a)
negation_often a w = refl

quantified : (a : Address) (w : Way) → some_way leaves 1 a (numbered_goal 2 (often 0)) w ≡ on a (numbered_goal 2 (often 0)) (finds pop true 1 w)
quantified a w = refl

-- ---- arms

-- ( often ; once ), of which the arms have the numbers 2 and 3, before w, which counts on choices: the first arm runs above a
-- choice of the second; the second fails to where the disjunction does, and leaves a choice that does, since it left none
arms_begin : (w : Way) → arms_address (numbered_from 2 (gathered (often 0 ∷ once 1 ∷ []))) port w ≡ tries (numbered_goal 2 (often 0)) (numbered_goal 3 (once 1) ∷ []) port w
arms_begin w = refl

first_arm : (w : Way) → arm_way leaves (numbered_goal 2 (often 0)) (numbered_goal 3 (once 1) ∷ []) port w ≡ on pop (numbered_goal 2 (often 0)) w
first_arm w = refl

first_choice : (x : Act) (w : Way) → arms_choices x [] (numbered_goal 3 (once 1) ∷ []) port w [] ≡ choice x [] (tries (numbered_goal 3 (once 1)) [] port w) ∷ []
first_choice x w = refl

second_arm : (w : Way) → arm_way leaves (numbered_goal 3 (once 1)) [] port w ≡ on port (numbered_goal 3 (once 1)) (joins port w)
second_arm w = refl

-- an arm that may leave a choice needs none, and nor does one that fails to the newest
last_often : (w : Way) → arm_way leaves (numbered_goal 2 (often 0)) [] port w ≡ on port (numbered_goal 2 (often 0)) w
last_often w = refl

last_popped : (w : Way) → arm_way leaves (numbered_goal 3 (once 1)) [] pop w ≡ on pop (numbered_goal 3 (once 1)) w
last_popped w = refl

-- ---- outputs

-- Where a variable of the caller stood for two outputs, the definition would take the first and the slots the second: so
-- no two outputs have the same.
abbrev some_act : Act
some_act = record { index = 0; number = 0; caller = 0; pairs = []; outs = []; no = port; goal = numbered_goal 0 (once 0); back = yields port }

-- slot y has the number y in each frame
abbrev store : Store
store = record { values = λ i y. Number (pos y); heights = λ i n. 0; acts = λ i. some_act }

-- outputs of the frame 1 are copied to the frame 0
one_each : (copy_all ((3, 0) ∷ (4, 1) ∷ []) store 1 0).values 0 0 ≡ Number (pos 3)
one_each = refl

one_each_too : (copy_all ((3, 0) ∷ (4, 1) ∷ []) store 1 0).values 0 1 ≡ Number (pos 4)
one_each_too = refl

the_callee_stays : (copy_all ((3, 0) ∷ (4, 1) ∷ []) store 1 0).values 1 0 ≡ Number (pos 0)
the_callee_stays = refl

the_last_stays : (copy_all ((3, 0) ∷ (4, 0) ∷ []) store 1 0).values 0 0 ≡ Number (pos 4)
the_last_stays = refl

the_first_counts : value_at (back ((0, 0) ∷ (1, 0) ∷ []) (Some (Number (pos 3)) ∷ Some (Number (pos 4)) ∷ []) (None ∷ [])) 0 ≡ Some (Number (pos 3))
the_first_counts = refl

-- of these pairs, the caller has a value for the second
handed_over : HandsOver (None ∷ Some (Number (pos 7)) ∷ None ∷ []) ((0, 0) ∷ (1, 1) ∷ (2, 2) ∷ []) ((0, 0) ∷ (2, 2) ∷ [])
handed_over = handed (0, 0) ((1, 1) ∷ (2, 2) ∷ []) ((2, 2) ∷ []) refl ((λ same. true≢false (ap is_two same)), tt)
    (had (1, 1) ((2, 2) ∷ []) ((2, 2) ∷ []) (Number (pos 7)) refl (handed (2, 2) [] [] refl tt none_over))
  where
    is_two : ℕ → Bool
    is_two n = nat_eq n 2

-- ---- frames

-- an activation in the frame 2 with a choice for an activation in the frame 5: its next call uses the frame 6
abbrev act_in : ℕ → Act
act_in i = record some_act { index = i }

next_frame : top (act_in 2) (choice (act_in 5) [] pop ∷ choice (act_in 1) [] pop ∷ []) ≡ 6
next_frame = refl

-- when that choice is cut it uses the frame 3
next_after_cut : top (act_in 2) (trimmed 1 (choice (act_in 5) [] pop ∷ choice (act_in 1) [] pop ∷ [])) ≡ 3
next_after_cut = refl

-- ---- a run by the laws

-- main :- ( ( true ; true ) -> fail ; true ).  The first arm holds, and the second isn't tried: the choice is cut.
abbrev arms_of : HldsGoal
arms_of = goal (DisjGoal (gathered (goal (SimpleGoal Succeeds) ∷ goal (SimpleGoal Succeeds) ∷ [])))

abbrev main_goal : HldsGoal
main_goal = goal (IfGoal arms_of (goal (SimpleGoal Fails)) (goal (SimpleGoal Succeeds)))

abbrev main_procedure : Procedure
main_procedure = record { qualifier = None; name = codes "main"; line = 0; clause_line = 0; args = []; det = Failure; vars = []; head = []; body = main_goal }

abbrev program : Hlds
program = record { module_name = codes "m"; module_line = 0; types = []; procedures = main_procedure ∷ [] }

abbrev main : ℕ × Procedure
main = (0, main_procedure)

-- the if-then-else is goal 0, the disjunction 1, its arms 2 and 3, and the parts 4 and 5
abbrev one_leaves : Leaves
one_leaves n = nat_eq n 1

abbrev end_way : Way
end_way = exits port false

abbrev then_part : Way
then_part = on port (numbered_goal 4 (goal (SimpleGoal Fails))) end_way

abbrev else_part : Way
else_part = on port (numbered_goal 5 (goal (SimpleGoal Succeeds))) end_way

-- the stores: as main begins, and with the height of goal 0
abbrev begun : Store
begun = store

abbrev with_the_height : Store
with_the_height = with_height store 0 1 0

begins : InRun program one_leaves 10 9 (with_main main []) begun (Runs (on port (numbered_goal 0 main_goal) end_way) some_act []) [] 1
begins = in_run_begins refl (omega arith) (begins_cut program main (record { act = refl; bottom = refl; first = refl; entered = λ y v has. absurd (true≢false (sym (ap is_some has))) }))

-- the turns that are made, one after the other
abbrev done_1 : Items
done_1 = with_main main [] ++ (Turn 0 (Some 0) 1 ∷ [])

abbrev done_2 : Items
done_2 = done_1 ++ (Turn 0 (Some 1) 1 ∷ [])

abbrev done_3 : Items
done_3 = (done_2 ++ []) ++ (Turn 0 (Some 2) 1 ∷ [])

abbrev done_4 : Items
done_4 = (done_3 ++ []) ++ (Turn 0 (Some 4) 1 ∷ [])

abbrev holds_way : Way
holds_way = holds pop true 0 then_part

abbrev else_choice : Choice
else_choice = choice some_act [] (to else_part)

abbrev second_choice : Choice
second_choice = choice some_act [] (tries (numbered_goal 3 (goal (SimpleGoal Succeeds))) [] pop holds_way)

-- the condition runs above a choice of the else part
condition_runs : InRun program one_leaves 10 8 done_1 with_the_height (Runs (on pop (numbered_goal 1 arms_of) holds_way) some_act []) (else_choice ∷ []) 1
condition_runs = (in_run_turns begins (if_goes program begins.is (λ t. absurd (true≢false (sym t))) (λ t. absurd (true≢false (sym t))))).fits (omega arith)

-- its first arm runs above a choice of the second
arms_run : InRun program one_leaves 10 7 done_2 with_the_height (Misses (tries (numbered_goal 2 (goal (SimpleGoal Succeeds))) (numbered_goal 3 (goal (SimpleGoal Succeeds)) ∷ []) pop holds_way) some_act []) (else_choice ∷ []) 1
arms_run = (in_run_turns condition_runs (disjunction_tries program condition_runs.is refl tt)).fits (omega arith)

arm_runs : InRun program one_leaves 10 7 (done_2 ++ []) with_the_height (Runs (on pop (numbered_goal 2 (goal (SimpleGoal Succeeds))) holds_way) some_act []) (second_choice ∷ else_choice ∷ []) 1
arm_runs = in_run_moves arms_run (after_missing arms_run.is)

-- the condition holds, and both choices are dropped
arm_holds : InRun program one_leaves 10 6 done_3 with_the_height (Runs holds_way some_act []) (second_choice ∷ else_choice ∷ []) 1
arm_holds = (in_run_turns arm_runs (simple_goes program arm_runs.is refl 0 0 None [] refl tt tt)).fits (omega arith)

then_runs : InRun program one_leaves 10 6 (done_3 ++ []) with_the_height (Runs then_part some_act []) [] 1
then_runs = in_run_moves arm_holds (after_holding arm_holds.is).to

-- the then part fails, and so does main
then_fails : InRun program one_leaves 10 5 done_4 with_the_height (Misses port some_act []) [] 1
then_fails = (in_run_turns then_runs (simple_fails program then_runs.is 0 refl)).fits (omega arith)

the_run : run program 10 ≡ Turn 0 None 1 ∷ Call 0 None None 0 ∷ Turn 0 (Some 0) 1 ∷ Turn 0 (Some 1) 1 ∷ Turn 0 (Some 2) 1 ∷ Turn 0 (Some 4) 1 ∷ Fail 0 ∷ []
the_run = in_run_stops then_fails (after_missing then_fails.is).stops

-- and this is what the definition gives
the_definition : run program 10 ≡ Turn 0 None 1 ∷ Call 0 None None 0 ∷ Turn 0 (Some 0) 1 ∷ Turn 0 (Some 1) 1 ∷ Turn 0 (Some 2) 1 ∷ Turn 0 (Some 4) 1 ∷ Fail 0 ∷ []
unfolding run
the_definition = refl

-- ---- a run with redos by the laws

-- main :- often, fail.   often :- ( true ; true ).  Each answer of the call is taken back.
abbrev calls_often : HldsGoal
calls_often = goal (CallGoal 0 (called (codes "often")) [])

abbrev asking : HldsGoal
asking = goal (ConjGoal (gathered (calls_often ∷ goal (SimpleGoal Fails) ∷ [])))

abbrev asks : Procedure
asks = record main_procedure { body = asking }

abbrev answers_twice : Procedure
answers_twice = record { qualifier = None; name = codes "often"; line = 0; clause_line = 0; args = []; det = Nondet; vars = []; head = []; body = arms_of }

abbrev redo_program : Hlds
redo_program = record { module_name = codes "m"; module_line = 0; types = []; procedures = asks ∷ answers_twice ∷ [] }

-- the conjunction is goal 0, the call 1 and the failure 2; in the other clause the disjunction is 3, and its arms are 4 and 5
abbrev redo_leaves : Leaves
redo_leaves n = nat_eq n 0 || nat_eq n 1 || nat_eq n 3

-- the ways: the failure after the call, the end of the other body, and its arms
abbrev after_call : Way
after_call = on pop (numbered_goal 2 (goal (SimpleGoal Fails))) (exits pop true)

abbrev the_call : Numbered
the_call = numbered_goal 1 calls_often

abbrev arm_4 : Numbered
arm_4 = numbered_goal 4 (goal (SimpleGoal Succeeds))

abbrev arm_5 : Numbered
arm_5 = numbered_goal 5 (goal (SimpleGoal Succeeds))

-- the activation of the call, in the frame 1, and the store with it
abbrev called_act : Act
called_act = record { index = 1; number = 1; caller = 0; pairs = []; outs = []; no = port; goal = the_call; back = after_call }

abbrev called_store : Store
called_store = frame_written begun 0 1 called_act 0 [] []

-- the choices: for the second arm, for a redo, and for the end of the second arm
abbrev arm_choice : Choice
arm_choice = choice called_act (some_act ∷ []) (tries arm_5 [] port (yields pop))

abbrev redo_choice : Choice
redo_choice = choice called_act (some_act ∷ []) (redoes pop)

abbrev end_choice : Choice
end_choice = choice called_act (some_act ∷ []) port

abbrev call_runs : Way → Doing
call_runs w = Runs w called_act (some_act ∷ [])

abbrev call_misses : Address → Doing
call_misses a = Misses a called_act (some_act ∷ [])

abbrev items_1 : Items
items_1 = with_main (0, asks) [] ++ (Turn 0 (Some 0) 1 ∷ [])

abbrev items_2 : Items
items_2 = items_1 ++ (Turn 0 (Some 1) 1 ∷ Call 1 (Some 0) (Some 0) 1 ∷ [])

abbrev items_3 : Items
items_3 = items_2 ++ (Turn 1 (Some 3) 1 ∷ [])

abbrev items_4 : Items
items_4 = (items_3 ++ []) ++ (Turn 1 (Some 4) 1 ∷ [])

abbrev items_5 : Items
items_5 = (items_4 ++ (Exit 1 ∷ [])) ++ (Turn 0 (Some 2) 1 ∷ [])

abbrev items_6 : Items
items_6 = (items_5 ++ []) ++ (Redo 1 ∷ [])

abbrev items_7 : Items
items_7 = ((items_6 ++ []) ++ []) ++ (Turn 1 (Some 5) 1 ∷ [])

abbrev items_8 : Items
items_8 = ((items_7 ++ []) ++ (Exit 1 ∷ [])) ++ (Turn 0 (Some 2) 1 ∷ [])

abbrev items_9 : Items
items_9 = (items_8 ++ []) ++ (Redo 1 ∷ [])

abbrev items_10 : Items
items_10 = (items_9 ++ []) ++ (Fail 1 ∷ [])

abbrev RedoRun : ℕ → Items → Store → Doing → List Choice → ℕ → Type 0
RedoRun left done S d cs k = InRun redo_program redo_leaves 20 left done S d cs k

-- main's body begins
redo_begins : RedoRun 18 (with_main (0, asks) []) begun (Runs (on port (numbered_goal 0 asking) (exits pop true)) some_act []) [] 1
redo_begins = in_run_begins refl (omega arith) (begins_cut redo_program (0, asks) (record { act = refl; bottom = refl; first = refl; entered = λ y v has. absurd (true≢false (sym (ap is_some has))) }))

redo_1 : RedoRun 17 items_1 begun (Runs (on port the_call after_call) some_act []) [] 1
redo_1 = (in_run_turns redo_begins (conjunction_goes redo_program redo_begins.is refl)).fits (omega arith)

-- the call runs in the frame 1
redo_call : CallsOf redo_program redo_1.st some_act the_call 0 (1, answers_twice) [] []
redo_call = plain_call redo_program redo_1.st some_act 1 0 0 (called (codes "often")) [] (1, answers_twice) refl refl

redo_2 : RedoRun 16 items_2 called_store (call_runs (on port (numbered_goal 3 arms_of) (yields pop))) [] 2
redo_2 = (in_run_turns redo_1 (whole_called redo_program 0 (1, answers_twice) [] [] [] 0 redo_1.is redo_call refl refl none_over (frame_of_call redo_program 0 (1, answers_twice) [] [] [] [] redo_1.is redo_call none_in))).fits (omega arith)

-- its first arm runs above a choice of the second
redo_3 : RedoRun 15 items_3 called_store (call_misses (tries arm_4 (arm_5 ∷ []) port (yields pop))) [] 2
redo_3 = (in_run_turns redo_2 (disjunction_tries redo_program redo_2.is refl tt)).fits (omega arith)

redo_4 : RedoRun 15 (items_3 ++ []) called_store (call_runs (on pop arm_4 (yields pop))) (arm_choice ∷ []) 2
redo_4 = in_run_moves redo_3 (after_missing redo_3.is)

redo_5 : RedoRun 14 items_4 called_store (call_runs (yields pop)) (arm_choice ∷ []) 2
redo_5 = (in_run_turns redo_4 (simple_goes redo_program redo_4.is refl 0 0 None [] refl tt tt)).fits (omega arith)

-- it exits, and leaves a choice for its redo; main's failure goes there
redo_6 : RedoRun 14 (items_4 ++ (Exit 1 ∷ [])) called_store (Runs after_call some_act []) (redo_choice ∷ arm_choice ∷ []) 2
redo_6 = in_run_moves redo_5 (after_yielding redo_5.is).to

redo_7 : RedoRun 13 items_5 called_store (Misses pop some_act []) (redo_choice ∷ arm_choice ∷ []) 2
redo_7 = (in_run_turns redo_6 (simple_fails redo_program redo_6.is 0 refl)).fits (omega arith)

redo_8 : RedoRun 13 (items_5 ++ []) called_store (call_misses (redoes pop)) (arm_choice ∷ []) 2
redo_8 = in_run_moves redo_7 (after_missing redo_7.is)

-- the redo comes back to the second arm
redo_9 : RedoRun 13 items_6 called_store (call_misses pop) (arm_choice ∷ []) 2
redo_9 = in_run_moves redo_8 (after_missing redo_8.is).to

redo_10 : RedoRun 13 (items_6 ++ []) called_store (call_misses (tries arm_5 [] port (yields pop))) [] 2
redo_10 = in_run_moves redo_9 (after_missing redo_9.is)

-- which fails to the port, and so leaves a choice that does
redo_11 : RedoRun 13 ((items_6 ++ []) ++ []) called_store (call_runs (on port arm_5 (joins port (yields pop)))) [] 2
redo_11 = in_run_moves redo_10 (after_missing redo_10.is)

redo_12 : RedoRun 12 items_7 called_store (call_runs (joins port (yields pop))) [] 2
redo_12 = (in_run_turns redo_11 (simple_goes redo_program redo_11.is refl 0 0 None [] refl tt tt)).fits (omega arith)

redo_13 : RedoRun 12 (items_7 ++ []) called_store (call_runs (yields pop)) (end_choice ∷ []) 2
redo_13 = in_run_moves redo_12 (after_joining redo_12.is)

-- it exits again
redo_14 : RedoRun 12 ((items_7 ++ []) ++ (Exit 1 ∷ [])) called_store (Runs after_call some_act []) (redo_choice ∷ end_choice ∷ []) 2
redo_14 = in_run_moves redo_13 (after_yielding redo_13.is).to

redo_15 : RedoRun 11 items_8 called_store (Misses pop some_act []) (redo_choice ∷ end_choice ∷ []) 2
redo_15 = (in_run_turns redo_14 (simple_fails redo_program redo_14.is 0 refl)).fits (omega arith)

redo_16 : RedoRun 11 (items_8 ++ []) called_store (call_misses (redoes pop)) (end_choice ∷ []) 2
redo_16 = in_run_moves redo_15 (after_missing redo_15.is)

-- and now the redo finds no more: the call fails, and so does main
redo_17 : RedoRun 11 items_9 called_store (call_misses pop) (end_choice ∷ []) 2
redo_17 = in_run_moves redo_16 (after_missing redo_16.is).to

redo_18 : RedoRun 11 (items_9 ++ []) called_store (call_misses port) [] 2
redo_18 = in_run_moves redo_17 (after_missing redo_17.is)

redo_19 : RedoRun 11 items_10 called_store (Misses port some_act []) [] 2
redo_19 = in_run_moves redo_18 (after_missing redo_18.is).to

abbrev redo_items : Items
redo_items =
    Turn 0 None 2 ∷ Call 0 None None 0 ∷ Turn 0 (Some 0) 1 ∷ Turn 0 (Some 1) 1 ∷ Call 1 (Some 0) (Some 0) 1 ∷ Turn 1 (Some 3) 1 ∷ Turn 1 (Some 4) 1 ∷ Exit 1
    ∷ Turn 0 (Some 2) 1 ∷ Redo 1 ∷ Turn 1 (Some 5) 1 ∷ Exit 1
    ∷ Turn 0 (Some 2) 1 ∷ Redo 1 ∷ Fail 1 ∷ Fail 0 ∷ []

redo_run : run redo_program 20 ≡ redo_items
redo_run = in_run_stops redo_19 (after_missing redo_19.is).stops

redo_definition : run redo_program 20 ≡ redo_items
unfolding run
redo_definition = refl
