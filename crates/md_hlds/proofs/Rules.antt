-- Each rule of a run, computed where a wrong rule would give something else.
use Rattle.std.proofs.Common.{◌≡◌, refl, ℕ, suc, pos, negsuc, true, false, List, [], ◌∷◌, ◌++◌, Some, None}
use Rattle.std.specs.Prelude.{codes}
use Rattle.std.specs.Fmt.{digits}
use Rattle.md_hlds.specs.declared.types.Det.{Det}
use Rattle.md_hlds.specs.declared.types.Det.TheVariants.{Semidet, Multi, Nondet, Failure}
use Rattle.md_hlds.specs.declared.types.Det.TheVariants.{Det as One}
use Rattle.md_hlds.specs.declared.goal.Term.TheVariants.{Var, Int, Str, Name}
use Rattle.md_hlds.specs.declared.goal.Op.TheVariants.{Mul}
use Rattle.md_hlds.specs.declared.goal.Cmp.TheVariants.{Lt, Le, Gt, Ge}
use Rattle.md_hlds.specs.HldsGoal.{HldsGoal, SimpleGoal, CallGoal, HoCallGoal, NotGoal, SomeGoal, Fails, Unifies, Computes, Compares, WritesInt, WritesText, EndsLine, Raises}
use Rattle.md_hlds.specs.Hlds.{Hlds, HldsTypeDef, Procedure, number}
use Rattle.md_hlds.specs.Value.{Number, Literal, Built, Closure, no_values, also_value, Env}
use Rattle.md_hlds.specs.Value.{Value as Meant}
use Rattle.md_hlds.specs.Simple.{Go, No, Throws, Stop, simple}
use Rattle.md_hlds.specs.Trace.{Turn, Call, Exit, Redo, Fail, Excp, Answer, Stuck}
use Rattle.md_hlds.specs.Run.{run, is_finished, error, events}
use Rattle.md_hlds.proofs.Worked.{goal, conj, disj, unqualified, is_int, is_text, same, made, call, procedure, program, main, at_most, minus, choose, succeed, shows, list_type, member, none, even, higher_order}

-- ---- simple goals

abbrev one : Meant
one = Number (pos 1)

abbrev two : Meant
two = Number (pos 2)

-- cons(V, nil)
abbrev single : Meant → Meant
single v = Built (codes "cons") (also_value v (also_value (Built (codes "nil") no_values) no_values))

abbrev lists : Hlds
lists = program (list_type ∷ []) (member ∷ [])

-- two variables with these values
abbrev with_two : Meant → Meant → Env
with_two v w = Some v ∷ Some w ∷ []

-- X = Y with both bound weighs a turn more for each pair of nodes, up to the first that differs
equal_numbers : simple lists (with_two one one) (Unifies 0 (Var 1)) ≡ Go (with_two one one) 1 0 None
equal_numbers = refl

other_numbers : simple lists (with_two one two) (Unifies 0 (Var 1)) ≡ No 1
other_numbers = refl

equal_lists : simple lists (with_two (single one) (single one)) (Unifies 0 (Var 1)) ≡ Go (with_two (single one) (single one)) 3 0 None
equal_lists = refl

other_lists : simple lists (with_two (single one) (single two)) (Unifies 0 (Var 1)) ≡ No 2
other_lists = refl

-- one bound: the other gets the value, and nothing is compared
assigned : simple lists (Some one ∷ None ∷ []) (Unifies 1 (Var 0)) ≡ Go (with_two one one) 0 0 None
assigned = refl

assigned_back : simple lists (None ∷ Some one ∷ []) (Unifies 1 (Var 0)) ≡ Go (with_two one one) 0 0 None
assigned_back = refl

none_bound : simple lists (None ∷ None ∷ []) (Unifies 0 (Var 1)) ≡ Stop
none_bound = refl

-- X = c with X bound is a test, and weighs no pair
equal_constant : simple lists (Some one ∷ []) (Unifies 0 (Int (pos 1))) ≡ Go (Some one ∷ []) 0 0 None
equal_constant = refl

other_constant : simple lists (Some one ∷ []) (Unifies 0 (Int (pos 2))) ≡ No 0
other_constant = refl

equal_text : simple lists (Some (Literal (codes "a")) ∷ []) (Unifies 0 (Str (codes "a"))) ≡ Go (Some (Literal (codes "a")) ∷ []) 0 0 None
equal_text = refl

other_text : simple lists (Some (Literal (codes "a")) ∷ []) (Unifies 0 (Str (codes "b"))) ≡ No 0
other_text = refl

-- X = f(Y, Z) with X bound: a bound part is compared, another gets its part; the functor itself is no pair
abbrev apart : ℕ → ℕ → ℕ → HldsGoal
apart x y z = made x (codes "cons") (y ∷ z ∷ [])

parts_taken : simple lists (Some (single one) ∷ None ∷ None ∷ []) (Unifies 0 (Name (unqualified (codes "cons")) (1 ∷ 2 ∷ [])))
    ≡ Go (Some (single one) ∷ Some one ∷ Some (Built (codes "nil") no_values) ∷ []) 0 0 None
parts_taken = refl

part_compared : simple lists (Some (single one) ∷ Some one ∷ None ∷ []) (Unifies 0 (Name (unqualified (codes "cons")) (1 ∷ 2 ∷ [])))
    ≡ Go (Some (single one) ∷ Some one ∷ Some (Built (codes "nil") no_values) ∷ []) 1 0 None
part_compared = refl

part_differs : simple lists (Some (single one) ∷ Some two ∷ None ∷ []) (Unifies 0 (Name (unqualified (codes "cons")) (1 ∷ 2 ∷ []))) ≡ No 1
part_differs = refl

other_functor : simple lists (Some (single one) ∷ []) (Unifies 0 (Name (unqualified (codes "nil")) [])) ≡ No 0
other_functor = refl

-- a construction: a word for each argument, and nothing for a constant
functor_made : simple lists (None ∷ Some one ∷ Some (Built (codes "nil") no_values) ∷ []) (Unifies 0 (Name (unqualified (codes "cons")) (1 ∷ 2 ∷ [])))
    ≡ Go (Some (single one) ∷ Some one ∷ Some (Built (codes "nil") no_values) ∷ []) 2 2 None
functor_made = refl

constant_made : simple lists (None ∷ []) (Unifies 0 (Name (unqualified (codes "nil")) [])) ≡ Go (Some (Built (codes "nil") no_values) ∷ []) 0 0 None
constant_made = refl

part_missing : simple lists (None ∷ Some one ∷ None ∷ []) (Unifies 0 (Name (unqualified (codes "cons")) (1 ∷ 2 ∷ []))) ≡ Stop
part_missing = refl

-- a closure weighs three words more than it captures
closure_made : simple lists (None ∷ Some one ∷ []) (Unifies 0 (Name (unqualified (codes "member")) (1 ∷ [])))
    ≡ Go (Some (Closure 0 (also_value one no_values)) ∷ Some one ∷ []) 4 4 None
closure_made = refl

closure_for_bound : simple lists (Some one ∷ Some one ∷ []) (Unifies 0 (Name (unqualified (codes "member")) (1 ∷ []))) ≡ Stop
closure_for_bound = refl

no_such_name : simple lists (None ∷ []) (Unifies 0 (Name (unqualified (codes "other")) [])) ≡ Stop
no_such_name = refl

fails : simple lists [] Fails ≡ No 0
fails = refl

-- comparisons at equal numbers
not_less : simple lists (with_two one one) (Compares 0 Lt 1) ≡ No 0
not_less = refl

at_most_equal : simple lists (with_two one one) (Compares 0 Le 1) ≡ Go (with_two one one) 0 0 None
at_most_equal = refl

not_greater : simple lists (with_two one one) (Compares 0 Gt 1) ≡ No 0
not_greater = refl

at_least_equal : simple lists (with_two one one) (Compares 0 Ge 1) ≡ Go (with_two one one) 0 0 None
at_least_equal = refl

-- arithmetic has a result for a variable without a value alone
multiplied : simple lists (None ∷ with_two two two) (Computes 0 1 Mul 2) ≡ Go (Some (Number (pos 4)) ∷ with_two two two) 0 0 None
multiplied = refl

multiplied_for_bound : simple lists (Some one ∷ with_two two two) (Computes 0 1 Mul 2) ≡ Stop
multiplied_for_bound = refl

-- a write weighs its bytes, and hands the io state on
written : simple lists (Some (Literal (codes "ab")) ∷ Some (Number (pos 0)) ∷ None ∷ []) (WritesText 0 1 2)
    ≡ Go (Some (Literal (codes "ab")) ∷ Some (Number (pos 0)) ∷ Some (Number (pos 0)) ∷ []) 2 0 (Some (codes "ab"))
written = refl

written_without_state : simple lists (Some (Literal (codes "ab")) ∷ None ∷ None ∷ []) (WritesText 0 1 2) ≡ Stop
written_without_state = refl

-- an exception has the bytes of a literal, and of nothing else
raised : simple lists (Some (Literal (codes "ab")) ∷ []) (Raises 0) ≡ Throws (codes "ab")
raised = refl

raised_number : simple lists (Some one ∷ []) (Raises 0) ≡ Stop
raised_number = refl

-- ---- goals with parts

abbrev fail : HldsGoal
fail = goal (SimpleGoal Fails)

abbrev write : ℕ → HldsGoal
write x = goal (SimpleGoal (WritesText x 0 1))

-- main(IO0, IO) :- ( C -> S = "a" ; S = "b" ), io.write_string(S, IO0, IO). with so many variables besides
abbrev asks : ℕ → List Procedure → HldsGoal → Hlds
asks vars ps c = program [] (main (suc (suc (suc vars))) (conj (choose c (is_text 2 (codes "a")) (is_text 2 (codes "b")) ∷ write 2 ∷ [])) ∷ ps)

-- 4 for main, then conj, if, not, true and S = "b" a turn each, and 2 to write
negation : shows (asks 0 [] (goal (NotGoal succeed))) 11 ≡ (codes "b", true)
unfolding run
negation = refl

negation_cut : shows (asks 0 [] (goal (NotGoal succeed))) 10 ≡ ([], false)
unfolding run
negation_cut = refl

negation_of_fail : shows (asks 0 [] (goal (NotGoal fail))) 11 ≡ (codes "a", true)
unfolding run
negation_of_fail = refl

some_of_none : shows (asks 1 [] (goal (SomeGoal (3 ∷ []) fail))) 12 ≡ (codes "b", true)
unfolding run
some_of_none = refl

-- what `some` binds is not kept: main(IO0, IO) :- some [X] ( X = 1 ), IO = IO0.
some_forgets :
    run (program [] (main 3 (conj (goal (SomeGoal (2 ∷ []) (is_int 2 1)) ∷ same 1 0 ∷ [])) ∷ [])) 100
    ≡ (Turn 0 None 4 ∷ Call 0 None None 0 ∷ Turn 0 (Some 0) 1 ∷ Turn 0 (Some 1) 1 ∷ Turn 0 (Some 2) 1 ∷ Turn 0 (Some 3) 1 ∷ Exit 0
    ∷ Answer (Some (Number (pos 0)) ∷ Some (Number (pos 0)) ∷ None ∷ []) ∷ [])
unfolding run
some_forgets = refl

-- a body without a solution fails, and one that is cut has neither a redo nor a fail
abbrev by_itself : Det → HldsGoal → Procedure
by_itself det body = procedure (codes "p") det 0 0 body

failed_call : events (run (asks 0 (by_itself Semidet fail ∷ []) (call 0 (codes "p") [])) 100) ≡ (Call 0 None None 0 ∷ Call 1 (Some 0) (Some 0) 1 ∷ Fail 1 ∷ Exit 0 ∷ [])
unfolding run
failed_call = refl

failure_call : events (run (asks 0 (by_itself Failure fail ∷ []) (call 0 (codes "p") [])) 100) ≡ (Call 0 None None 0 ∷ Call 1 (Some 0) (Some 0) 1 ∷ Fail 1 ∷ Exit 0 ∷ [])
unfolding run
failure_call = refl

semidet_is_cut :
    events (run (asks 0 (by_itself Semidet (disj (succeed ∷ succeed ∷ [])) ∷ []) (conj (call 0 (codes "p") [] ∷ fail ∷ []))) 100)
    ≡ (Call 0 None None 0 ∷ Call 1 (Some 0) (Some 0) 1 ∷ Exit 1 ∷ Exit 0 ∷ [])
unfolding run
semidet_is_cut = refl

nondet_comes_back :
    events (run (asks 0 (by_itself Nondet (disj (succeed ∷ succeed ∷ [])) ∷ []) (conj (call 0 (codes "p") [] ∷ fail ∷ []))) 100)
    ≡ (Call 0 None None 0 ∷ Call 1 (Some 0) (Some 0) 1 ∷ Exit 1 ∷ Redo 1 ∷ Exit 1 ∷ Redo 1 ∷ Fail 1 ∷ Exit 0 ∷ [])
unfolding run
nondet_comes_back = refl

-- pick(X) :- ( X = 1 ; X = 2 ). is declared multi; its disjunction has the shape of a switch, but X has no value
abbrev pick : Procedure
pick = procedure (codes "pick") Multi 1 1 (disj (is_int 0 1 ∷ is_int 0 2 ∷ []))

-- pick(X), D = 1, X > D: the second solution is asked for
multi_comes_back : shows (asks 2 (pick ∷ []) (conj (call 0 (codes "pick") (3 ∷ []) ∷ is_int 4 1 ∷ goal (SimpleGoal (Compares 3 Gt 4)) ∷ []))) 100 ≡ (codes "a", true)
unfolding run
multi_comes_back = refl

-- ---- switches

-- C = 2, ( C = 1, fail ; C = 2 ): the arm with the key of the value runs, and it alone
abbrev switch_at : ℕ → HldsGoal
switch_at n = conj (is_int 3 n ∷ disj (conj (is_int 3 1 ∷ fail ∷ []) ∷ is_int 3 2 ∷ []) ∷ [])

integer_key : shows (asks 1 [] (switch_at 2)) 100 ≡ (codes "a", true)
unfolding run
integer_key = refl

first_key : shows (asks 1 [] (switch_at 1)) 100 ≡ (codes "b", true)
unfolding run
first_key = refl

-- 5 for main, conj, if, conj, C = 3 and the disjunction a turn each, then none of an arm, S = "b", and 2 to write
no_key : shows (asks 1 [] (switch_at 3)) 13 ≡ (codes "b", true)
unfolding run
no_key = refl

no_key_cut : shows (asks 1 [] (switch_at 3)) 12 ≡ ([], false)
unfolding run
no_key_cut = refl

text_key : shows (asks 1 [] (conj (is_text 3 (codes "y") ∷ disj (conj (is_text 3 (codes "x") ∷ fail ∷ []) ∷ is_text 3 (codes "y") ∷ []) ∷ []))) 100 ≡ (codes "a", true)
unfolding run
text_key = refl

text_without_key : shows (asks 1 [] (conj (is_text 3 (codes "z") ∷ disj (is_text 3 (codes "x") ∷ is_text 3 (codes "y") ∷ []) ∷ []))) 100 ≡ (codes "b", true)
unfolding run
text_without_key = refl

-- ---- where no rule fits, and where there is nothing to run

stuck :
    run (program [] (main 4 (same 2 3) ∷ [])) 100 ≡ (Turn 0 None 5 ∷ Call 0 None None 0 ∷ Turn 0 (Some 0) 1 ∷ Stuck ∷ [])
unfolding run
stuck = refl

unknown_call : run (program [] (main 2 (call 0 (codes "p") []) ∷ [])) 100 ≡ (Turn 0 None 4 ∷ Call 0 None None 0 ∷ Turn 0 (Some 0) 1 ∷ Stuck ∷ [])
unfolding run
unknown_call = refl

without_main : run (program [] (member ∷ [])) 100 ≡ []
unfolding run
without_main = refl

-- ---- exceptions

abbrev raises : ℕ → HldsGoal
raises x = goal (SimpleGoal (Raises x))

-- err.m: main(IO0, IO) :- N = 2, f(N), IO = IO0.
-- f(N) :- Z = 0, ( N =< Z -> S = "bad", require.error(S) ; D = 1, M = N - D, f(M) ).
abbrev err : Hlds
err = program [] (main 3 (conj (is_int 2 2 ∷ call 0 (codes "f") (2 ∷ []) ∷ same 1 0 ∷ []))
    ∷ procedure (codes "f") One 1 5 (conj (is_int 1 0
    ∷ choose (at_most 0 1) (conj (is_text 2 (codes "bad") ∷ raises 2 ∷ [])) (conj (is_int 3 1 ∷ minus 4 0 3 ∷ call 1 (codes "f") (4 ∷ []) ∷ []))
    ∷ []))
    ∷ [])

err_thrown : error (run err 49) ≡ Some (codes "bad")
unfolding run
err_thrown = refl

err_cut : error (run err 48) ≡ None
unfolding run
err_cut = refl

err_unfinished : is_finished (run err 49) ≡ false
unfolding run
err_unfinished = refl

err_events :
    events (run err 49)
    ≡ (Call 0 None None 0 ∷ Call 1 (Some 0) (Some 0) 1 ∷ Call 2 (Some 1) (Some 1) 1 ∷ Call 3 (Some 2) (Some 1) 1
    ∷ Excp 3 ∷ Excp 2 ∷ Excp 1 ∷ Excp 0 ∷ [])
unfolding run
err_events = refl

-- boom.m: behind an open choice of pick, within a condition
abbrev boom : Hlds
boom = program [] (main 4 (choose (goal (SomeGoal (2 ∷ []) (conj (call 0 (codes "pick") (2 ∷ []) ∷ is_text 3 (codes "no") ∷ raises 3 ∷ [])))) (same 1 0) (same 1 0)) ∷ pick ∷ [])

boom_events : events (run boom 100) ≡ (Call 0 None None 0 ∷ Call 1 (Some 0) (Some 0) 1 ∷ Exit 1 ∷ Excp 0 ∷ [])
unfolding run
boom_events = refl

boom_thrown : error (run boom 100) ≡ Some (codes "no")
unfolding run
boom_thrown = refl

-- within a condition of a det call: main, p, and nothing of what follows
raised_in_a_condition :
    events (run (program [] (main 2 (conj (call 0 (codes "p") [] ∷ same 1 0 ∷ []))
    ∷ procedure (codes "p") One 0 1 (choose (goal (NotGoal (conj (is_text 0 (codes "x") ∷ raises 0 ∷ [])))) succeed fail) ∷ [])) 100)
    ≡ (Call 0 None None 0 ∷ Call 1 (Some 0) (Some 0) 1 ∷ Excp 1 ∷ Excp 0 ∷ [])
unfolding run
raised_in_a_condition = refl

-- Below main stands q, which may have many solutions, so that main waits for it where it is. Whatever goal of q the exception
-- comes out of, it leaves q and then main. Refuses a rule by which it leaves the innermost activation alone, and for each goal
-- with parts one that drops those who wait.
abbrev throws : HldsGoal
throws = conj (is_text 0 (codes "x") ∷ raises 0 ∷ [])

abbrev below : HldsGoal → Hlds
below body = program [] (main 2 (conj (call 0 (codes "q") [] ∷ same 1 0 ∷ [])) ∷ procedure (codes "q") Multi 0 1 body ∷ [])

raised_below_a_caller : events (run (below throws) 100) ≡ (Call 0 None None 0 ∷ Call 1 (Some 0) (Some 0) 1 ∷ Excp 1 ∷ Excp 0 ∷ [])
unfolding run
raised_below_a_caller = refl

raised_in_a_condition_below : events (run (below (choose throws succeed fail)) 100) ≡ (Call 0 None None 0 ∷ Call 1 (Some 0) (Some 0) 1 ∷ Excp 1 ∷ Excp 0 ∷ [])
unfolding run
raised_in_a_condition_below = refl

raised_in_a_negation_below : events (run (below (goal (NotGoal throws))) 100) ≡ (Call 0 None None 0 ∷ Call 1 (Some 0) (Some 0) 1 ∷ Excp 1 ∷ Excp 0 ∷ [])
unfolding run
raised_in_a_negation_below = refl

raised_in_some_below : events (run (below (goal (SomeGoal [] throws))) 100) ≡ (Call 0 None None 0 ∷ Call 1 (Some 0) (Some 0) 1 ∷ Excp 1 ∷ Excp 0 ∷ [])
unfolding run
raised_in_some_below = refl

-- of a call that is at most once, by one that may have many solutions: it leaves all three
raised_in_a_call_below :
    events (run (program [] (main 2 (conj (call 0 (codes "q") [] ∷ same 1 0 ∷ []))
    ∷ procedure (codes "q") Multi 0 0 (call 1 (codes "r") []) ∷ procedure (codes "r") One 0 1 throws ∷ [])) 100)
    ≡ (Call 0 None None 0 ∷ Call 1 (Some 0) (Some 0) 1 ∷ Call 2 (Some 1) (Some 1) 2 ∷ Excp 2 ∷ Excp 1 ∷ Excp 0 ∷ [])
unfolding run
raised_in_a_call_below = refl

-- ---- the weights of whole runs, each to the turn

none_weighs : shows none 79 ≡ (codes "none", true)
unfolding run
none_weighs = refl

none_weighs_no_less : shows none 78 ≡ ([], false)
unfolding run
none_weighs_no_less = refl

even_weighs : shows even 92 ≡ (codes "0", true)
unfolding run digits
even_weighs = refl

even_weighs_no_less : shows even 91 ≡ ([], false)
unfolding run digits
even_weighs_no_less = refl

higher_order_weighs : shows higher_order 104 ≡ ([], true)
unfolding run
higher_order_weighs = refl

higher_order_weighs_no_less : shows higher_order 103 ≡ ([], false)
unfolding run
higher_order_weighs_no_less = refl

-- mods.m: main calls a.f, which calls b.g, which calls a.h
abbrev of : List ℕ → List ℕ → Procedure → Procedure
of m n p = record { qualifier = Some m; name = n; line = p.line; clause_line = p.clause_line; args = p.args; det = p.det; vars = p.vars; head = p.head; body = p.body }

abbrev call_of : ℕ → List ℕ → List ℕ → HldsGoal
call_of site m n = goal (CallGoal site (record { qualifier = Some m; name = n }) [])

abbrev mods : Hlds
mods = program [] (main 2 (conj (call_of 0 (codes "a") (codes "f") ∷ same 1 0 ∷ []))
    ∷ of (codes "a") (codes "f") (by_itself One (call_of 1 (codes "b") (codes "g")))
    ∷ of (codes "b") (codes "g") (by_itself One (call_of 2 (codes "a") (codes "h")))
    ∷ of (codes "a") (codes "h") (by_itself One succeed)
    ∷ [])

mods_weighs : shows mods 12 ≡ ([], true)
unfolding run
mods_weighs = refl

mods_weighs_no_less : shows mods 11 ≡ ([], false)
unfolding run
mods_weighs_no_less = refl

-- order1.m and order2.m: main(IO0, IO) :- K = .., x(K), IO = IO0.
-- x(K) :- Z = 0, A = 1, ( K = A -> true ; n ), ( K = Z -> true ; r(A) ).   r(J) :- Z = 0, ( J = Z -> true ; x(Z) ).   n :- Z = 0, r(Z).
abbrev order : ℕ → Hlds
order k = program [] (main 3 (conj (is_int 2 k ∷ call 0 (codes "x") (2 ∷ []) ∷ same 1 0 ∷ []))
    ∷ procedure (codes "x") One 1 3 (conj (is_int 1 0 ∷ is_int 2 1
    ∷ choose (same 0 2) succeed (call 1 (codes "n") [])
    ∷ choose (same 0 1) succeed (call 2 (codes "r") (2 ∷ [])) ∷ []))
    ∷ procedure (codes "r") One 1 2 (conj (is_int 1 0 ∷ choose (same 0 1) succeed (call 3 (codes "x") (1 ∷ [])) ∷ []))
    ∷ procedure (codes "n") One 0 1 (conj (is_int 0 0 ∷ call 4 (codes "r") (0 ∷ []) ∷ []))
    ∷ [])

order1_weighs : shows (order 1) 64 ≡ ([], true)
unfolding run
order1_weighs = refl

order1_weighs_no_less : shows (order 1) 63 ≡ ([], false)
unfolding run
order1_weighs_no_less = refl

order2_weighs : shows (order 2) 78 ≡ ([], true)
unfolding run
order2_weighs = refl

order2_weighs_no_less : shows (order 2) 77 ≡ ([], false)
unfolding run
order2_weighs_no_less = refl

-- loop.m: main(IO0, IO) :- N = 2, loop(N, IO0, IO).
-- loop(N, IO0, IO) :- Z = 0, ( N =< Z -> IO = IO0 ; D = 1, M = N - D, P = loop(M), call(P, IO0, IO) ).
abbrev loop : Hlds
loop = program [] (main 3 (conj (is_int 2 2 ∷ call 0 (codes "loop") (2 ∷ 0 ∷ 1 ∷ []) ∷ []))
    ∷ procedure (codes "loop") One 3 7 (conj (is_int 3 0
    ∷ choose (at_most 0 3) (same 2 1)
    (conj (is_int 4 1 ∷ minus 5 0 4 ∷ made 6 (codes "loop") (5 ∷ []) ∷ goal (HoCallGoal 1 6 (1 ∷ 2 ∷ [])) ∷ []))
    ∷ []))
    ∷ [])

loop_weighs : shows loop 63 ≡ ([], true)
unfolding run
loop_weighs = refl

loop_weighs_no_less : shows loop 62 ≡ ([], false)
unfolding run
loop_weighs_no_less = refl

-- a program that has each construct: a switch on a functor, closures, arms that are no switch, a name of another module
abbrev shape_type : HldsTypeDef
shape_type = record {
  name = codes "shape";
  line = 0;
  functors = record { name = codes "dot"; args = [] } ∷ record { name = codes "square"; args = number ∷ [] } ∷ record { name = codes "box"; args = number ∷ number ∷ [] } ∷ [];
}

abbrev times : ℕ → ℕ → ℕ → HldsGoal
times z a b = goal (SimpleGoal (Computes z a Mul b))

-- the literal that main writes
abbrev large_shape : List ℕ
large_shape = codes "a " ++ (34 ∷ (codes "large" ++ (34 ∷ (codes " shape" ++ 10 ∷ []))))

abbrev tour : Hlds
tour = program (shape_type ∷ [])
    (procedure (codes "area") One 2 4 (disj (conj (made 0 (codes "dot") [] ∷ is_int 1 0 ∷ [])
    ∷ conj (made 0 (codes "square") (2 ∷ []) ∷ call 0 (codes "squared") (2 ∷ 1 ∷ []) ∷ [])
    ∷ conj (made 0 (codes "box") (3 ∷ 2 ∷ []) ∷ times 1 3 2 ∷ [])
    ∷ []))
    ∷ procedure (codes "squared") One 2 3 (conj (same 2 0 ∷ times 1 0 2 ∷ []))
    ∷ procedure (codes "pick") Multi 1 3 (disj (conj (is_int 1 3 ∷ made 0 (codes "square") (1 ∷ []) ∷ [])
    ∷ conj (is_int 2 4 ∷ is_int 1 5 ∷ made 0 (codes "box") (2 ∷ 1 ∷ []) ∷ [])
    ∷ made 0 (codes "dot") []
    ∷ []))
    ∷ procedure (codes "apply") One 3 3 (goal (HoCallGoal 1 0 (1 ∷ 2 ∷ [])))
    ∷ procedure (codes "large") Nondet 2 4 (conj (call 2 (codes "pick") (1 ∷ []) ∷ made 2 (codes "area") [] ∷ call 3 (codes "apply") (2 ∷ 1 ∷ 3 ∷ [])
    ∷ goal (SimpleGoal (Compares 3 Ge 0)) ∷ goal (NotGoal (made 1 (codes "dot") [])) ∷ []))
    ∷ of (codes "sample") (codes "point") (procedure [] Semidet 1 2 (conj (conj (goal (SimpleGoal (Unifies 0 (Int (negsuc 0)))) ∷ succeed ∷ [])
    ∷ is_int 1 0 ∷ goal (SimpleGoal (Compares 0 Lt 1)) ∷ [])))
    ∷ procedure (codes "never") Failure 0 0 fail
    ∷ main 8 (conj (is_int 2 9
    ∷ choose (goal (SomeGoal (3 ∷ []) (call 4 (codes "large") (2 ∷ 3 ∷ [])))) (is_text 4 large_shape) (is_text 4 (codes "none" ++ 10 ∷ []))
    ∷ goal (SimpleGoal (WritesText 4 0 5))
    ∷ choose (call 5 (codes "never") []) (same 6 2) (is_int 6 20)
    ∷ goal (SimpleGoal (WritesInt 6 5 7)) ∷ goal (SimpleGoal (EndsLine 7 1)) ∷ []))
    ∷ [])

tour_weighs : shows tour 87 ≡ (large_shape ++ (codes "20" ++ 10 ∷ []), true)
unfolding run digits
tour_weighs = refl

tour_weighs_no_less : shows tour 86 ≡ (large_shape ++ codes "20", false)
unfolding run digits
tour_weighs_no_less = refl
