-- More of the mode rules, computed where a wrong rule would give another fault or none.
use Rattle.std.proofs.Common.{◌≡◌, refl, arith, ℕ, zero, suc, List, [], ◌∷◌, Option, Some, None, map, replicate}
use Rattle.std.specs.Prelude.{codes}
use Rattle.md_hlds.specs.declared.types.Mode.{Mode}
use Rattle.md_hlds.specs.declared.types.Mode.TheVariants.{In, Out, Di, Uo}
use Rattle.md_hlds.specs.declared.types.Det.TheVariants.{Semidet}
use Rattle.md_hlds.specs.declared.types.Det.TheVariants.{Det as One}
use Rattle.md_hlds.specs.declared.goal.Term.TheVariants.{Name}
use Rattle.md_hlds.specs.HldsGoal.{HldsGoal, At, SimpleGoal, Unifies, Raises, gathered, goals_size}
use Rattle.md_hlds.specs.Hlds.{HldsType, Procedure, number, world, named}
use Rattle.md_inst.specs.declared.fault.ModeFault.{ModeFault}
use Rattle.md_inst.specs.declared.fault.ModeFault.TheVariants.{UnknownName, TypeClash, Unbound, BranchBinds, IoUsed}
use Rattle.md_modes.specs.Classes.{AreFew}
use Rattle.md_modes.specs.Modes.{mode_fault}
use Rattle.md_modes.proofs.Worked.{conj, disj, is_int, is_text, same, made, call, apply, succeed, fail, choose, unless, some, at_most, write_int, new_line, hand_over, predicate, main, program, functor, type_of, function_of_ints, adder, double, with_body, body_fault, fault_of_two}

abbrev pub raises : ℕ → ℕ → HldsGoal
raises l x = At l (SimpleGoal (Raises x))

-- require.error(X): a string, an integer, an unbound variable
faults_of_errors : map body_fault (raises 6 0 ∷ raises 6 3 ∷ raises 6 5 ∷ []) ≡ (None ∷ Some (TypeClash 6) ∷ Some (Unbound 6) ∷ [])
unfolding mode_fault
faults_of_errors = refl

-- the place after it isn't reachable, so that R needn't be bound; what follows it is checked all the same; an arm that ends
-- so needs to bind nothing
errors_end :
    map (λ b. mode_fault (with_body b)) (raises 6 0
    ∷ conj 6 (raises 6 0 ∷ at_most 7 5 3 ∷ [])
    ∷ choose 6 (succeed 6) (is_int 7 4 1) (raises 8 0)
    ∷ [])
    ≡ (None ∷ Some (Unbound 7) ∷ None ∷ [])
unfolding mode_fault
errors_end = refl

-- what binds where the place after it isn't reachable: a condition that ends in `fail` binds all the same; an arm behind
-- `fail`, and a then part after a condition that ends in `fail`, are reachable by themselves
faults_behind_fail :
    map fault_of_two ((choose 6 (conj 6 (is_int 6 5 1 ∷ fail 6 ∷ [])) (succeed 6) (succeed 6), at_most 7 5 3)
    ∷ (conj 6 (fail 6 ∷ disj 6 (is_int 6 5 1 ∷ succeed 6 ∷ []) ∷ []), at_most 7 5 3)
    ∷ (choose 6 (fail 6) (is_int 6 5 1) (succeed 6), at_most 7 5 3)
    ∷ [])
    ≡ (Some (BranchBinds 6) ∷ Some (BranchBinds 6) ∷ Some (BranchBinds 6) ∷ [])
unfolding mode_fault
faults_behind_fail = refl

-- ( X = 1 -> true ; X = "a" ), where X occurs nowhere else: both arms bind it, each with another type
faults_of_types : body_fault (choose 6 (is_int 6 5 1) (succeed 6) (is_text 6 5 (codes "a"))) ≡ Some (TypeClash 6)
unfolding mode_fault
faults_of_types = refl

-- a functor isn't qualified, and no predicate has this name: X = m.nil
qualified : body_fault (At 6 (SimpleGoal (Unifies 5 (Name (record { qualifier = Some (codes "m"); name = codes "nil" }) [])))) ≡ Some (UnknownName 6)
unfolding mode_fault
qualified = refl

-- a name that is both a functor of that arity and a predicate is the functor: X = double(A), call(X, A, B)
both_names :
    mode_fault (program (type_of 30 (codes "box") (functor (codes "double") (number ∷ []) ∷ []) ∷ [])
    (main 5 (conj 3 (is_int 3 2 1 ∷ made 3 3 (codes "double") (2 ∷ []) ∷ apply 4 3 (2 ∷ 4 ∷ []) ∷ same 5 1 0 ∷ [])) ∷ double ∷ []))
    ≡ Some (TypeClash 4)
unfolding mode_fault
both_names = refl

-- a closure of another determinism, and one of other modes, for a function of integers; and one that is right
abbrev handed : List ℕ → Option ModeFault
unfolding mode_fault
handed name = mode_fault (program [] (main 3 (conj 3 (made 3 2 name [] ∷ call 4 (codes "takes") (2 ∷ []) ∷ same 5 1 0 ∷ []))
    ∷ predicate 10 (codes "takes") ((function_of_ints, In) ∷ []) One 1 (succeed 11)
    ∷ predicate 20 (codes "half") ((number, In) ∷ (number, Out) ∷ []) Semidet 2 (same 21 1 0)
    ∷ predicate 30 (codes "inverse") ((number, Out) ∷ (number, In) ∷ []) One 2 (same 31 0 1)
    ∷ double ∷ []))

closures_handed : map handed (codes "half" ∷ codes "inverse" ∷ codes "double" ∷ []) ≡ (Some (TypeClash 4) ∷ Some (TypeClash 4) ∷ None ∷ [])
unfolding handed mode_fault
closures_handed = refl

-- the io state: captured; bound within a condition; used by one arm of two
abbrev with_io : HldsGoal → Option ModeFault
unfolding mode_fault
with_io body = mode_fault (program [] (main 6 body ∷ adder ∷ predicate 10 (codes "made") ((world, Uo) ∷ []) One 1 (fail 11) ∷ []))

faults_of_states :
    map with_io (made 3 2 (codes "add") (0 ∷ [])
    ∷ choose 3 (call 4 (codes "made") (2 ∷ [])) (same 5 1 0) (same 6 1 0)
    ∷ conj 3 (choose 3 (succeed 3) (new_line 4 0 2) (succeed 5) ∷ new_line 6 0 1 ∷ [])
    ∷ [])
    ≡ (Some (IoUsed 3) ∷ Some (IoUsed 4) ∷ Some (IoUsed 6) ∷ [])
unfolding with_io mode_fault
faults_of_states = refl

-- the place after a negation of `fail`, and after `some [] ( fail )`, is reachable, so that R has to be bound. Refuses a rule by which
-- the place after a goal isn't reachable where that after its part isn't.
reachable_behind_a_part : map (λ b. mode_fault (with_body b)) (unless 6 (fail 6) ∷ some 6 [] (fail 6) ∷ []) ≡ (Some (Unbound 5) ∷ Some (Unbound 5) ∷ [])
unfolding mode_fault
reachable_behind_a_part = refl

-- an arm that ends in `fail` uses the io state, and the other doesn't: it isn't used behind them. Refuses a rule by which any arm counts.
used_in_an_arm_that_fails :
    map with_io (conj 3 (disj 3 (conj 3 (new_line 3 0 2 ∷ fail 3 ∷ []) ∷ succeed 4 ∷ []) ∷ new_line 5 0 1 ∷ [])
    ∷ conj 3 (disj 3 (conj 3 (new_line 3 0 2 ∷ succeed 3 ∷ []) ∷ succeed 4 ∷ []) ∷ new_line 5 0 1 ∷ [])
    ∷ [])
    ≡ (None ∷ Some (IoUsed 5) ∷ [])
unfolding with_io mode_fault
used_in_an_arm_that_fails = refl

-- ---- two faults in one place

-- of two arguments the first: refuses a rule that looks first whether all inputs are bound, or which types they have
faults_of_two_arguments : map body_fault (call 6 (codes "add") (5 ∷ 0 ∷ 6 ∷ []) ∷ call 6 (codes "add") (0 ∷ 5 ∷ 6 ∷ []) ∷ []) ≡ (Some (Unbound 6) ∷ Some (TypeClash 6) ∷ [])
unfolding mode_fault
faults_of_two_arguments = refl

-- a used io state where an integer is due: refuses a rule that looks at the type first
a_used_state_for_an_integer : with_io (conj 3 (new_line 3 0 2 ∷ write_int 4 0 2 1 ∷ [])) ≡ Some (IoUsed 4)
unfolding with_io mode_fault
a_used_state_for_an_integer = refl

-- of two variables of a head, at the end of its clause, the first: refuses a rule that looks first whether all are bound
faults_of_a_head :
    map (λ (goal : HldsGoal). mode_fault (program [] (hand_over ∷ predicate 4 (codes "p") ((number, Out) ∷ (number, Out) ∷ []) One 2 goal ∷ [])))
    (is_text 5 0 (codes "a") ∷ is_text 5 1 (codes "a") ∷ [])
    ≡ (Some (TypeClash 5) ∷ Some (Unbound 5) ∷ [])
unfolding mode_fault
faults_of_a_head = refl

-- of two arguments of a declaration the first: refuses a rule that looks first whether all types are declared
faults_of_a_declaration :
    map (λ (args : List (HldsType × Mode)). mode_fault (program [] (hand_over ∷ predicate 4 (codes "p") args One 2 (fail 5) ∷ [])))
    (((number, Di) ∷ (named (codes "what"), In) ∷ []) ∷ ((named (codes "what"), In) ∷ (number, Di) ∷ []) ∷ [])
    ≡ (Some (TypeClash 4) ∷ Some (UnknownName 4) ∷ [])
unfolding mode_fault
faults_of_a_declaration = refl

-- ---- how many goals a program has

-- a clause with `true` n times, and with the conjunction of these
abbrev true_times : ℕ → Procedure
true_times n = predicate 2 (codes "p") [] One 0 (conj 3 (replicate n (succeed 3)))

size_of_times : (n : ℕ) → goals_size (gathered (replicate n (succeed 3))) ≡ n
size_of_times zero = refl
size_of_times (suc n) = let rest = size_of_times n in omega (arith, rest)

-- refuses rules that count clauses and not goals, or leave the conjunction out, and one by which the greatest number of 32 bits may be
-- reached
greatest_few : (n : ℕ) → n ≡ 4294967293 → AreFew (program [] (true_times n ∷ [])) × (AreFew (program [] (true_times (suc n) ∷ [])) → ⊥)
greatest_few n is = let size = size_of_times n in let more = size_of_times (suc n) in (omega (arith, size, is), λ few. absurd (omega (arith, more, is, few)))

-- refuses a rule that counts the goals of each clause alone
two_clauses : (n : ℕ) → n ≡ 2147483647 → AreFew (program [] (true_times n ∷ true_times n ∷ [])) → ⊥
two_clauses n is few = let size = size_of_times n in absurd (omega (arith, size, is, few))
