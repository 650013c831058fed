-- The definitions, computed on small programs: which goals leave choices, which variables are read, what simple goals do with
-- slots, and what fits where main's body begins.
use Rattle.std.proofs.Common.{◌≡◌, refl, subst, arith, ℕ, pos, ◌<◌, Bool, true, false, cond, nat_eq, List, [], ◌∷◌, Some, None, map}
use Rattle.std.specs.Prelude.{codes}
use Rattle.std.specs.Fmt.{digits}
use Rattle.md_hlds.specs.declared.goal.Term.TheVariants.{Var, Int, Name}
use Rattle.md_hlds.specs.declared.goal.Op.TheVariants.{Add}
use Rattle.md_hlds.specs.declared.goal.Cmp.TheVariants.{Gt}
use Rattle.md_hlds.specs.HldsGoal.{Unifies, Computes, Compares, WritesInt, EndsLine, Raises, numbered_goal}
use Rattle.md_hlds.specs.Hlds.{Hlds, world}
use Rattle.md_hlds.specs.Value.{Value, Number, Literal, Built, Closure, no_values, also_value}
use Rattle.md_hlds.specs.Simple.{Go, No}
use Rattle.md_inst.specs.Instantiation.{free, has, InstMap, known_at, times}
use Rattle.md_modes.specs.Modes.{entry}
use Rattle.md_modes.specs.Notes.{program_notes}
use Rattle.md_det.specs.Findings.{program_findings}
use Rattle.md_modes.proofs.Worked.{unqualified, same, places, program, hand_over, one_member, closures, picks, code}
use Rattle.law_safety.specs.Values.{Agrees}
use Rattle.law_safety.specs.Known.{body}
use Rattle.law_safety.proofs.NotedGoals.{one_known}
use Rattle.law_fits.specs.Fast.{Puts, Misses, Bursts, Sticks, outcome, fast_simple}
use Rattle.law_fits.specs.States.{FitsHere, GivesBack}
use Rattle.law_fits.specs.Reads.{reads_at}
use Rattle.md_code.specs.Leaves.{leaves_table}

-- ---- choices

abbrev leaving : Hlds → ℕ → List Bool
leaving s n = map (λ k. leaves_table s k) (places 0 n)

-- In main: the conjunction, its first three goals, the if-then-else, `some`, the call of `member`, and three more. In
-- `member`: the conjunction, the deconstruction, the disjunction, and its two arms. There is no further goal.
one_member_leaves :
    leaving one_member 16
    ≡ false ∷ false ∷ false ∷ false ∷ false ∷ false ∷ true ∷ false ∷ false ∷ false ∷ true ∷ false ∷ true ∷ false ∷ true ∷ false ∷ []
unfolding program_notes program_findings
one_member_leaves = refl

-- a disjunction that is no switch, before a write
picks_leave : leaving picks 6 ≡ true ∷ true ∷ false ∷ true ∷ false ∷ false ∷ []
unfolding program_notes program_findings
picks_leave = refl

-- a switch
codes_leave_none : leaving code 8 ≡ false ∷ false ∷ false ∷ false ∷ false ∷ false ∷ false ∷ false ∷ []
unfolding program_notes program_findings
codes_leave_none = refl

-- calls of closures of one answer
closures_leave_none : leaving closures 14 ≡ false ∷ false ∷ false ∷ false ∷ false ∷ false ∷ false ∷ false ∷ false ∷ false ∷ false ∷ false ∷ false ∷ false ∷ []
unfolding program_notes program_findings
closures_leave_none = refl

-- ---- variables that are read

abbrev reading : Hlds → ℕ → List ℕ → List Bool
reading s n ys = map (λ y. reads_at s n y) ys

-- L = cons(A, E), of a new list
construction_reads : reading one_member 3 (4 ∷ 2 ∷ 3 ∷ []) ≡ false ∷ true ∷ true ∷ []
unfolding program_notes
construction_reads = refl

-- L = cons(H, T), of a list that is there
deconstruction_reads : reading one_member 11 (1 ∷ 2 ∷ 3 ∷ []) ≡ true ∷ false ∷ false ∷ []
unfolding program_notes
deconstruction_reads = refl

-- X = H
assignment_reads : reading one_member 13 (0 ∷ 2 ∷ []) ≡ false ∷ true ∷ []
unfolding program_notes
assignment_reads = refl

-- io.write_string(S, IO0, IO)
write_reads : reading one_member 9 (6 ∷ 0 ∷ 1 ∷ []) ≡ true ∷ true ∷ false ∷ []
unfolding program_notes
write_reads = refl

-- member(X, T)
call_reads : reading one_member 14 (0 ∷ 3 ∷ []) ≡ false ∷ true ∷ []
unfolding program_notes
call_reads = refl

-- call(P, N, R)
closure_reads : reading closures 13 (0 ∷ 2 ∷ 4 ∷ []) ≡ true ∷ true ∷ false ∷ []
unfolding program_notes
closure_reads = refl

-- ---- slots

abbrev int : ℕ → Value
int n = Number (pos n)

abbrev pair : Value → Value → Value
pair v w = Built (codes "cons") (also_value v (also_value w no_values))

-- the variable 1 has this value, and the variable 2 that
abbrev slots : Value → Value → ℕ → Value
slots v w n = cond (nat_eq n 1) v w

abbrev bits : Bool → Bool → Bool → ℕ → Bool
bits zero one two n = cond (nat_eq n 0) zero (cond (nat_eq n 1) one two)

-- a construction
constructs_a_pair : (v w : Value) → fast_simple one_member (bits false true true) (slots v w) (Unifies 0 (Name (unqualified (codes "cons")) (1 ∷ 2 ∷ []))) ≡ Puts ((0, pair v w) ∷ []) 2 2 None
constructs_a_pair v w = refl

constructs_nothing : (v w : Value) → fast_simple one_member (bits false true false) (slots v w) (Unifies 0 (Name (unqualified (codes "cons")) (1 ∷ 2 ∷ []))) ≡ Sticks
constructs_nothing v w = refl

-- a deconstruction of the variable 1, with all parts free, with one bound, and of another functor
takes_a_pair : (u v w : Value) → fast_simple one_member (bits false true false) (slots (pair u v) w) (Unifies 1 (Name (unqualified (codes "cons")) (0 ∷ 2 ∷ []))) ≡ Puts ((0, u) ∷ (2, v) ∷ []) 0 0 None
takes_a_pair u v w = refl

takes_and_compares : (u : Value) → fast_simple one_member (bits false true true) (slots (pair u (int 7)) (int 7)) (Unifies 1 (Name (unqualified (codes "cons")) (0 ∷ 2 ∷ []))) ≡ Puts ((0, u) ∷ []) 1 0 None
takes_and_compares u = refl

takes_and_misses : (u : Value) → fast_simple one_member (bits false true true) (slots (pair u (int 7)) (int 8)) (Unifies 1 (Name (unqualified (codes "cons")) (0 ∷ 2 ∷ []))) ≡ Misses 1
takes_and_misses u = refl

takes_another : (w : Value) → fast_simple one_member (bits false true false) (slots (Built (codes "nil") no_values) w) (Unifies 1 (Name (unqualified (codes "cons")) (0 ∷ 2 ∷ []))) ≡ Misses 0
takes_another w = refl

-- an assignment either way, a test, and a constant
assigns_the_second : (v w : Value) → fast_simple one_member (bits false true false) (slots v w) (Unifies 1 (Var 2)) ≡ Puts ((2, v) ∷ []) 0 0 None
assigns_the_second v w = refl

assigns_the_first : (v w : Value) → fast_simple one_member (bits false false true) (slots v w) (Unifies 1 (Var 2)) ≡ Puts ((1, w) ∷ []) 0 0 None
assigns_the_first v w = refl

tests_both : fast_simple one_member (bits false true true) (slots (int 1) (int 2)) (Unifies 1 (Var 2)) ≡ Misses 1
tests_both = refl

writes_a_constant : (v w : Value) → fast_simple one_member (bits false true false) (slots v w) (Unifies 2 (Int (pos 5))) ≡ Puts ((2, int 5) ∷ []) 0 0 None
writes_a_constant v w = refl

tests_a_constant : (w : Value) → fast_simple one_member (bits false true false) (slots (int 4) w) (Unifies 1 (Int (pos 5))) ≡ Misses 0
tests_a_constant w = refl

-- a closure has three words beside those of its values
closes_one : (v w : Value) → fast_simple closures (bits false true true) (slots v w) (Unifies 0 (Name (unqualified (codes "add")) (1 ∷ []))) ≡ Puts ((0, Closure 2 (also_value v no_values)) ∷ []) 4 4 None
closes_one v w = refl

computes_a_sum : fast_simple one_member (bits false true true) (slots (int 2) (int 3)) (Computes 0 1 Add 2) ≡ Puts ((0, int 5) ∷ []) 0 0 None
computes_a_sum = refl

compares_two : fast_simple one_member (bits false true true) (slots (int 2) (int 3)) (Compares 1 Gt 2) ≡ Misses 0
compares_two = refl

writes_out : (w : Value) → fast_simple one_member (bits false true true) (slots (int 12) w) (WritesInt 1 2 0) ≡ Puts ((0, int 0) ∷ []) 2 0 (Some (codes "12"))
unfolding digits
writes_out w = refl

ends_a_line : (v w : Value) → fast_simple one_member (bits false true false) (slots v w) (EndsLine 1 2) ≡ Puts ((2, int 0) ∷ []) 1 0 (Some (10 ∷ []))
ends_a_line v w = refl

throws_bytes : (w : Value) → fast_simple one_member (bits false true false) (slots (Literal (codes "oh")) w) (Raises 1) ≡ Bursts (codes "oh")
throws_bytes w = refl

-- what is written is bound, in order
binds_what_is_written : (v w : Value) → outcome (None ∷ None ∷ []) (Puts ((1, v) ∷ (0, w) ∷ []) 3 0 None) ≡ Go (Some w ∷ Some v ∷ []) 3 0 None
binds_what_is_written v w = refl

misses_alike : outcome (None ∷ []) (Misses 2) ≡ No 2
misses_alike = refl

-- ---- what is given back

gives_one : (v : Value) → GivesBack ((0, 1) ∷ []) (Some v ∷ []) (None ∷ None ∷ [])
gives_one v = (λ none. (v, refl), tt)

-- a variable that has a value already wants none
gives_no_more : (v : Value) → GivesBack ((0, 1) ∷ []) (None ∷ []) (None ∷ Some v ∷ [])
gives_no_more v = (λ none. absurd (cc none), tt)

gives_nothing : GivesBack ((0, 1) ∷ []) (None ∷ []) (None ∷ None ∷ []) → ⊥
gives_nothing h = absurd (cc ((h.0 refl).1))

-- ---- what fits

-- main(IO0, IO) :- IO = IO0.
abbrev handing : Hlds
handing = program [] (hand_over ∷ [])

-- main's state has a value, and nothing else has
abbrev begun : InstMap
begun = has world false ∷ free ∷ []

main_begins_so : entry hand_over ≡ begun
main_begins_so = refl

-- without it the goal doesn't fit
no_state_no_fit : FitsHere handing (None ∷ None ∷ []) (numbered_goal 0 (same 3 1 0)) [] → ⊥
no_state_no_fit h =
    let known : h.known ≡ begun = one_known handing h.procedure (0, hand_over) h.strict false 0 (same 3 1 0) (same 3 1 0) h.known begun h.at refl h.before body in
    subst (λ (kn : InstMap). Agrees handing None (known_at kn 0)) known (h.fits.each 0 (some_times h.rest))
  where
    some_times : (rest : List ℕ) → 0 < times 0 (1 ∷ 0 ∷ rest)
    some_times rest = omega arith
