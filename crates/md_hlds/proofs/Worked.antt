-- The definition of a run, computed on small programs: the words of each theorem were worked out by hand from the
-- rules of the language, and `refl` says that the definition gives them.
use Rattle.std.proofs.Common.{◌≡◌, refl, ℕ, zero, suc, pos, true, false, Bool, List, [], ◌∷◌, ◌++◌, Some, None, length}
use Rattle.std.specs.Prelude.{codes}
use Rattle.std.specs.Fmt.{digits}
use Rattle.md_hlds.specs.declared.types.Det.{Det}
use Rattle.md_hlds.specs.declared.types.Det.TheVariants.{Nondet}
use Rattle.md_hlds.specs.declared.types.Det.TheVariants.{Det as One}
use Rattle.md_hlds.specs.declared.goal.PredName.{PredName}
use Rattle.md_hlds.specs.declared.goal.Term.TheVariants.{Var, Int, Str, Name}
use Rattle.md_hlds.specs.declared.goal.Op.TheVariants.{Add, Sub, Mul}
use Rattle.md_hlds.specs.declared.goal.Cmp.TheVariants.{Le, Gt}
use Rattle.md_hlds.specs.HldsGoal.{HldsGoal, At, GoalExpr, SimpleGoal, CallGoal, HoCallGoal, ConjGoal, DisjGoal, IfGoal, NotGoal, SomeGoal, gathered, Succeeds, Unifies, Computes, Compares, WritesInt, WritesText, EndsLine}
use Rattle.md_hlds.specs.Hlds.{Hlds, Procedure, HldsTypeDef, number, named}
use Rattle.md_hlds.specs.Value.{Number, Literal}
use Rattle.md_hlds.specs.Trace.{Turn, Call, Exit, Redo, Fail, Alloc, Out, Answer}
use Rattle.md_hlds.specs.Run.{run, output, is_finished, events}

-- words for writing programs: the definition of a run doesn't read lines
abbrev pub goal : GoalExpr → HldsGoal
goal t = At 0 t

abbrev pub conj : List HldsGoal → HldsGoal
conj ps = goal (ConjGoal (gathered ps))

abbrev pub disj : List HldsGoal → HldsGoal
disj ps = goal (DisjGoal (gathered ps))

abbrev pub unqualified : List ℕ → PredName
unqualified name = record { qualifier = None; name = name }

abbrev pub is_int : ℕ → ℕ → HldsGoal
is_int x n = goal (SimpleGoal (Unifies x (Int (pos n))))

abbrev pub is_text : ℕ → List ℕ → HldsGoal
is_text x bytes = goal (SimpleGoal (Unifies x (Str bytes)))

abbrev pub same : ℕ → ℕ → HldsGoal
same x y = goal (SimpleGoal (Unifies x (Var y)))

abbrev pub made : ℕ → List ℕ → List ℕ → HldsGoal
made x f ys = goal (SimpleGoal (Unifies x (Name (unqualified f) ys)))

abbrev pub call : ℕ → List ℕ → List ℕ → HldsGoal
call site q ys = goal (CallGoal site (unqualified q) ys)

abbrev pub names : ℕ → List (List ℕ)
names zero = []
names (suc n) = [] ∷ names n

-- n places from this one on
abbrev pub places : ℕ → ℕ → List ℕ
places from zero = []
places from (suc n) = from ∷ places (suc from) n

-- a procedure of so many arguments, which are the first of so many variables
abbrev pub procedure : List ℕ → Det → ℕ → ℕ → HldsGoal → Procedure
procedure name det arity vars body = record {
  qualifier = None;
  name = name;
  line = 0;
  clause_line = 0;
  args = [];
  det = det;
  vars = names vars;
  head = places 0 arity;
  body = body;
}

abbrev pub program : List HldsTypeDef → List Procedure → Hlds
program types ps = record { module_name = codes "t"; module_line = 0; types = types; procedures = ps }

abbrev pub main : ℕ → HldsGoal → Procedure
main vars body = procedure (codes "main") One 2 vars body

-- main(IO0, IO) :- S = "hello", io.write_string(S, IO0, IO1), io.nl(IO1, IO).
abbrev pub hello : Hlds
hello = program [] (main 4 (conj (is_text 2 (codes "hello") ∷ goal (SimpleGoal (WritesText 2 0 3)) ∷ goal (SimpleGoal (EndsLine 3 1)) ∷ [])) ∷ [])

-- the items of a whole run, and those up to a turn that the budget doesn't allow
hello_whole :
    run hello 15
    ≡ (Turn 0 None 5 ∷ Call 0 None None 0 ∷ Turn 0 (Some 0) 1 ∷ Turn 0 (Some 1) 1 ∷ Turn 0 (Some 2) 6 ∷ Out (codes "hello") ∷ Turn 0 (Some 3) 2 ∷ Out (10 ∷ [])
    ∷ Exit 0
    ∷ Answer (Some (Number (pos 0)) ∷ Some (Number (pos 0)) ∷ Some (Literal (codes "hello")) ∷ Some (Number (pos 0)) ∷ [])
    ∷ [])
unfolding run
hello_whole = refl

hello_cut : run hello 14 ≡ (Turn 0 None 5 ∷ Call 0 None None 0 ∷ Turn 0 (Some 0) 1 ∷ Turn 0 (Some 1) 1 ∷ Turn 0 (Some 2) 6 ∷ Out (codes "hello") ∷ [])
unfolding run
hello_cut = refl

-- what a run comes to: its output, and whether it is finished
abbrev pub shows : Hlds → ℕ → List ℕ × Bool
unfolding run
shows s budget = (output (run s budget), is_finished (run s budget))

-- main(IO0, IO) :- p(IO0, IO1), p(IO1, IO).   p(IO0, IO) :- q, io.nl(IO0, IO).   q :- true.
abbrev pub two : Hlds
two = program [] (main 3 (conj (call 0 (codes "p") (0 ∷ 2 ∷ []) ∷ call 1 (codes "p") (2 ∷ 1 ∷ []) ∷ []))
    ∷ procedure (codes "p") One 2 2 (conj (call 2 (codes "q") [] ∷ goal (SimpleGoal (EndsLine 0 1)) ∷ []))
    ∷ procedure (codes "q") One 0 0 (goal (SimpleGoal Succeeds))
    ∷ [])

two_whole : shows two 25 ≡ (10 ∷ 10 ∷ [], true)
unfolding run
two_whole = refl

two_cut : shows two 24 ≡ (10 ∷ [], false)
unfolding run
two_cut = refl

-- main(IO0, IO) :- N = 3, count(N), IO = IO0.
-- count(N) :- Z = 0, ( N =< Z -> true ; D = 1, M = N - D, count(M) ).
abbrev pub at_most : ℕ → ℕ → HldsGoal
at_most a b = goal (SimpleGoal (Compares a Le b))

abbrev pub minus : ℕ → ℕ → ℕ → HldsGoal
minus z a b = goal (SimpleGoal (Computes z a Sub b))

abbrev pub choose : HldsGoal → HldsGoal → HldsGoal → HldsGoal
choose c t e = goal (IfGoal c t e)

abbrev pub succeed : HldsGoal
succeed = goal (SimpleGoal Succeeds)

abbrev pub count : Hlds
count = program [] (main 3 (conj (is_int 2 3 ∷ call 0 (codes "count") (2 ∷ []) ∷ same 1 0 ∷ []))
    ∷ procedure (codes "count") One 1 4 (conj (is_int 1 0
    ∷ choose (at_most 0 1) succeed (conj (is_int 2 1 ∷ minus 3 0 2 ∷ call 1 (codes "count") (3 ∷ []) ∷ []))
    ∷ []))
    ∷ [])

count_whole : shows count 58 ≡ ([], true)
unfolding run
count_whole = refl

count_cut : shows count 57 ≡ ([], false)
unfolding run
count_cut = refl

-- main(IO0, IO) :- N = 5, even(N, R), io.write_int(R, IO0, IO).
-- even(N, R) :- Z = 0, ( N =< Z -> R = 1 ; D = 1, M = N - D, odd(M, R) ).   and odd likewise, with R = 0 and even
abbrev pub half : List ℕ → List ℕ → ℕ → ℕ → Procedure
half name other site base = procedure name One 2 5 (conj (is_int 2 0
    ∷ choose (at_most 0 2) (is_int 1 base) (conj (is_int 3 1 ∷ minus 4 0 3 ∷ call site other (4 ∷ 1 ∷ []) ∷ []))
    ∷ []))

abbrev pub even : Hlds
even = program [] (main 4 (conj (is_int 2 5 ∷ call 0 (codes "even") (2 ∷ 3 ∷ []) ∷ goal (SimpleGoal (WritesInt 3 0 1)) ∷ []))
    ∷ half (codes "even") (codes "odd") 1 1
    ∷ half (codes "odd") (codes "even") 2 0
    ∷ [])

even_whole : shows even 200 ≡ (codes "0", true)
unfolding run digits
even_whole = refl

-- :- type list ---> nil ; cons(int, list).
abbrev pub list_type : HldsTypeDef
list_type = record {
  name = codes "list";
  line = 0;
  functors = record { name = codes "nil"; args = [] } ∷ record { name = codes "cons"; args = number ∷ named (codes "list") ∷ [] } ∷ [];
}

-- member(X, L) :- L = cons(H, T), ( X = H ; member(X, T) ).
abbrev pub member : Procedure
member = procedure (codes "member") Nondet 2 4 (conj (made 1 (codes "cons") (2 ∷ 3 ∷ [])
    ∷ disj (same 0 2 ∷ call 1 (codes "member") (0 ∷ 3 ∷ []) ∷ [])
    ∷ []))

-- A = 1, B = 2, C = 3, E = nil, L3 = cons(C, E), L2 = cons(B, L3), L = cons(A, L2)
abbrev pub three : List HldsGoal
three = is_int 2 1 ∷ is_int 3 2 ∷ is_int 4 3 ∷ made 5 (codes "nil") [] ∷ made 6 (codes "cons") (4 ∷ 5 ∷ [])
    ∷ made 7 (codes "cons") (3 ∷ 6 ∷ []) ∷ made 8 (codes "cons") (2 ∷ 7 ∷ []) ∷ []

-- .., ( some [X] ( member(X, L) ) -> S = "yes" ; S = "no" ), io.write_string(S, IO0, IO).
abbrev pub some : Hlds
some = program (list_type ∷ []) (main 11 (conj (three
    ++ choose (goal (SomeGoal (9 ∷ []) (call 0 (codes "member") (9 ∷ 8 ∷ [])))) (is_text 10 (codes "yes")) (is_text 10 (codes "no"))
    ∷ goal (SimpleGoal (WritesText 10 0 1)) ∷ []))
    ∷ member ∷ [])

some_whole : shows some 44 ≡ (codes "yes", true)
unfolding run
some_whole = refl

some_cut : shows some 43 ≡ ([], false)
unfolding run
some_cut = refl

-- the activation that is pruned has neither a redo nor a fail
some_events :
    events (run some 44)
    ≡ (Call 0 None None 0 ∷ Alloc 0 2 ∷ Alloc 0 2 ∷ Alloc 0 2 ∷ Call 1 (Some 0) (Some 0) 1 ∷ Exit 1 ∷ Exit 0 ∷ [])
unfolding run
some_events = refl

-- .., V = 5, ( not ( member(X, L), X > V ) -> S = "none" ; S = "some" ), io.write_string(S, IO0, IO).
abbrev pub none : Hlds
none = program (list_type ∷ []) (main 12 (conj (three
    ++ is_int 9 5
    ∷ choose (goal (NotGoal (conj (call 0 (codes "member") (10 ∷ 8 ∷ []) ∷ goal (SimpleGoal (Compares 10 Gt 9)) ∷ [])))) (is_text 11 (codes "none")) (is_text 11 (codes "some"))
    ∷ goal (SimpleGoal (WritesText 11 0 1)) ∷ []))
    ∷ member ∷ [])

none_whole : shows none 1000 ≡ (codes "none", true)
unfolding run
none_whole = refl

-- each solution of member comes out through the activations above it, and is asked for another
none_events :
    events (run none 1000)
    ≡ (Call 0 None None 0 ∷ Alloc 0 2 ∷ Alloc 0 2 ∷ Alloc 0 2
    ∷ Call 1 (Some 0) (Some 0) 1 ∷ Exit 1 ∷ Redo 1
    ∷ Call 2 (Some 1) (Some 1) 1 ∷ Exit 2 ∷ Exit 1 ∷ Redo 1 ∷ Redo 2
    ∷ Call 3 (Some 2) (Some 1) 1 ∷ Exit 3 ∷ Exit 2 ∷ Exit 1 ∷ Redo 1 ∷ Redo 2 ∷ Redo 3
    ∷ Call 4 (Some 3) (Some 1) 1 ∷ Fail 4 ∷ Fail 3 ∷ Fail 2 ∷ Fail 1
    ∷ Exit 0 ∷ [])
unfolding run
none_events = refl

-- main(IO0, IO) :- A = 1, N = 3, P = add(A), Q = double, drive(P, Q, N), IO = IO0.
-- drive(P, Q, N) :- Z = 0, ( N =< Z -> true ; call(P, N, R), D = 1, M = N - D, drive(Q, P, M) ).
-- add(A, B, C) :- C = A + B.   double(A, B) :- T = 2, B = A * T.
abbrev pub higher_order : Hlds
higher_order = program [] (main 6 (conj (is_int 2 1 ∷ is_int 3 3 ∷ made 4 (codes "add") (2 ∷ []) ∷ made 5 (codes "double") []
    ∷ call 0 (codes "drive") (4 ∷ 5 ∷ 3 ∷ []) ∷ same 1 0 ∷ []))
    ∷ procedure (codes "drive") One 3 7 (conj (is_int 3 0
    ∷ choose (at_most 2 3) succeed (conj (goal (HoCallGoal 1 0 (2 ∷ 4 ∷ [])) ∷ is_int 5 1 ∷ minus 6 2 5 ∷ call 2 (codes "drive") (1 ∷ 0 ∷ 6 ∷ []) ∷ []))
    ∷ []))
    ∷ procedure (codes "add") One 3 3 (goal (SimpleGoal (Computes 2 0 Add 1)))
    ∷ procedure (codes "double") One 2 3 (conj (is_int 2 2 ∷ goal (SimpleGoal (Computes 1 0 Mul 2)) ∷ []))
    ∷ [])

-- the one higher-order site calls add, double and add
higher_order_events :
    events (run higher_order 1000)
    ≡ (Call 0 None None 0 ∷ Alloc 0 4 ∷ Alloc 0 3
    ∷ Call 1 (Some 0) (Some 0) 1 ∷ Call 2 (Some 1) (Some 1) 2 ∷ Exit 2
    ∷ Call 3 (Some 1) (Some 2) 1 ∷ Call 4 (Some 3) (Some 1) 3 ∷ Exit 4
    ∷ Call 5 (Some 3) (Some 2) 1 ∷ Call 6 (Some 5) (Some 1) 2 ∷ Exit 6
    ∷ Call 7 (Some 5) (Some 2) 1 ∷ Exit 7 ∷ Exit 5 ∷ Exit 3 ∷ Exit 1
    ∷ Exit 0 ∷ [])
unfolding run
higher_order_events = refl

-- main(IO0, IO) :- spin, IO = IO0.   spin :- spin.
abbrev pub spin : Hlds
spin = program [] (main 2 (conj (call 0 (codes "spin") [] ∷ same 1 0 ∷ []))
    ∷ procedure (codes "spin") One 0 0 (call 1 (codes "spin") [])
    ∷ [])

spin_cut : shows spin 1000 ≡ ([], false)
unfolding run
spin_cut = refl

-- main's call and 497 of spin
spin_calls : length (events (run spin 1000)) ≡ 498
unfolding run
spin_calls = refl

-- main(IO0, IO) :- A = 9223372036854775807, B = 1, C = A + B, io.write_int(C, IO0, IO1), io.nl(IO1, IO).
abbrev pub wrap : Hlds
wrap = program [] (main 6 (conj (is_int 2 9223372036854775807 ∷ is_int 3 1 ∷ goal (SimpleGoal (Computes 4 2 Add 3))
    ∷ goal (SimpleGoal (WritesInt 4 0 5)) ∷ goal (SimpleGoal (EndsLine 5 1)) ∷ []))
    ∷ [])

wrap_whole : shows wrap 34 ≡ (codes "-9223372036854775808" ++ 10 ∷ [], true)
unfolding run digits
wrap_whole = refl

wrap_cut : shows wrap 33 ≡ (codes "-9223372036854775808", false)
unfolding run digits
wrap_cut = refl

-- main(IO0, IO) :- C = green, code(C, N), io.write_int(N, IO0, IO).
-- code(C, N) :- ( C = red, N = 1 ; C = green, N = 2 ; C = blue, N = 3 ).
abbrev pub colour_type : HldsTypeDef
colour_type = record {
  name = codes "colour";
  line = 0;
  functors = record { name = codes "red"; args = [] } ∷ record { name = codes "green"; args = [] } ∷ record { name = codes "blue"; args = [] } ∷ [];
}

abbrev pub colour_arm : List ℕ → ℕ → HldsGoal
colour_arm colour n = conj (made 0 colour [] ∷ is_int 1 n ∷ [])

abbrev pub colours : Hlds
colours = program (colour_type ∷ []) (main 4 (conj (made 2 (codes "green") [] ∷ call 0 (codes "code") (2 ∷ 3 ∷ []) ∷ goal (SimpleGoal (WritesInt 3 0 1)) ∷ []))
    ∷ procedure (codes "code") One 2 2 (disj (colour_arm (codes "red") 1 ∷ colour_arm (codes "green") 2 ∷ colour_arm (codes "blue") 3 ∷ []))
    ∷ [])

-- the arms that a switch doesn't take have no turn: 6 + 1 + 1 in main, 3 + 1 + 1 + 1 + 1 in code, and 2 to write
colours_whole : shows colours 17 ≡ (codes "2", true)
unfolding run digits
colours_whole = refl

colours_cut : shows colours 16 ≡ ([], false)
unfolding run digits
colours_cut = refl
