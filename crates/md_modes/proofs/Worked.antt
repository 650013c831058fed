-- The mode rules, computed on small programs: accepted ones and what is found at their goals, and then each fault in each
-- place. The words of each theorem were worked out by hand from the rules, and `refl` says that the definitions give them.
use Rattle.std.proofs.Common.{◌≡◌, refl, ℕ, zero, suc, pos, Bool, true, false, List, [], ◌∷◌, Option, Some, None, length, map}
use Rattle.std.specs.Prelude.{codes}
use Rattle.md_hlds.specs.declared.types.Mode.{Mode}
use Rattle.md_hlds.specs.declared.types.Mode.TheVariants.{In, Out, Di, Uo}
use Rattle.md_hlds.specs.declared.types.Det.{Det}
use Rattle.md_hlds.specs.declared.types.Det.TheVariants.{Semidet, Multi, Nondet, Failure}
use Rattle.md_hlds.specs.declared.types.Det.TheVariants.{Det as One}
use Rattle.md_hlds.specs.declared.goal.PredName.{PredName}
use Rattle.md_hlds.specs.declared.goal.Term.TheVariants.{Var, Int, Str, Name}
use Rattle.md_hlds.specs.declared.goal.Op.TheVariants.{Add, Sub, Mul}
use Rattle.md_hlds.specs.declared.goal.Cmp.TheVariants.{Le, Gt}
use Rattle.md_hlds.specs.HldsGoal.{HldsGoal, At, SimpleGoal, CallGoal, HoCallGoal, ConjGoal, DisjGoal, IfGoal, NotGoal, SomeGoal, gathered, Succeeds, Fails, Unifies, Computes, Compares, WritesInt, WritesText, EndsLine}
use Rattle.md_hlds.specs.Hlds.{Hlds, Procedure, HldsTypeDef, HldsFunctor, HldsType, number, text, world, named, closure, gathered_types}
use Rattle.md_inst.specs.declared.fault.ModeFault.{ModeFault}
use Rattle.md_inst.specs.declared.fault.ModeFault.TheVariants.{UnknownName, Arity, TypeClash, Unbound, BoundTwice, BranchBinds, IoUsed, ClosureTest, NoMain}
use Rattle.md_names.specs.declared.named.Named.{Named}
use Rattle.md_names.specs.declared.named.Named.TheVariants.{Functor, Predicate, Nothing}
use Rattle.md_modes.specs.Modes.{mode_fault}
use Rattle.md_modes.specs.Classes.{named_at, size_at, outside_at}
use Rattle.md_modes.specs.Notes.{Role, constructs, closes, takes_apart, assigns, tests, applies, Note, program_notes}

-- ---- words for writing programs; each goal is on the line that stands first

abbrev pub conj : ℕ → List HldsGoal → HldsGoal
conj l ps = At l (ConjGoal (gathered ps))

abbrev pub disj : ℕ → List HldsGoal → HldsGoal
disj l ps = At l (DisjGoal (gathered ps))

abbrev pub unqualified : List ℕ → PredName
unqualified name = record { qualifier = None; name = name }

abbrev pub is_int : ℕ → ℕ → ℕ → HldsGoal
is_int l x n = At l (SimpleGoal (Unifies x (Int (pos n))))

abbrev pub is_text : ℕ → ℕ → List ℕ → HldsGoal
is_text l x bytes = At l (SimpleGoal (Unifies x (Str bytes)))

abbrev pub same : ℕ → ℕ → ℕ → HldsGoal
same l x y = At l (SimpleGoal (Unifies x (Var y)))

abbrev pub made : ℕ → ℕ → List ℕ → List ℕ → HldsGoal
made l x f ys = At l (SimpleGoal (Unifies x (Name (unqualified f) ys)))

abbrev pub call : ℕ → List ℕ → List ℕ → HldsGoal
call l q ys = At l (CallGoal 0 (unqualified q) ys)

abbrev pub apply : ℕ → ℕ → List ℕ → HldsGoal
apply l f ys = At l (HoCallGoal 0 f ys)

abbrev pub succeed : ℕ → HldsGoal
succeed l = At l (SimpleGoal Succeeds)

abbrev pub fail : ℕ → HldsGoal
fail l = At l (SimpleGoal Fails)

abbrev pub choose : ℕ → HldsGoal → HldsGoal → HldsGoal → HldsGoal
choose l c t e = At l (IfGoal c t e)

abbrev pub unless : ℕ → HldsGoal → HldsGoal
unless l c = At l (NotGoal c)

abbrev pub some : ℕ → List ℕ → HldsGoal → HldsGoal
some l vs c = At l (SomeGoal vs c)

abbrev pub add : ℕ → ℕ → ℕ → ℕ → HldsGoal
add l z a b = At l (SimpleGoal (Computes z a Add b))

abbrev pub minus : ℕ → ℕ → ℕ → ℕ → HldsGoal
minus l z a b = At l (SimpleGoal (Computes z a Sub b))

abbrev pub at_most : ℕ → ℕ → ℕ → HldsGoal
at_most l a b = At l (SimpleGoal (Compares a Le b))

abbrev pub write_int : ℕ → ℕ → ℕ → ℕ → HldsGoal
write_int l x before after = At l (SimpleGoal (WritesInt x before after))

abbrev pub write_text : ℕ → ℕ → ℕ → ℕ → HldsGoal
write_text l x before after = At l (SimpleGoal (WritesText x before after))

abbrev pub new_line : ℕ → ℕ → ℕ → HldsGoal
new_line l before after = At l (SimpleGoal (EndsLine before after))

abbrev pub names : ℕ → List (List ℕ)
names zero = []
names (suc n) = [] ∷ names n

-- n places from this one on
abbrev pub places : ℕ → ℕ → List ℕ
places from zero = []
places from (suc n) = from ∷ places (suc from) n

-- a predicate that is declared on a line and has its clause on the next; its arguments are the first of so many variables
abbrev pub predicate : ℕ → List ℕ → List (HldsType × Mode) → Det → ℕ → HldsGoal → Procedure
predicate l name args det vars body = record {
  qualifier = None;
  name = name;
  line = l;
  clause_line = suc l;
  args = args;
  det = det;
  vars = names vars;
  head = places 0 (length args);
  body = body;
}

abbrev pub io_args : List (HldsType × Mode)
io_args = (world, Di) ∷ (world, Uo) ∷ []

-- main(IO0, IO): IO0 is variable 0 and IO variable 1
abbrev pub main : ℕ → HldsGoal → Procedure
main vars body = predicate 2 (codes "main") io_args One vars body

abbrev pub program : List HldsTypeDef → List Procedure → Hlds
program types ps = record { module_name = codes "t"; module_line = 1; types = types; procedures = ps }

-- `:- type list ---> nil ; cons(int, list).`
abbrev pub list : HldsType
list = named (codes "list")

abbrev pub functor : List ℕ → List HldsType → HldsFunctor
functor name args = record { name = name; args = args }

abbrev pub type_of : ℕ → List ℕ → List HldsFunctor → HldsTypeDef
type_of l name functors = record { name = name; line = l; functors = functors }

abbrev pub list_type : HldsTypeDef
list_type = type_of 20 (codes "list") (functor (codes "nil") [] ∷ functor (codes "cons") (number ∷ list ∷ []) ∷ [])

-- `pred(int, int)::in(pred(in, out) is det)`
abbrev pub function_of_ints : HldsType
function_of_ints = closure (gathered_types (number ∷ number ∷ [])) (In ∷ Out ∷ []) One

-- ---- accepted programs

-- main(IO0, IO) :- IO = IO0.
abbrev pub hand_over : Procedure
hand_over = main 2 (same 3 1 0)

-- main(IO0, IO) :- S = "hello", io.write_string(S, IO0, IO1), io.nl(IO1, IO).
abbrev pub hello : Hlds
hello = program [] (main 4 (conj 3 (is_text 3 2 (codes "hello") ∷ write_text 3 2 0 3 ∷ new_line 3 3 1 ∷ [])) ∷ [])

-- count(N) :- Z = 0, ( N =< Z -> true ; D = 1, M = N - D, count(M) ).
abbrev pub count : Hlds
count = program [] (main 3 (conj 3 (is_int 3 2 3 ∷ call 3 (codes "count") (2 ∷ []) ∷ same 3 1 0 ∷ []))
    ∷ predicate 4 (codes "count") ((number, In) ∷ []) One 4 (conj 5 (is_int 5 1 0
    ∷ choose 5 (at_most 5 0 1) (succeed 5) (conj 5 (is_int 5 2 1 ∷ minus 5 3 0 2 ∷ call 5 (codes "count") (3 ∷ []) ∷ []))
    ∷ []))
    ∷ [])

-- member(X, L) :- L = cons(H, T), ( X = H ; member(X, T) ).
abbrev pub member : Procedure
member = predicate 4 (codes "member") ((number, Out) ∷ (list, In) ∷ []) Nondet 4 (conj 5 (made 5 1 (codes "cons") (2 ∷ 3 ∷ [])
    ∷ disj 5 (same 5 0 2 ∷ call 5 (codes "member") (0 ∷ 3 ∷ []) ∷ [])
    ∷ []))

-- A = 1, E = nil, L = cons(A, E), ( some [X] ( member(X, L) ) -> S = "yes" ; S = "no" ), io.write_string(S, IO0, IO)
abbrev pub one_member : Hlds
one_member = program (list_type ∷ []) (main 7 (conj 3 (is_int 3 2 1 ∷ made 3 3 (codes "nil") [] ∷ made 3 4 (codes "cons") (2 ∷ 3 ∷ [])
    ∷ choose 3 (some 3 (5 ∷ []) (call 3 (codes "member") (5 ∷ 4 ∷ []))) (is_text 3 6 (codes "yes")) (is_text 3 6 (codes "no"))
    ∷ write_text 3 6 0 1 ∷ []))
    ∷ member ∷ [])

-- .., V = 5, ( not ( member(X, L), X > V ) -> S = "none" ; S = "some" ), io.write_string(S, IO0, IO)
abbrev pub no_member : Hlds
no_member = program (list_type ∷ []) (main 7 (conj 3 (made 3 2 (codes "nil") [] ∷ is_int 3 3 5
    ∷ choose 3 (unless 3 (conj 3 (call 3 (codes "member") (4 ∷ 2 ∷ []) ∷ At 3 (SimpleGoal (Compares 4 Gt 3)) ∷ []))) (is_text 3 5 (codes "none")) (is_text 3 5 (codes "some"))
    ∷ write_text 3 5 0 1 ∷ []))
    ∷ member ∷ [])

-- drive(P, Q, N) :- Z = 0, ( N =< Z -> true ; call(P, N, R), D = 1, M = N - D, drive(Q, P, M) ).
abbrev pub drive : Procedure
drive = predicate 4 (codes "drive") ((function_of_ints, In) ∷ (function_of_ints, In) ∷ (number, In) ∷ []) One 7 (conj 5 (is_int 5 3 0
    ∷ choose 5 (at_most 5 2 3) (succeed 5) (conj 5 (apply 5 0 (2 ∷ 4 ∷ []) ∷ is_int 5 5 1 ∷ minus 5 6 2 5 ∷ call 5 (codes "drive") (1 ∷ 0 ∷ 6 ∷ []) ∷ []))
    ∷ []))

-- add(A, B, C) :- C = A + B.
abbrev pub adder : Procedure
adder = predicate 6 (codes "add") ((number, In) ∷ (number, In) ∷ (number, Out) ∷ []) One 3 (add 7 2 0 1)

-- double(A, B) :- T = 2, B = A * T.
abbrev pub double : Procedure
double = predicate 8 (codes "double") ((number, In) ∷ (number, Out) ∷ []) One 3 (conj 9 (is_int 9 2 2 ∷ At 9 (SimpleGoal (Computes 1 0 Mul 2)) ∷ []))

-- main(IO0, IO) :- A = 1, N = 3, P = add(A), Q = double, drive(P, Q, N), IO = IO0.
abbrev pub closures : Hlds
closures = program [] (main 6 (conj 3 (is_int 3 2 1 ∷ is_int 3 3 3 ∷ made 3 4 (codes "add") (2 ∷ []) ∷ made 3 5 (codes "double") []
    ∷ call 3 (codes "drive") (4 ∷ 5 ∷ 3 ∷ []) ∷ same 3 1 0 ∷ []))
    ∷ drive ∷ adder ∷ double ∷ [])

-- loop(N, IO0, IO) :- Z = 0, ( N =< Z -> IO = IO0 ; D = 1, M = N - D, P = loop(M), call(P, IO0, IO) ).
abbrev pub loop : Hlds
loop = program [] (main 3 (conj 3 (is_int 3 2 2 ∷ call 3 (codes "loop") (2 ∷ 0 ∷ 1 ∷ []) ∷ []))
    ∷ predicate 4 (codes "loop") ((number, In) ∷ (world, Di) ∷ (world, Uo) ∷ []) One 7 (conj 5 (is_int 5 3 0
    ∷ choose 5 (at_most 5 0 3) (same 5 2 1)
    (conj 5 (is_int 5 4 1 ∷ minus 5 5 0 4 ∷ made 5 6 (codes "loop") (5 ∷ []) ∷ apply 5 6 (1 ∷ 2 ∷ []) ∷ []))
    ∷ []))
    ∷ [])

-- pick(X) :- ( X = 1 ; X = 2 ).
abbrev pub picks : Hlds
picks = program [] (main 3 (conj 3 (call 3 (codes "pick") (2 ∷ []) ∷ write_int 3 2 0 1 ∷ []))
    ∷ predicate 4 (codes "pick") ((number, Out) ∷ []) Multi 1 (disj 5 (is_int 5 0 1 ∷ is_int 5 0 2 ∷ [])) ∷ [])

-- :- type colour ---> red ; green ; blue.   code(C, N) :- ( C = red, N = 1 ; C = green, N = 2 ).
abbrev pub colour_type : HldsTypeDef
colour_type = type_of 20 (codes "colour") (functor (codes "red") [] ∷ functor (codes "green") [] ∷ functor (codes "blue") [] ∷ [])

abbrev pub code : Hlds
code = program (colour_type ∷ []) (hand_over
    ∷ predicate 4 (codes "code") ((named (codes "colour"), In) ∷ (number, Out) ∷ []) One 2 (disj 5 (
    conj 5 (made 5 0 (codes "red") [] ∷ is_int 5 1 1 ∷ []) ∷ conj 5 (made 5 0 (codes "green") [] ∷ is_int 5 1 2 ∷ []) ∷ []))
    ∷ [])

-- place(Free, Done, Q) :- ( Free = nil, Q = Done ; Free = cons(H, T), del(X, Free, Rest), D = 1, safe(X, D, Done),
--     Done1 = cons(X, Done), place(Rest, Done1, Q) ).
-- safe(X, D, L) :- ( L = nil ; L = cons(Y, T), U = X + D, V = X - D, not ( Y = U ), not ( Y = V ), One = 1,
--     D1 = D + One, safe(X, D1, T) ).
abbrev pub queens : Hlds
queens = program (list_type ∷ []) (hand_over
    ∷ predicate 4 (codes "place") ((list, In) ∷ (list, In) ∷ (list, Out) ∷ []) Nondet 9 (disj 5 (
    conj 5 (made 5 0 (codes "nil") [] ∷ same 5 2 1 ∷ [])
    ∷ conj 6 (made 6 0 (codes "cons") (3 ∷ 4 ∷ []) ∷ call 6 (codes "del") (5 ∷ 0 ∷ 6 ∷ []) ∷ is_int 6 7 1 ∷ call 6 (codes "safe") (5 ∷ 7 ∷ 1 ∷ [])
    ∷ made 7 8 (codes "cons") (5 ∷ 1 ∷ []) ∷ call 7 (codes "place") (6 ∷ 8 ∷ 2 ∷ []) ∷ [])
    ∷ []))
    ∷ predicate 8 (codes "del") ((number, Out) ∷ (list, In) ∷ (list, Out) ∷ []) Nondet 6 (conj 9 (made 9 1 (codes "cons") (3 ∷ 4 ∷ [])
    ∷ disj 9 (conj 9 (same 9 0 3 ∷ same 9 2 4 ∷ []) ∷ conj 9 (call 9 (codes "del") (0 ∷ 4 ∷ 5 ∷ []) ∷ made 9 2 (codes "cons") (3 ∷ 5 ∷ []) ∷ []) ∷ [])
    ∷ []))
    ∷ predicate 10 (codes "safe") ((number, In) ∷ (number, In) ∷ (list, In) ∷ []) Semidet 9 (disj 11 (
    made 11 2 (codes "nil") []
    ∷ conj 12 (made 12 2 (codes "cons") (3 ∷ 4 ∷ []) ∷ add 12 5 0 1 ∷ minus 12 6 0 1 ∷ unless 12 (same 12 3 5) ∷ unless 12 (same 12 3 6)
    ∷ is_int 13 7 1 ∷ add 13 8 1 7 ∷ call 13 (codes "safe") (0 ∷ 8 ∷ 4 ∷ []) ∷ [])
    ∷ []))
    ∷ [])

-- a predicate of another module, declared under its qualified name: a.f :- true.
abbrev pub elsewhere : Procedure
elsewhere = record {
  qualifier = Some (codes "a");
  name = codes "f";
  line = 4;
  clause_line = 5;
  args = [];
  det = One;
  vars = [];
  head = [];
  body = succeed 5;
}

abbrev pub modules : Hlds
modules = program [] (main 2 (conj 3 (At 3 (CallGoal 0 (record { qualifier = Some (codes "a"); name = codes "f" }) []) ∷ same 3 1 0 ∷ [])) ∷ elsewhere ∷ [])

-- an arm that ends in `fail` needs to bind nothing: ( true -> X = 1 ; fail ), io.write_int(X, IO0, IO)
abbrev pub failing_arm : Hlds
failing_arm = program [] (main 3 (conj 3 (choose 3 (succeed 3) (is_int 3 2 1) (fail 3) ∷ write_int 3 2 0 1 ∷ [])) ∷ [])

-- a variable that occurs in the arms alone may be bound by some of them, with any types
abbrev pub local : Hlds
local = program [] (main 4 (conj 3 (disj 3 (is_int 3 2 1 ∷ is_text 3 3 (codes "a") ∷ succeed 3 ∷ []) ∷ same 3 1 0 ∷ [])) ∷ [])

accepted :
    map mode_fault (program [] (hand_over ∷ []) ∷ hello ∷ count ∷ one_member ∷ no_member ∷ closures ∷ loop ∷ picks ∷ code ∷ queens
    ∷ modules ∷ failing_arm ∷ local ∷ [])
    ≡ (None ∷ None ∷ None ∷ None ∷ None ∷ None ∷ None ∷ None ∷ None ∷ None ∷ None ∷ None ∷ None ∷ [])
unfolding mode_fault
accepted = refl

-- ---- what is found at the goals

-- a goal's role, what it binds, and whether it names an io state
abbrev pub told : Note → (Option Role × List ℕ) × Bool
told n = ((n.role, n.binds), n.state)

abbrev pub note : Option Role → List ℕ → (Option Role × List ℕ) × Bool
note role binds = ((role, binds), false)

-- the same of a goal that names an io state
abbrev pub io_note : Option Role → List ℕ → (Option Role × List ℕ) × Bool
io_note role binds = ((role, binds), true)

-- main of one_member, and member: in L = cons(H, T) no argument is bound before it
one_member_notes :
    map told (program_notes one_member)
    ≡ (note None (1 ∷ 2 ∷ 3 ∷ 4 ∷ 6 ∷ [])
    ∷ note (Some constructs) (2 ∷ []) ∷ note (Some constructs) (3 ∷ []) ∷ note (Some constructs) (4 ∷ [])
    ∷ note None (6 ∷ []) ∷ note None [] ∷ note None (5 ∷ []) ∷ note (Some constructs) (6 ∷ []) ∷ note (Some constructs) (6 ∷ [])
    ∷ io_note None (1 ∷ [])
    ∷ note None (0 ∷ 2 ∷ 3 ∷ []) ∷ note (Some (takes_apart [])) (2 ∷ 3 ∷ [])
    ∷ note None (0 ∷ []) ∷ note (Some (assigns 0)) (0 ∷ []) ∷ note None (0 ∷ [])
    ∷ [])
unfolding program_notes
one_member_notes = refl

-- main of closures, and the closure that drive calls
closure_notes :
    map told (program_notes closures)
    ≡ (note None (1 ∷ 2 ∷ 3 ∷ 4 ∷ 5 ∷ [])
    ∷ note (Some constructs) (2 ∷ []) ∷ note (Some constructs) (3 ∷ []) ∷ note (Some closes) (4 ∷ []) ∷ note (Some closes) (5 ∷ [])
    ∷ note None [] ∷ io_note (Some (assigns 1)) (1 ∷ [])
    ∷ note None (3 ∷ []) ∷ note (Some constructs) (3 ∷ []) ∷ note None [] ∷ note None [] ∷ note None []
    ∷ note None (4 ∷ 5 ∷ 6 ∷ []) ∷ note (Some (applies function_of_ints)) (4 ∷ []) ∷ note (Some constructs) (5 ∷ []) ∷ note None (6 ∷ []) ∷ note None []
    ∷ note None (2 ∷ [])
    ∷ note None (1 ∷ 2 ∷ []) ∷ note (Some constructs) (2 ∷ []) ∷ note None (1 ∷ [])
    ∷ [])
unfolding program_notes
closure_notes = refl

-- main(IO0, IO) :- A = 1, E = nil, L = cons(A, E), B = 1, A = B, A = 1, L = cons(B, T), ( X = 2, fail ; true ), IO = IO0.
abbrev pub taken_apart : Hlds
taken_apart = program (list_type ∷ []) (main 8 (conj 3 (is_int 3 2 1 ∷ made 3 3 (codes "nil") [] ∷ made 3 4 (codes "cons") (2 ∷ 3 ∷ [])
    ∷ is_int 3 5 1 ∷ same 3 2 5 ∷ is_int 3 2 1 ∷ made 3 4 (codes "cons") (5 ∷ 6 ∷ []) ∷ disj 3 (conj 3 (is_int 3 7 2 ∷ fail 3 ∷ []) ∷ succeed 3 ∷ [])
    ∷ same 3 1 0 ∷ [])) ∷ [])

-- of L = cons(B, T) the first argument is bound; what is bound on the way to `fail` isn't bound by what ends in it
taken_apart_notes :
    map told (program_notes taken_apart)
    ≡ (note None (1 ∷ 2 ∷ 3 ∷ 4 ∷ 5 ∷ 6 ∷ [])
    ∷ note (Some constructs) (2 ∷ []) ∷ note (Some constructs) (3 ∷ []) ∷ note (Some constructs) (4 ∷ []) ∷ note (Some constructs) (5 ∷ [])
    ∷ note (Some tests) [] ∷ note (Some (takes_apart [])) [] ∷ note (Some (takes_apart (0 ∷ []))) (6 ∷ [])
    ∷ note None [] ∷ note None [] ∷ note (Some constructs) (7 ∷ []) ∷ note None [] ∷ note None []
    ∷ io_note (Some (assigns 1)) (1 ∷ [])
    ∷ [])
unfolding program_notes
taken_apart_notes = refl

-- main(IO0, IO) :- A = 1, E = nil, L = cons(A, E), P = add(A), ( first(L, Z) -> call(P, A, Y) ; Y = A ),
--     io.write_int(Y, IO0, IO).   first(L, X) :- L = cons(X, T).
abbrev pub first_or_own : Hlds
first_or_own = program (list_type ∷ []) (main 8 (conj 3 (is_int 3 2 1 ∷ made 3 3 (codes "nil") [] ∷ made 3 4 (codes "cons") (2 ∷ 3 ∷ [])
    ∷ made 3 5 (codes "add") (2 ∷ []) ∷ choose 3 (call 3 (codes "first") (4 ∷ 6 ∷ [])) (apply 3 5 (2 ∷ 7 ∷ [])) (same 3 7 2)
    ∷ write_int 3 7 0 1 ∷ []))
    ∷ predicate 4 (codes "first") ((list, In) ∷ (number, Out) ∷ []) Semidet 3 (made 5 0 (codes "cons") (1 ∷ 2 ∷ [])) ∷ adder ∷ [])

-- what the name in a goal stands for, how many goals it has, and whether it binds a variable that occurs outside it
abbrev pub kept_at : Hlds → ℕ → (Named × ℕ) × Bool
unfolding program_notes
kept_at s n = ((named_at (program_notes s) n, size_at s n), outside_at (program_notes s) n)

abbrev pub kept : Named → ℕ → Bool → (Named × ℕ) × Bool
kept m n outside = ((m, n), outside)

-- the condition binds Z, which occurs in it alone; what a number that is no goal's has
first_or_own_kept :
    map (kept_at first_or_own) (places 0 13)
    ≡ (kept Nothing 10 true
    ∷ kept Nothing 1 true ∷ kept (Functor 0) 1 true ∷ kept (Functor 0) 1 true ∷ kept (Predicate 2) 1 true
    ∷ kept Nothing 4 true ∷ kept (Predicate 1) 1 false ∷ kept Nothing 1 true ∷ kept Nothing 1 true
    ∷ kept Nothing 1 true ∷ kept (Functor 0) 1 true ∷ kept Nothing 1 true ∷ kept Nothing 0 false
    ∷ [])
unfolding program_notes kept_at
first_or_own_kept = refl

-- ---- faults

-- :- type t ---> f(..).
abbrev pub with_types : List HldsTypeDef → Hlds
with_types ts = program ts (hand_over ∷ [])

-- the declarations of types: an unknown one, an io state, and the first of two faults
faults_of_types :
    map mode_fault (with_types (type_of 7 (codes "t") (functor (codes "f") (named (codes "u") ∷ []) ∷ []) ∷ [])
    ∷ with_types (type_of 7 (codes "t") (functor (codes "f") (number ∷ world ∷ []) ∷ []) ∷ [])
    ∷ with_types (type_of 7 (codes "t") (functor (codes "f") (world ∷ []) ∷ functor (codes "g") (named (codes "u") ∷ []) ∷ []) ∷ [])
    ∷ with_types (type_of 7 (codes "t") (functor (codes "f") (named (codes "u") ∷ []) ∷ []) ∷ type_of 8 (codes "u") (functor (codes "c") (world ∷ []) ∷ []) ∷ [])
    ∷ [])
    ≡ (Some (UnknownName 7) ∷ Some (TypeClash 7) ∷ Some (TypeClash 7) ∷ Some (TypeClash 8) ∷ [])
unfolding mode_fault
faults_of_types = refl

-- a predicate p of one argument, declared on line 4 beside main
abbrev pub with_argument : HldsType → Mode → Hlds
with_argument t m = program [] (hand_over ∷ predicate 4 (codes "p") ((t, m) ∷ []) One 1 (fail 5) ∷ [])

-- the declarations of predicates
faults_of_predicates :
    map mode_fault (with_argument (named (codes "u")) In
    ∷ with_argument (named (codes "u")) Di
    ∷ with_argument number Di
    ∷ with_argument world In
    ∷ with_argument world Out
    ∷ with_argument (closure (gathered_types (number ∷ named (codes "u") ∷ [])) (In ∷ []) One) In
    ∷ with_argument (closure (gathered_types (number ∷ number ∷ [])) (In ∷ []) One) In
    ∷ with_argument (closure (gathered_types (world ∷ [])) (In ∷ []) One) In
    ∷ with_argument (closure (gathered_types (number ∷ [])) (Uo ∷ []) One) In
    ∷ with_argument (closure (gathered_types (world ∷ world ∷ [])) (Di ∷ Uo ∷ []) One) In
    ∷ [])
    ≡ (Some (UnknownName 4) ∷ Some (UnknownName 4) ∷ Some (TypeClash 4) ∷ Some (TypeClash 4) ∷ Some (TypeClash 4) ∷ Some (UnknownName 4)
    ∷ Some (TypeClash 4) ∷ Some (TypeClash 4) ∷ Some (TypeClash 4) ∷ None ∷ [])
unfolding mode_fault
faults_of_predicates = refl

-- The fault of a predicate p on line 4 with the clause p(S, L, F, N, R) :- .. on line 5, where S is a string, L a list, F a
-- function of integers, N an integer, and R an integer that the clause has to bind. Beside it stand main, member, add and
-- double. Further variables are 5 to 11.
abbrev pub with_body : HldsGoal → Hlds
with_body body = program (list_type ∷ []) (hand_over
    ∷ predicate 4 (codes "p") ((text, In) ∷ (list, In) ∷ (function_of_ints, In) ∷ (number, In) ∷ (number, Out) ∷ []) Nondet 12 body
    ∷ member ∷ adder ∷ double ∷ [])

-- the goal on line 6 after R = 1
abbrev pub body_fault : HldsGoal → Option ModeFault
unfolding mode_fault
body_fault g = mode_fault (with_body (conj 5 (is_int 5 4 1 ∷ g ∷ [])))

-- X = Y: neither is bound; two types; closures; one of them bound is no fault; two integers are compared
faults_of_variables :
    map body_fault (same 6 5 6 ∷ same 6 3 0 ∷ same 6 2 2 ∷ same 6 5 2 ∷ same 6 2 5 ∷ same 6 3 4 ∷ [])
    ≡ (Some (Unbound 6) ∷ Some (TypeClash 6) ∷ Some (ClosureTest 6) ∷ None ∷ None ∷ None ∷ [])
unfolding mode_fault body_fault
faults_of_variables = refl

-- X = c: a variable of another type
faults_of_constants :
    map body_fault (is_int 6 0 1 ∷ is_text 6 3 (codes "a") ∷ is_int 6 1 1 ∷ is_int 6 2 1 ∷ is_int 6 3 1 ∷ is_text 6 5 (codes "a") ∷ [])
    ≡ (Some (TypeClash 6) ∷ Some (TypeClash 6) ∷ Some (TypeClash 6) ∷ Some (TypeClash 6) ∷ None ∷ None ∷ [])
unfolding mode_fault body_fault
faults_of_constants = refl

-- X = f(..): made of an unbound variable, or of one of another type; X of another type; an argument of another type
faults_of_functors :
    map body_fault (made 6 5 (codes "cons") (3 ∷ 6 ∷ []) ∷ made 6 5 (codes "cons") (0 ∷ 1 ∷ []) ∷ made 6 3 (codes "nil") [] ∷ made 6 1 (codes "cons") (0 ∷ 5 ∷ [])
    ∷ made 6 1 (codes "cons") (5 ∷ 6 ∷ []) ∷ [])
    ≡ (Some (Unbound 6) ∷ Some (TypeClash 6) ∷ Some (TypeClash 6) ∷ Some (TypeClash 6) ∷ None ∷ [])
unfolding mode_fault body_fault
faults_of_functors = refl

-- X = q(..): no such name; a functor of that name with another arity; no argument left; X bound; an argument that is captured
-- is an output; an argument that is left is of higher order; an unbound variable; one of another type
faults_of_closures :
    map body_fault (made 6 5 (codes "what") [] ∷ made 6 5 (codes "cons") (3 ∷ []) ∷ made 6 5 (codes "add") (3 ∷ 4 ∷ 6 ∷ []) ∷ made 6 2 (codes "add") (3 ∷ [])
    ∷ made 6 5 (codes "member") (3 ∷ []) ∷ made 6 5 (codes "p") (0 ∷ 1 ∷ []) ∷ made 6 5 (codes "add") (6 ∷ []) ∷ made 6 5 (codes "add") (0 ∷ [])
    ∷ made 6 5 (codes "p") (0 ∷ 1 ∷ 2 ∷ []) ∷ [])
    ≡ (Some (UnknownName 6) ∷ Some (Arity 6) ∷ Some (Arity 6) ∷ Some (ClosureTest 6) ∷ Some (TypeClash 6) ∷ Some (TypeClash 6) ∷ Some (Unbound 6)
    ∷ Some (TypeClash 6) ∷ None ∷ [])
unfolding mode_fault body_fault
faults_of_closures = refl

-- Z = A + B, from left to right; A =< B
faults_of_arithmetic :
    map body_fault (add 6 3 5 0 ∷ add 6 5 6 0 ∷ add 6 5 0 6 ∷ add 6 5 3 0 ∷ at_most 6 5 0 ∷ at_most 6 3 0 ∷ at_most 6 3 4 ∷ [])
    ≡ (Some (BoundTwice 6) ∷ Some (Unbound 6) ∷ Some (TypeClash 6) ∷ Some (TypeClash 6) ∷ Some (Unbound 6) ∷ Some (TypeClash 6) ∷ None ∷ [])
unfolding mode_fault body_fault
faults_of_arithmetic = refl

-- a call: no such predicate; another arity; an input that isn't bound or of another type; an output that is bound
faults_of_calls :
    map body_fault (call 6 (codes "what") [] ∷ call 6 (codes "add") (3 ∷ 4 ∷ []) ∷ call 6 (codes "add") (3 ∷ 5 ∷ 6 ∷ []) ∷ call 6 (codes "add") (3 ∷ 0 ∷ 5 ∷ [])
    ∷ call 6 (codes "member") (3 ∷ 1 ∷ []) ∷ call 6 (codes "member") (5 ∷ 1 ∷ []) ∷ [])
    ≡ (Some (UnknownName 6) ∷ Some (Arity 6) ∷ Some (Unbound 6) ∷ Some (TypeClash 6) ∷ Some (BoundTwice 6) ∷ None ∷ [])
unfolding mode_fault body_fault
faults_of_calls = refl

-- call(P, ..): P isn't bound, or no closure; another arity; the arguments
faults_of_closure_calls :
    map body_fault (apply 6 5 [] ∷ apply 6 3 [] ∷ apply 6 2 (3 ∷ []) ∷ apply 6 2 (0 ∷ 5 ∷ []) ∷ apply 6 2 (3 ∷ 4 ∷ []) ∷ apply 6 2 (3 ∷ 5 ∷ []) ∷ [])
    ≡ (Some (Unbound 6) ∷ Some (TypeClash 6) ∷ Some (Arity 6) ∷ Some (TypeClash 6) ∷ Some (BoundTwice 6) ∷ None ∷ [])
unfolding mode_fault body_fault
faults_of_closure_calls = refl

-- the fault of two goals on the lines 6 and 7, the second of which speaks of what the first one does
abbrev pub fault_of_two : HldsGoal × HldsGoal → Option ModeFault
unfolding body_fault
fault_of_two gs = body_fault (conj 6 (gs.0 ∷ gs.1 ∷ []))

-- An if-then-else, a disjunction, a negation and `some` that bind a variable which occurs after them: a condition; one arm of
-- two; the second arm alone; a negation; `some`; a variable of the list of `some`. Then the same where an arm fails, and where each binds it.
faults_of_branches :
    map fault_of_two ((choose 6 (is_int 6 5 1) (succeed 6) (succeed 6), same 7 6 5)
    ∷ (choose 6 (succeed 6) (is_int 6 5 1) (succeed 6), same 7 6 5)
    ∷ (disj 6 (succeed 6 ∷ is_int 6 5 1 ∷ []), same 7 6 5)
    ∷ (disj 6 (is_int 6 5 1 ∷ is_int 6 5 1 ∷ succeed 6 ∷ []), same 7 6 5)
    ∷ (unless 6 (is_int 6 5 1), same 7 6 5)
    ∷ (some 6 [] (is_int 6 5 1), same 7 6 5)
    ∷ (some 6 (5 ∷ []) (succeed 6), is_int 7 5 1)
    ∷ (disj 6 (fail 6 ∷ is_int 6 5 1 ∷ conj 6 (fail 6 ∷ succeed 6 ∷ []) ∷ []), same 7 6 5)
    ∷ (choose 6 (fail 6) (is_int 6 5 1) (is_int 6 5 2), same 7 6 5)
    ∷ (unless 6 (is_int 6 5 1), same 7 3 4)
    ∷ (some 6 (5 ∷ []) (is_int 6 5 1), same 7 3 4)
    ∷ [])
    ≡ (Some (BranchBinds 6) ∷ Some (BranchBinds 6) ∷ Some (BranchBinds 6) ∷ Some (BranchBinds 6) ∷ Some (BranchBinds 6) ∷ Some (BranchBinds 6) ∷ Some (BranchBinds 6)
    ∷ None ∷ None ∷ None ∷ None ∷ [])
unfolding mode_fault body_fault fault_of_two
faults_of_branches = refl

-- A variable that each arm binds with another type, also where it occurs in the arms alone. A variable that not every arm
-- binds comes first. Where no arm ends, nothing is bound after them.
faults_of_arms :
    map fault_of_two ((choose 6 (succeed 6) (is_int 6 5 1) (is_text 6 5 (codes "a")), same 7 6 5)
    ∷ (disj 6 (is_int 6 5 1 ∷ is_text 6 5 (codes "a") ∷ []), same 7 3 4)
    ∷ (disj 6 (is_int 6 5 1 ∷ is_text 6 5 (codes "a") ∷ succeed 6 ∷ []), same 7 3 4)
    ∷ (disj 6 (conj 6 (is_int 6 5 1 ∷ is_int 6 6 1 ∷ []) ∷ is_text 6 5 (codes "a") ∷ []), same 7 7 6)
    ∷ (disj 6 (conj 6 (is_int 6 5 1 ∷ fail 6 ∷ []) ∷ fail 6 ∷ []), same 7 6 5)
    ∷ [])
    ≡ (Some (TypeClash 6) ∷ Some (TypeClash 6) ∷ None ∷ Some (BranchBinds 6) ∷ Some (Unbound 7) ∷ [])
unfolding mode_fault body_fault fault_of_two
faults_of_arms = refl

-- the end of a clause: R isn't bound; it has another type; the place isn't reachable; the place after a call that is
-- declared `failure` is
faults_at_the_end :
    map mode_fault (with_body (succeed 6) ∷ with_body (is_text 6 4 (codes "a")) ∷ with_body (fail 6)
    ∷ program [] (hand_over ∷ predicate 4 (codes "p") ((number, Out) ∷ []) One 1 (call 5 (codes "no") []) ∷ predicate 6 (codes "no") [] Failure 0 (fail 7) ∷ [])
    ∷ [])
    ≡ (Some (Unbound 5) ∷ Some (TypeClash 5) ∷ None ∷ Some (Unbound 5) ∷ [])
unfolding mode_fault
faults_at_the_end = refl

-- main with a body on line 3, beside w(IO0, IO) :- io.nl(IO0, IO). Further variables are 2 to 5.
abbrev pub io_fault : HldsGoal → Option ModeFault
unfolding mode_fault
io_fault body = mode_fault (program [] (main 6 body ∷ predicate 8 (codes "w") io_args One 2 (new_line 9 0 1) ∷ []))

-- The io state: handed on twice, by a builtin, a call, an assignment or an arm; written in the place of an integer; bound
-- twice; compared; captured; unbound; unbound at the end; used at the end.
faults_of_io :
    map io_fault (conj 3 (new_line 3 0 2 ∷ new_line 4 0 1 ∷ [])
    ∷ conj 3 (call 3 (codes "w") (0 ∷ 2 ∷ []) ∷ call 4 (codes "w") (0 ∷ 1 ∷ []) ∷ [])
    ∷ conj 3 (same 3 2 0 ∷ same 4 1 0 ∷ [])
    ∷ conj 3 (disj 3 (new_line 3 0 2 ∷ same 3 2 0 ∷ []) ∷ same 4 1 0 ∷ [])
    ∷ conj 3 (is_text 3 2 (codes "a") ∷ write_int 4 2 0 1 ∷ [])
    ∷ conj 3 (new_line 3 0 1 ∷ new_line 4 1 1 ∷ [])
    ∷ conj 3 (same 3 2 0 ∷ same 4 2 0 ∷ [])
    ∷ conj 3 (made 3 2 (codes "w") (0 ∷ []) ∷ same 4 1 0 ∷ [])
    ∷ conj 3 (new_line 3 2 1 ∷ [])
    ∷ conj 3 (new_line 3 0 2 ∷ [])
    ∷ conj 3 (same 3 1 0 ∷ new_line 4 1 2 ∷ [])
    ∷ [])
    ≡ (Some (IoUsed 4) ∷ Some (IoUsed 4) ∷ Some (IoUsed 4) ∷ Some (IoUsed 4) ∷ Some (TypeClash 4) ∷ Some (BoundTwice 4) ∷ Some (IoUsed 4) ∷ Some (TypeClash 3)
    ∷ Some (Unbound 3) ∷ Some (Unbound 3) ∷ Some (IoUsed 3) ∷ [])
unfolding mode_fault io_fault
faults_of_io = refl

-- within a condition, a negation or `some` no io state is handed on; the arms of an if-then-else may hand it on
faults_of_strict_io :
    map io_fault (choose 3 (new_line 4 0 2) (same 5 1 2) (same 6 1 0)
    ∷ conj 3 (unless 3 (new_line 4 0 2) ∷ same 5 1 0 ∷ [])
    ∷ conj 3 (some 3 (2 ∷ []) (same 4 2 0) ∷ same 5 1 0 ∷ [])
    ∷ choose 3 (succeed 3) (new_line 4 0 1) (same 5 1 0)
    ∷ [])
    ≡ (Some (IoUsed 4) ∷ Some (IoUsed 4) ∷ Some (IoUsed 4) ∷ None ∷ [])
unfolding mode_fault io_fault
faults_of_strict_io = refl

-- main: none; another determinism; other arguments; a qualified name
faults_of_main :
    map mode_fault (program [] []
    ∷ program [] (predicate 2 (codes "main") io_args Semidet 2 (same 3 1 0) ∷ [])
    ∷ program [] (predicate 2 (codes "main") ((world, Uo) ∷ (world, Di) ∷ []) One 2 (same 3 0 1) ∷ [])
    ∷ program [] (predicate 2 (codes "mains") io_args One 2 (same 3 1 0) ∷ [])
    ∷ program [] (record hand_over { qualifier = Some (codes "a") } ∷ [])
    ∷ [])
    ≡ (Some (NoMain 1) ∷ Some (NoMain 1) ∷ Some (NoMain 1) ∷ Some (NoMain 1) ∷ Some (NoMain 1) ∷ [])
unfolding mode_fault
faults_of_main = refl

-- Of two faults: a type's comes before a predicate's, a declaration's before a clause's, that of an earlier clause before that
-- of a later one, and `NoMain` last.
first_faults :
    map mode_fault (program (type_of 9 (codes "t") (functor (codes "f") (world ∷ []) ∷ []) ∷ []) (predicate 2 (codes "p") ((number, Di) ∷ []) One 1 (fail 3) ∷ [])
    ∷ program [] (predicate 2 (codes "p") [] One 1 (call 3 (codes "what") []) ∷ predicate 4 (codes "q") ((number, Di) ∷ []) One 1 (fail 5) ∷ [])
    ∷ program [] (predicate 2 (codes "p") [] One 1 (call 3 (codes "what") []) ∷ predicate 4 (codes "q") [] One 2 (same 5 0 1) ∷ [])
    ∷ program [] (predicate 2 (codes "p") [] One 1 (conj 3 (same 3 0 1 ∷ call 4 (codes "what") [] ∷ [])) ∷ [])
    ∷ [])
    ≡ (Some (TypeClash 9) ∷ Some (TypeClash 4) ∷ Some (UnknownName 3) ∷ Some (Unbound 3) ∷ [])
unfolding mode_fault
first_faults = refl
