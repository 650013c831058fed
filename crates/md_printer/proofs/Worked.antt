-- The printed text, computed on worked programs: each text was written by hand from the rules of printing, and `refl` says
-- that the definition gives it.
use Rattle.std.proofs.Common.{◌≡◌, refl, ℕ, pos, negsuc, true, false, List, [], ◌∷◌, ◌++◌, Some, None}
use Rattle.std.specs.Prelude.{codes}
use Rattle.std.specs.Fmt.{digits}
use Rattle.md_hlds.specs.declared.types.Det.{Det}
use Rattle.md_hlds.specs.declared.types.Det.TheVariants.{Semidet, Nondet}
use Rattle.md_hlds.specs.declared.types.Det.TheVariants.{Det as One}
use Rattle.md_hlds.specs.declared.types.Mode.{Mode}
use Rattle.md_hlds.specs.declared.types.Mode.TheVariants as mode
use Rattle.md_hlds.specs.declared.goal.PredName.{PredName}
use Rattle.md_hlds.specs.declared.goal.Term.TheVariants.{Var, Int, Str, Name}
use Rattle.md_hlds.specs.declared.goal.Op.TheVariants.{Sub}
use Rattle.md_hlds.specs.declared.goal.Cmp.TheVariants.{Le}
use Rattle.md_hlds.specs.HldsGoal.{HldsGoal, At, GoalExpr, SimpleGoal, CallGoal, HoCallGoal, ConjGoal, DisjGoal, IfGoal, NotGoal, SomeGoal, gathered, Succeeds, Fails, Unifies, Computes, Compares, WritesText}
use Rattle.md_hlds.specs.Hlds.{Hlds, Procedure, HldsTypeDef, HldsType, number, world, named, closure, gathered_types}
use Rattle.md_printer.specs.Layout.{laid, sentence}
use Rattle.md_printer.specs.Printed.{printed, integer, quoted, escaped, goal_tokens, argument_tokens}

-- ---- words for writing programs

abbrev pub goal : GoalExpr → HldsGoal
goal t = At 0 t

abbrev pub all : List HldsGoal → HldsGoal
all ps = goal (ConjGoal (gathered ps))

abbrev pub unqualified : List ℕ → PredName
unqualified name = record { qualifier = None; name = name }

abbrev pub is_number : ℕ → ℕ → HldsGoal
is_number x n = goal (SimpleGoal (Unifies x (Int (pos n))))

abbrev pub is_text : ℕ → List ℕ → HldsGoal
is_text x bytes = goal (SimpleGoal (Unifies x (Str bytes)))

abbrev pub same : ℕ → ℕ → HldsGoal
same x y = goal (SimpleGoal (Unifies x (Var y)))

abbrev pub made : ℕ → List ℕ → List ℕ → HldsGoal
made x f ys = goal (SimpleGoal (Unifies x (Name (unqualified f) ys)))

abbrev pub call : List ℕ → List ℕ → HldsGoal
call q ys = goal (CallGoal 0 (unqualified q) ys)

abbrev pub procedure : List ℕ → List (HldsType × Mode) → Det → List (List ℕ) → List ℕ → HldsGoal → Procedure
procedure name as' det vars head body = record {
  qualifier = None;
  name = name;
  line = 0;
  clause_line = 0;
  args = as';
  det = det;
  vars = vars;
  head = head;
  body = body;
}

abbrev pub program : List HldsTypeDef → List Procedure → Hlds
program types procedures = record { module_name = codes "t"; module_line = 0; types = types; procedures = procedures }

-- `main(io::di, io::uo) is det`, with the variables IO0 and IO and these
abbrev pub main : List (List ℕ) → HldsGoal → Procedure
main vars body = procedure (codes "main") ((world, mode.Di) ∷ (world, mode.Uo) ∷ []) One (codes "IO0" ∷ codes "IO" ∷ vars) (0 ∷ 1 ∷ []) body

-- ---- a.m: one goal

abbrev pub a : Hlds
a = program [] (main [] (same 1 0) ∷ [])

a_text : printed a ≡ codes ":- module t .\n:- pred main ( io :: di , io :: uo ) is det .\nmain ( IO0 , IO ) :- IO = IO0 .\n"
unfolding printed sentence laid
a_text = refl

-- ---- some.m: a type, a string, an if-then-else, a quantified goal and a disjunction

abbrev pub lists : HldsTypeDef
lists = record {
  name = codes "list";
  line = 0;
  functors = record { name = codes "nil"; args = [] } ∷ record { name = codes "cons"; args = number ∷ named (codes "list") ∷ [] } ∷ [];
}

abbrev pub some_main : Procedure
some_main =
    main (codes "A" ∷ codes "L" ∷ codes "X" ∷ codes "S" ∷ [])
    (all (
    is_number 2 1
    ∷ made 3 (codes "nil") []
    ∷ goal (IfGoal (goal (SomeGoal (4 ∷ []) (call (codes "member") (4 ∷ 3 ∷ [])))) (is_text 5 (codes "yes")) (is_text 5 (codes "no")))
    ∷ goal (SimpleGoal (WritesText 5 0 1))
    ∷ []
    ))

abbrev pub member : Procedure
member =
    procedure (codes "member") ((number, mode.Out) ∷ (named (codes "list"), mode.In) ∷ []) Nondet
    (codes "X" ∷ codes "L" ∷ codes "H" ∷ codes "T" ∷ []) (0 ∷ 1 ∷ [])
    (all (
    made 1 (codes "cons") (2 ∷ 3 ∷ [])
    ∷ goal (DisjGoal (gathered (same 0 2 ∷ call (codes "member") (0 ∷ 3 ∷ []) ∷ [])))
    ∷ []
    ))

abbrev pub some : Hlds
some = program (lists ∷ []) (some_main ∷ member ∷ [])

some_text : printed some ≡ codes ":- module t .\n" ++ (codes ":- type list ---> nil ; cons ( int , list ) .\n" ++ (codes ":- pred main ( io :: di , io :: uo ) is det .\n" ++ (codes "main ( IO0 , IO ) :- A = 1 , L = nil , ( some [ X ] ( member ( X , L ) ) -> S = \"yes\" ; S = \"no\" ) , io.write_string ( S , IO0 , IO ) .\n" ++ (codes ":- pred member ( int :: out , list :: in ) is nondet .\n" ++ codes "member ( X , L ) :- L = cons ( H , T ) , ( X = H ; member ( X , T ) ) .\n"))))
unfolding printed sentence laid quoted escaped digits
some_text = refl

-- ---- drive of ho.m: closures, arithmetic and a comparison

abbrev pub higher : HldsType
higher = closure (gathered_types (number ∷ number ∷ [])) (mode.In ∷ mode.Out ∷ []) One

abbrev pub drive : Procedure
drive =
    procedure (codes "drive") ((higher, mode.In) ∷ (number, mode.In) ∷ []) One
    (codes "P" ∷ codes "N" ∷ codes "Z" ∷ codes "R" ∷ codes "D" ∷ codes "M" ∷ []) (0 ∷ 1 ∷ [])
    (all (
    is_number 2 0
    ∷ goal (IfGoal (goal (SimpleGoal (Compares 1 Le 2))) (goal (SimpleGoal Succeeds))
    (all (
    goal (HoCallGoal 0 0 (1 ∷ 3 ∷ []))
    ∷ is_number 4 1
    ∷ goal (SimpleGoal (Computes 5 1 Sub 4))
    ∷ call (codes "drive") (0 ∷ 5 ∷ [])
    ∷ []
    )))
    ∷ []
    ))

drive_text : printed (program [] (drive ∷ [])) ≡ codes ":- module t .\n" ++ (codes ":- pred drive ( pred ( int , int ) :: in ( pred ( in , out ) is det ) , int :: in ) is det .\n" ++ codes "drive ( P , N ) :- Z = 0 , ( N =< Z -> true ; call ( P , N , R ) , D = 1 , M = N - D , drive ( P , M ) ) .\n")
unfolding printed sentence laid digits
drive_text = refl

-- ---- one rule at a time

-- a conjunction in a conjunction has parentheses; parts of a disjunction and what is negated have none of their own
inner_conjunction : laid (goal_tokens [] false (all (all (goal (SimpleGoal Succeeds) ∷ goal (SimpleGoal Fails) ∷ []) ∷ goal (SimpleGoal Fails) ∷ []))) ≡ codes "( true , fail ) , fail "
unfolding laid
inner_conjunction = refl

arms : laid (goal_tokens [] true (goal (DisjGoal (gathered (all (goal (SimpleGoal Succeeds) ∷ goal (SimpleGoal Fails) ∷ []) ∷ goal (SimpleGoal Fails) ∷ []))))) ≡ codes "( true , fail ; fail ) "
unfolding laid
arms = refl

negated : laid (goal_tokens [] false (goal (NotGoal (all (goal (SimpleGoal Succeeds) ∷ goal (SimpleGoal Fails) ∷ []))))) ≡ codes "not ( true , fail ) "
unfolding laid
negated = refl

quantified_by_none : laid (goal_tokens [] false (goal (SomeGoal [] (goal (SimpleGoal Succeeds))))) ≡ codes "some [ ] ( true ) "
unfolding laid
quantified_by_none = refl

-- the least integer, whose sign is a token of its own
least : laid (integer (negsuc 9223372036854775807)) ≡ codes "- 9223372036854775808 "
unfolding laid digits
least = refl

-- line feed, tab, the backslash and the quote are escaped, and nothing else is
escapes : quoted (97 ∷ 10 ∷ 9 ∷ 92 ∷ 34 ∷ 200 ∷ []) ≡ codes "\"a\\n\\t\\\\\\\"" ++ 200 ∷ codes "\""
unfolding quoted escaped
escapes = refl

-- a qualifier that was kept
qualified : laid (goal_tokens [] false (goal (CallGoal 0 (record { qualifier = Some (codes "a"); name = codes "f" }) []))) ≡ codes "a.f "
unfolding laid
qualified = refl

-- a higher-order argument with unequal lists
unequal : laid (argument_tokens (closure (gathered_types (number ∷ number ∷ [])) (mode.In ∷ []) Semidet, mode.Out)) ≡ codes "pred ( int , int ) :: out ( pred ( in ) is semidet ) "
unfolding laid
unequal = refl
