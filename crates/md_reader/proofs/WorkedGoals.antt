-- One text for each kind of goal, and the program that it spells.
use Rattle.std.proofs.Common.{◌≡◌, refl, ℕ, List, [], ◌∷◌, ◌++◌, map, Result, Ok, None, Some, pos, negsuc}
use Rattle.std.specs.Prelude.{codes, ⊤}
use Rattle.md_hlds.specs.declared.types.Det.TheVariants as det
use Rattle.md_hlds.specs.declared.goal.PredName.{PredName}
use Rattle.md_hlds.specs.declared.goal.Term.TheVariants as term
use Rattle.md_hlds.specs.declared.goal.Op.TheVariants as op
use Rattle.md_hlds.specs.declared.goal.Cmp.TheVariants as cmp
use Rattle.md_hlds.specs.HldsGoal.{HldsGoal, At, GoalExpr, SimpleGoal, CallGoal, HoCallGoal, ConjGoal, DisjGoal, IfGoal, NotGoal, SomeGoal, gathered, Succeeds, Fails, Unifies, Computes, Compares, WritesInt, WritesText, EndsLine, Raises}
use Rattle.md_hlds.specs.Hlds.{Hlds}
use Rattle.md_token.specs.Kinds.{same_kind}
use Rattle.md_token.specs.Token as token
use Rattle.md_token.specs.Literal as number
use Rattle.md_reader.specs.Input as input
use Rattle.md_reader.specs.Rules as rule
use Rattle.md_reader.specs.Duplicates as twice
use Rattle.md_reader.specs.Grammar.{Spells}
use Rattle.md_reader.specs.declared.refused.Refused.{Refused}
use Rattle.md_reader.specs.Reading.{reading}
use Rattle.md_reader.proofs.SoundPrograms.{reading_sound}

-- the body of a clause, the names of its variables, and the goal that it is
record Case : Type 0 where
  body : List ℕ
  vars : List (List ℕ)
  goal : GoalExpr

abbrev text_of : Case → List ℕ
text_of c = codes ":- module t. :- pred p is det. p :- " ++ (c.body ++ codes ".")

abbrev program_of : Case → Hlds
program_of c = record {
  module_name = codes "t";
  module_line = 1;
  types = [];
  procedures = record {
    qualifier = None;
    name = codes "p";
    line = 1;
    clause_line = 1;
    args = [];
    det = det.Det;
    vars = c.vars;
    head = [];
    body = At 1 c.goal;
  } ∷ [];
}

abbrev readings : List Case → List (Result Hlds Refused)
readings cs = map (λ c. reading (text_of c)) cs

abbrev programs : List Case → List (Result Hlds Refused)
programs cs = map (λ c. Ok (program_of c)) cs

abbrev AreSpelled : List Case → Type 0
AreSpelled [] = ⊤
AreSpelled (c ∷ cs) = Spells (text_of c) (program_of c) × AreSpelled cs

are_spelled : (cs : List Case) → readings cs ≡ programs cs → AreSpelled cs
are_spelled [] h = tt
are_spelled (c ∷ cs) h =
    let first : reading (text_of c) ≡ Ok (program_of c) = cc in
    let later : readings cs ≡ programs cs = cc in
    (reading_sound (text_of c) (program_of c) first, are_spelled cs later)

abbrev none : List (List ℕ)
none = []

abbrev x : List (List ℕ)
x = codes "X" ∷ []

abbrev xy : List (List ℕ)
xy = codes "X" ∷ codes "Y" ∷ []

abbrev xyz : List (List ℕ)
xyz = codes "X" ∷ codes "Y" ∷ codes "Z" ∷ []

abbrev own : List ℕ → PredName
own name = record { qualifier = None; name = name }

abbrev other : (qualifier name : List ℕ) → PredName
other qualifier name = record { qualifier = Some qualifier; name = name }

abbrev case : List ℕ → List (List ℕ) → GoalExpr → Case
case body vars goal = record { body = body; vars = vars; goal = goal }

abbrev true_goal : HldsGoal
true_goal = At 1 (SimpleGoal Succeeds)

abbrev fail_goal : HldsGoal
fail_goal = At 1 (SimpleGoal Fails)

-- goals without parts and calls
abbrev simple : List Case
simple =
    case (codes "true") none (SimpleGoal Succeeds)
    ∷ case (codes "fail") none (SimpleGoal Fails)
    ∷ case (codes "X = Y") xy (SimpleGoal (Unifies 0 (term.Var 1)))
    ∷ case (codes "X = 5") x (SimpleGoal (Unifies 0 (term.Int (pos 5))))
    ∷ case (codes "X = -5") x (SimpleGoal (Unifies 0 (term.Int (negsuc 4))))
    ∷ case (codes "X = \"a\\n\"") x (SimpleGoal (Unifies 0 (term.Str (codes "a\n"))))
    ∷ case (codes "X = c") x (SimpleGoal (Unifies 0 (term.Name (own (codes "c")) [])))
    ∷ case (codes "X = f(Y, Z)") xyz (SimpleGoal (Unifies 0 (term.Name (own (codes "f")) (1 ∷ 2 ∷ []))))
    ∷ case (codes "X = m.f(Y)") xy (SimpleGoal (Unifies 0 (term.Name (other (codes "m") (codes "f")) (1 ∷ []))))
    ∷ case (codes "X = Y + Z") xyz (SimpleGoal (Computes 0 1 op.Add 2))
    ∷ case (codes "X = Y - Z") xyz (SimpleGoal (Computes 0 1 op.Sub 2))
    ∷ case (codes "X = Y * Z") xyz (SimpleGoal (Computes 0 1 op.Mul 2))
    ∷ case (codes "X < Y") xy (SimpleGoal (Compares 0 cmp.Lt 1))
    ∷ case (codes "X =< Y") xy (SimpleGoal (Compares 0 cmp.Le 1))
    ∷ case (codes "X > Y") xy (SimpleGoal (Compares 0 cmp.Gt 1))
    ∷ case (codes "X >= Y") xy (SimpleGoal (Compares 0 cmp.Ge 1))
    ∷ case (codes "io.write_int(X, Y, Z)") xyz (SimpleGoal (WritesInt 0 1 2))
    ∷ case (codes "io.write_string(X, Y, Z)") xyz (SimpleGoal (WritesText 0 1 2))
    ∷ case (codes "io.nl(X, Y)") xy (SimpleGoal (EndsLine 0 1))
    ∷ case (codes "require.error(X)") x (SimpleGoal (Raises 0))
    ∷ []

simple_read : readings simple ≡ programs simple
unfolding reading same_kind token.tokens_of token.prefix_at token.token_at token.name_at token.variable_at token.string_at token.past token.word_kind token.sign_at token.colon_at token.dash_at token.single_at number.number_of number.meaning number.string_value input.token input.sees input.next input.after input.expect input.take_name input.name input.word input.variable input.with_variable input.end_clause input.site input.place rule.qualified rule.written rule.pred_name rule.declared_name rule.this_name rule.variables_from rule.arguments rule.quantified rule.positive rule.negated rule.literal rule.application rule.second rule.call rule.closure_call rule.relation rule.open_goal rule.arms_from rule.arms rule.disjunction rule.branches rule.choice rule.group rule.negation rule.quantification rule.unit rule.units_from rule.units rule.conjunction rule.within rule.simple_type rule.simple_types_from rule.functor_arguments rule.functor rule.functors_from rule.functors rule.type_name rule.type_definition rule.mode_word rule.determinism rule.ho_mode rule.modes_from rule.inst_modes rule.inst rule.ho_types rule.ho_argument rule.plain_argument rule.argument rule.arguments_from rule.declared_arguments rule.head_from rule.head rule.declared_determinism rule.declaration rule.body rule.clause rule.procedure_from rule.procedure rule.module_name rule.heading rule.with_type_definition rule.with_procedure rule.declared_procedure rule.declared_type_definition rule.declared rule.declarations_from rule.declarations rule.program twice.second_type_definition twice.second_functor twice.second_procedure twice.duplicate
simple_read = refl

pub simple_spelled : AreSpelled simple
simple_spelled = are_spelled simple simple_read

-- calls, among them those that have the name of a builtin goal
abbrev calls : List Case
calls =
    case (codes "q") none (CallGoal 0 (own (codes "q")) [])
    ∷ case (codes "q(X, Y)") xy (CallGoal 0 (own (codes "q")) (0 ∷ 1 ∷ []))
    ∷ case (codes "m.q(X)") x (CallGoal 0 (other (codes "m") (codes "q")) (0 ∷ []))
    ∷ case (codes "t.q") none (CallGoal 0 (own (codes "q")) [])
    ∷ case (codes "io.nl(X)") x (CallGoal 0 (other (codes "io") (codes "nl")) (0 ∷ []))
    ∷ case (codes "require.error(X, Y)") xy (CallGoal 0 (other (codes "require") (codes "error")) (0 ∷ 1 ∷ []))
    ∷ case (codes "require.error") none (CallGoal 0 (other (codes "require") (codes "error")) [])
    ∷ case (codes "error(X)") x (CallGoal 0 (own (codes "error")) (0 ∷ []))
    ∷ case (codes "call(X)") x (HoCallGoal 0 0 [])
    ∷ case (codes "call(X, Y)") xy (HoCallGoal 0 0 (1 ∷ []))
    ∷ []

calls_read : readings calls ≡ programs calls
unfolding reading same_kind token.tokens_of token.prefix_at token.token_at token.name_at token.variable_at token.string_at token.past token.word_kind token.sign_at token.colon_at token.dash_at token.single_at number.number_of number.meaning number.string_value input.token input.sees input.next input.after input.expect input.take_name input.name input.word input.variable input.with_variable input.end_clause input.site input.place rule.qualified rule.written rule.pred_name rule.declared_name rule.this_name rule.variables_from rule.arguments rule.quantified rule.positive rule.negated rule.literal rule.application rule.second rule.call rule.closure_call rule.relation rule.open_goal rule.arms_from rule.arms rule.disjunction rule.branches rule.choice rule.group rule.negation rule.quantification rule.unit rule.units_from rule.units rule.conjunction rule.within rule.simple_type rule.simple_types_from rule.functor_arguments rule.functor rule.functors_from rule.functors rule.type_name rule.type_definition rule.mode_word rule.determinism rule.ho_mode rule.modes_from rule.inst_modes rule.inst rule.ho_types rule.ho_argument rule.plain_argument rule.argument rule.arguments_from rule.declared_arguments rule.head_from rule.head rule.declared_determinism rule.declaration rule.body rule.clause rule.procedure_from rule.procedure rule.module_name rule.heading rule.with_type_definition rule.with_procedure rule.declared_procedure rule.declared_type_definition rule.declared rule.declarations_from rule.declarations rule.program twice.second_type_definition twice.second_functor twice.second_procedure twice.duplicate
calls_read = refl

pub calls_spelled : AreSpelled calls
calls_spelled = are_spelled calls calls_read

-- goals in goals
abbrev compound : List Case
compound =
    case (codes "true, fail") none (ConjGoal (gathered (true_goal ∷ fail_goal ∷ [])))
    ∷ case (codes "( true )") none (SimpleGoal Succeeds)
    ∷ case (codes "true, ( fail, true )") none (ConjGoal (gathered (true_goal ∷ At 1 (ConjGoal (gathered (fail_goal ∷ true_goal ∷ []))) ∷ [])))
    ∷ case (codes "( true ; fail ; true )") none (DisjGoal (gathered (true_goal ∷ fail_goal ∷ true_goal ∷ [])))
    ∷ case (codes "( true -> fail ; true )") none (IfGoal true_goal fail_goal true_goal)
    ∷ case (codes "not ( fail )") none (NotGoal fail_goal)
    ∷ case (codes "some [] ( true )") none (SomeGoal [] true_goal)
    ∷ case (codes "some [X, Y] ( true )") xy (SomeGoal (0 ∷ 1 ∷ []) true_goal)
    ∷ case (codes "q, r") none (ConjGoal (gathered (At 1 (CallGoal 0 (own (codes "q")) []) ∷ At 1 (CallGoal 1 (own (codes "r")) []) ∷ [])))
    ∷ []

compound_read : readings compound ≡ programs compound
unfolding reading same_kind token.tokens_of token.prefix_at token.token_at token.name_at token.variable_at token.string_at token.past token.word_kind token.sign_at token.colon_at token.dash_at token.single_at number.number_of number.meaning number.string_value input.token input.sees input.next input.after input.expect input.take_name input.name input.word input.variable input.with_variable input.end_clause input.site input.place rule.qualified rule.written rule.pred_name rule.declared_name rule.this_name rule.variables_from rule.arguments rule.quantified rule.positive rule.negated rule.literal rule.application rule.second rule.call rule.closure_call rule.relation rule.open_goal rule.arms_from rule.arms rule.disjunction rule.branches rule.choice rule.group rule.negation rule.quantification rule.unit rule.units_from rule.units rule.conjunction rule.within rule.simple_type rule.simple_types_from rule.functor_arguments rule.functor rule.functors_from rule.functors rule.type_name rule.type_definition rule.mode_word rule.determinism rule.ho_mode rule.modes_from rule.inst_modes rule.inst rule.ho_types rule.ho_argument rule.plain_argument rule.argument rule.arguments_from rule.declared_arguments rule.head_from rule.head rule.declared_determinism rule.declaration rule.body rule.clause rule.procedure_from rule.procedure rule.module_name rule.heading rule.with_type_definition rule.with_procedure rule.declared_procedure rule.declared_type_definition rule.declared rule.declarations_from rule.declarations rule.program twice.second_type_definition twice.second_functor twice.second_procedure twice.duplicate
compound_read = refl

pub compound_spelled : AreSpelled compound
compound_spelled = are_spelled compound compound_read
