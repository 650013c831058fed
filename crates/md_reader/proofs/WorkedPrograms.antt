-- A text with each kind of declaration, and the program that it spells.
use Rattle.std.proofs.Common.{◌≡◌, ◌<◌, refl, arith, ℕ, List, [], ◌∷◌, length, All, Ok, None, Some}
use Rattle.std.specs.Prelude.{codes}
use Rattle.std.proofs.lemmas.List.Elements.{All-from_recursion}
use Rattle.md_hlds.specs.declared.types.Det.TheVariants as det
use Rattle.md_hlds.specs.declared.types.Mode.TheVariants as mode
use Rattle.md_hlds.specs.declared.goal.PredName.{PredName}
use Rattle.md_hlds.specs.HldsGoal.{At, SimpleGoal, Succeeds}
use Rattle.md_hlds.specs.Hlds.{HldsFunctor, HldsTypeDef, number as int_type, text as string_type, world as io_type, named, closure, gathered_types, Hlds}
use Rattle.md_token.specs.Kinds.{same_kind}
use Rattle.md_token.specs.Token as token
use Rattle.md_token.specs.Literal as number
use Rattle.md_reader.specs.Arguments.{HaveFewArguments}
use Rattle.md_reader.specs.Input as input
use Rattle.md_reader.specs.Rules as rule
use Rattle.md_reader.specs.Duplicates as twice
use Rattle.md_reader.specs.Grammar.{Spells}
use Rattle.md_reader.specs.Reading.{reading}
use Rattle.md_reader.proofs.SoundPrograms.{reading_sound}

abbrev own : List ℕ → PredName
own name = record { qualifier = None; name = name }

-- a type with a constant, a functor and each type that a functor may have
abbrev a_type : HldsTypeDef
a_type = record {
  name = codes "a";
  line = 2;
  functors = record { name = codes "b"; args = [] } ∷ record { name = codes "c"; args = int_type ∷ string_type ∷ io_type ∷ named (codes "a") ∷ [] } ∷ [];
}

abbrev types_text : List ℕ
types_text = codes ":- module t.\n:- type a ---> b ; c(int, string, io, a)."

abbrev types_program : Hlds
types_program = record { module_name = codes "t"; module_line = 1; types = a_type ∷ []; procedures = [] }

types_read : reading types_text ≡ Ok types_program
unfolding reading same_kind token.tokens_of token.prefix_at token.token_at token.name_at token.variable_at token.string_at token.past token.word_kind token.sign_at token.colon_at token.dash_at token.single_at number.number_of number.meaning number.string_value input.token input.sees input.next input.after input.expect input.take_name input.name input.word input.variable input.with_variable input.end_clause input.site input.place rule.qualified rule.written rule.pred_name rule.declared_name rule.this_name rule.variables_from rule.arguments rule.quantified rule.positive rule.negated rule.literal rule.application rule.second rule.call rule.closure_call rule.relation rule.open_goal rule.arms_from rule.arms rule.disjunction rule.branches rule.choice rule.group rule.negation rule.quantification rule.unit rule.units_from rule.units rule.conjunction rule.within rule.simple_type rule.simple_types_from rule.functor_arguments rule.functor rule.functors_from rule.functors rule.type_name rule.type_definition rule.mode_word rule.determinism rule.ho_mode rule.modes_from rule.inst_modes rule.inst rule.ho_types rule.ho_argument rule.plain_argument rule.argument rule.arguments_from rule.declared_arguments rule.head_from rule.head rule.declared_determinism rule.declaration rule.body rule.clause rule.procedure_from rule.procedure rule.module_name rule.heading rule.with_type_definition rule.with_procedure rule.declared_procedure rule.declared_type_definition rule.declared rule.declarations_from rule.declarations rule.program twice.second_type_definition twice.second_functor twice.second_procedure twice.duplicate
types_read = refl

pub types_spelled : Spells types_text types_program
types_spelled = reading_sound types_text types_program types_read

-- its second functor has four arguments: refuses a rule by which the greatest number may be reached, and one that looks at the first
-- functor of a type alone
four_arguments : HaveFewArguments 5 (a_type ∷ [])
four_arguments =
    All-from_recursion (λ (t : HldsTypeDef). All (λ f. length f.args < 5) t.functors) (a_type ∷ [])
    (All-from_recursion (λ (f : HldsFunctor). length f.args < 5) a_type.functors (omega arith, (omega arith, tt)), tt)

not_fewer : HaveFewArguments 4 (a_type ∷ []) → ⊥
not_fewer have = absurd (let few = have 0 a_type (omega arith) 1 (record { name = []; args = [] }) (omega arith) in omega (arith, few))

-- each mode, and a higher-order argument
abbrev modes_text : List ℕ
modes_text = codes ":- module t.\n:- pred p(a::in, int::out, pred(int, a)::out(pred(in, out) is semidet)) is multi.\np(X, Y, Z) :- true.\n:- pred m.q(io::di, io::uo) is det.\nm.q(A, B) :- true."

abbrev modes_program : Hlds
modes_program = record {
  module_name = codes "t";
  module_line = 1;
  types = [];
  procedures = record {
    qualifier = None;
    name = codes "p";
    line = 2;
    clause_line = 3;
    args = (named (codes "a"), mode.In) ∷ (int_type, mode.Out) ∷ (closure (gathered_types (int_type ∷ named (codes "a") ∷ [])) (mode.In ∷ mode.Out ∷ []) det.Semidet, mode.Out) ∷ [];
    det = det.Multi;
    vars = codes "X" ∷ codes "Y" ∷ codes "Z" ∷ [];
    head = 0 ∷ 1 ∷ 2 ∷ [];
    body = At 3 (SimpleGoal Succeeds);
  } ∷ record {
    qualifier = Some (codes "m");
    name = codes "q";
    line = 4;
    clause_line = 5;
    args = (io_type, mode.Di) ∷ (io_type, mode.Uo) ∷ [];
    det = det.Det;
    vars = codes "A" ∷ codes "B" ∷ [];
    head = 0 ∷ 1 ∷ [];
    body = At 5 (SimpleGoal Succeeds);
  } ∷ [];
}

modes_read : reading modes_text ≡ Ok modes_program
unfolding reading same_kind token.tokens_of token.prefix_at token.token_at token.name_at token.variable_at token.string_at token.past token.word_kind token.sign_at token.colon_at token.dash_at token.single_at number.number_of number.meaning number.string_value input.token input.sees input.next input.after input.expect input.take_name input.name input.word input.variable input.with_variable input.end_clause input.site input.place rule.qualified rule.written rule.pred_name rule.declared_name rule.this_name rule.variables_from rule.arguments rule.quantified rule.positive rule.negated rule.literal rule.application rule.second rule.call rule.closure_call rule.relation rule.open_goal rule.arms_from rule.arms rule.disjunction rule.branches rule.choice rule.group rule.negation rule.quantification rule.unit rule.units_from rule.units rule.conjunction rule.within rule.simple_type rule.simple_types_from rule.functor_arguments rule.functor rule.functors_from rule.functors rule.type_name rule.type_definition rule.mode_word rule.determinism rule.ho_mode rule.modes_from rule.inst_modes rule.inst rule.ho_types rule.ho_argument rule.plain_argument rule.argument rule.arguments_from rule.declared_arguments rule.head_from rule.head rule.declared_determinism rule.declaration rule.body rule.clause rule.procedure_from rule.procedure rule.module_name rule.heading rule.with_type_definition rule.with_procedure rule.declared_procedure rule.declared_type_definition rule.declared rule.declarations_from rule.declarations rule.program twice.second_type_definition twice.second_functor twice.second_procedure twice.duplicate
modes_read = refl

pub modes_spelled : Spells modes_text modes_program
modes_spelled = reading_sound modes_text modes_program modes_read
