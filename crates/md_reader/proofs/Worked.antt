-- Definitions computed on small texts: what each spells, or its fault, was worked out by hand from the grammar, and `refl`
-- says that the rules give it.
use Rattle.std.proofs.Common.{◌≡◌, refl, ℕ, take, arith, List, [], ◌∷◌, length, replicate, Option, Ok, Err, Some, None, negsuc}
use Rattle.std.specs.Prelude.{codes}
use Rattle.md_hlds.specs.declared.types.Mode.{Mode}
use Rattle.md_hlds.specs.declared.types.Mode.TheVariants.{In}
use Rattle.md_hlds.specs.declared.types.Det.TheVariants.{Det as One}
use Rattle.md_hlds.specs.declared.goal.Term.TheVariants.{Int}
use Rattle.md_hlds.specs.HldsGoal.{At, SimpleGoal, Succeeds, Unifies, CallGoal, ConjGoal, gathered}
use Rattle.md_hlds.specs.Hlds.{Hlds, HldsType, HldsFunctor, HldsTypeDef, Procedure, number}
use Rattle.md_token.specs.declared.kind.Kind.{Kind}
use Rattle.md_token.specs.declared.kind.Kind.TheVariants as kind
use Rattle.md_token.specs.Kinds.{same_kind}
use Rattle.md_token.specs.Token.{Lexeme, tokens_of}
use Rattle.md_token.specs.Token as token
use Rattle.md_token.specs.Literal.{string_value}
use Rattle.md_token.specs.Literal as number
use Rattle.md_reader.specs.declared.refused.Refusal.TheVariants as refusal
use Rattle.md_reader.specs.declared.refused.Refused.TheVariants as refused
use Rattle.md_reader.specs.Input as input
use Rattle.md_reader.specs.Input.{Limits, standard}
use Rattle.md_reader.specs.Rules as rule
use Rattle.md_reader.specs.Duplicates as twice
use Rattle.md_reader.specs.Grammar.{IsOfText, Spells, Repeats}
use Rattle.md_reader.specs.Excess.{Opened, AGoal, AList, Point, beginning, past, name, variable, qualifier, qualified, string, positive, negative, Exceeds, long, item, goal, goals}
use Rattle.md_reader.specs.Faults.{IsSyntaxFault, IsLimitFault}
use Rattle.md_reader.specs.Names.{HasNameLength}
use Rattle.md_reader.specs.Reading.{reading}
use Rattle.md_reader.proofs.SoundPrograms.{reading_sound, reading_repeats}
use Rattle.md_reader.proofs.FaultTexts.{at_fault}

-- the program without types and predicates
abbrev empty : Hlds
empty = record { module_name = codes "t"; module_line = 2; types = []; procedures = [] }

empty_read : reading (codes "\n:- module t.") ≡ Ok empty
unfolding reading same_kind token.tokens_of token.prefix_at token.token_at token.name_at token.word_kind token.sign_at token.colon_at token.single_at input.token input.sees input.next input.expect input.take_name input.word rule.module_name rule.heading rule.declarations rule.declarations_from rule.program twice.duplicate twice.second_type_definition twice.second_functor twice.second_procedure
empty_read = refl

pub spells_the_empty_program : Spells (codes "\n:- module t.") empty
spells_the_empty_program = reading_sound (codes "\n:- module t.") empty empty_read

-- a conjunction with an integer, and a call by the own module's name
abbrev loops : Hlds
loops = record {
  module_name = codes "t";
  module_line = 1;
  types = [];
  procedures = record {
    qualifier = None;
    name = codes "p";
    line = 2;
    clause_line = 3;
    args = [];
    det = One;
    vars = codes "X" ∷ [];
    head = [];
    body = At 3 (ConjGoal (gathered (At 3 (SimpleGoal (Unifies 0 (Int (negsuc 4)))) ∷ At 4 (CallGoal 0 (record { qualifier = None; name = codes "p" }) []) ∷ [])));
  } ∷ [];
}

loops_read : reading (codes ":- module t.\n:- pred p is det.\np :- X = -5,\n( t.p ).") ≡ Ok loops
unfolding reading same_kind token.tokens_of token.prefix_at token.token_at token.name_at token.word_kind token.sign_at token.colon_at token.single_at input.token input.sees input.next input.expect input.take_name input.word rule.module_name rule.heading rule.declarations rule.declarations_from rule.program twice.duplicate twice.second_type_definition twice.second_functor twice.second_procedure token.variable_at token.dash_at number.number_of number.meaning input.after input.name input.variable input.with_variable input.end_clause input.site input.place rule.qualified rule.written rule.pred_name rule.declared_name rule.this_name rule.variables_from rule.arguments rule.negated rule.second rule.application rule.call rule.relation rule.unit rule.units_from rule.units rule.conjunction rule.within rule.determinism rule.declared_arguments rule.head rule.declared_determinism rule.declaration rule.body rule.clause rule.procedure_from rule.procedure rule.with_procedure rule.declared_procedure rule.declared rule.open_goal rule.group
loops_read = refl

pub spells_a_conjunction : Spells (codes ":- module t.\n:- pred p is det.\np :- X = -5,\n( t.p ).") loops
spells_a_conjunction = reading_sound (codes ":- module t.\n:- pred p is det.\np :- X = -5,\n( t.p ).") loops loops_read

-- a type that is declared a second time
twice_read : reading (codes ":- module t.\n:- type a ---> b.\n:- type a ---> c.") ≡ Err (refused.Duplicate 3)
unfolding reading same_kind token.tokens_of token.prefix_at token.token_at token.name_at token.word_kind token.sign_at token.colon_at token.single_at input.token input.sees input.next input.expect input.take_name input.word rule.module_name rule.heading rule.declarations rule.declarations_from rule.program twice.duplicate twice.second_type_definition twice.second_functor twice.second_procedure token.dash_at input.after input.name input.place rule.functor_arguments rule.functor rule.functors_from rule.functors rule.type_name rule.type_definition rule.with_type_definition rule.declared_type_definition rule.declared
twice_read = refl

pub repeats_a_type : Repeats (codes ":- module t.\n:- type a ---> b.\n:- type a ---> c.") 3
repeats_a_type = reading_repeats (codes ":- module t.\n:- type a ---> b.\n:- type a ---> c.") 3 twice_read

-- a name where a declaration may begin
pub a_name_is_at_fault : IsSyntaxFault (codes ":- module t.\np") 2
unfolding same_kind token.tokens_of token.prefix_at token.token_at token.name_at token.word_kind token.sign_at token.colon_at token.single_at input.token input.sees input.next input.expect input.take_name input.word rule.module_name rule.heading rule.declarations rule.declarations_from rule.program rule.declared input.place
a_name_is_at_fault = at_fault (codes ":- module t.\np") (refusal.Syntax (record { line = 2; left = 2 })) refl

-- an integer past the greatest one
pub an_integer_is_at_fault : IsLimitFault (codes ":- module t.\n:- pred p is det.\np :-\nX = 9223372036854775808.") 4
unfolding reading same_kind token.tokens_of token.prefix_at token.token_at token.name_at token.word_kind token.sign_at token.colon_at token.single_at input.token input.sees input.next input.expect input.take_name input.word rule.module_name rule.heading rule.declarations rule.declarations_from rule.program twice.duplicate twice.second_type_definition twice.second_functor twice.second_procedure token.variable_at token.dash_at number.number_of number.meaning input.after input.name input.variable input.with_variable input.end_clause input.site input.place rule.qualified rule.written rule.pred_name rule.declared_name rule.this_name rule.variables_from rule.arguments rule.negated rule.second rule.application rule.call rule.relation rule.unit rule.units_from rule.units rule.conjunction rule.within rule.determinism rule.declared_arguments rule.head rule.declared_determinism rule.declaration rule.body rule.clause rule.procedure_from rule.procedure rule.with_procedure rule.declared_procedure rule.declared rule.open_goal rule.group rule.positive
an_integer_is_at_fault = at_fault (codes ":- module t.\n:- pred p is det.\np :-\nX = 9223372036854775808.") (refusal.Limit (record { line = 4; left = 3 })) refl

-- ---- what is open behind tokens

-- a list with two commas, in a goal, in a goal
pub a_list_is_open : past beginning (take 11 (tokens_of (codes "p :- not ( ( q(X, Y, Z"))) ≡ record { last = kind.Comma; around = AList 2 ∷ AGoal ∷ AGoal ∷ [] }
unfolding same_kind token.tokens_of token.prefix_at token.token_at token.name_at token.word_kind token.sign_at token.colon_at token.single_at token.variable_at token.dash_at
a_list_is_open = refl

-- behind `in` a list of modes is open, and the goal's commas are none of a list's
pub modes_are_open : past beginning (take 7 (tokens_of (codes "in(pred(in, out"))) ≡ record { last = kind.Name; around = AList 1 ∷ AList 0 ∷ [] }
unfolding same_kind token.tokens_of token.prefix_at token.token_at token.name_at token.word_kind token.sign_at token.colon_at token.single_at token.variable_at token.dash_at
modes_are_open = refl

pub no_list_is_open : past beginning (take 8 (tokens_of (codes "p :- ( q(X), r"))) ≡ record { last = kind.Comma; around = AGoal ∷ [] }
unfolding same_kind token.tokens_of token.prefix_at token.token_at token.name_at token.word_kind token.sign_at token.colon_at token.single_at token.variable_at token.dash_at
no_list_is_open = refl

-- two items, one goal, two bytes, and integers up to 5
abbrev few : Limits
few = record { items = 2; goals = 1; bytes = 2; integer = 5 }

pub the_third_item_is_too_many : (t : Lexeme) → Exceeds few (past beginning (take 8 (tokens_of (codes "p :- q(X, Y, Z")))) t
unfolding same_kind token.tokens_of token.prefix_at token.token_at token.name_at token.word_kind token.sign_at token.colon_at token.single_at token.variable_at token.dash_at
the_third_item_is_too_many t = item refl refl

pub the_second_goal_is_too_many : Exceeds few (past beginning (take 4 (tokens_of (codes "p :- not ( ( q")))) (record { kind = kind.Open; text = codes "("; line = 1 })
unfolding same_kind token.tokens_of token.prefix_at token.token_at token.name_at token.word_kind token.sign_at token.colon_at token.single_at token.variable_at token.dash_at
the_second_goal_is_too_many = goal refl refl (omega arith)

pub minus_seven_is_too_small : Exceeds few (past beginning (take 3 (tokens_of (codes "X = -7")))) (record { kind = kind.Integer; text = codes "7"; line = 1 })
unfolding same_kind token.tokens_of token.prefix_at token.token_at token.name_at token.word_kind token.sign_at token.colon_at token.single_at token.variable_at token.dash_at number.number_of
minus_seven_is_too_small = long (negative refl refl (omega arith))

-- ---- second declarations

abbrev functor : List ℕ → List HldsType → HldsFunctor
functor called args = record { name = called; args = args }

abbrev type_of : ℕ → List ℕ → List HldsFunctor → HldsTypeDef
type_of line called functors = record { name = called; line = line; functors = functors }

abbrev predicate : ℕ → Option (List ℕ) → List ℕ → List (HldsType × Mode) → Procedure
predicate line from called args = record { qualifier = from; name = called; line = line; clause_line = line; args = args; det = One; vars = []; head = []; body = At line (SimpleGoal Succeeds) }

abbrev declares : List HldsTypeDef → List Procedure → Hlds
declares types procedures = record empty { types = types; procedures = procedures }

-- b is a functor of both types: refuses a rule that looks at the functors of one type alone
a_functor_of_two_types : twice.duplicate (declares (type_of 3 (codes "a") (functor (codes "b") [] ∷ []) ∷ type_of 4 (codes "c") (functor (codes "d") [] ∷ functor (codes "b") [] ∷ []) ∷ []) []) ≡ Some 4
unfolding twice.duplicate twice.second_type_definition twice.second_functor twice.second_procedure
a_functor_of_two_types = refl

-- refuses a rule by which functors of one name are the same, whatever their arity
functors_of_two_arities : twice.duplicate (declares (type_of 3 (codes "a") (functor (codes "b") [] ∷ functor (codes "b") (number ∷ []) ∷ []) ∷ []) []) ≡ None
unfolding twice.duplicate twice.second_type_definition twice.second_functor twice.second_procedure
functors_of_two_arities = refl

-- refuses a rule by which predicates of one name and of two arities are two, as functors are
predicates_of_two_arities : twice.duplicate (declares [] (predicate 3 None (codes "p") [] ∷ predicate 5 None (codes "p") ((number, In) ∷ []) ∷ [])) ≡ Some 5
unfolding twice.duplicate twice.second_type_definition twice.second_functor twice.second_procedure
predicates_of_two_arities = refl

-- refuses a rule by which a qualifier is no part of a name
predicates_of_two_modules : twice.duplicate (declares [] (predicate 3 None (codes "p") [] ∷ predicate 5 (Some (codes "m")) (codes "p") [] ∷ [])) ≡ None
unfolding twice.duplicate twice.second_type_definition twice.second_functor twice.second_procedure
predicates_of_two_modules = refl

-- refuses a rule that tells types first, and predicates last
the_first_of_two : twice.duplicate (declares (type_of 9 (codes "a") [] ∷ type_of 10 (codes "a") [] ∷ []) (predicate 3 None (codes "p") [] ∷ predicate 5 None (codes "p") [] ∷ [])) ≡ Some 5
unfolding twice.duplicate twice.second_type_definition twice.second_functor twice.second_procedure
the_first_of_two = refl

-- ---- the limits of the language, from both sides

-- behind 255 items a further one is too many, and behind 254 none is
abbrev item_behind : ℕ → Point
item_behind commas = record { last = kind.Comma; around = AList commas ∷ [] }

abbrev variable_x : Lexeme
variable_x = record { kind = kind.Variable; text = codes "X"; line = 1 }

pub the_256th_item_is_too_many : Exceeds standard (item_behind 255) variable_x
the_256th_item_is_too_many = item refl refl

-- refuses a limit of 254
pub the_255th_item_is_within : Exceeds standard (item_behind 254) variable_x → ⊥
the_255th_item_is_within (long (variable is many)) = absurd (omega (arith, many))
the_255th_item_is_within (long (name is many)) = absurd (cc)
the_255th_item_is_within (long (qualifier is many)) = absurd (cc)
the_255th_item_is_within (long (qualified is many)) = absurd (cc)
the_255th_item_is_within (long (string is many)) = absurd (cc)
the_255th_item_is_within (long (positive is last many)) = absurd (cc)
the_255th_item_is_within (long (negative is last many)) = absurd (cc)
the_255th_item_is_within (item last many) = absurd (cc)
the_255th_item_is_within (goal is last many) = absurd (cc)

abbrev of_kind : Kind → List ℕ → Lexeme
of_kind k text = record { kind = k; text = text; line = 1 }

pub a_name_of_256_bytes_is_too_long : (p : Point) (text : List ℕ) → length text ≡ 256 → Exceeds standard p (of_kind kind.Name text)
a_name_of_256_bytes_is_too_long p text is = long (name refl (omega (arith, is)))

-- refuses a limit of 254 bytes
pub a_name_of_255_bytes_is_within : (text : List ℕ) → length text ≡ 255 → Exceeds standard beginning (of_kind kind.Name text) → ⊥
a_name_of_255_bytes_is_within text is (long (name same many)) = absurd (omega (arith, is, many))
a_name_of_255_bytes_is_within text is (long (variable same many)) = absurd (cc)
a_name_of_255_bytes_is_within text is (long (qualifier same many)) = absurd (cc)
a_name_of_255_bytes_is_within text is (long (qualified same many)) = absurd (cc)
a_name_of_255_bytes_is_within text is (long (string same many)) = absurd (cc)
a_name_of_255_bytes_is_within text is (long (positive same last many)) = absurd (cc)
a_name_of_255_bytes_is_within text is (long (negative same last many)) = absurd (cc)
a_name_of_255_bytes_is_within text is (item last many) = absurd (cc)
a_name_of_255_bytes_is_within text is (goal same last many) = absurd (cc)

-- what counts are the bytes that the string stands for, without quotes and with one for each escape
pub a_string_of_65536_bytes_is_too_long : (p : Point) (text : List ℕ) → length (string_value text) ≡ 65536 → Exceeds standard p (of_kind kind.Text text)
a_string_of_65536_bytes_is_too_long p text is = long (string refl (omega (arith, is)))

-- refuses a limit of 65,534 bytes, and one that counts the quotes
pub a_string_of_65535_bytes_is_within : (text : List ℕ) → length (string_value text) ≡ 65535 → Exceeds standard beginning (of_kind kind.Text text) → ⊥
a_string_of_65535_bytes_is_within text is (long (name same many)) = absurd (cc)
a_string_of_65535_bytes_is_within text is (long (variable same many)) = absurd (cc)
a_string_of_65535_bytes_is_within text is (long (qualifier same many)) = absurd (cc)
a_string_of_65535_bytes_is_within text is (long (qualified same many)) = absurd (cc)
a_string_of_65535_bytes_is_within text is (long (string same many)) = absurd (omega (arith, is, many))
a_string_of_65535_bytes_is_within text is (long (positive same last many)) = absurd (cc)
a_string_of_65535_bytes_is_within text is (long (negative same last many)) = absurd (cc)
a_string_of_65535_bytes_is_within text is (item last many) = absurd (cc)
a_string_of_65535_bytes_is_within text is (goal same last many) = absurd (cc)

-- a `(` behind `(` opens a goal
abbrev within_goals : List Opened → Point
within_goals around = record { last = kind.Open; around = around }

pub the_201st_goal_is_too_many : (around : List Opened) → goals around ≡ 200 → Exceeds standard (within_goals around) (of_kind kind.Open (codes "("))
the_201st_goal_is_too_many around is = goal refl refl (omega (arith, is))

-- refuses a limit of 199
pub the_200th_goal_is_within : (around : List Opened) → goals around ≡ 199 → Exceeds standard (within_goals around) (of_kind kind.Open (codes "(")) → ⊥
the_200th_goal_is_within around is (long (name same many)) = absurd (cc)
the_200th_goal_is_within around is (long (variable same many)) = absurd (cc)
the_200th_goal_is_within around is (long (qualifier same many)) = absurd (cc)
the_200th_goal_is_within around is (long (qualified same many)) = absurd (cc)
the_200th_goal_is_within around is (long (string same many)) = absurd (cc)
the_200th_goal_is_within around is (long (positive same last many)) = absurd (cc)
the_200th_goal_is_within around is (long (negative same last many)) = absurd (cc)
the_200th_goal_is_within around is (item last many) = absurd (cc)
the_200th_goal_is_within around is (goal same last many) = absurd (omega (arith, is, many))

-- ---- the lengths of names

-- refuses a rule by which a name has fewer than 255 bytes, and the next two ones by which it may have none, or one more
a_name_of_255_bytes : HasNameLength (replicate 255 97)
a_name_of_255_bytes = (omega arith, omega arith)

no_name : HasNameLength [] → ⊥
no_name has = absurd (let some = has.0 in omega (arith, some))

a_name_of_256_bytes : HasNameLength (replicate 256 97) → ⊥
a_name_of_256_bytes has = absurd (let short = has.1 in omega (arith, short))

-- ---- programs of texts

empty_is_of_a_text : IsOfText empty
empty_is_of_a_text = record { text = codes "\n:- module t."; short = omega arith; spells = spells_the_empty_program }

-- two types of one name
abbrev type_on_line : ℕ → HldsTypeDef
type_on_line line = record { name = codes "a"; line = line; functors = record { name = codes "b"; args = [] } ∷ [] }

abbrev two_types : Hlds
two_types = record { module_name = codes "t"; module_line = 1; types = type_on_line 2 ∷ type_on_line 3 ∷ []; procedures = [] }

-- refuses a rule that asks for tokens of the grammar alone, by which a program may declare something twice
two_types_are_of_no_text : IsOfText two_types → ⊥
unfolding twice.duplicate twice.second_type_definition twice.second_functor twice.second_procedure
two_types_are_of_no_text of = let once : ◌≡◌ {A = Option ℕ} (Some 3) None = of.spells.once in cc
