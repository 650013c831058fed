-- The printed text of a program.
use Rattle.std.specs.Prelude.{ℕ, suc, ℤ, pos, negsuc, Bool, true, false, ◌==◌, if◌then◌else◌, List, [], ◌∷◌, ◌++◌, map, Option, Some, None, slice_get, unwrap_or, decimal, codes}
use Rattle.std.specs.List.{flat_map}
use Rattle.md_hlds.specs.declared.types.Mode.{Mode}
use Rattle.md_hlds.specs.declared.types.Mode.TheVariants as mode
use Rattle.md_hlds.specs.declared.types.Det.{Det}
use Rattle.md_hlds.specs.declared.goal.PredName.{PredName}
use Rattle.md_hlds.specs.declared.goal.Term.{Term}
use Rattle.md_hlds.specs.declared.goal.Term.TheVariants as term
use Rattle.md_hlds.specs.declared.goal.Op.{Op}
use Rattle.md_hlds.specs.declared.goal.Op.TheVariants as op
use Rattle.md_hlds.specs.declared.goal.Cmp.{Cmp}
use Rattle.md_hlds.specs.declared.goal.Cmp.TheVariants as cmp
use Rattle.md_hlds.specs.HldsGoal.{HldsGoal, At, HldsGoals, nothing, also, GoalExpr, SimpleGoal, CallGoal, HoCallGoal, ConjGoal, DisjGoal, IfGoal, NotGoal, SomeGoal, Simple, Succeeds, Fails, Unifies, Computes, Compares, WritesInt, WritesText, EndsLine, Raises}
use Rattle.md_hlds.specs.Hlds.{HldsType, number, text, world, named, closure, listed_types, HldsFunctor, HldsTypeDef, Procedure, Hlds}
use Rattle.md_hlds.specs.Words.{det_word}
use Rattle.md_printer.specs.Layout.{Tokens, sentence, in_parentheses, separated, arguments}

-- ---- names, integers and strings

-- a name, behind its qualifier and `.`, if it has one
abbrev pub written : Option (List ℕ) → List ℕ → List ℕ
written None name = name
written (Some qualifier) name = qualifier ++ 46 ∷ name

abbrev pub written_name : PredName → List ℕ
written_name q = written q.qualifier q.name

-- in decimal, with `-` as a token of its own
abbrev pub integer : ℤ → Tokens
integer (pos n) = decimal n ∷ []
integer (negsuc n) = codes "-" ∷ decimal (suc n) ∷ []

-- line feed, tab, the backslash and the quote are escaped
unfoldable pub escaped : ℕ → List ℕ
escaped b =
    if b == 10 then codes "\\n"
    else if b == 9 then codes "\\t"
    else if b == 92 then codes "\\\\"
    else if b == 34 then codes "\\\""
    else b ∷ []

unfoldable pub quoted : List ℕ → List ℕ
quoted bytes = codes "\"" ++ (flat_map escaped bytes ++ codes "\"")

-- ---- terms and goals, by the names of the clause's variables

-- a place without a name is written as nothing
abbrev pub variable : (names : List (List ℕ)) → ℕ → List ℕ
variable names x = unwrap_or (slice_get names x) []

abbrev pub single : {A : Type 0} → (A → List ℕ) → A → Tokens
single token x = token x ∷ []

-- variables with commas between them
abbrev pub variables : (names : List (List ℕ)) → List ℕ → Tokens
variables names xs = separated (single (variable names)) (codes ",") xs

abbrev pub variables_in_parentheses : (names : List (List ℕ)) → List ℕ → Tokens
variables_in_parentheses names xs = arguments (single (variable names)) xs

abbrev pub applied : (names : List (List ℕ)) → PredName → List ℕ → Tokens
applied names q xs = written_name q ∷ variables_in_parentheses names xs

abbrev pub term_tokens : (names : List (List ℕ)) → Term → Tokens
term_tokens names (term.Var y) = variable names y ∷ []
term_tokens names (term.Int n) = integer n
term_tokens names (term.Str bytes) = quoted bytes ∷ []
term_tokens names (term.Name f ys) = applied names f ys

abbrev pub operator : Op → List ℕ
operator op.Add = codes "+"
operator op.Sub = codes "-"
operator op.Mul = codes "*"

abbrev pub comparison : Cmp → List ℕ
comparison cmp.Lt = codes "<"
comparison cmp.Le = codes "=<"
comparison cmp.Gt = codes ">"
comparison cmp.Ge = codes ">="

abbrev pub simple_tokens : (names : List (List ℕ)) → Simple → Tokens
simple_tokens names Succeeds = codes "true" ∷ []
simple_tokens names Fails = codes "fail" ∷ []
simple_tokens names (Unifies x t) = variable names x ∷ codes "=" ∷ term_tokens names t
simple_tokens names (Computes z a o b) = variable names z ∷ codes "=" ∷ variable names a ∷ operator o ∷ variable names b ∷ []
simple_tokens names (Compares a c b) = variable names a ∷ comparison c ∷ variable names b ∷ []
simple_tokens names (WritesInt x before after) = codes "io.write_int" ∷ variables_in_parentheses names (x ∷ before ∷ after ∷ [])
simple_tokens names (WritesText x before after) = codes "io.write_string" ∷ variables_in_parentheses names (x ∷ before ∷ after ∷ [])
simple_tokens names (EndsLine before after) = codes "io.nl" ∷ variables_in_parentheses names (before ∷ after ∷ [])
simple_tokens names (Raises x) = codes "require.error" ∷ variables_in_parentheses names (x ∷ [])

-- the tokens of a conjunction, which has parentheses where it is a part of a conjunction
abbrev pub enclosed : Bool → Tokens → Tokens
enclosed true ts = in_parentheses ts
enclosed false ts = ts

abbrev pub choice_tokens : (condition then_part else_part : Tokens) → Tokens
choice_tokens c t e = in_parentheses (c ++ codes "->" ∷ (t ++ codes ";" ∷ e))

abbrev pub quantified_tokens : (variables goal : Tokens) → Tokens
quantified_tokens vs c = codes "some" ∷ codes "[" ∷ (vs ++ codes "]" ∷ in_parentheses c)

-- a goal; `inner` says that it is a part of a conjunction
abbrev mutual
  pub goal_tokens : (names : List (List ℕ)) → (inner : Bool) → HldsGoal → Tokens
  goal_tokens names inner (At line t) = expr_tokens names inner t

  pub expr_tokens : (names : List (List ℕ)) → (inner : Bool) → GoalExpr → Tokens
  expr_tokens names inner (SimpleGoal s) = simple_tokens names s
  expr_tokens names inner (CallGoal site q ys) = applied names q ys
  expr_tokens names inner (HoCallGoal site f ys) = codes "call" ∷ variables_in_parentheses names (f ∷ ys)
  expr_tokens names inner (ConjGoal ps) = enclosed inner (goals_tokens names true (codes ",") ps)
  expr_tokens names inner (DisjGoal ps) = in_parentheses (goals_tokens names false (codes ";") ps)
  expr_tokens names inner (IfGoal c t e) = choice_tokens (goal_tokens names false c) (goal_tokens names false t) (goal_tokens names false e)
  expr_tokens names inner (NotGoal c) = codes "not" ∷ in_parentheses (goal_tokens names false c)
  expr_tokens names inner (SomeGoal xs c) = quantified_tokens (variables names xs) (goal_tokens names false c)

  -- goals with a sign between them
  pub goals_tokens : (names : List (List ℕ)) → (inner : Bool) → (sign : List ℕ) → HldsGoals → Tokens
  goals_tokens names inner sign nothing = []
  goals_tokens names inner sign (also p ps) = goal_tokens names inner p ++ further_goals names inner sign ps

  pub further_goals : (names : List (List ℕ)) → (inner : Bool) → (sign : List ℕ) → HldsGoals → Tokens
  further_goals names inner sign nothing = []
  further_goals names inner sign (also p ps) = sign ∷ (goal_tokens names inner p ++ further_goals names inner sign ps)

-- ---- types

-- the word of a type; a higher-order type begins with `pred`
abbrev pub type_word : HldsType → List ℕ
type_word number = codes "int"
type_word text = codes "string"
type_word world = codes "io"
type_word (named name) = name
type_word (closure args modes d) = codes "pred"

abbrev pub functor_tokens : HldsFunctor → Tokens
functor_tokens f = f.name ∷ arguments (single type_word) f.args

abbrev pub type_tokens : HldsTypeDef → Tokens
type_tokens t = codes ":-" ∷ codes "type" ∷ t.name ∷ codes "--->" ∷ separated functor_tokens (codes ";") t.functors

-- ---- predicates

abbrev pub mode_word : Mode → List ℕ
mode_word mode.In = codes "in"
mode_word mode.Out = codes "out"
mode_word mode.Di = codes "di"
mode_word mode.Uo = codes "uo"

-- the types of a higher-order type's arguments, behind its word
abbrev pub inner_types : HldsType → Tokens
inner_types (closure args modes d) = in_parentheses (separated (single type_word) (codes ",") (listed_types args))
inner_types _ = []

abbrev pub inst_tokens : List Mode → Det → Tokens
inst_tokens modes d = in_parentheses (codes "pred" ∷ (in_parentheses (separated (single mode_word) (codes ",") modes) ++ codes "is" ∷ det_word d ∷ []))

-- the modes of a higher-order type's arguments, with its determinism, behind the argument's own mode
abbrev pub inner_modes : HldsType → Tokens
inner_modes (closure args modes d) = inst_tokens modes d
inner_modes _ = []

abbrev pub argument_tokens : HldsType × Mode → Tokens
argument_tokens a = type_word a.0 ∷ (inner_types a.0 ++ codes "::" ∷ mode_word a.1 ∷ inner_modes a.0)

abbrev pub declaration_tokens : Procedure → Tokens
declaration_tokens p = codes ":-" ∷ codes "pred" ∷ written p.qualifier p.name ∷ (arguments argument_tokens p.args ++ codes "is" ∷ det_word p.det ∷ [])

abbrev pub clause_tokens : Procedure → Tokens
clause_tokens p = written p.qualifier p.name ∷ (variables_in_parentheses p.vars p.head ++ codes ":-" ∷ goal_tokens p.vars false p.body)

-- ---- programs

abbrev pub module_tokens : List ℕ → Tokens
module_tokens name = codes ":-" ∷ codes "module" ∷ name ∷ []

abbrev pub procedure_sentences : Procedure → List Tokens
procedure_sentences p = declaration_tokens p ∷ clause_tokens p ∷ []

-- the module's declaration, all types, and all predicates, each with its clause
abbrev pub sentences : Hlds → List Tokens
sentences l = module_tokens l.module_name ∷ (map type_tokens l.types ++ flat_map procedure_sentences l.procedures)

unfoldable pub printed : Hlds → List ℕ
printed l = flat_map sentence (sentences l)
