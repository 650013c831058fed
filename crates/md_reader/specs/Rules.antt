-- The rules of the grammar, as a reader that takes one token after the other.
use Rattle.std.specs.Prelude.{ℕ, zero, suc, ◌+◌, Bool, true, false, not, ◌||◌, ◌&&◌, if◌then◌else◌, nat_lt, List, [], ◌∷◌, ◌++◌, length, take, drop, Option, Some, None, unwrap_or, Ok, pos, ◌-ℤ◌, codes, ℤ}
use Rattle.std.specs.List.{prefix_len}
use Rattle.std.specs.Str.{bytes_eq}
use Rattle.md_hlds.specs.declared.types.Mode.{Mode}
use Rattle.md_hlds.specs.declared.types.Mode.TheVariants as mode
use Rattle.md_hlds.specs.declared.types.Det.{Det}
use Rattle.md_hlds.specs.declared.types.Det.TheVariants as det
use Rattle.md_hlds.specs.declared.goal.PredName.{PredName}
use Rattle.md_hlds.specs.declared.goal.Term.TheVariants as term
use Rattle.md_hlds.specs.declared.goal.Op.{Op}
use Rattle.md_hlds.specs.declared.goal.Op.TheVariants as op
use Rattle.md_hlds.specs.declared.goal.Cmp.{Cmp}
use Rattle.md_hlds.specs.declared.goal.Cmp.TheVariants as cmp
use Rattle.md_hlds.specs.HldsGoal.{HldsGoal, At, GoalExpr, SimpleGoal, CallGoal, HoCallGoal, ConjGoal, DisjGoal, IfGoal, NotGoal, SomeGoal, gathered, Succeeds, Fails, Unifies, Computes, Compares, WritesInt, WritesText, EndsLine, Raises}
use Rattle.md_hlds.specs.Hlds.{HldsType, number as int_type, text as string_type, world as io_type, named, closure, gathered_types, HldsFunctor, HldsTypeDef, Procedure, Hlds, same_qualifier}
use Rattle.md_token.specs.declared.kind.Kind.{Kind}
use Rattle.md_token.specs.declared.kind.Kind.TheVariants as kind
use Rattle.md_token.specs.Kinds.{same_kind}
use Rattle.md_token.specs.Token.{Lexeme, is_word_byte, word_kind}
use Rattle.md_token.specs.Literal.{number_of, string_value}
use Rattle.md_reader.specs.Input.{Input, Parser, ◌>>=◌, ◌>>◌, and_then, pure, refuse, limit, peek, advance, eat, expect, turns, Limits, standard, take_name, name, word, variable, site, token, kind_at, sees, next, end_clause}

-- ---- names of predicates

-- the part of a qualified name before its `.`, and the part after it
abbrev pub qualifier_part : List ℕ → List ℕ
qualifier_part text = take (prefix_len is_word_byte text) text

abbrev pub name_part : List ℕ → List ℕ
name_part text = drop (prefix_len is_word_byte text + 1) text

-- a name as it is written, with its qualifier, if it has one
pub record Written : Type 0 where
  pub qualifier : Option (List ℕ)
  pub name : List ℕ

unfoldable pub qualified : List ℕ → Option Written
qualified text =
    if same_kind (word_kind (name_part text)) kind.Name then Some (record { qualifier = Some (qualifier_part text); name = name_part text })
    else None

abbrev pub written_by : List ℕ → Kind → Option Written
written_by text kind.Name = Some (record { qualifier = None; name = text })
written_by text kind.Qualified = qualified text
written_by text _ = None

-- the name that a token is
unfoldable pub written : Lexeme → Option Written
written t = written_by t.text t.kind

-- a part of the name has more bytes than this
abbrev pub is_long : (most : ℕ) → Written → Bool
is_long most w = nat_lt most (length w.name) || nat_lt most (length (unwrap_or w.qualifier []))

-- M.p is p, where M is the program's own module
abbrev pub away_from : (home : List ℕ) → Option (List ℕ) → Option (List ℕ)
away_from home None = None
away_from home (Some qualifier) = if bytes_eq qualifier home then None else Some qualifier

abbrev pub meant : (home : List ℕ) → Written → PredName
meant home w = record { qualifier = away_from home w.qualifier; name = w.name }

abbrev pub take_written : Option Written → Parser PredName
take_written None = refuse
take_written (Some w) = λ i. if is_long i.limits.items w then limit i else Ok (meant i.home w, next i)

-- the name of a predicate or a functor, which may be qualified
unfoldable pub pred_name : Parser PredName
pred_name = λ i. take_written (written (token i)) i

-- the modules that the builtin goals are of
abbrev pub is_library : List ℕ → Bool
is_library m = bytes_eq m (codes "io") || bytes_eq m (codes "require")

abbrev pub is_of_library : Option (List ℕ) → Bool
is_of_library None = false
is_of_library (Some qualifier) = is_library qualifier

-- the name of a predicate that is declared, which is of none of these modules
abbrev pub take_declared : Option Written → Parser PredName
take_declared None = refuse
take_declared (Some w) = if is_of_library w.qualifier then refuse else take_written (Some w)

unfoldable pub declared_name : Parser PredName
declared_name = λ i. take_declared (written (token i)) i

abbrev pub same_name : PredName → PredName → Bool
same_name p q = same_qualifier p.qualifier q.qualifier && bytes_eq p.name q.name

abbrev pub take_same : PredName → Option Written → Parser (Unit {0})
take_same q None = refuse
take_same q (Some w) = λ i. if same_name (meant i.home w) q then Ok (tt, next i) else refuse i

-- that name once more, at the head of its clause
unfoldable pub this_name : PredName → Parser (Unit {0})
this_name q = λ i. take_same q (written (token i)) i

-- ---- lists of variables, which are pairwise different

-- n more of them, at most, after those so far, up to the closing sign
unfoldable pub variables_from : Kind → (n : ℕ) → (seen found : List ℕ) → Parser (List ℕ)
variables_from closing zero seen found = λ i. and_then (variable seen i) (λ x j. limit i)
variables_from closing (suc n) seen found = do
  x ← variable seen
  more ← eat kind.Comma
  if more then variables_from closing n (seen ++ x ∷ []) (found ++ x ∷ []) else (do expect closing; pure (found ++ x ∷ []))

-- one or more variables, and the closing sign; none of them is among those seen
abbrev pub variables : Kind → List ℕ → Parser (List ℕ)
variables closing seen = λ i. variables_from closing i.limits.items seen [] i

-- the variable that stood before a list, if one did
abbrev pub seen_before : Option ℕ → List ℕ
seen_before None = []
seen_before (Some x) = x ∷ []

-- nothing, or variables in parentheses
unfoldable pub arguments : List ℕ → Parser (List ℕ)
arguments seen = do
  some ← eat kind.Open
  if some then variables kind.Close seen else pure []

-- after `[`: any number of variables, and `]`
unfoldable pub quantified : Parser (List ℕ)
quantified = do
  none ← eat kind.CloseList
  if none then pure [] else variables kind.CloseList []

-- ---- terms

abbrev pub operator : Kind → Option Op
operator kind.Plus = Some op.Add
operator kind.Minus = Some op.Sub
operator kind.Times = Some op.Mul
operator _ = None

abbrev pub comparison : Kind → Option Cmp
comparison kind.Less = Some cmp.Lt
comparison kind.AtMost = Some cmp.Le
comparison kind.Greater = Some cmp.Gt
comparison kind.AtLeast = Some cmp.Ge
comparison _ = None

-- after `X = Y`: the end of the unification, or an operator and its second variable
abbrev pub arithmetic : ℕ → ℕ → Option Op → Parser GoalExpr
arithmetic x y None = pure (SimpleGoal (Unifies x (term.Var y)))
arithmetic x y (Some o) = do
  advance
  z ← variable (x ∷ y ∷ [])
  pure (SimpleGoal (Computes x y o z))

unfoldable pub positive : ℕ → Parser GoalExpr
positive x = λ i. let n = number_of (token i).text in if nat_lt i.limits.integer n then limit i else Ok (SimpleGoal (Unifies x (term.Int (pos n))), next i)

abbrev pub minus : ℕ → ℤ
minus n = pos 0 -ℤ pos n

abbrev pub take_negative : ℕ → ℕ → Parser GoalExpr
take_negative x n = λ i. if nat_lt (suc i.limits.integer) n then limit i else Ok (SimpleGoal (Unifies x (term.Int (minus n))), next i)

-- behind `-`
unfoldable pub negated : ℕ → Parser GoalExpr
negated x = λ i. if sees kind.Integer i then take_negative x (number_of (token i).text) i else refuse i

unfoldable pub literal : ℕ → Parser GoalExpr
literal x = λ i. let value = string_value (token i).text in if nat_lt i.limits.bytes (length value) then limit i else Ok (SimpleGoal (Unifies x (term.Str value)), next i)

unfoldable pub application : ℕ → Parser GoalExpr
application x = do
  f ← pred_name
  ys ← arguments (x ∷ [])
  pure (SimpleGoal (Unifies x (term.Name f ys)))

-- the second variable of a unification, or the second and the third of arithmetic
unfoldable pub second : ℕ → Parser GoalExpr
second x = do
  y ← variable (x ∷ [])
  t ← peek
  arithmetic x y (operator t.kind)

abbrev pub term_by : ℕ → Kind → Parser GoalExpr
term_by x kind.Variable = second x
term_by x kind.Minus = advance >> negated x
term_by x kind.Integer = positive x
term_by x kind.Text = literal x
term_by x kind.Name = application x
term_by x kind.Qualified = application x
term_by x _ = refuse

-- after `X =`: the rest of a unification or of arithmetic
abbrev pub term_after : ℕ → Parser GoalExpr
term_after x = λ i. term_by x (kind_at i) i

-- ---- goals

abbrev pub is_qualified_by : (m : List ℕ) → Option (List ℕ) → Bool
is_qualified_by m None = false
is_qualified_by m (Some qualifier) = bytes_eq qualifier m

-- q is the name of the builtin goal p of the module m
abbrev pub is_builtin : (m p : List ℕ) → PredName → Bool
is_builtin m p q = is_qualified_by m q.qualifier && bytes_eq q.name p

-- a call of this name with these variables that is a builtin goal
abbrev pub builtin : PredName → List ℕ → Option GoalExpr
builtin q (x ∷ []) = if is_builtin (codes "require") (codes "error") q then Some (SimpleGoal (Raises x)) else None
builtin q (a ∷ b ∷ []) = if is_builtin (codes "io") (codes "nl") q then Some (SimpleGoal (EndsLine a b)) else None
builtin q (x ∷ a ∷ b ∷ []) =
    if is_builtin (codes "io") (codes "write_int") q then Some (SimpleGoal (WritesInt x a b))
    else if is_builtin (codes "io") (codes "write_string") q then Some (SimpleGoal (WritesText x a b))
    else None
builtin q _ = None

abbrev pub called : PredName → List ℕ → Option GoalExpr → Parser GoalExpr
called q ys (Some t) = pure t
called q ys None = do
  s ← site
  pure (CallGoal s q ys)

unfoldable pub call : Parser GoalExpr
call = do
  q ← pred_name
  ys ← arguments []
  called q ys (builtin q ys)

abbrev pub applied : List ℕ → Parser GoalExpr
applied [] = refuse
applied (f ∷ ys) = do
  s ← site
  pure (HoCallGoal s f ys)

-- `call`, and the closure and its arguments
unfoldable pub closure_call : Parser GoalExpr
closure_call = do
  expect kind.Call
  expect kind.Open
  ys ← variables kind.Close []
  applied ys

abbrev pub compared : ℕ → Option Cmp → Parser GoalExpr
compared x None = refuse
compared x (Some c) = do
  advance
  y ← variable (x ∷ [])
  pure (SimpleGoal (Compares x c y))

abbrev pub related : ℕ → Kind → Parser GoalExpr
related x kind.Equals = advance >> term_after x
related x k = compared x (comparison k)

-- a goal that begins with a variable
unfoldable pub relation : Parser GoalExpr
relation = do
  x ← variable []
  t ← peek
  related x t.kind

abbrev pub line_of : HldsGoal → ℕ
line_of (At line t) = line

abbrev pub first_line : List HldsGoal → ℕ
first_line [] = 0
first_line (p ∷ ps) = line_of p

-- the conjunction of these units; one alone is itself
abbrev pub joined : List HldsGoal → HldsGoal
joined [] = At 0 (ConjGoal (gathered []))
joined (p ∷ []) = p
joined (p ∷ q ∷ ps) = At (line_of p) (ConjGoal (gathered (p ∷ q ∷ ps)))

-- a `(` that opens a goal within so many fewer than may be open
unfoldable pub open_goal : ℕ → Parser ℕ
open_goal zero = λ i. if sees kind.Open i then limit i else refuse i
open_goal (suc room) = expect kind.Open

-- a goal of this line
abbrev pub goal_at : ℕ → Parser GoalExpr → Parser HldsGoal
goal_at line p = p >>= (λ t. pure (At line t))

-- a goal, and then a token of this kind
abbrev pub before : Kind → HldsGoal → Parser HldsGoal
before k p = do
  expect k
  pure p

-- The goals of one depth, by the conjunction of the next one.
module _ (inner : Parser HldsGoal) where
  unfoldable pub arms_from : (n : ℕ) → List HldsGoal → Parser (List HldsGoal)
  arms_from zero found = refuse
  arms_from (suc n) found = do
    arm ← inner
    more ← eat kind.Semicolon
    if more then arms_from n (found ++ arm ∷ []) else (do expect kind.Close; pure (found ++ arm ∷ []))

  -- the arms of a disjunction past the first one
  unfoldable pub arms : HldsGoal → Parser (List HldsGoal)
  arms first = λ i. arms_from (turns i) (first ∷ []) i

  unfoldable pub disjunction : (line : ℕ) → HldsGoal → Parser HldsGoal
  disjunction line first = do
    expect kind.Semicolon
    ps ← arms first
    pure (At line (DisjGoal (gathered ps)))

  -- the then and the else part of an if-then-else
  unfoldable pub branches : Parser (HldsGoal × HldsGoal)
  branches = do
    expect kind.Then
    t ← inner
    expect kind.Semicolon
    e ← inner
    pure (t, e)

  unfoldable pub choice : (line : ℕ) → HldsGoal → Parser HldsGoal
  choice line c = do
    b ← branches
    expect kind.Close
    pure (At line (IfGoal c b.0 b.1))

  abbrev pub grouped : (line : ℕ) → HldsGoal → Kind → Parser HldsGoal
  grouped line first kind.Close = advance >> pure first
  grouped line first kind.Semicolon = disjunction line first
  grouped line first kind.Then = choice line first
  grouped line first _ = refuse

module _ (room : ℕ) (inner : Parser HldsGoal) where
  -- a conjunction, a disjunction or an if-then-else in parentheses
  unfoldable pub group : Parser HldsGoal
  group = do
    line ← open_goal room
    first ← inner
    t ← peek
    grouped inner line first t.kind

  unfoldable pub negation : Parser HldsGoal
  negation = do
    line ← expect kind.Not
    open_goal room
    c ← inner
    expect kind.Close
    pure (At line (NotGoal c))

  unfoldable pub quantification : Parser HldsGoal
  quantification = do
    line ← expect kind.Some
    expect kind.OpenList
    vs ← quantified
    open_goal room
    c ← inner
    expect kind.Close
    pure (At line (SomeGoal vs c))

  abbrev pub at : ℕ → Parser GoalExpr → Parser HldsGoal
  at line p = p >>= (λ t. pure (At line t))

  abbrev pub unit_by : (line : ℕ) → Kind → Parser HldsGoal
  unit_by line kind.True = advance >> pure (At line (SimpleGoal Succeeds))
  unit_by line kind.Fail = advance >> pure (At line (SimpleGoal Fails))
  unit_by line kind.Open = group
  unit_by line kind.Not = negation
  unit_by line kind.Some = quantification
  unit_by line kind.Variable = at line relation
  unit_by line kind.Call = at line closure_call
  unit_by line kind.Name = at line call
  unit_by line kind.Qualified = at line call
  unit_by line _ = refuse

  unfoldable pub unit : Parser HldsGoal
  unit = λ i. unit_by (token i).line (kind_at i) i

  unfoldable pub units_from : (n : ℕ) → List HldsGoal → Parser (List HldsGoal)
  units_from zero found = refuse
  units_from (suc n) found = do
    u ← unit
    more ← eat kind.Comma
    if more then units_from n (found ++ u ∷ []) else pure (found ++ u ∷ [])

  -- units with commas between them
  unfoldable pub units : Parser (List HldsGoal)
  units = λ i. units_from (turns i) [] i

  abbrev pub conjunction_with : Parser HldsGoal
  conjunction_with = do
    us ← units
    pure (joined us)

-- a conjunction within which so many goals may be open
unfoldable pub conjunction : ℕ → Parser HldsGoal
conjunction zero = conjunction_with zero refuse
conjunction (suc room) = conjunction_with (suc room) (conjunction room)

-- the conjunction inside a goal that is opened there
unfoldable pub within : ℕ → Parser HldsGoal
within zero = refuse
within (suc room) = conjunction room

-- ---- types

abbrev pub simple_type_named : List ℕ → Parser HldsType
simple_type_named t =
    if bytes_eq t (codes "int") then advance >> pure int_type
    else if bytes_eq t (codes "string") then advance >> pure string_type
    else if bytes_eq t (codes "io") then advance >> pure io_type
    else take_name t >>= (λ n. pure (named n))

unfoldable pub simple_type : Parser HldsType
simple_type = λ i. if sees kind.Name i then simple_type_named (token i).text i else refuse i

-- n more types, at most, after those so far, and `)`
unfoldable pub simple_types_from : (n : ℕ) → List HldsType → Parser (List HldsType)
simple_types_from zero found = λ i. and_then (simple_type i) (λ t j. limit i)
simple_types_from (suc n) found = do
  t ← simple_type
  more ← eat kind.Comma
  if more then simple_types_from n (found ++ t ∷ []) else (do expect kind.Close; pure (found ++ t ∷ []))

abbrev pub simple_types : Parser (List HldsType)
simple_types = λ i. simple_types_from i.limits.items [] i

-- nothing, or types in parentheses
unfoldable pub functor_arguments : Parser (List HldsType)
functor_arguments = do
  some ← eat kind.Open
  if some then simple_types else pure []

unfoldable pub functor : Parser HldsFunctor
functor = do
  f ← name
  ts ← functor_arguments
  pure (record { name = f; args = ts })

unfoldable pub functors_from : (n : ℕ) → List HldsFunctor → Parser (List HldsFunctor)
functors_from zero found = refuse
functors_from (suc n) found = do
  f ← functor
  more ← eat kind.Semicolon
  if more then functors_from n (found ++ f ∷ []) else (do expect kind.End; pure (found ++ f ∷ []))

-- functors with `;` between them, and the end sign
unfoldable pub functors : Parser (List HldsFunctor)
functors = λ i. functors_from (turns i) [] i

abbrev pub is_own_type : List ℕ → Bool
is_own_type t = not ((bytes_eq t (codes "int") || bytes_eq t (codes "string")) || bytes_eq t (codes "io"))

unfoldable pub type_name : Parser (List ℕ)
type_name = λ i. if is_own_type (token i).text then name i else refuse i

-- a type's declaration from `type` on
unfoldable pub type_definition : (line : ℕ) → Parser HldsTypeDef
type_definition line = do
  word (codes "type")
  t ← type_name
  expect kind.Yields
  fs ← functors
  pure (record { name = t; line = line; functors = fs })

-- ---- predicates

abbrev pub mode_named : List ℕ → Option Mode
mode_named t =
    if bytes_eq t (codes "in") then Some mode.In
    else if bytes_eq t (codes "out") then Some mode.Out
    else if bytes_eq t (codes "di") then Some mode.Di
    else if bytes_eq t (codes "uo") then Some mode.Uo
    else None

abbrev pub det_named : List ℕ → Option Det
det_named t =
    if bytes_eq t (codes "det") then Some det.Det
    else if bytes_eq t (codes "semidet") then Some det.Semidet
    else if bytes_eq t (codes "multi") then Some det.Multi
    else if bytes_eq t (codes "nondet") then Some det.Nondet
    else if bytes_eq t (codes "failure") then Some det.Failure
    else None

abbrev pub take_word : {A : Type 0} → Option A → Parser A
take_word None = refuse
take_word (Some x) = advance >> pure x

unfoldable pub mode_word : Parser Mode
mode_word = λ i. take_word (mode_named (token i).text) i

unfoldable pub determinism : Parser Det
determinism = λ i. take_word (det_named (token i).text) i

abbrev pub ho_mode_by : Option Mode → Option Mode
ho_mode_by (Some mode.In) = Some mode.In
ho_mode_by (Some mode.Out) = Some mode.Out
ho_mode_by _ = None

abbrev pub ho_mode_named : List ℕ → Option Mode
ho_mode_named t = ho_mode_by (mode_named t)

-- the mode of a higher-order argument
unfoldable pub ho_mode : Parser Mode
ho_mode = λ i. take_word (ho_mode_named (token i).text) i

unfoldable pub modes_from : (n : ℕ) → List Mode → Parser (List Mode)
modes_from zero found = λ i. and_then (mode_word i) (λ m j. limit i)
modes_from (suc n) found = do
  m ← mode_word
  more ← eat kind.Comma
  if more then modes_from n (found ++ m ∷ []) else (do expect kind.Close; pure (found ++ m ∷ []))

abbrev pub modes_at_most : Parser (List Mode)
modes_at_most = λ i. modes_from i.limits.items [] i

unfoldable pub inst_modes : Parser (List Mode)
inst_modes = do
  expect kind.Pred
  expect kind.Open
  modes_at_most

-- `(pred(M1, ..) is D)`
unfoldable pub inst : Parser (List Mode × Det)
inst = do
  expect kind.Open
  ms ← inst_modes
  expect kind.Is
  d ← determinism
  expect kind.Close
  pure (ms, d)

unfoldable pub ho_types : Parser (List HldsType)
ho_types = do
  expect kind.Pred
  expect kind.Open
  ts ← simple_types
  expect kind.HasMode
  pure ts

unfoldable pub ho_argument : Parser (HldsType × Mode)
ho_argument = do
  ts ← ho_types
  m ← ho_mode
  n ← inst
  pure (closure (gathered_types ts) n.0 n.1, m)

unfoldable pub plain_argument : Parser (HldsType × Mode)
plain_argument = do
  t ← simple_type
  expect kind.HasMode
  m ← mode_word
  pure (t, m)

unfoldable pub argument : Parser (HldsType × Mode)
argument = λ i. if sees kind.Pred i then ho_argument i else plain_argument i

-- the first token of an argument is at fault
unfoldable pub excess : {A : Type 0} → Parser A
excess = λ i. if sees kind.Pred i then limit i else and_then (simple_type i) (λ t j. limit i)

unfoldable pub arguments_from : (n : ℕ) → List (HldsType × Mode) → Parser (List (HldsType × Mode))
arguments_from zero found = excess
arguments_from (suc n) found = do
  a ← argument
  more ← eat kind.Comma
  if more then arguments_from n (found ++ a ∷ []) else (do expect kind.Close; pure (found ++ a ∷ []))

abbrev pub arguments_at_most : Parser (List (HldsType × Mode))
arguments_at_most = λ i. arguments_from i.limits.items [] i

-- nothing, or arguments in parentheses
unfoldable pub declared_arguments : Parser (List (HldsType × Mode))
declared_arguments = do
  some ← eat kind.Open
  if some then arguments_at_most else pure []

-- the head's variables, n after the next one
unfoldable pub head_from : (n : ℕ) → List ℕ → Parser (List ℕ)
head_from zero found = do
  x ← variable found
  expect kind.Close
  pure (found ++ x ∷ [])
head_from (suc n) found = do
  x ← variable found
  expect kind.Comma
  head_from n (found ++ x ∷ [])

unfoldable pub head : (arity : ℕ) → Parser (List ℕ)
head zero = pure []
head (suc n) = do
  expect kind.Open
  head_from n []

pub record Declaration : Type 0 where
  pub name : PredName
  pub args : List (HldsType × Mode)
  pub det : Det

-- `is`, a determinism and the end sign
unfoldable pub declared_determinism : Parser Det
declared_determinism = do
  expect kind.Is
  d ← determinism
  expect kind.End
  pure d

-- `pred`, and the declaration after it
unfoldable pub declaration : Parser Declaration
declaration = do
  expect kind.Pred
  q ← declared_name
  as' ← declared_arguments
  d ← declared_determinism
  pure (record { name = q; args = as'; det = d })

pub record Clause : Type 0 where
  pub line : ℕ
  pub head : List ℕ
  pub body : HldsGoal
  pub vars : List (List ℕ)

-- a conjunction within which as many goals may be open as there may be
abbrev pub conjunction_at_most : Parser HldsGoal
conjunction_at_most = λ i. conjunction i.limits.goals i

-- `:-`, a conjunction and the end sign
unfoldable pub body : Parser HldsGoal
body = do
  expect kind.Declare
  g ← conjunction_at_most
  expect kind.End
  pure g

-- the clause of a predicate of this name with so many arguments
unfoldable pub clause : PredName → (arity : ℕ) → Parser Clause
clause q arity = do
  t ← peek
  this_name q
  xs ← head arity
  g ← body
  vs ← end_clause
  pure (record { line = t.line; head = xs; body = g; vars = vs })

unfoldable pub procedure_from : (line : ℕ) → Declaration → Clause → Procedure
procedure_from line d c = record { qualifier = d.name.qualifier; name = d.name.name; line = line; clause_line = c.line; args = d.args; det = d.det; vars = c.vars; head = c.head; body = c.body }

unfoldable pub procedure : (line : ℕ) → Parser Procedure
procedure line = do
  d ← declaration
  c ← clause d.name (length d.args)
  pure (procedure_from line d c)

-- ---- programs

abbrev pub is_name : Kind → Bool
is_name kind.Name = true
is_name kind.True = true
is_name kind.Fail = true
is_name kind.Not = true
is_name kind.Some = true
is_name kind.Call = true
is_name kind.Is = true
is_name kind.Pred = true
is_name _ = false

-- the name of the program's own module, which is known from there on
abbrev pub set_home : List ℕ → Parser (Unit {0})
set_home m = λ i. Ok (tt, record i { home = m })

unfoldable pub module_name : Parser (List ℕ)
module_name = λ i.
    if is_name (token i).kind && not (is_library (token i).text)
    then (do m ← take_name (token i).text; set_home (token i).text; pure m) i
    else refuse i

-- the declaration of the module
unfoldable pub heading : Parser Hlds
heading = do
  line ← expect kind.Declare
  word (codes "module")
  m ← module_name
  expect kind.End
  pure (record { module_name = m; module_line = line; types = []; procedures = [] })

unfoldable pub with_type_definition : Hlds → HldsTypeDef → Hlds
with_type_definition l t = record l { types = l.types ++ t ∷ [] }

unfoldable pub with_procedure : Hlds → Procedure → Hlds
with_procedure l p = record l { procedures = l.procedures ++ p ∷ [] }

unfoldable pub declared_procedure : Hlds → (line : ℕ) → Parser Hlds
declared_procedure l line = do
  p ← procedure line
  pure (with_procedure l p)

unfoldable pub declared_type_definition : Hlds → (line : ℕ) → Parser Hlds
declared_type_definition l line = do
  t ← type_definition line
  pure (with_type_definition l t)

-- a declaration of a type, or of a predicate with its clause
unfoldable pub declared : Hlds → Parser Hlds
declared l = do
  line ← expect kind.Declare
  λ i. if sees kind.Pred i then declared_procedure l line i else declared_type_definition l line i

unfoldable pub declarations_from : (n : ℕ) → Hlds → Parser Hlds
declarations_from zero l = refuse
declarations_from (suc n) l = λ i. if sees kind.Stop i then Ok (l, i) else (declared l >>= declarations_from n) i

-- the declarations after that of the module, up to the end of the text
unfoldable pub declarations : Hlds → Parser Hlds
declarations l = λ i. declarations_from (turns i) l i

unfoldable pub program : Parser Hlds
program = do
  l ← heading
  declarations l

-- the place before all tokens, where these limits hold
abbrev pub start_within : Limits → List Lexeme → Input
start_within limits ts = record { rest = ts; home = []; vars = []; sites = 0; limits = limits }

abbrev pub start : List Lexeme → Input
start ts = start_within standard ts
