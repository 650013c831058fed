-- The goals with neither parts nor arms: what is known after each, or its fault.
use Rattle.std.specs.Prelude.{ℕ, Bool, true, false, not, ◌&&◌, List, [], ◌∷◌, length, take, drop, Option, Some, None, Ok, Err, cond, nat_eq, nat_lt}
use Rattle.md_hlds.specs.declared.types.Mode.{Mode}
use Rattle.md_hlds.specs.declared.types.Mode.TheVariants.{In, Out, Di, Uo}
use Rattle.md_hlds.specs.declared.types.Det.{Det}
use Rattle.md_hlds.specs.declared.goal.Term.{Term}
use Rattle.md_hlds.specs.declared.goal.Term.TheVariants.{Var, Int, Str, Name}
use Rattle.md_hlds.specs.declared.goal.PredName.{PredName}
use Rattle.md_hlds.specs.HldsGoal.{Simple, Succeeds, Fails, Unifies, Computes, Compares, WritesInt, WritesText, EndsLine, Raises, GoalExpr, SimpleGoal, CallGoal, HoCallGoal}
use Rattle.md_hlds.specs.Hlds.{HldsType, number, text, world, closure, listed_types, gathered_types, Procedure, Hlds}
use Rattle.md_inst.specs.declared.fault.ModeFault.{ModeFault}
use Rattle.md_inst.specs.declared.fault.ModeFault.TheVariants.{UnknownName, Arity, TypeClash, Unbound, IoUsed, ClosureTest}
use Rattle.md_inst.specs.Verdict.{Verdict, ◌>>=◌, ◌>>◌, fine}
use Rattle.md_inst.specs.HldsTypes.{same_sort, is_world, is_closure}
use Rattle.md_inst.specs.Instantiation.{Instantiation, free, has, InstMap, known_at, put, hand_on}
use Rattle.md_inst.specs.Named.{Functor, functor_called, is_name_of_functor, predicate_called}
use Rattle.md_inst.specs.Arguments.{is_spent, given, arguments, inputs, givens}

-- ---- X = Y

-- one is bound: it is handed on, and the other is bound with its type
abbrev pub assign : Bool → ℕ → (from to : ℕ) → HldsType → Bool → InstMap → Verdict InstMap
assign strict l from to t used s = cond (is_spent strict t used) (Err (IoUsed l)) (Ok (put (hand_on from s) to (has t false)))

-- both are bound
abbrev pub test : ℕ → HldsType → HldsType → Verdict (Unit {0})
test l t u =
    cond (not (same_sort t u)) (Err (TypeClash l))
    (cond (is_closure t) (Err (ClosureTest l)) (cond (is_world t) (Err (IoUsed l)) fine))

abbrev pub unify_known : Bool → ℕ → (x y : ℕ) → Instantiation → Instantiation → InstMap → Verdict InstMap
unify_known strict l x y free free s = Err (Unbound l)
unify_known strict l x y (has t used) free s = assign strict l x y t used s
unify_known strict l x y free (has t used) s = assign strict l y x t used s
unify_known strict l x y (has t used) (has u spent) s = test l t u >> Ok s

abbrev pub unify_variables : Bool → ℕ → (x y : ℕ) → InstMap → Verdict InstMap
unify_variables strict l x y s = unify_known strict l x y (known_at s x) (known_at s y) s

-- ---- X = f(Y1, .., Yn), f a functor

abbrev pub make : Bool → ℕ → ℕ → Functor → List ℕ → InstMap → Verdict InstMap
make strict l x f ys s = inputs strict l f.args ys s >>= (λ s. Ok (put s x (has f.makes false)))

abbrev pub take_apart : ℕ → Functor → List ℕ → HldsType → InstMap → Verdict InstMap
take_apart l f ys t s = cond (same_sort t f.makes) (givens l f.args ys s) (Err (TypeClash l))

abbrev pub functor_known : Bool → ℕ → ℕ → Functor → List ℕ → Instantiation → InstMap → Verdict InstMap
functor_known strict l x f ys free s = make strict l x f ys s
functor_known strict l x f ys (has t used) s = take_apart l f ys t s

abbrev pub unify_functor : Bool → ℕ → ℕ → Functor → List ℕ → InstMap → Verdict InstMap
unify_functor strict l x f ys s = functor_known strict l x f ys (known_at s x) s

-- ---- X = q(Y1, .., Yk), q a predicate

abbrev pub is_in : Mode → Bool
is_in In = true
is_in m = false

-- the arguments that a closure captures have the mode `in`
abbrev pub are_in : List (HldsType × Mode) → Bool
are_in [] = true
are_in (a ∷ args) = is_in a.1 && are_in args

-- no argument is of higher order
abbrev pub are_first_order : List (HldsType × Mode) → Bool
are_first_order [] = true
are_first_order (a ∷ args) = not (is_closure a.0) && are_first_order args

abbrev pub types_of : List (HldsType × Mode) → List HldsType
types_of [] = []
types_of (a ∷ args) = a.0 ∷ types_of args

abbrev pub modes_of : List (HldsType × Mode) → List Mode
modes_of [] = []
modes_of (a ∷ args) = a.1 ∷ modes_of args

-- the type of a closure with these arguments left
abbrev pub left_open : List (HldsType × Mode) → Det → HldsType
left_open args det = closure (gathered_types (types_of args)) (modes_of args) det

abbrev pub can_close : (held others : List (HldsType × Mode)) → Bool
can_close held others = are_in held && are_first_order others

-- each captured variable is an input; an io state can't be captured
abbrev pub capture : ℕ → ℕ → List (HldsType × Mode) → List (HldsType × Mode) → Det → List ℕ → InstMap → Verdict InstMap
capture l x held others det ys s =
    cond (can_close held others)
    (inputs true l (types_of held) ys s >>= (λ s. Ok (put s x (has (left_open others det) false))))
    (Err (TypeClash l))

abbrev pub close_known : ℕ → ℕ → Procedure → List ℕ → Instantiation → InstMap → Verdict InstMap
close_known l x q ys (has t used) s = Err (ClosureTest l)
close_known l x q ys free s = capture l x (take (length ys) q.args) (drop (length ys) q.args) q.det ys s

abbrev pub close : ℕ → ℕ → Procedure → List ℕ → InstMap → Verdict InstMap
close l x q ys s = cond (nat_lt (length ys) (length q.args)) (close_known l x q ys (known_at s x) s) (Err (Arity l))

-- a name that is neither a functor of this arity nor a predicate
abbrev pub no_such_name : Hlds → ℕ → PredName → ModeFault
no_such_name p l q = cond (is_name_of_functor p q) (Arity l) (UnknownName l)

abbrev pub predicate_term : Hlds → ℕ → ℕ → PredName → List ℕ → Option Procedure → InstMap → Verdict InstMap
predicate_term p l x q ys (Some r) s = close l x r ys s
predicate_term p l x q ys None s = Err (no_such_name p l q)

abbrev pub named_term : Hlds → Bool → ℕ → ℕ → PredName → List ℕ → Option Functor → InstMap → Verdict InstMap
named_term p strict l x q ys (Some f) s = unify_functor strict l x f ys s
named_term p strict l x q ys None s = predicate_term p l x q ys (predicate_called p q) s

abbrev pub unify_name : Hlds → Bool → ℕ → ℕ → PredName → List ℕ → InstMap → Verdict InstMap
unify_name p strict l x q ys s = named_term p strict l x q ys (functor_called p q (length ys)) s

-- ---- unifications

abbrev pub unify : Hlds → Bool → ℕ → ℕ → Term → InstMap → Verdict InstMap
unify p strict l x (Var y) s = unify_variables strict l x y s
unify p strict l x (Int n) s = given l number x s
unify p strict l x (Str bytes) s = given l text x s
unify p strict l x (Name q ys) s = unify_name p strict l x q ys s

-- ---- calls

-- a call with arguments of these types and modes
abbrev pub call_with : Bool → ℕ → List ℕ → List (HldsType × Mode) → InstMap → Verdict InstMap
call_with strict l ys args s = cond (nat_eq (length ys) (length args)) (arguments strict l args ys s) (Err (Arity l))

abbrev pub call_checked : Bool → ℕ → List ℕ → Option Procedure → InstMap → Verdict InstMap
call_checked strict l ys None s = Err (UnknownName l)
call_checked strict l ys (Some q) s = call_with strict l ys q.args s

abbrev pub call : Hlds → Bool → ℕ → PredName → List ℕ → InstMap → Verdict InstMap
call p strict l q ys s = call_checked strict l ys (predicate_called p q) s

-- types and modes side by side
abbrev pub pairs : List HldsType → List Mode → List (HldsType × Mode)
pairs (t ∷ ts) (m ∷ ms) = (t, m) ∷ pairs ts ms
pairs ts ms = []

abbrev pub apply_pairs : Bool → ℕ → List ℕ → List HldsType → List Mode → InstMap → Verdict InstMap
apply_pairs strict l ys ts ms s = cond (nat_eq (length ys) (length ts)) (arguments strict l (pairs ts ms) ys s) (Err (Arity l))

-- a call of a closure of this type
abbrev pub apply_sort : Bool → ℕ → List ℕ → HldsType → InstMap → Verdict InstMap
apply_sort strict l ys (closure ts ms d) s = apply_pairs strict l ys (listed_types ts) ms s
apply_sort strict l ys t s = Err (TypeClash l)

-- the closure is an input of some higher-order type
abbrev pub apply_known : Bool → ℕ → List ℕ → Instantiation → InstMap → Verdict InstMap
apply_known strict l ys free s = Err (Unbound l)
apply_known strict l ys (has t used) s = cond (is_spent strict t used) (Err (IoUsed l)) (apply_sort strict l ys t s)

abbrev pub apply : Bool → ℕ → ℕ → List ℕ → InstMap → Verdict InstMap
apply strict l f ys s = apply_known strict l ys (known_at s f) s

-- ---- the other goals, as calls of these arguments

abbrev pub builtin : HldsType → List (HldsType × Mode)
builtin t = (t, In) ∷ (world, Di) ∷ (world, Uo) ∷ []

abbrev pub arithmetic : List (HldsType × Mode)
arithmetic = (number, Out) ∷ (number, In) ∷ (number, In) ∷ []

abbrev pub comparison : List (HldsType × Mode)
comparison = (number, In) ∷ (number, In) ∷ []

abbrev pub line_end : List (HldsType × Mode)
line_end = (world, Di) ∷ (world, Uo) ∷ []

abbrev pub raised : List (HldsType × Mode)
raised = (text, In) ∷ []

abbrev pub simple : Hlds → Bool → ℕ → Simple → InstMap → Verdict InstMap
simple p strict l Succeeds s = Ok s
simple p strict l Fails s = Ok s
simple p strict l (Unifies x t) s = unify p strict l x t s
simple p strict l (Computes z a op b) s = arguments strict l arithmetic (z ∷ a ∷ b ∷ []) s
simple p strict l (Compares a cmp b) s = arguments strict l comparison (a ∷ b ∷ []) s
simple p strict l (WritesInt x before after) s = arguments strict l (builtin number) (x ∷ before ∷ after ∷ []) s
simple p strict l (WritesText x before after) s = arguments strict l (builtin text) (x ∷ before ∷ after ∷ []) s
simple p strict l (EndsLine before after) s = arguments strict l line_end (before ∷ after ∷ []) s
simple p strict l (Raises x) s = arguments strict l raised (x ∷ []) s

-- `fail` and `require.error` have no place after them
abbrev pub goes_on : Simple → Bool
goes_on Fails = false
goes_on (Raises x) = false
goes_on g = true

-- a goal that is no conjunction and no branch
abbrev pub atomic : Hlds → Bool → ℕ → GoalExpr → InstMap → Verdict InstMap
atomic p strict l (SimpleGoal g) s = simple p strict l g s
atomic p strict l (CallGoal site q ys) s = call p strict l q ys s
atomic p strict l (HoCallGoal site f ys) s = apply strict l f ys s
atomic p strict l t s = Ok s
