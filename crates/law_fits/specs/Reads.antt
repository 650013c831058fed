-- Which variables have values before a goal that is no conjunction and no branch: by its role, which the checks note at its
-- number, or by the modes of its arguments.
use Rattle.std.specs.Prelude.{ℕ, suc, Bool, true, false, not, List, [], ◌∷◌, Option, Some, None, cond, nat_eq}
use Rattle.md_hlds.specs.declared.types.Mode.{Mode}
use Rattle.md_hlds.specs.declared.types.Mode.TheVariants.{In, Out, Di, Uo}
use Rattle.md_hlds.specs.declared.goal.Term.{Term}
use Rattle.md_hlds.specs.HldsGoal.{Simple, Succeeds, Fails, Unifies, Computes, Compares, WritesInt, WritesText, EndsLine, Raises, HldsGoal, At, GoalExpr, SimpleGoal, CallGoal, HoCallGoal}
use Rattle.md_hlds.specs.Hlds.{HldsType, number, text, closure, listed_types, Procedure, Hlds, procedure_called, goal_at}
use Rattle.md_inst.specs.Simple.{builtin, arithmetic, comparison, line_end, raised, pairs}
use Rattle.md_modes.specs.Notes.{Role, constructs, closes, takes_apart, assigns, tests, applies, program_notes}
use Rattle.md_modes.specs.Classes.{role_at}
use Rattle.law_safety.specs.Roles.{arguments_of}

-- ---- arguments

-- an argument of this mode has a value before the goal
abbrev pub is_input : Mode → Bool
is_input In = true
is_input Di = true
is_input Out = false
is_input Uo = false

-- the first of these arguments in whose place the variable stands is an input
abbrev pub is_given : List (HldsType × Mode) → List ℕ → ℕ → Bool
is_given (a ∷ args) (x ∷ xs) y = cond (nat_eq y x) (is_input a.1) (is_given args xs y)
is_given args xs y = false

abbrev pub args_of_called : Option (ℕ × Procedure) → List (HldsType × Mode)
args_of_called None = []
args_of_called (Some q) = q.1.args

-- the arguments of a closure of the type that a role names
abbrev pub args_of_sort : HldsType → List (HldsType × Mode)
args_of_sort (closure ts ms d) = pairs (listed_types ts) ms
args_of_sort t = []

abbrev pub args_of_role : Option Role → List (HldsType × Mode)
args_of_role (Some (applies t)) = args_of_sort t
args_of_role r = []

-- ---- unifications

abbrev pub is_among : ℕ → List ℕ → Bool
is_among n [] = false
is_among n (m ∷ ms) = cond (nat_eq n m) true (is_among n ms)

-- the place of a variable among these, counted on from n, is one of those of the arguments that have values
abbrev pub is_valued : ℕ → (bound : List ℕ) → List ℕ → ℕ → Bool
is_valued n bound [] y = false
is_valued n bound (x ∷ xs) y = cond (nat_eq y x) (is_among n bound) (is_valued (suc n) bound xs y)

-- A construction, a closing and an assignment bind one variable, and have values of the others; a deconstruction has a value
-- of x and of the arguments that its role names; a test has both.
abbrev pub unification_reads : ℕ → Term → Role → ℕ → Bool
unification_reads x t constructs y = not (nat_eq y x)
unification_reads x t closes y = not (nat_eq y x)
unification_reads x t (takes_apart bound) y = cond (nat_eq y x) true (is_valued 0 bound (arguments_of t) y)
unification_reads x t (assigns to) y = not (nat_eq y to)
unification_reads x t tests y = true
unification_reads x t (applies u) y = false

abbrev pub role_reads : ℕ → Term → Option Role → ℕ → Bool
role_reads x t None y = false
role_reads x t (Some r) y = unification_reads x t r y

-- ---- goals

abbrev pub simple_reads : Option Role → Simple → ℕ → Bool
simple_reads r Succeeds y = false
simple_reads r Fails y = false
simple_reads r (Unifies x t) y = role_reads x t r y
simple_reads r (Computes z a op b) y = is_given arithmetic (z ∷ a ∷ b ∷ []) y
simple_reads r (Compares a cmp b) y = is_given comparison (a ∷ b ∷ []) y
simple_reads r (WritesInt x before after) y = is_given (builtin number) (x ∷ before ∷ after ∷ []) y
simple_reads r (WritesText x before after) y = is_given (builtin text) (x ∷ before ∷ after ∷ []) y
simple_reads r (EndsLine before after) y = is_given line_end (before ∷ after ∷ []) y
simple_reads r (Raises x) y = is_given raised (x ∷ []) y

-- a conjunction and a branch read nothing by themselves
abbrev pub expr_reads : Hlds → Option Role → GoalExpr → ℕ → Bool
expr_reads s r (SimpleGoal g) y = simple_reads r g y
expr_reads s r (CallGoal site q ys) y = is_given (args_of_called (procedure_called s q)) ys y
expr_reads s r (HoCallGoal site f ys) y = cond (nat_eq y f) true (is_given (args_of_role r) ys y)
expr_reads s r t y = false

abbrev pub goal_reads : Hlds → Option Role → Option HldsGoal → ℕ → Bool
goal_reads s r None y = false
goal_reads s r (Some (At l t)) y = expr_reads s r t y

-- the variable has a value before the goal of that number, which is simple or a call
abbrev pub reads_at : Hlds → ℕ → ℕ → Bool
reads_at s n y = goal_reads s (role_at (program_notes s) n) (goal_at s n) y
