-- The determinism of each goal, by the table of the language.
use Rattle.std.specs.Prelude.{ℕ, Bool, true, false, ◌&&◌, ◌||◌, List, [], ◌∷◌, length, Option, Some, None, nat_eq}
use Rattle.md_hlds.specs.declared.goal.Term.{Term}
use Rattle.md_hlds.specs.declared.goal.Term.TheVariants.{Name}
use Rattle.md_hlds.specs.HldsGoal.{Simple, Succeeds, Fails, Unifies, Computes, Compares, WritesInt, WritesText, EndsLine, Raises, HldsGoal, At, GoalExpr, SimpleGoal, CallGoal, HoCallGoal, ConjGoal, DisjGoal, IfGoal, NotGoal, SomeGoal, HldsGoals, nothing, also}
use Rattle.md_hlds.specs.Hlds.{HldsType, closure, Procedure, Hlds, procedure_called}
use Rattle.md_inst.specs.Instantiation.{Instantiation, free, has, InstMap, known_at}
use Rattle.md_modes.specs.Goals.{Scope, within, goal}
use Rattle.md_modes.specs.Notes.{Role, constructs, closes, takes_apart, assigns, tests, applies, role_of_unification, known_after}
use Rattle.md_det.specs.declared.pair.Bound.TheVariants.{Zero, One}
use Rattle.md_det.specs.declared.pair.Pair.{Pair}
use Rattle.md_det.specs.declared.finding.Switch.{Switch}
use Rattle.md_det.specs.Pairs.{pair, pair_of, in_turn, one_of_two, cut, all_alternatives, one_of_all, with_missing}
use Rattle.md_det.specs.Switches.{is_only_functor, switch_of, variable_of}

-- it succeeds once
abbrev pub sure : Pair
sure = pair false One

-- it succeeds once or fails
abbrev pub unsure : Pair
unsure = pair true One

abbrev pub one_functor : Hlds → Term → Bool
one_functor p (Name q ys) = is_only_functor p q (length ys)
one_functor p t = false

-- `at` is the variable of the switch whose arm the goal begins, if it begins one
abbrev pub is_at : Option ℕ → ℕ → Bool
is_at None x = false
is_at (Some y) x = nat_eq x y

-- none of the arguments is bound; `bound` has the places of those that are
abbrev pub is_none_bound : List ℕ → Bool
is_none_bound [] = true
is_none_bound (n ∷ ns) = false

-- X = f(Y1, .., Yn), X bound: sure where it begins an arm of a switch on X, or the type has this functor alone, and no Y
-- is bound
abbrev pub apart_pair : Bool → Pair
apart_pair true = sure
apart_pair false = unsure

abbrev pub unification_pair : Hlds → Option ℕ → ℕ → Term → Role → Pair
unification_pair p at x t constructs = sure
unification_pair p at x t closes = sure
unification_pair p at x t (assigns to) = sure
unification_pair p at x t tests = unsure
unification_pair p at x t (takes_apart bound) = apart_pair (is_none_bound bound && (is_at at x || one_functor p t))
unification_pair p at x t (applies u) = unsure

abbrev pub simple_pair : Hlds → Option ℕ → Simple → InstMap → Pair
simple_pair p at Succeeds s = sure
simple_pair p at Fails s = pair true Zero
simple_pair p at (Unifies x t) s = unification_pair p at x t (role_of_unification p x t s)
simple_pair p at (Computes z a op b) s = sure
simple_pair p at (Compares a cmp b) s = unsure
simple_pair p at (WritesInt x before after) s = sure
simple_pair p at (WritesText x before after) s = sure
simple_pair p at (EndsLine before after) s = sure
simple_pair p at (Raises x) s = pair false Zero

-- a call is as its predicate is declared
abbrev pub call_pair : Option (ℕ × Procedure) → Pair
call_pair None = unsure
call_pair (Some q) = pair_of q.1.det

-- a call of a closure is as the closure's type says
abbrev pub sort_pair : HldsType → Pair
sort_pair (closure ts ms d) = pair_of d
sort_pair t = unsure

abbrev pub apply_pair : Instantiation → Pair
apply_pair free = unsure
apply_pair (has t used) = sort_pair t

abbrev pub disjunction_pair : Option Switch → List Pair → Pair
disjunction_pair None arms = all_alternatives arms
disjunction_pair (Some w) arms = with_missing w.whole (one_of_all arms)

-- The pair of a goal where this is known before it.
abbrev mutual
  pub goal_pair : Scope → Option ℕ → HldsGoal → InstMap → Pair
  goal_pair c at (At l t) s = expr_pair c at t s

  pub expr_pair : Scope → Option ℕ → GoalExpr → InstMap → Pair
  expr_pair c at (SimpleGoal g) s = simple_pair c.program at g s
  expr_pair c at (CallGoal site q ys) s = call_pair (procedure_called c.program q)
  expr_pair c at (HoCallGoal site f ys) s = apply_pair (known_at s f)
  expr_pair c at (ConjGoal ps) s = each_pair c at ps s
  expr_pair c at (DisjGoal ps) s =
      disjunction_pair (switch_of c.program ps s) (arm_pairs c (variable_of (switch_of c.program ps s)) ps s)
  expr_pair c at (IfGoal p t e) s =
      one_of_two (goal_pair c None t (known_after s (goal (within c) p s))) (goal_pair c None e s)
  expr_pair c at (NotGoal p) s = unsure
  expr_pair c at (SomeGoal vs p) s = cut (goal_pair (within c) None p s)

  -- goals in turn; the first of them begins what they begin
  pub each_pair : Scope → Option ℕ → HldsGoals → InstMap → Pair
  each_pair c at nothing s = sure
  each_pair c at (also p ps) s = in_turn (goal_pair c at p s) (each_pair c None ps (known_after s (goal c p s)))

  pub arm_pairs : Scope → Option ℕ → HldsGoals → InstMap → List Pair
  arm_pairs c at nothing s = []
  arm_pairs c at (also p ps) s = goal_pair c at p s ∷ arm_pairs c at ps s
