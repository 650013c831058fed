-- A goal within a branch, and the view that the code has of a goal's variables.
use Rattle.std.specs.Prelude.{◌≡◌, ⊤, ℕ, List, Ok}
use Rattle.md_hlds.specs.HldsGoal.{HldsGoal, GoalExpr, IfGoal}
use Rattle.md_inst.specs.Verdict.{Verdict, ◌>>=◌, ◌>>◌}
use Rattle.md_inst.specs.Instantiation.{InstMap, times}
use Rattle.md_inst.specs.Kinds.{inst_map_of}
use Rattle.md_modes.specs.declared.clause.Clause.{Clause}
use Rattle.md_modes.specs.declared.nonlocals.View.{View}
use Rattle.md_modes.specs.Branches.{After, outside}
use Rattle.md_modes.specs.Goals.{Scope, goal, binds_inside}
use Rattle.md_modes.specs.Tally.{IsLocal}
use Rattle.md_modes.specs.Views.{seen}

-- these variables are among those
abbrev pub AreAmong : (these those : List ℕ) → Type 0
AreAmong vs ws = (x : ℕ) → times x ws ≡ 0 → times x vs ≡ 0

-- what is known after a goal within a branch with these variables, where it may bind nothing that occurs outside the branch
abbrev pub inside : Scope → ℕ → List ℕ → HldsGoal → InstMap → Verdict After
inside c l vars p s = do
  a ← goal c p s
  binds_inside l (outside c.all vars) s a
  Ok a

-- the code's view of these variables of a goal, of which this is known before it
pub record IsViewOf (k : Clause) (view : View) (vars : List ℕ) (s : InstMap) : Type 0 where
  pub local : IsLocal view.outside.local.now.places.items view.outside.local.now.counts.items vars
  pub all : view.outside.all.now ≡ k.counts.items
  pub before : inst_map_of view.before.now ≡ seen view.outside.local.now.places.items s

-- the goal is an if-then-else
abbrev pub IsChoice : GoalExpr → Type 0
IsChoice (IfGoal p t e) = ⊤
IsChoice t = ⊥
