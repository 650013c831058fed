-- What one goal's turn leads to in an environment that fits what is known before the goal.
use Rattle.std.specs.Prelude.{⊤, ◌≡◌, ℕ, Bool, true, List, [], ◌∷◌}
use Rattle.md_hlds.specs.declared.goal.Term.TheVariants.{Name}
use Rattle.md_hlds.specs.HldsGoal.{Simple, Unifies, Computes, Compares, WritesInt, WritesText, EndsLine, HldsGoal, At, GoalExpr, SimpleGoal, CallGoal, HoCallGoal, ConjGoal, DisjGoal, IfGoal, NotGoal, SomeGoal, HldsGoals, nothing, also}
use Rattle.md_hlds.specs.Hlds.{Hlds}
use Rattle.md_hlds.specs.Simple.{Outcome, Go, No, Throws, Stop}
use Rattle.md_inst.specs.Instantiation.{InstMap, times}
use Rattle.law_safety.specs.Values.{Fits}

-- A simple goal isn't stuck, and where it succeeds, the place after it is reachable and the environment after it fits what
-- is known there.
abbrev pub LeadsTo : Hlds → List ℕ → Bool → InstMap → Outcome → Type 0
LeadsTo s vars reach r (Go e extra words out) = Fits s vars r e × (reach ≡ true)
LeadsTo s vars reach r (No extra) = ⊤
LeadsTo s vars reach r (Throws bytes) = ⊤
LeadsTo s vars reach r Stop = ⊥

-- variables are pairwise different
abbrev pub AreDistinct : List ℕ → Type 0
AreDistinct [] = ⊤
AreDistinct (x ∷ xs) = (times x xs ≡ 0) × AreDistinct xs

-- The variables of arithmetic, of a comparison, of a write, of a call and of a term's arguments are pairwise different, as
-- the grammar has them.
abbrev pub IsTidySimple : Simple → Type 0
IsTidySimple (Computes z a op b) = AreDistinct (z ∷ a ∷ b ∷ [])
IsTidySimple (Compares a cmp b) = AreDistinct (a ∷ b ∷ [])
IsTidySimple (WritesInt x before after) = AreDistinct (x ∷ before ∷ after ∷ [])
IsTidySimple (WritesText x before after) = AreDistinct (x ∷ before ∷ after ∷ [])
IsTidySimple (EndsLine before after) = AreDistinct (before ∷ after ∷ [])
IsTidySimple (Unifies x (Name q ys)) = AreDistinct ys
IsTidySimple g = ⊤

abbrev mutual
  pub IsTidy : HldsGoal → Type 0
  IsTidy (At l t) = IsTidyExpr t

  pub IsTidyExpr : GoalExpr → Type 0
  IsTidyExpr (SimpleGoal g) = IsTidySimple g
  IsTidyExpr (CallGoal site q ys) = AreDistinct ys
  IsTidyExpr (HoCallGoal site f ys) = AreDistinct ys
  IsTidyExpr (ConjGoal ps) = AreTidy ps
  IsTidyExpr (DisjGoal ps) = AreTidy ps
  IsTidyExpr (IfGoal c t e) = IsTidy c × (IsTidy t × IsTidy e)
  IsTidyExpr (NotGoal c) = IsTidy c
  IsTidyExpr (SomeGoal vs c) = IsTidy c

  pub AreTidy : HldsGoals → Type 0
  AreTidy nothing = ⊤
  AreTidy (also p ps) = IsTidy p × AreTidy ps
