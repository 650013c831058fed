-- Programs that differ in line numbers alone.
use Rattle.std.specs.Prelude.{◌≡◌, ℕ, List, map}
use Rattle.md_hlds.specs.HldsGoal.{HldsGoal, At, HldsGoals, nothing, also, GoalExpr, SimpleGoal, CallGoal, HoCallGoal, ConjGoal, DisjGoal, IfGoal, NotGoal, SomeGoal}
use Rattle.md_hlds.specs.Hlds.{HldsTypeDef, Procedure, Hlds}
use Rattle.md_reader.specs.Grammar.{Spells}

-- a goal, with this line in all of its parts
abbrev mutual
  pub on_line : ℕ → HldsGoal → HldsGoal
  on_line n (At line t) = At n (expr_on_line n t)

  pub expr_on_line : ℕ → GoalExpr → GoalExpr
  expr_on_line n (SimpleGoal s) = SimpleGoal s
  expr_on_line n (CallGoal site q ys) = CallGoal site q ys
  expr_on_line n (HoCallGoal site f ys) = HoCallGoal site f ys
  expr_on_line n (ConjGoal ps) = ConjGoal (goals_on_line n ps)
  expr_on_line n (DisjGoal ps) = DisjGoal (goals_on_line n ps)
  expr_on_line n (IfGoal c t e) = IfGoal (on_line n c) (on_line n t) (on_line n e)
  expr_on_line n (NotGoal c) = NotGoal (on_line n c)
  expr_on_line n (SomeGoal xs c) = SomeGoal xs (on_line n c)

  pub goals_on_line : ℕ → HldsGoals → HldsGoals
  goals_on_line n nothing = nothing
  goals_on_line n (also p ps) = also (on_line n p) (goals_on_line n ps)

abbrev pub type_definition_on_line : ℕ → HldsTypeDef → HldsTypeDef
type_definition_on_line n t = record t { line = n }

-- a predicate, with the line of its declaration and that of its clause
abbrev pub procedure_on_lines : (declaration clause : ℕ) → Procedure → Procedure
procedure_on_lines d c p = record p { line = d; clause_line = c; body = on_line c p.body }

-- a program without its line numbers
abbrev pub unlined : Hlds → Hlds
unlined l = record {
  module_name = l.module_name;
  module_line = 0;
  types = map (type_definition_on_line 0) l.types;
  procedures = map (procedure_on_lines 0 0) l.procedures;
}

-- the text spells a program that is this one but for line numbers
pub record SpellsUpToLines (text : List ℕ) (l : Hlds) : Type 0 where
  pub listing : Hlds
  pub spelled : Spells text listing
  pub same : unlined listing ≡ unlined l

-- some text spells it, but for line numbers
pub record IsSpelled (l : Hlds) : Type 0 where
  pub text : List ℕ
  pub spelled : SpellsUpToLines text l
