-- A goal's note before what is within the goal is checked.
use Rattle.std.specs.Prelude.{◌≡◌, List, [], ◌∷◌, ◌++◌}
use Rattle.md_hlds.specs.Hlds.{Hlds}
use Rattle.md_hlds.specs.HldsGoal.{GoalExpr}
use Rattle.md_inst.specs.Instantiation.{InstMap}
use Rattle.md_modes.specs.declared.class.Note as code
use Rattle.md_modes.specs.Classes.{class_told}
use Rattle.md_modes.specs.Notes.{role_of}
use Rattle.md_names.specs.Named.{expr_name}

-- of what the goal does and what its name stands for one note was added
pub record IsBegun (program : Hlds) (t : GoalExpr) (s : InstMap) (old new : List code.Note) : Type 0 where
  pub note : code.Note
  pub added : new ≡ old ++ note ∷ []
  pub class : class_told note.class ≡ role_of program t s
  pub named : note.named ≡ expr_name program t
