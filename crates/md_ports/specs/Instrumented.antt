-- Code that a machine runs: that of a program, with a port in each instruction that stands for one.
use Rattle.std.specs.Prelude.{◌≡◌, None}
use Rattle.md_hlds.specs.Hlds.{Hlds}
use Rattle.md_reader.specs.Grammar.{IsOfText}
use Rattle.md_modes.specs.Modes.{mode_fault}
use Rattle.md_flat.specs.declared.code.Code.{Code}
use Rattle.md_flat.specs.Placed.{ArePlaced}
use Rattle.md_fold.specs.Folded.{IsFolded}
use Rattle.md_code.specs.Details.{IsCodeOf}

-- The code of a program that a text spells and the checks of modes accept: as it is compiled, and then folded. Each call, exit, redo, fail
-- and excp is an instruction of its own already as it is compiled; its address, as all others, leads on past what does nothing.
pub record IsInstrumented (s : Hlds) (code : Code) : Type 0 where
  pub plain : Code
  pub coded : IsCodeOf s plain
  pub folded : IsFolded plain code
  pub placed : ArePlaced code
  pub of_text : IsOfText s
  pub modes : mode_fault s ≡ None
