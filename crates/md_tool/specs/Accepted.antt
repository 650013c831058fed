-- Which texts are accepted as programs, and why others aren't.
use Rattle.std.specs.Prelude.{ℕ, ◌≡◌, ◌⊎◌, List, Option, None, Some, Ok, Err}
use Rattle.md_hlds.specs.declared.program.Program.{Program}
use Rattle.md_hlds.specs.Hlds.{Hlds, hlds_of}
use Rattle.md_reader.specs.declared.refused.Refused.{Refused}
use Rattle.md_reader.specs.Grammar.{Spells}
use Rattle.md_reader.specs.Reading.{reading, HasCause}
use Rattle.md_reader.specs.Words.{refused_line}
use Rattle.md_inst.specs.declared.fault.ModeFault.{ModeFault}
use Rattle.md_inst.specs.Words.{mode_fault_line}
use Rattle.md_modes.specs.Modes.{mode_fault}
use Rattle.md_det.specs.declared.fault.DetFault.{DetFault}
use Rattle.md_det.specs.Faults.{det_fault}
use Rattle.md_det.specs.Words.{det_fault_line}
use Rattle.md_tool.specs.declared.fault.Fault.{Fault}
use Rattle.md_tool.specs.declared.fault.Fault.TheVariants.{NoMemory}
use Rattle.md_tool.specs.declared.fault.Fault.TheVariants.{Refused as RefusedAt}
use Rattle.md_tool.specs.declared.fault.Refusal.{Refusal}
use Rattle.md_tool.specs.declared.fault.Refusal.TheVariants.{Text, Modes, Determinism}

-- A text that is accepted: it spells a program without a fault of modes or determinism. The program is also what the rules
-- of the language read, so it is the only one.
pub record Accepted (text : List ℕ) : Type 0 where
  pub program : Hlds
  pub spelled : Spells text program
  pub is_read : reading text ≡ Ok program
  pub modes : mode_fault program ≡ None
  pub determinism : det_fault program ≡ None

-- ---- the faults of a text, of modes and of determinism, as a command tells them

-- a refusal at this line; where there is none, memory was refused
abbrev pub refused_at : Option ℕ → Refusal → Fault
refused_at None why = NoMemory
refused_at (Some line) why = RefusedAt line why

abbrev pub refusal_of : Refused → Fault
refusal_of refused = refused_at (refused_line refused) (Text refused)

abbrev pub modes_refusal : ModeFault → Fault
modes_refusal fault = refused_at (mode_fault_line fault) (Modes fault)

abbrev pub determinism_refusal : DetFault → Fault
determinism_refusal fault = refused_at (det_fault_line fault) (Determinism fault)

-- ---- why a text isn't accepted: the first of its faults

-- It has a first token at fault, for syntax or for a limit, or it declares something twice, each by the grammar alone. The
-- rules of the language refuse it so too.
pub record IsUnread (text : List ℕ) (fault : Fault) : Type 0 where
  pub refusal : Refused
  pub cause : HasCause refusal text
  pub is_refused : reading text ≡ Err refusal
  pub told : fault ≡ refusal_of refusal

-- it spells a program with a fault of modes
pub record HasModeFault (text : List ℕ) (fault : Fault) : Type 0 where
  pub program : Hlds
  pub spelled : Spells text program
  pub is_read : reading text ≡ Ok program
  pub found : ModeFault
  pub is_found : mode_fault program ≡ Some found
  pub told : fault ≡ modes_refusal found

-- it spells a program without a fault of modes, and with one of determinism
pub record HasDetFault (text : List ℕ) (fault : Fault) : Type 0 where
  pub program : Hlds
  pub spelled : Spells text program
  pub is_read : reading text ≡ Ok program
  pub modes : mode_fault program ≡ None
  pub found : DetFault
  pub is_found : det_fault program ≡ Some found
  pub told : fault ≡ determinism_refusal found

abbrev pub NotAccepted : List ℕ → Fault → Type 0
NotAccepted text fault = IsUnread text fault ⊎ (HasModeFault text fault ⊎ HasDetFault text fault)

-- why a text isn't taken as a program: unless memory is refused, it isn't accepted
abbrev pub TextFault : List ℕ → Fault → Type 0
TextFault text (RefusedAt line w) = NotAccepted text (RefusedAt line w)
TextFault text NoMemory = Unit {0}
TextFault text fault = ⊥

-- the text is accepted as this program
pub record Accepts (text : List ℕ) (program : Hlds) : Type 0 where
  pub accepted : Accepted text
  pub is_program : accepted.program ≡ program

-- a program was checked, and has no fault
pub record IsAccepted (program checked : Program) : Type 0 where
  pub is_program : checked ≡ program
  pub modes : mode_fault (hlds_of program) ≡ None
  pub determinism : det_fault (hlds_of program) ≡ None

-- a program has a fault of modes, or else one of determinism
pub record HasFaultOfModes (program : Hlds) (fault : Fault) : Type 0 where
  pub found : ModeFault
  pub is_found : mode_fault program ≡ Some found
  pub told : fault ≡ modes_refusal found

pub record HasFaultOfDeterminism (program : Hlds) (fault : Fault) : Type 0 where
  pub modes : mode_fault program ≡ None
  pub found : DetFault
  pub is_found : det_fault program ≡ Some found
  pub told : fault ≡ determinism_refusal found

-- the first fault of a program, unless memory is refused
abbrev pub ProgramHas : Hlds → Fault → Type 0
ProgramHas program fault = (fault ≡ NoMemory) ⊎ (HasFaultOfModes program fault ⊎ HasFaultOfDeterminism program fault)
