-- The faults of modes, in words, and where they are.
use Rattle.std.specs.Prelude.{ℕ, List, Option, Some, None, codes}
use Rattle.md_inst.specs.declared.fault.ModeFault.{ModeFault}
use Rattle.md_inst.specs.declared.fault.ModeFault.TheVariants as fault

abbrev pub mode_fault_words : ModeFault → List ℕ
mode_fault_words (fault.UnknownName line) = codes "unknown name"
mode_fault_words (fault.Arity line) = codes "wrong number of arguments"
mode_fault_words (fault.TypeClash line) = codes "type clash"
mode_fault_words (fault.Unbound line) = codes "unbound variable"
mode_fault_words (fault.BoundTwice line) = codes "variable bound twice"
mode_fault_words (fault.BranchBinds line) = codes "branches bind differently"
mode_fault_words (fault.IoUsed line) = codes "io used"
mode_fault_words (fault.ClosureTest line) = codes "closure compared"
mode_fault_words (fault.NoMain line) = codes "no main"
mode_fault_words fault.NoMemory = codes "want of memory"

-- the line of what is at fault; none, where memory was refused
abbrev pub mode_fault_line : ModeFault → Option ℕ
mode_fault_line (fault.UnknownName line) = Some line
mode_fault_line (fault.Arity line) = Some line
mode_fault_line (fault.TypeClash line) = Some line
mode_fault_line (fault.Unbound line) = Some line
mode_fault_line (fault.BoundTwice line) = Some line
mode_fault_line (fault.BranchBinds line) = Some line
mode_fault_line (fault.IoUsed line) = Some line
mode_fault_line (fault.ClosureTest line) = Some line
mode_fault_line (fault.NoMain line) = Some line
mode_fault_line fault.NoMemory = None
