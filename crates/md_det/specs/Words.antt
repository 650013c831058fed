-- The faults of determinism, in words, and where they are.
use Rattle.std.specs.Prelude.{ℕ, List, ◌++◌, Option, Some, None, codes}
use Rattle.md_hlds.specs.Words.{det_word}
use Rattle.md_det.specs.declared.fault.DetFault.{DetFault}
use Rattle.md_det.specs.declared.fault.DetFault.TheVariants as fault

abbrev pub det_fault_words : DetFault → List ℕ
det_fault_words (fault.Declared line declared inferred) = codes "declared " ++ (det_word declared ++ (codes ", inferred " ++ det_word inferred))
det_fault_words (fault.ManyInCondition line) = codes "condition with many solutions binds"
det_fault_words (fault.IoInBacktracking line) = codes "io in backtracking"
det_fault_words fault.NoMemory = codes "want of memory"

-- the line of what is at fault; none, where memory was refused
abbrev pub det_fault_line : DetFault → Option ℕ
det_fault_line (fault.Declared line declared inferred) = Some line
det_fault_line (fault.ManyInCondition line) = Some line
det_fault_line (fault.IoInBacktracking line) = Some line
det_fault_line fault.NoMemory = None
