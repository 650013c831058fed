use Rattle.std.proofs.Common.{take}
use Rattle.std.specs.List.{All}
use Rattle.md_dump.specs.Sums.{IsSmall}
use Rattle.md_dump.proofs.summing.are_all_small.Given as goal

-- the files so far
abbrev pub invariant-loop-file : goal.invariant-loop-file
invariant-loop-file l = All IsSmall (take l.file-index l.files)
