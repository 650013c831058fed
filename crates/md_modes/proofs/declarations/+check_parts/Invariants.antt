use Rattle.std.proofs.Common.{length}
use Rattle.md_modes.proofs.declarations.+check_parts.Given as goal

abbrev pub decreases-check_parts : goal.decreases-check_parts
decreases-check_parts l = length l.types.now
