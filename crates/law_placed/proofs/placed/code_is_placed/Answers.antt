use Rattle.law_placed.proofs.Programs.{instructions_placed, details_placed, routines_placed}
use Rattle.law_placed.proofs.placed.code_is_placed.Goals as goal

pub returns-clause-instructions : goal.returns-clause-instructions
returns-clause-instructions c = instructions_placed

pub returns-clause-details : goal.returns-clause-details
returns-clause-details c = details_placed

pub returns-clause-routines : goal.returns-clause-routines
returns-clause-routines c = routines_placed
