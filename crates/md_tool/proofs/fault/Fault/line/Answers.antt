use Rattle.std.proofs.Common.{arith}
use Rattle.std.proofs.lemmas.Grind.{common_steps}
use Rattle.md_tool.proofs.fault.Fault.line.Goals as goal

pub returns-in-AnotherProgram : goal.returns-in-AnotherProgram
returns-in-AnotherProgram c = grind (arith, common_steps)

pub returns-in-Damaged : goal.returns-in-Damaged
returns-in-Damaged c = grind (arith, common_steps)

pub returns-in-DamagedLine : goal.returns-in-DamagedLine
returns-in-DamagedLine c = grind (arith, common_steps)

pub returns-in-Network : goal.returns-in-Network
returns-in-Network c = grind (arith, common_steps)

pub returns-in-NoMemory : goal.returns-in-NoMemory
returns-in-NoMemory c = grind (arith, common_steps)

pub returns-in-NoSuchPage : goal.returns-in-NoSuchPage
returns-in-NoSuchPage c = grind (arith, common_steps)

pub returns-in-OutOfSteps : goal.returns-in-OutOfSteps
returns-in-OutOfSteps c = grind (arith, common_steps)

pub returns-in-Refused : goal.returns-in-Refused
returns-in-Refused c = grind (arith, common_steps)

pub returns-in-Thrown : goal.returns-in-Thrown
returns-in-Thrown c = grind (arith, common_steps)

pub returns-in-TooLarge : goal.returns-in-TooLarge
returns-in-TooLarge c = grind (arith, common_steps)

pub returns-in-TwoEntries : goal.returns-in-TwoEntries
returns-in-TwoEntries c = grind (arith, common_steps)

pub returns-in-Usage : goal.returns-in-Usage
returns-in-Usage c = grind (arith, common_steps)

pub returns-in-Write : goal.returns-in-Write
returns-in-Write c = grind (arith, common_steps)
