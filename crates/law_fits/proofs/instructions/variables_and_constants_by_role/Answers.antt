use Rattle.law_fits.proofs.InstructionLemmas.{assignments, tests_of_variables, constants, tests_of_constants}
use Rattle.law_fits.proofs.instructions.variables_and_constants_by_role.Goals as goal

pub returns-clause-assigns : goal.returns-clause-assigns
returns-clause-assigns c = assignments

pub returns-clause-tests : goal.returns-clause-tests
returns-clause-tests c = tests_of_variables

pub returns-clause-constant : goal.returns-clause-constant
returns-clause-constant c = constants

pub returns-clause-tests_constant : goal.returns-clause-tests_constant
returns-clause-tests_constant c = tests_of_constants
