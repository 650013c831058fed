use Rattle.law_faults.proofs.First.{faulty_first}
use Rattle.law_faults.proofs.laws.faults_are_first_faulty_lines.Goals as goal

pub returns : goal.returns
returns c = faulty_first
