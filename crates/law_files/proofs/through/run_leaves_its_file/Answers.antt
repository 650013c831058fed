use Rattle.law_files.proofs.ThroughFiles.{left_file}
use Rattle.law_files.proofs.through.run_leaves_its_file.Goals as goal

pub returns : goal.returns
returns c files held file name steps out out' end ran = left_file files held name steps ran.accepted.program out out' ran.kept
