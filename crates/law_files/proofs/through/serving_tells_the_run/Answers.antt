use Rattle.law_files.proofs.ThroughFiles.{serving_tells}
use Rattle.law_files.proofs.through.serving_tells_the_run.Goals as goal

pub returns : goal.returns
returns c text accepted steps files name port requests net net' r short small holds served = serving_tells text accepted steps short small files name holds port requests net net' r served
