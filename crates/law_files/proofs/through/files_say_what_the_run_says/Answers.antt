use Rattle.law_files.proofs.ThroughFiles.{says_the_run}
use Rattle.law_files.proofs.through.files_say_what_the_run_says.Goals as goal

pub returns : goal.returns
returns c text accepted steps bytes short small file = says_the_run text accepted steps short small bytes file
