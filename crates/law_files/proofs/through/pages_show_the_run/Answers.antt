use Rattle.md_base.specs.Outside.{Rose}
use Rattle.law_files.proofs.ThroughFiles.{page_shows}
use Rattle.law_files.proofs.through.pages_show_the_run.Goals as goal

pub returns : goal.returns
returns c text accepted steps files name query out out' reads reads' writes writes' short small holds = page_shows text accepted steps short small files name holds query out out' (Rose reads reads') (Rose writes writes')
