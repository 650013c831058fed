use Rattle.std.proofs.Common.{arith}
use Rattle.std.proofs.lemmas.Grind.{common_steps}
use Rattle.md_render.proofs.title.add_title.Goals as goal

pub returns-in-Clique : goal.returns-in-Clique
returns-in-Clique c = grind (arith, common_steps)

pub returns-in-Menu : goal.returns-in-Menu
returns-in-Menu c = grind (arith, common_steps)

pub returns-in-Module : goal.returns-in-Module
returns-in-Module c = grind (arith, common_steps)

pub returns-in-Modules : goal.returns-in-Modules
returns-in-Modules c = grind (arith, common_steps)

pub returns-in-Proc : goal.returns-in-Proc
returns-in-Proc c = grind (arith, common_steps)

pub returns-in-Procs : goal.returns-in-Procs
returns-in-Procs c = grind (arith, common_steps)

pub returns-in-Top : goal.returns-in-Top
returns-in-Top c = grind (arith, common_steps)
