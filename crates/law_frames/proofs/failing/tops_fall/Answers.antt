use Rattle.law_frames.proofs.Cuts.{trimmed_length, trimmed_rest}
use Rattle.law_frames.proofs.Leave.{top_above, top_choice, top_redo, top_popped, top_caller, top_trimmed}
use Rattle.law_frames.proofs.failing.tops_fall.Goals as goal

pub returns-clause-so_many : goal.returns-clause-so_many
returns-clause-so_many c = trimmed_length

pub returns-clause-above : goal.returns-clause-above
returns-clause-above c = top_above

pub returns-clause-choices : goal.returns-clause-choices
returns-clause-choices c x d a cs = top_choice x cs

pub returns-clause-redos : goal.returns-clause-redos
returns-clause-redos c x y d a cs lt = top_redo x y d a cs lt

pub returns-clause-pops : goal.returns-clause-pops
returns-clause-pops c = top_popped

pub returns-clause-exits : goal.returns-clause-exits
returns-clause-exits c = top_caller

pub returns-clause-cuts : goal.returns-clause-cuts
returns-clause-cuts c = top_trimmed

pub returns-clause-the_oldest : goal.returns-clause-the_oldest
returns-clause-the_oldest c = trimmed_rest
