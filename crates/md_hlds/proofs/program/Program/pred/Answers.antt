use Rattle.md_hlds.proofs.ProcedureLemmas.{procedure_looked_up}
use Rattle.md_hlds.proofs.program.Program.pred.Goals as goal

pub returns : goal.returns
returns c = procedure_looked_up c.args.self.now.preds.items c.args.id c.get.result (rw (c.deref.ensures.value, c.number.ensures) at c.get.ensures.lookup)
