use Rattle.md_record.proofs.Leading.{slot-below}
use Rattle.md_record.proofs.leads.known.Goals as goal

pub returns-in-Plain-clause-below : goal.returns-in-Plain-clause-below
returns-in-Plain-clause-below g c = slot-below c.args.tables.now c.args.node c.args.site c.slot.result c.slot.ensures.value
