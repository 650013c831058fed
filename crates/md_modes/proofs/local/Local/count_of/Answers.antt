use Rattle.md_modes.proofs.Locals.{not_found}
use Rattle.md_modes.proofs.local.Local.count_of.Goals as goal

pub returns-in-Err : goal.returns-in-Err
returns-in-Err c vars h =
    not_found c.args.self.now.places.items c.args.self.now.counts.items vars c.args.place c.binary_search.result c.in-Err.field-0 c.in-Err.is
    (rw (← c.deref.ensures.value) c.binary_search.ensures.position) h
