use Rattle.md_modes.proofs.Locals.{number_found, number_there, number_missed}
use Rattle.md_modes.proofs.local.Local.number_of.Goals as goal

pub returns-in-Ok-clause-found : goal.returns-in-Ok-clause-found
returns-in-Ok-clause-found c h x lt there =
    number_found c.args.self.now.places.items c.args.place x c.binary_search.result c.in-Ok.number c.in-Ok.is
    (rw (← c.deref.ensures.value) c.binary_search.ensures.position) h lt there

pub returns-in-Ok-clause-there : goal.returns-in-Ok-clause-there
returns-in-Ok-clause-there c h inside =
    number_there c.args.self.now.places.items c.args.place c.binary_search.result c.in-Ok.number c.in-Ok.is
    (rw (← c.deref.ensures.value) c.binary_search.ensures.position) h

pub returns-in-Err-clause-found : goal.returns-in-Err-clause-found
returns-in-Err-clause-found c h x lt there =
    absurd (number_missed c.args.self.now.places.items c.args.place x c.binary_search.result c.in-Err.field-0 c.in-Err.is
    (rw (← c.deref.ensures.value) c.binary_search.ensures.position) h lt there)
