use Rattle.md_hlds.specs.Hlds.{args_of, hlds_types_of}
use Rattle.md_inst.specs.Kinds.{inst_map_of}
use Rattle.md_inst.proofs.Closures.{applied_closure, applied_open}
use Rattle.md_inst.proofs.call.apply_kind.Goals as goal

pub returns-in-Closure : goal.returns-in-Closure
returns-in-Closure c =
    let ho = c.in-Closure.ho.now in
    rw c.in-Closure.is
    (applied_closure c.apply_closure.result (inst_map_of c.apply_closure.new.insts.items) c.args.at.strict c.args.at.line c.args.places.now
    (hlds_types_of ho.types.items) ho.modes.items ho.det (inst_map_of c.args.insts.now.items)
    (rw (← c.deref.ensures.value, ← c.deref-in-Closure.ensures.value) c.apply_closure.ensures))

pub returns-in-Open : goal.returns-in-Open
returns-in-Open c =
    rw c.in-Open.is
    (applied_open c.apply_open.result (inst_map_of c.apply_open.new.insts.items) c.args.at.strict c.args.at.line c.args.places.now
    (args_of c.in-Open.args.now) c.in-Open.field-1 (inst_map_of c.args.insts.now.items) c.apply_open.ensures)
