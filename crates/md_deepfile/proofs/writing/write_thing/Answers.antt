use Rattle.md_deepfile.proofs.Writes.{ok_then, err_then, thing_on, thing_stops, stops_at_once}
use Rattle.md_deepfile.proofs.writing.write_thing.Goals as goal

pub returns-in-Ok-clause-on : goal.returns-in-Ok-clause-on
returns-in-Ok-clause-on g c =
    ok_then c.make_room.result _ _ c.make_room.ensures.on
    (λ room. thing_on c.args.name.now (g.T.Spelled.bytes c.args.thing.now) (g.S.Store.held c.args.store.now) (g.S.Store.held c.make_room.new.store) c.args.buffer.now.items c.put.new.out.items c.make_room.new.buffer.items c.in-Ok.ensures room)

pub returns-in-Ok-clause-stops : goal.returns-in-Ok-clause-stops
returns-in-Ok-clause-stops g c =
    err_then c.make_room.result _ _ c.make_room.ensures.stops
    (λ room. thing_stops c.args.name.now (g.T.Spelled.bytes c.args.thing.now) (g.S.Store.held c.args.store.now) (g.S.Store.held c.make_room.new.store) c.args.buffer.now.items c.put.new.out.items c.in-Ok.ensures room)

pub returns-in-Err-clause-stops : goal.returns-in-Err-clause-stops
returns-in-Err-clause-stops g c = stops_at_once c.args.name.now (g.T.Spelled.bytes c.args.thing.now) (g.S.Store.held c.args.store.now) c.args.buffer.now.items

pub returns-in-Ok-clause-reads : goal.returns-in-Ok-clause-reads
returns-in-Ok-clause-reads g c = c.make_room.ensures.reads

pub returns-in-Ok-clause-cause : goal.returns-in-Ok-clause-cause
returns-in-Ok-clause-cause g c = c.make_room.ensures.cause
