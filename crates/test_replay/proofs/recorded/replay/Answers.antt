use Rattle.std.proofs.Common.{List, reverse, take, sym, subst, arith}
use Rattle.md_record.proofs.Room.{on-err}
use Rattle.md_trace.specs.declared.event.Event.{Event}
use Rattle.test_replay.specs.Replays.{StandsWith, Replays}
use Rattle.test_replay.proofs.Handing.{next-follows, no-marks, turned-more}
use Rattle.test_replay.proofs.recorded.replay.Goals as goal

pub hand-requires : goal.hand-requires
hand-requires g c =
    let r = c.requires in
    let n = c.loop-event.event-index in
    record {
      table = r.table;
      history = reverse (take n c.args.events.now);
      stood = c.loop-event.invariant.stands r.table r.stood r.history;
      follows = next-follows r.table c.args.events.now n c.event-item.result c.loop-event-test.true c.event-item.is r.history;
    }

pub returns-in_err-hand-clause-part : goal.returns-in_err-hand-clause-part
returns-in_err-hand-clause-part g c =
    let n = c.loop-event.event-index in
    let stands : Replays (g.S.PortSink.stands_for c.args.sink.now) (g.S.PortSink.stands_for c.hand.new.sink) c.args.events.now n =
    λ t stood history. c.in_err-hand.ensures.err t (reverse (take n c.args.events.now)) (c.loop-event.invariant.stands t stood history).sink in
    on-err c.from_residual.result _ (n, omega (arith, c.loop-event-test.true), stands)

pub loop-event-preserved : goal.loop-event-preserved
loop-event-preserved g c = record {
  stands = λ t stood history.
      let n = c.loop-event.event-index in
      let events = c.args.events.now in
      let e = c.event-item.result in
      let next = c.in_ok-hand.ensures.ok t (reverse (take n events)) (c.loop-event.invariant.stands t stood history) (next-follows t events n e c.loop-event-test.true c.event-item.is history) in
      let P : List Event → Type 0 = λ h. StandsWith (g.S.PortSink.stands_for c.hand.new.sink) g.S.PortSink.belongs c.hand.new.marks.items t h in
      subst P (sym (turned-more events n e c.loop-event-test.true c.event-item.is)) next;
  alike = g.met.S.PortSink.alike_on c.args.sink.now c.loop-event.sink c.hand.new.sink c.loop-event.invariant.alike c.hand.ensures.alike;
}

pub loop-event-init : goal.loop-event-init
loop-event-init g c = record {
  stands = λ t stood history. record { sink = stood; marked = no-marks g.S.PortSink.belongs t c.new-marks.result.items c.new-marks.ensures.items };
  alike = g.met.S.PortSink.alike_self c.args.sink.now;
}

pub returns-in_err-hand-clause-alike : goal.returns-in_err-hand-clause-alike
returns-in_err-hand-clause-alike g c = g.met.S.PortSink.alike_on c.args.sink.now c.loop-event.sink c.hand.new.sink c.loop-event.invariant.alike c.hand.ensures.alike
