use Rattle.std.proofs.Common.{List, length, reverse, sym, ap, subst}
use Rattle.md_static.specs.Tables.{site_table}
use Rattle.md_trace.specs.Counted.{CountsFor}
use Rattle.md_trace.specs.declared.event.Event.{Event}
use Rattle.test_replay.proofs.Handing.{all-events}
use Rattle.test_replay.proofs.PastSteps.{sound-table}
use Rattle.test_replay.proofs.profile.counter_of_events.Goals as goal

pub replay-requires : goal.replay-requires
replay-requires c =
    let t = site_table c.args.statics.now c.args.main in
    let table = sound-table c.args.statics.now c.args.main c.requires.sound c.requires.main_there in
    record {
      table = t;
      stood = c.in_ok-counter.ensures.stands t table (ap length (sym c.procs.ensures));
      history = c.in_ok-is_port_history.ensures.0 c.if-not-branch.false;
    }

pub returns : goal.returns
returns c =
    let t = site_table c.args.statics.now c.args.main in
    let events = c.args.events.now in
    let table = sound-table c.args.statics.now c.args.main c.requires.sound c.requires.main_there in
    let history = c.in_ok-is_port_history.ensures.0 c.if-not-branch.false in
    let S : List Event → Type 0 = λ es. CountsFor c.replay.new.sink t (reverse es) in
    subst S (all-events events) (c.in_ok-replay.ensures.whole t (c.in_ok-counter.ensures.stands t table (ap length (sym c.procs.ensures))) history)
