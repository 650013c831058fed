use Rattle.std.proofs.Common.{◌<◌, ◌∙◌, [], ◌∷◌, ◌++◌, length, refl, sym, ap, subst, arith}
use Rattle.std.proofs.lemmas.Grind.{common_steps}
use Rattle.md_trace.specs.declared.event.Event.{Event}
use Rattle.md_trace.specs.declared.event.Event.TheVariants.{Call, Exit, Redo, Fail, Excp}
use Rattle.md_trace.specs.PortHistory.{MayFollow}
use Rattle.md_trace.specs.Sinks.{next_call}
use Rattle.test_replay.specs.Replays.{StandsWith}
use Rattle.test_replay.proofs.Handing.{read-at, running, returned, the-call, marks-stay, marks-more}
use Rattle.test_replay.proofs.recorded.hand.Goals as goal

pub index-requires : goal.index-requires
index-requires g c =
    let r = c.requires in
    let may = subst (λ e. MayFollow r.table r.history e) c.in-Exit.is r.follows in
    let below = running r.table r.history c.in-Exit.act (g.met.S.PortSink.is_history c.args.sink.now r.table r.history r.stood.sink) may in
    omega (arith, below, r.stood.marked.each, c.args.marks.now.ok.0)

pub exit-requires : goal.exit-requires
exit-requires g c =
    let r = c.requires in
    let may = subst (λ e. MayFollow r.table r.history e) c.in-Exit.is r.follows in
    let below : c.in-Exit.act < length c.args.marks.now.items = (let called = running r.table r.history c.in-Exit.act (g.met.S.PortSink.is_history c.args.sink.now r.table r.history r.stood.sink) may in omega (arith, called, r.stood.marked.each)) in
    record {
      table = r.table;
      history = r.history;
      activation = c.in-Exit.act;
      stood = r.stood.sink;
      owned = r.stood.marked.right c.in-Exit.act c.index.result.now (read-at c.args.marks.now.items c.in-Exit.act c.index.result.now below c.index.ensures);
      follows = subst (λ e. MayFollow r.table r.history e) c.in-Exit.is r.follows;
    }

pub index-requires-in-Redo : goal.index-requires-in-Redo
index-requires-in-Redo g c =
    let r = c.requires in
    let may = subst (λ e. MayFollow r.table r.history e) c.in-Redo.is r.follows in
    let below = returned r.table r.history c.in-Redo.act (g.met.S.PortSink.is_history c.args.sink.now r.table r.history r.stood.sink) may.0 in
    omega (arith, below, r.stood.marked.each, c.args.marks.now.ok.0)

pub redo-requires : goal.redo-requires
redo-requires g c =
    let r = c.requires in
    let may = subst (λ e. MayFollow r.table r.history e) c.in-Redo.is r.follows in
    let below : c.in-Redo.act < length c.args.marks.now.items = (let called = returned r.table r.history c.in-Redo.act (g.met.S.PortSink.is_history c.args.sink.now r.table r.history r.stood.sink) may.0 in omega (arith, called, r.stood.marked.each)) in
    record {
      table = r.table;
      history = r.history;
      activation = c.in-Redo.act;
      stood = r.stood.sink;
      owned = r.stood.marked.right c.in-Redo.act c.index-in-Redo.result.now (read-at c.args.marks.now.items c.in-Redo.act c.index-in-Redo.result.now below c.index-in-Redo.ensures);
      follows = subst (λ e. MayFollow r.table r.history e) c.in-Redo.is r.follows;
    }

pub index-requires-in-Fail : goal.index-requires-in-Fail
index-requires-in-Fail g c =
    let r = c.requires in
    let may = subst (λ e. MayFollow r.table r.history e) c.in-Fail.is r.follows in
    let below = running r.table r.history c.in-Fail.act (g.met.S.PortSink.is_history c.args.sink.now r.table r.history r.stood.sink) may in
    omega (arith, below, r.stood.marked.each, c.args.marks.now.ok.0)

pub index-requires-in-Excp : goal.index-requires-in-Excp
index-requires-in-Excp g c =
    let r = c.requires in
    let may = subst (λ e. MayFollow r.table r.history e) c.in-Excp.is r.follows in
    let below = running r.table r.history c.in-Excp.act (g.met.S.PortSink.is_history c.args.sink.now r.table r.history r.stood.sink) may in
    omega (arith, below, r.stood.marked.each, c.args.marks.now.ok.0)

pub fail-requires : goal.fail-requires
fail-requires g c =
    let r = c.requires in
    let may = subst (λ e. MayFollow r.table r.history e) c.in-Fail.is r.follows in
    let below : c.in-Fail.act < length c.args.marks.now.items = (let called = running r.table r.history c.in-Fail.act (g.met.S.PortSink.is_history c.args.sink.now r.table r.history r.stood.sink) may in omega (arith, called, r.stood.marked.each)) in
    record {
      table = r.table;
      history = r.history;
      activation = c.in-Fail.act;
      stood = r.stood.sink;
      owned = r.stood.marked.right c.in-Fail.act c.index-in-Fail.result.now (read-at c.args.marks.now.items c.in-Fail.act c.index-in-Fail.result.now below c.index-in-Fail.ensures);
      follows = subst (λ e. MayFollow r.table r.history e) c.in-Fail.is r.follows;
    }

pub excp-requires : goal.excp-requires
excp-requires g c =
    let r = c.requires in
    let may = subst (λ e. MayFollow r.table r.history e) c.in-Excp.is r.follows in
    let below : c.in-Excp.act < length c.args.marks.now.items = (let called = running r.table r.history c.in-Excp.act (g.met.S.PortSink.is_history c.args.sink.now r.table r.history r.stood.sink) may in omega (arith, called, r.stood.marked.each)) in
    record {
      table = r.table;
      history = r.history;
      activation = c.in-Excp.act;
      stood = r.stood.sink;
      owned = r.stood.marked.right c.in-Excp.act c.index-in-Excp.result.now (read-at c.args.marks.now.items c.in-Excp.act c.index-in-Excp.result.now below c.index-in-Excp.ensures);
      follows = subst (λ e. MayFollow r.table r.history e) c.in-Excp.is r.follows;
    }

pub returns-in-Exit-clause-ok : goal.returns-in-Exit-clause-ok
returns-in-Exit-clause-ok g c = λ t h st may.
    let B = g.S.PortSink.belongs in
    let event : Event = Exit c.in-Exit.act in
    let follows : MayFollow t h event = subst (λ e. MayFollow t h e) c.in-Exit.is may in
    let is = g.met.S.PortSink.is_history c.args.sink.now t h st.sink in
    let below : c.in-Exit.act < length c.args.marks.now.items = (let called = running t h c.in-Exit.act is follows in omega (arith, called, st.marked.each)) in
    let R : Event → Type 0 = λ e. StandsWith (g.S.PortSink.stands_for c.exit.new.self) B c.args.marks.now.items t (e ∷ h) in
    subst R (sym c.in-Exit.is) (record {
      sink = c.exit.ensures.taken t h c.in-Exit.act st.sink (st.marked.right c.in-Exit.act c.index.result.now (read-at c.args.marks.now.items c.in-Exit.act c.index.result.now below c.index.ensures)) follows;
      marked = marks-stay B t h event (λ m a b. g.met.S.PortSink.stays m t h event a (is, follows) b) c.args.marks.now.items refl st.marked;
    })

pub returns-in-Redo-clause-ok : goal.returns-in-Redo-clause-ok
returns-in-Redo-clause-ok g c = λ t h st may.
    let B = g.S.PortSink.belongs in
    let event : Event = Redo c.in-Redo.act in
    let follows : MayFollow t h event = subst (λ e. MayFollow t h e) c.in-Redo.is may in
    let is = g.met.S.PortSink.is_history c.args.sink.now t h st.sink in
    let below : c.in-Redo.act < length c.args.marks.now.items = (let called = returned t h c.in-Redo.act is follows.0 in omega (arith, called, st.marked.each)) in
    let R : Event → Type 0 = λ e. StandsWith (g.S.PortSink.stands_for c.redo.new.self) B c.args.marks.now.items t (e ∷ h) in
    subst R (sym c.in-Redo.is) (record {
      sink = c.redo.ensures.taken t h c.in-Redo.act st.sink (st.marked.right c.in-Redo.act c.index-in-Redo.result.now (read-at c.args.marks.now.items c.in-Redo.act c.index-in-Redo.result.now below c.index-in-Redo.ensures)) follows;
      marked = marks-stay B t h event (λ m a b. g.met.S.PortSink.stays m t h event a (is, follows) b) c.args.marks.now.items refl st.marked;
    })

pub returns-in-Fail-clause-ok : goal.returns-in-Fail-clause-ok
returns-in-Fail-clause-ok g c = λ t h st may.
    let B = g.S.PortSink.belongs in
    let event : Event = Fail c.in-Fail.act in
    let follows : MayFollow t h event = subst (λ e. MayFollow t h e) c.in-Fail.is may in
    let is = g.met.S.PortSink.is_history c.args.sink.now t h st.sink in
    let below : c.in-Fail.act < length c.args.marks.now.items = (let called = running t h c.in-Fail.act is follows in omega (arith, called, st.marked.each)) in
    let R : Event → Type 0 = λ e. StandsWith (g.S.PortSink.stands_for c.fail.new.self) B c.args.marks.now.items t (e ∷ h) in
    subst R (sym c.in-Fail.is) (record {
      sink = c.fail.ensures.taken t h c.in-Fail.act st.sink (st.marked.right c.in-Fail.act c.index-in-Fail.result.now (read-at c.args.marks.now.items c.in-Fail.act c.index-in-Fail.result.now below c.index-in-Fail.ensures)) follows;
      marked = marks-stay B t h event (λ m a b. g.met.S.PortSink.stays m t h event a (is, follows) b) c.args.marks.now.items refl st.marked;
    })

pub returns-in-Excp-clause-ok : goal.returns-in-Excp-clause-ok
returns-in-Excp-clause-ok g c = λ t h st may.
    let B = g.S.PortSink.belongs in
    let event : Event = Excp c.in-Excp.act in
    let follows : MayFollow t h event = subst (λ e. MayFollow t h e) c.in-Excp.is may in
    let is = g.met.S.PortSink.is_history c.args.sink.now t h st.sink in
    let below : c.in-Excp.act < length c.args.marks.now.items = (let called = running t h c.in-Excp.act is follows in omega (arith, called, st.marked.each)) in
    let R : Event → Type 0 = λ e. StandsWith (g.S.PortSink.stands_for c.excp.new.self) B c.args.marks.now.items t (e ∷ h) in
    subst R (sym c.in-Excp.is) (record {
      sink = c.excp.ensures.taken t h c.in-Excp.act st.sink (st.marked.right c.in-Excp.act c.index-in-Excp.result.now (read-at c.args.marks.now.items c.in-Excp.act c.index-in-Excp.result.now below c.index-in-Excp.ensures)) follows;
      marked = marks-stay B t h event (λ m a b. g.met.S.PortSink.stays m t h event a (is, follows) b) c.args.marks.now.items refl st.marked;
    })

pub returns-in_ok-call-in-Call-clause-ok : goal.returns-in_ok-call-in-Call-clause-ok
returns-in_ok-call-in-Call-clause-ok g c = λ t h st may.
    let B = g.S.PortSink.belongs in
    let event : Event = Call c.in-Call.act c.in-Call.parent c.in-Call.site c.in-Call.callee in
    let said : MayFollow t h event = subst (λ e. MayFollow t h e) c.in-Call.is may in
    let same = the-call t h c.in-Call.act c.in-Call.parent c.in-Call.site c.in-Call.callee said in
    let next = next_call c.in-Call.site c.in-Call.callee h in
    let follows : MayFollow t h next = subst (λ e. MayFollow t h e) same said in
    let is = g.met.S.PortSink.is_history c.args.sink.now t h st.sink in
    let R : Event → Type 0 = λ e. StandsWith (g.S.PortSink.stands_for c.call.new.self) B c.push_reserved.new.self.items t (e ∷ h) in
    subst R (sym (c.in-Call.is ∙ same)) (record {
      sink = c.in_ok-call-in-Call.ensures.taken t h st.sink follows;
      marked = marks-more B t h next (λ m a b. g.met.S.PortSink.stays m t h next a (is, follows) b) c.args.marks.now.items c.push_reserved.new.self.items c.in_ok-call-in-Call.field-0
          (c.push_reserved.ensures.items ∙ ap (λ xs. xs ++ c.in_ok-call-in-Call.field-0 ∷ []) c.in_ok-reserve-in-Call.ensures.items) refl (c.in_ok-call-in-Call.ensures.marked t h st.sink follows) st.marked;
    })

pub returns-in-Fail-clause-alike : goal.returns-in-Fail-clause-alike
returns-in-Fail-clause-alike g c = grind (arith, common_steps)

pub returns-in-Fail-clause-err : goal.returns-in-Fail-clause-err
returns-in-Fail-clause-err g c = grind (arith, common_steps)

pub returns-in-Excp-clause-alike : goal.returns-in-Excp-clause-alike
returns-in-Excp-clause-alike g c = grind (arith, common_steps)

pub returns-in-Excp-clause-err : goal.returns-in-Excp-clause-err
returns-in-Excp-clause-err g c = grind (arith, common_steps)

pub returns-in_ok-call-in-Call-clause-alike : goal.returns-in_ok-call-in-Call-clause-alike
returns-in_ok-call-in-Call-clause-alike g c = grind (arith, common_steps)

pub returns-in_ok-call-in-Call-clause-err : goal.returns-in_ok-call-in-Call-clause-err
returns-in_ok-call-in-Call-clause-err g c = grind (arith, common_steps)

pub returns-in-Alloc-clause-alike : goal.returns-in-Alloc-clause-alike
returns-in-Alloc-clause-alike g c = grind (arith, common_steps)

pub returns-in-Alloc-clause-err : goal.returns-in-Alloc-clause-err
returns-in-Alloc-clause-err g c = grind (arith, common_steps)

pub returns-in-Alloc-clause-ok : goal.returns-in-Alloc-clause-ok
returns-in-Alloc-clause-ok g c = grind (arith, common_steps)

pub returns-in-Exit-clause-alike : goal.returns-in-Exit-clause-alike
returns-in-Exit-clause-alike g c = grind (arith, common_steps)

pub returns-in-Exit-clause-err : goal.returns-in-Exit-clause-err
returns-in-Exit-clause-err g c = grind (arith, common_steps)

pub returns-in-Redo-clause-alike : goal.returns-in-Redo-clause-alike
returns-in-Redo-clause-alike g c = grind (arith, common_steps)

pub returns-in-Redo-clause-err : goal.returns-in-Redo-clause-err
returns-in-Redo-clause-err g c = grind (arith, common_steps)
