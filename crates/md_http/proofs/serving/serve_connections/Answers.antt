use Rattle.std.proofs.Common.{refl, ◌∙◌, arith}
use Rattle.std.proofs.lemmas.Grind.{common_steps}
use Rattle.md_http.proofs.Tallies.{served_none, served_more, served_enough, served_whole, served_some}
use Rattle.md_http.proofs.serving.serve_connections.Goals as goal

pub loop-tally-init : goal.loop-tally-init
loop-tally-init g c = record {
  port = refl;
  within = omega arith;
  fewer = omega arith;
  so_far = λ v before is told. served_none v before _ told;
  faults = refl;
}

pub loop-tally-preserved : goal.loop-tally-preserved
loop-tally-preserved g c =
    let so = c.loop-tally.invariant in
    let next = c.serve_next.ensures in
    let more = c.counted-tally.ensures in
    record {
      port = next.stays ∙ so.port;
      within = omega (arith, more.connections, c.loop-tally-test.true);
      fewer = more.within;
      so_far = λ v before is told.
          served_more v before _ _ _ c.loop-tally.tally _ (so.so_far v before is told) (λ b net. rw c.in-Ok-Some.field-0-is at (c.in-Ok-Some.ensures.step v b is net)) (rw c.in-Ok-Some.field-0-is at c.in-Ok-Some.ensures.memory)
          (record { connections = more.connections; answered = more.answered; others = more.others });
      faults = next.cause.kept (λ is. cc is) ∙ so.faults;
    }

pub returns-in-Ok-None-clause-served : goal.returns-in-Ok-None-clause-served
returns-in-Ok-None-clause-served g c = λ v before is told.
    let so = c.loop-tally.invariant in
    served_whole v before _ _ c.loop-tally.tally c.args.requests (so.so_far v before is told) so.within (λ b net. rw c.in-Ok-None.field-0-is at (c.in-Ok-None.ensures.step v b is net))

pub returns-in-Err-clause-served : goal.returns-in-Err-clause-served
returns-in-Err-clause-served g c = λ v before is told.
    served_some v before _ _ c.loop-tally.tally c.args.requests c.in-Err.fault (c.loop-tally.invariant.so_far v before is told) c.loop-tally-test.true (λ b net. c.in-Err.ensures.step v b is net)

pub returns-clause-served : goal.returns-clause-served
returns-clause-served g c = λ v before is told.
    let so = c.loop-tally.invariant in
    served_enough v before _ c.loop-tally.tally c.args.requests (so.so_far v before is told) so.within c.loop-tally-test.false

pub returns-in-Err-clause-stays : goal.returns-in-Err-clause-stays
returns-in-Err-clause-stays g c = grind (arith, common_steps)

pub returns-clause-stays : goal.returns-clause-stays
returns-clause-stays g c = grind (arith, common_steps)

pub returns-in-Ok-None-clause-stays : goal.returns-in-Ok-None-clause-stays
returns-in-Ok-None-clause-stays g c = grind (arith, common_steps)
