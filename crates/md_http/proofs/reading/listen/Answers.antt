use Rattle.std.proofs.Common.{◌∙◌, arith}
use Rattle.std.proofs.lemmas.Grind.{common_steps}
use Rattle.md_http.proofs.Readings.{reads_more}
use Rattle.md_http.proofs.reading.listen.Goals as goal

pub loop-link-preserved : goal.loop-link-preserved
loop-link-preserved g c =
    let before = c.loop-link.invariant in
    let more = c.in_ok-more.ensures in
    record {
      within = omega (arith, more.within, c.requires.size, c.loop-link.auto.bytes);
      read = reads_more _ _ _ c.loop-link.bytes _ c.loop-link.count _ before.read more.front more.read c.if-more-eq0.false;
      faults = more.cause.kept (λ is. cc is) ∙ before.faults;
      beside = more.beside ∙ before.beside;
    }

pub returns-then-more-eq0-clause-beside : goal.returns-then-more-eq0-clause-beside
returns-then-more-eq0-clause-beside g c = grind (arith, common_steps)

pub returns-then-more-eq0-clause-heard : goal.returns-then-more-eq0-clause-heard
returns-then-more-eq0-clause-heard g c = grind (arith, common_steps)

pub returns-then-more-eq0-clause-waits : goal.returns-then-more-eq0-clause-waits
returns-then-more-eq0-clause-waits g c = grind (arith, common_steps)

pub returns-then-more-eq0-clause-within : goal.returns-then-more-eq0-clause-within
returns-then-more-eq0-clause-within g c = grind (arith, common_steps)

pub returns-clause-beside : goal.returns-clause-beside
returns-clause-beside g c = grind (arith, common_steps)

pub returns-clause-heard : goal.returns-clause-heard
returns-clause-heard g c = grind (arith, common_steps)

pub returns-clause-waits : goal.returns-clause-waits
returns-clause-waits g c = grind (arith, common_steps)

pub returns-clause-within : goal.returns-clause-within
returns-clause-within g c = grind (arith, common_steps)

pub slice_bounds-is_waiting-end-in-loop-link : goal.slice_bounds-is_waiting-end-in-loop-link
slice_bounds-is_waiting-end-in-loop-link g c = grind (arith, common_steps)
