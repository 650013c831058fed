use Rattle.std.proofs.Common.{◌-◌, ◌∙◌, arith}
use Rattle.std.proofs.lemmas.Grind.{common_steps}
use Rattle.md_base.proofs.Told.{piece_within}
use Rattle.md_deepfile.proofs.Writes.{appended_on}
use Rattle.md_deepfile.proofs.writing.append_all.Goals as goal

pub loop-done-preserved : goal.loop-done-preserved
loop-done-preserved g c =
    let bytes = c.args.bytes.now in
    let part = c.in_ok-done.ensures in
    let before = c.loop-done.invariant in
    let within = piece_within bytes c.loop-done.done c.in_ok-done.field-0 (c.min-end.result - c.loop-done.done) before.within part.takes.within in
    record {
      within = within.1;
      so_far = λ told out is. appended_on c.args.name.now bytes out c.loop-done.done c.in_ok-done.field-0 (c.min-end.result - c.loop-done.done) told (g.S.Store.held c.loop-done.store) (g.S.Store.held c.append_part.new.store) within.0 (before.so_far told out is) part.added;
      faults = part.cause.kept (λ is. cc is) ∙ before.faults;
      reads = part.reads ∙ before.reads;
    }

pub returns-clause-part : goal.returns-clause-part
returns-clause-part g c = grind (arith, common_steps)

pub returns-clause-reads : goal.returns-clause-reads
returns-clause-reads g c = grind (arith, common_steps)

pub returns-clause-whole : goal.returns-clause-whole
returns-clause-whole g c = grind (arith, common_steps)
