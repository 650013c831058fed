use Rattle.std.proofs.Common.{◌-◌, length, ◌∙◌}
use Rattle.md_base.proofs.Told.{piece_within, added_on}
use Rattle.md_base.proofs.files.write_whole.Goals as goal

pub loop-done-preserved : goal.loop-done-preserved
loop-done-preserved g c =
    let bytes = c.args.bytes.now in
    let part = c.in_ok-done.ensures in
    let before = c.loop-done.invariant in
    let within = piece_within bytes c.loop-done.done c.in_ok-done.field-0 (length bytes - c.loop-done.done) before.within part.takes.within in
    record {
      within = within.1;
      so_far = added_on bytes c.loop-done.done c.in_ok-done.field-0 (length bytes - c.loop-done.done) _ _ _ within.0 before.so_far part.added;
      faults = part.cause.kept (λ is. cc is) ∙ before.faults;
      beside = part.beside ∙ before.beside;
    }
