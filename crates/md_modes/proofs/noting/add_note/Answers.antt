use Rattle.md_modes.proofs.noting.add_note.Goals as goal

pub returns : goal.returns
returns c = record {
  note = c.in_ok-note.note;
  added = c.in_ok-push.ensures.items;
  class = c.in_ok-note.ensures.class;
  named = c.in_ok-note.ensures.named;
}
