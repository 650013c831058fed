use Rattle.std.proofs.Common.{◌∙◌, ap, sym}
use Rattle.md_modes.specs.Tally.{ends_with}
use Rattle.md_modes.proofs.Locals.{added_again, added_new}
use Rattle.md_modes.proofs.local.Local.add.Goals as goal

pub returns-then-ends_with : goal.returns-then-ends_with
returns-then-ends_with c vars h bound =
    rw (c.count_last.ensures)
    (added_again c.args.self.now.places.items c.args.self.now.counts.items vars c.args.place
    (ap (ends_with c.args.place) (sym c.deref.ensures.value) ∙ (sym c.ends_with.ensures ∙ c.if-ends_with.true)) h)

pub returns : goal.returns
returns c vars h bound =
    rw (c.in_ok-push.ensures.items, c.in_ok-push-2.ensures.items)
    (added_new c.args.self.now.places.items c.args.self.now.counts.items vars c.args.place
    (ap (ends_with c.args.place) (sym c.deref.ensures.value) ∙ (sym c.ends_with.ensures ∙ c.if-ends_with.false)) h bound)
