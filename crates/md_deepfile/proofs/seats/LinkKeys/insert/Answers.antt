use Rattle.std.proofs.Common.{◌||◌, ap, ◌∙◌, refl, rules}
use Rattle.md_deepfile.specs.Sets.{Seating, is_key, has_seated}
use Rattle.md_deepfile.proofs.Sitting.{sat_down, other_now}
use Rattle.md_deepfile.proofs.seats.LinkKeys.insert.Goals as goal

pub returns-then-is_empty-clause-now : goal.returns-then-is_empty-clause-now
returns-then-is_empty-clause-now c = λ v s q.
    sat_down c.self.inside.seats.items _ c.self.inside.others.keys c.seat_of-at.result c.args.caller c.args.site c.args.proc c.seat_of-at.ensures refl
    (search rules) c.self.invariant v s q
    ∙ ap (λ (x : Seating). has_seated x v s q || is_key v s q (c.args.caller, c.args.site, c.args.proc)) c.self.view_is

pub returns-clause-now : goal.returns-clause-now
returns-clause-now c = λ v s q.
    other_now c.self.inside.seats.items c.self.inside.others.keys c.insert.new.self.keys c.args.caller c.args.site c.args.proc c.in_ok-insert.field-0 (search rules) c.in_ok-insert.ensures.added c.in_ok-insert.ensures.keys v s q
    ∙ ap (λ (x : Seating). has_seated x v s q || is_key v s q (c.args.caller, c.args.site, c.args.proc)) c.self.view_is
