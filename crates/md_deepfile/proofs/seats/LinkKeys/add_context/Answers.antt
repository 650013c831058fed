use Rattle.std.proofs.Common.{rules, ap, ◌∙◌}
use Rattle.md_deepfile.specs.Sets.{Seating, has_seated}
use Rattle.md_deepfile.proofs.Sitting.{nobody_seated, seats_more}
use Rattle.md_deepfile.proofs.seats.LinkKeys.add_context.Goals as goal

pub invariant_of-self-2 : goal.invariant_of-self-2
invariant_of-self-2 c =
    nobody_seated c.self.inside.seats.items c.extend_from_slice.new.self.items c.self.inside.others.keys (λ v s q. ap (λ (x : Seating). has_seated x v s q) c.self.view_is ∙ c.requires v s q)

pub returns : goal.returns
returns c =
    seats_more c.self.inside.seats.items c.extend_from_slice.new.self.items c.self.inside.others.keys (search rules) (λ v s q. ap (λ (x : Seating). has_seated x v s q) c.self.view_is ∙ c.requires v s q)
