use Rattle.std.proofs.Common.{◌≡◌, ◌<◌, length, Some, refl, ◌∙◌}
use Rattle.std.specs.List.{slice_get}
use Rattle.std.proofs.lemmas.Option.{slice_get_read}
use Rattle.md_cost.specs.View.{OfLink}
use Rattle.md_cost.proofs.ValidSteps.{valid_sound}
use Rattle.md_cost.proofs.ViewSteps.{view_own}
use Rattle.md_cost.proofs.loaded.Loaded.link_own.Goals as goal

pub returns : goal.returns
returns c =
    let there : c.args.link < length c.self.inside.profile.links = rw (← c.self.view_is) at c.requires in
    let row_is = rw (c.links-links.ensures, c.number.ensures) at c.index-links-number.is in
    let at : slice_get c.self.inside.profile.links c.args.link ≡ Some c.index-links-number.result = slice_get_read c.self.inside.profile.links (length c.self.inside.profile.links) c.args.link c.index-links-number.result refl there row_is in
    λ v m is. view_own c.self.inside.profile (valid_sound c.self.inside.profile c.self.invariant.valid).links c.self.inside.tree.cliques c.self.inside.tree.entries.items c.self.invariant.tree v (rw (← c.self.view_is) at is) (OfLink c.args.link) m ∙ (rw (at, c.from_counts.ensures.value m) (rw (← c.index-links-number.is) refl))
