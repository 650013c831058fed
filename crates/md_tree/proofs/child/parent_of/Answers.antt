use Rattle.std.proofs.Common.{◌≡◌, ℕ, get_or, sym, ap, ◌∙◌, arith}
use Rattle.md_cost.specs.Paths.{start_of}
use Rattle.md_cost.proofs.ValidSteps.{valid_sound}
use Rattle.md_people.proofs.StationSteps.{start_lower}
use Rattle.md_tree.proofs.Parents.{parent_told}
use Rattle.md_tree.proofs.child.parent_of.Goals as goal

pub returns-clause-lower : goal.returns-clause-lower
returns-clause-lower c =
    let l = c.args.loaded.now in
    let sound = (valid_sound l.profile c.profile-profile.ensures.valid).links in
    let low = start_lower l.profile sound l.cliques l.entries c.profile-profile.ensures.loaded.tree c.args.clique c.requires.some c.requires.there in
    let is : c.clique_of.result ≡ get_or l.cliques (start_of l.profile.links l.entries c.args.clique) 0 = c.clique_of.ensures.number ∙ ap (λ (d : ℕ). get_or l.cliques d 0) c.entered_from.ensures in
    omega arith

pub returns-clause-view : goal.returns-clause-view
returns-clause-view c = λ v viewed.
    let l = c.args.loaded.now in
    let sound = (valid_sound l.profile c.profile-profile.ensures.valid).links in
    c.clique_of.ensures.number ∙ ap (λ (d : ℕ). get_or l.cliques d 0) c.entered_from.ensures
    ∙ sym (parent_told l.profile sound l.cliques l.entries c.profile-profile.ensures.loaded.tree v viewed c.args.clique)
