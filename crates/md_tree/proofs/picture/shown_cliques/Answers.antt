use Rattle.std.proofs.Common.{◌≡◌, ◌<◌, ℕ, List, None, ap, subst, ◌∙◌}
use Rattle.std.specs.Prelude.{All}
use Rattle.std.proofs.lemmas.Bool.{ne_eqb}
use Rattle.md_base.specs.declared.measure.Measure.{Measure}
use Rattle.md_clique.specs.Cliques.{clique_count}
use Rattle.md_cost.proofs.ValidSteps.{valid_sound}
use Rattle.md_cost.proofs.ViewSteps.{some_cliques, view_cliques}
use Rattle.md_people.specs.Counts.{whole_of}
use Rattle.md_tree.specs.declared.picture.CliqueBox.{CliqueBox}
use Rattle.md_tree.specs.Picture.{boxes_from}
use Rattle.md_tree.proofs.There.{from_there}
use Rattle.md_tree.proofs.picture.shown_cliques.Goals as goal

pub boxes_of-requires-clause-view : goal.boxes_of-requires-clause-view
boxes_of-requires-clause-view c = λ v viewed. rw (c.scale_of-scale.ensures.by, c.deref.ensures.value) (c.in_ok-children.ensures.view v viewed)

pub returns-clause-boxes : goal.returns-clause-boxes
returns-clause-boxes c = λ v viewed.
    let some : whole_of v c.args.by ≡ 0 → ⊥ = λ none. c.if-scale-eq0.false (c.scale_of-scale.ensures.whole v viewed ∙ none) in
    rw (ne_eqb (whole_of v c.args.by) 0 some) (
    c.in_ok-boxes.ensures v viewed
    ∙ ap (λ (by : Measure). boxes_from v by c.scale_of-scale.result.least (clique_count v.cliques) 0 None 0 0 0) c.scale_of-scale.ensures.by
    ∙ ap (λ (least : ℕ). boxes_from v c.args.by least (clique_count v.cliques) 0 None 0 0 0) c.scale_of-scale.ensures.least)

pub returns-clause-there : goal.returns-clause-there
returns-clause-there c =
    let l = c.args.loaded.now in
    let by = c.scale_of-scale.result.by in
    let least = c.scale_of-scale.result.least in
    let sound = (valid_sound l.profile c.profile-profile.ensures.valid).links in
    let tree = c.profile-profile.ensures.loaded.tree in
    let v = c.profile-profile.ensures.viewed.0 in
    let viewed = c.profile-profile.ensures.viewed.1 in
    let count : clique_count v.cliques ≡ clique_count l.cliques = ap (λ (ks : List ℕ). clique_count ks) (view_cliques l.profile sound l.cliques l.entries tree v viewed) in
    let some : 0 < clique_count v.cliques = rw count (some_cliques l.profile sound l.cliques l.entries tree) in
    let boxes = boxes_from v by least (clique_count v.cliques) 0 None 0 0 0 in
    rw (c.in_ok-boxes.ensures v viewed) (
    subst (λ (n : ℕ). All (λ (b : CliqueBox). b.clique < n) boxes) count (from_there v by least (clique_count v.cliques) 0 None 0 0 0 some))
