use Rattle.std.proofs.Common.{ℕ, List, sym, ap}
use Rattle.md_clique.specs.Cliques.{clique_count}
use Rattle.md_cost.proofs.ValidSteps.{valid_sound}
use Rattle.md_cost.proofs.ViewSteps.{some_cliques, view_cliques}
use Rattle.md_tree.proofs.Sorting.{sorted_children, sorted_of_view}
use Rattle.md_tree.proofs.child.children_of.Goals as goal

pub returns-clause-children : goal.returns-clause-children
returns-clause-children c =
    let l = c.args.loaded.now in
    let sound = (valid_sound l.profile c.profile-profile.ensures.valid).links in
    let some = some_cliques l.profile sound l.cliques l.entries c.profile-profile.ensures.loaded.tree in
    let told = c.in_ok-children.ensures in
    sorted_children (clique_count l.cliques) some c.counted.ensures.few c.in_ok-children.children.items c.sort_unstable.new.self.items told.cliques told.lower c.sort_unstable.ensures.permutation c.sort_unstable.ensures.sorted

pub returns-clause-view : goal.returns-clause-view
returns-clause-view c = λ v viewed.
    let l = c.args.loaded.now in
    let sound = (valid_sound l.profile c.profile-profile.ensures.valid).links in
    let tree = c.profile-profile.ensures.loaded.tree in
    let some = some_cliques l.profile sound l.cliques l.entries tree in
    let count = ap (λ (ks : List ℕ). clique_count ks) (sym (view_cliques l.profile sound l.cliques l.entries tree v viewed)) in
    let told = c.in_ok-children.ensures in
    sorted_of_view (clique_count l.cliques) some c.counted.ensures.few c.in_ok-children.children.items c.sort_unstable.new.self.items told.cliques told.lower c.sort_unstable.ensures.permutation c.sort_unstable.ensures.sorted v c.args.by count (told.view v viewed)
