use Rattle.std.proofs.Common.{◌≡◌, ◌<◌, ◌^◌, ◌++◌, ◌∷◌, [], ℕ, List, sym, ap, ◌∙◌, arith, rules}
use Rattle.md_clique.specs.Cliques.{clique_count}
use Rattle.md_cost.proofs.ViewSteps.{view_cliques}
use Rattle.md_cost.proofs.ValidSteps.{valid_sound}
use Rattle.md_people.specs.Tree.{clique_total}
use Rattle.md_tree.specs.declared.branch.Branch.{Branch}
use Rattle.md_tree.specs.Children.{AreChildren, Child}
use Rattle.md_tree.specs.Rests.{IsNext}
use Rattle.md_tree.proofs.Left.{of_next}
use Rattle.md_tree.proofs.Steps.{branches_hidden, branches_shown, less_hidden, less_shown, level_below, room, step_hidden, step_shown}
use Rattle.md_tree.proofs.tree.go_on.Goals as goal

pub overflow_add-branch : goal.overflow_add-branch
overflow_add-branch c =
    let n = clique_count c.args.loaded.now.cliques in
    let child : Child = (c.in-Some._parent, c.in-Some.total, c.in-Some.clique) in
    let below = level_below n c.args.children.now c.requires.children c.args.branch c.requires.branch child c.in-Some.ensures in
    omega arith

pub past_hidden-requires-clause-hidden : goal.past_hidden-requires-clause-hidden
past_hidden-requires-clause-hidden c =
    let n = clique_count c.args.loaded.now.cliques in
    let child : Child = (c.in-Some._parent, c.in-Some.total, c.in-Some.clique) in
    room n c.args.children.now c.requires.children c.args.branch c.requires.branch child c.in-Some.ensures

pub returns-in_ok-push-2-clause-rows : goal.returns-in_ok-push-2-clause-rows
returns-in_ok-push-2-clause-rows c = λ v viewed.
    let l = c.args.loaded.now in
    let cs = c.args.children.now in
    let b = c.args.branch in
    let child : Child = (c.in-Some._parent, c.in-Some.total, c.in-Some.clique) in
    let next : IsNext cs b.rest child = c.in-Some.ensures in
    let sound = (valid_sound l.profile c.profile-profile.ensures.valid).links in
    let count : clique_count v.cliques ≡ clique_count l.cliques = ap (λ (ks : List ℕ). clique_count ks) (view_cliques l.profile sound l.cliques l.entries c.profile-profile.ensures.loaded.tree v viewed) in
    let are : AreChildren (clique_count v.cliques) cs = rw count c.requires.children in
    let told = c.requires.view v viewed in
    let total = of_next (λ (x : Child). x.1.0 ≡ clique_total v c.args.scale.by x.2) cs b.rest child told.totals next in
    let shown = sym (c.is_shown.ensures v child.2 (c.requires.whole v viewed) total) ∙ c.if-is_shown.true in
    let after = c.in_ok-push-2.ensures.items ∙ ap (λ (bs : List Branch). bs ++ c.branch_below.result ∷ []) (c.in_ok-push.ensures.items ∙ ap (λ (d : Branch). c.args.branches.now.items ++ d ∷ []) c.past_shown.ensures) in
    step_shown v c.args.scale.by c.args.scale.least cs are told b c.branch_below.result child c.args.rows.now.ended c.push_clique.new.rows.ended c.args.branches.now.items c.push-then-is_shown.new.self.items
    next c.branch_below.ensures.rest c.branch_below.ensures.branch shown (c.in_ok-push_clique.ensures v viewed) after

pub returns-in_ok-push-2-clause-branches : goal.returns-in_ok-push-2-clause-branches
returns-in_ok-push-2-clause-branches c =
    let n = clique_count c.args.loaded.now.cliques in
    let child : Child = (c.in-Some._parent, c.in-Some.total, c.in-Some.clique) in
    let after = c.in_ok-push-2.ensures.items ∙ ap (λ (bs : List Branch). bs ++ c.branch_below.result ∷ []) (c.in_ok-push.ensures.items ∙ ap (λ (d : Branch). c.args.branches.now.items ++ d ∷ []) c.past_shown.ensures) in
    branches_shown n c.args.children.now c.requires.children c.args.branch c.requires.branch child c.in-Some.ensures c.args.branches.now.items c.push-then-is_shown.new.self.items c.requires.branches
    c.branch_below.result c.branch_below.ensures.rest c.branch_below.ensures.branch after

pub returns-in_ok-push-2-clause-work : goal.returns-in_ok-push-2-clause-work
returns-in_ok-push-2-clause-work c =
    let n = clique_count c.args.loaded.now.cliques in
    let child : Child = (c.in-Some._parent, c.in-Some.total, c.in-Some.clique) in
    let after = c.in_ok-push-2.ensures.items ∙ ap (λ (bs : List Branch). bs ++ c.branch_below.result ∷ []) (c.in_ok-push.ensures.items ∙ ap (λ (d : Branch). c.args.branches.now.items ++ d ∷ []) c.past_shown.ensures) in
    less_shown n c.args.children.now c.requires.children c.args.branch c.requires.branch child c.in-Some.ensures c.args.branches.now.items c.push-then-is_shown.new.self.items c.requires.branches
    c.branch_below.result c.branch_below.ensures.rest after

pub returns-in_ok-push-3-clause-rows : goal.returns-in_ok-push-3-clause-rows
returns-in_ok-push-3-clause-rows c = λ v viewed.
    let l = c.args.loaded.now in
    let cs = c.args.children.now in
    let b = c.args.branch in
    let child : Child = (c.in-Some._parent, c.in-Some.total, c.in-Some.clique) in
    let next : IsNext cs b.rest child = c.in-Some.ensures in
    let sound = (valid_sound l.profile c.profile-profile.ensures.valid).links in
    let count : clique_count v.cliques ≡ clique_count l.cliques = ap (λ (ks : List ℕ). clique_count ks) (view_cliques l.profile sound l.cliques l.entries c.profile-profile.ensures.loaded.tree v viewed) in
    let are : AreChildren (clique_count v.cliques) cs = rw count c.requires.children in
    let told = c.requires.view v viewed in
    let total = of_next (λ (x : Child). x.1.0 ≡ clique_total v c.args.scale.by x.2) cs b.rest child told.totals next in
    let hidden = sym (c.is_shown.ensures v child.2 (c.requires.whole v viewed) total) ∙ c.if-is_shown.false in
    let after = c.in_ok-push-3.ensures.items ∙ ap (λ (d : Branch). c.args.branches.now.items ++ d ∷ []) c.past_hidden.ensures in
    step_hidden v c.args.scale.by c.args.scale.least cs are told b child c.in-Some.total.0 c.args.rows.now.ended c.args.branches.now.items c.push-else-is_shown.new.self.items next total hidden after

pub returns-in_ok-push-3-clause-branches : goal.returns-in_ok-push-3-clause-branches
returns-in_ok-push-3-clause-branches c =
    let n = clique_count c.args.loaded.now.cliques in
    let child : Child = (c.in-Some._parent, c.in-Some.total, c.in-Some.clique) in
    let small : c.in-Some.total.0 < 2 ^ 64 = search rules in
    let after = c.in_ok-push-3.ensures.items ∙ ap (λ (d : Branch). c.args.branches.now.items ++ d ∷ []) c.past_hidden.ensures in
    branches_hidden n c.args.children.now c.requires.children c.args.branch c.requires.branch child c.in-Some.ensures c.args.branches.now.items c.push-else-is_shown.new.self.items c.requires.branches c.in-Some.total.0 small after

pub returns-in_ok-push-3-clause-work : goal.returns-in_ok-push-3-clause-work
returns-in_ok-push-3-clause-work c =
    let n = clique_count c.args.loaded.now.cliques in
    let child : Child = (c.in-Some._parent, c.in-Some.total, c.in-Some.clique) in
    let after = c.in_ok-push-3.ensures.items ∙ ap (λ (d : Branch). c.args.branches.now.items ++ d ∷ []) c.past_hidden.ensures in
    less_hidden n c.args.children.now c.requires.children c.args.branch c.requires.branch child c.in-Some.ensures c.args.branches.now.items c.push-else-is_shown.new.self.items c.requires.branches c.in-Some.total.0 after
