use Rattle.std.proofs.Common.{◌≡◌, ◌<◌, ◌++◌, ◌∷◌, [], ℕ, List, Some, sym, ap, ◌∙◌, arith}
use Rattle.std.proofs.lemmas.List.{append-nil, append_assoc, nil_from_length}
use Rattle.std.proofs.lemmas.List.Elements.{All-cons, All-nil, All-pop}
use Rattle.std.proofs.lemmas.List.Sums.{sum_by_push}
use Rattle.md_clique.specs.Cliques.{clique_count}
use Rattle.md_cost.proofs.ViewSteps.{some_cliques, view_cliques}
use Rattle.md_cost.proofs.ValidSteps.{valid_sound}
use Rattle.md_table.specs.Table.{LineCells}
use Rattle.md_people.specs.Tree.{clique_row}
use Rattle.md_tree.specs.declared.branch.Branch.{Branch}
use Rattle.md_tree.specs.Children.{AreChildren}
use Rattle.md_tree.specs.Branches.{IsBranch, branch_rows, open_rows, open_work}
use Rattle.md_tree.specs.Rests.{rest_work}
use Rattle.md_tree.proofs.RestSteps.{whole_rest}
use Rattle.md_tree.proofs.Steps.{open_push, whole_rows}
use Rattle.md_tree.proofs.tree.push_rows.Goals as goal

pub loop-branch-init : goal.loop-branch-init
loop-branch-init c =
    let l = c.args.loaded.now in
    let cs = c.args.children.now in
    let n = clique_count l.cliques in
    let b = c.branch_below.result in
    let sound = (valid_sound l.profile c.profile-profile.ensures.valid).links in
    let tree = c.profile-profile.ensures.loaded.tree in
    let some = some_cliques l.profile sound l.cliques l.entries tree in
    let whole = c.branch_below.ensures.rest in
    let its = whole.parent in
    let start : Branch = record { rest = b.rest; level = 1; hidden = 0; sum = 0 } in
    let at : IsBranch n cs start = record { rest = whole_rest n cs c.requires.children 0 b.rest whole some; level = omega arith; hidden = omega arith; sum = omega arith } in
    let branches_are : c.push.new.self.items ≡ start ∷ [] = c.in_ok-push.ensures.items ∙ ap (λ (xs : List Branch). xs ++ b ∷ []) c.new-branches.ensures.items ∙ ap (λ (x : Branch). x ∷ []) c.branch_below.ensures.branch in
    record {
      rows = λ v viewed.
          let count : clique_count v.cliques ≡ n = ap (λ (ks : List ℕ). clique_count ks) (view_cliques l.profile sound l.cliques l.entries tree v viewed) in
          let are : AreChildren (clique_count v.cliques) cs = rw count c.requires.children in
          let there : 0 < clique_count v.cliques = omega arith in
          let row = clique_row v c.args.scale.by 0 0 in
          let old = c.args.rows.now.ended in
          rw (c.in_ok-push_clique.ensures v viewed, branches_are) (
          append_assoc old (row ∷ []) (open_rows v c.args.scale.by c.args.scale.least cs (start ∷ []))
          ∙ ap (λ (xs : List LineCells). old ++ (row ∷ xs)) (append-nil (branch_rows v c.args.scale.by c.args.scale.least cs start))
          ∙ ap (λ (xs : List LineCells). old ++ xs) (sym (whole_rows v c.args.scale.by c.args.scale.least cs are (c.requires.view v viewed) 0 0 b.rest there whole)));
      branches = rw branches_are (All-cons (IsBranch n cs) start [] at (All-nil (IsBranch n cs)));
    }

pub go_on-requires-clause-branch : goal.go_on-requires-clause-branch
go_on-requires-clause-branch c =
    let n = clique_count c.args.loaded.now.cliques in
    let cs = c.args.children.now in
    (All-pop (IsBranch n cs) c.loop-branch.branches.items c.pop.new.self.items (Some c.in-Some.branch) c.in-Some.ensures.items c.loop-branch.invariant.branches).1

pub go_on-requires-clause-branches : goal.go_on-requires-clause-branches
go_on-requires-clause-branches c =
    let n = clique_count c.args.loaded.now.cliques in
    let cs = c.args.children.now in
    (All-pop (IsBranch n cs) c.loop-branch.branches.items c.pop.new.self.items (Some c.in-Some.branch) c.in-Some.ensures.items c.loop-branch.invariant.branches).0

pub loop-branch-preserved : goal.loop-branch-preserved
loop-branch-preserved c =
    let cs = c.args.children.now in
    record {
      rows = λ v viewed.
          c.in_ok-go_on.ensures.rows v viewed
          ∙ ap (λ (xs : List LineCells). c.loop-branch.rows.ended ++ xs) (sym (open_push v c.args.scale.by c.args.scale.least cs c.pop.new.self.items c.in-Some.branch))
          ∙ ap (λ (bs : List Branch). c.loop-branch.rows.ended ++ open_rows v c.args.scale.by c.args.scale.least cs bs) (sym c.in-Some.ensures.items)
          ∙ c.loop-branch.invariant.rows v viewed;
      branches = c.in_ok-go_on.ensures.branches;
    }

pub loop-branch-smaller : goal.loop-branch-smaller
loop-branch-smaller c =
    let n = clique_count c.args.loaded.now.cliques in
    let cs = c.args.children.now in
    let less = c.in_ok-go_on.ensures.work in
    let split = sum_by_push (λ (x : Branch). rest_work cs n x.rest) c.pop.new.self.items c.in-Some.branch in
    let whole : open_work cs n c.loop-branch.branches.items ≡ open_work cs n (c.pop.new.self.items ++ c.in-Some.branch ∷ []) = ap (λ (bs : List Branch). open_work cs n bs) c.in-Some.ensures.items in
    let fewer : open_work cs n c.go_on.new.branches.items < open_work cs n c.loop-branch.branches.items = omega arith in
    fewer

pub returns : goal.returns
returns c = λ v viewed.
    let cs = c.args.children.now in
    let size = c.loop-branch.branches.ok.0 in
    let empty = c.in_default.ensures.cases.0 in
    let none : c.loop-branch.branches.items ≡ [] = nil_from_length c.loop-branch.branches.items (omega arith) in
    sym (
    ap (λ (bs : List Branch). c.loop-branch.rows.ended ++ open_rows v c.args.scale.by c.args.scale.least cs bs) none
    ∙ append-nil c.loop-branch.rows.ended)
    ∙ c.loop-branch.invariant.rows v viewed
