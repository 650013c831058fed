use Rattle.std.proofs.Common.{subst, ◌≡◌, ◌-◌, ℕ, suc, length, map, get_or, ap, ◌∙◌, arith}
use Rattle.std.proofs.lemmas.List.{get_or_read, length-map}
use Rattle.md_cost.specs.Paths.{start_of}
use Rattle.md_cost.specs.Walking.{above, at_bound}
use Rattle.md_cost.proofs.ThreadSteps.{Threaded, Upped, bounds_none, bounds_more, threaded_all, upped_none, upped_more, upped_all}
use Rattle.md_cost.proofs.descent.descend.Goals as goal
use Rattle.md_cost.proofs.descent.descend.Goals.{After-above-parent}

pub loop-node-init : goal.loop-node-init
loop-node-init c =
    let parent = above c.args.tree.now.cliques (start_of c.args.links.now c.args.tree.now.entries.items) in
    let first = c.in_ok-first.ensures.items_if_clones_equal (λ y h. h) in
    let next = c.in_ok-next.ensures.items_if_clones_equal (λ y h. h) in
    let up = c.in_ok-up.ensures.items_if_clones_equal (λ y h. h) in
    record { threads = rw (first, next) (bounds_none c.args.nodes parent); ups = rw up (upped_none c.args.nodes parent) }

first_long : (c : After-above-parent) → length c.loop-node.first.items ≡ suc c.args.nodes
first_long c = let each = c.loop-node.invariant.threads.each_first in let long = length-map c.loop-node.first.items at_bound in omega arith

pub index_mut-requires-in-loop-node : goal.index_mut-requires-in-loop-node
index_mut-requires-in-loop-node c = let each = c.loop-node.invariant.threads.each_next in let long = length-map c.loop-node.next.items at_bound in let ok = c.loop-node.next.ok.0 in omega arith

pub loop-node-preserved : goal.loop-node-preserved
loop-node-preserved c =
    let a = (goal.at.loop-node-preserved c).After-above-parent in
    let parent = above c.args.tree.now.cliques (start_of c.args.links.now c.args.tree.now.entries.items) in
    let j = c.loop-node.node - 1 in
    let more : c.loop-node.node ≡ suc j = omega arith in
    let before : Threaded c.args.nodes parent (suc j) (map at_bound c.loop-node.first.items) (map at_bound c.loop-node.next.items) = rw more at c.loop-node.invariant.threads in
    let ups : Upped c.args.nodes parent (suc j) c.loop-node.up.items = rw more at c.loop-node.invariant.ups in
    let is : c.above-parent.result ≡ parent j = c.above-parent.ensures.is in
    let within = c.above-parent.ensures.within in
    let long = first_long a in
    let read : c.index.result.now ≡ get_or c.loop-node.first.items (parent j) 0 = get_or_read c.loop-node.first.items c.above-parent.result c.index.result.now (omega arith) c.index.ensures 0 ∙ ap (λ (p : ℕ). get_or c.loop-node.first.items p 0) is in
    rw (read, is) (record {
      threads = bounds_more c.args.nodes parent j c.loop-node.first.items c.loop-node.next.items (omega arith) (omega arith) before;
      ups = upped_more c.args.nodes parent j c.loop-node.up.items (omega arith) ups;
    })

pub returns-clause-threads : goal.returns-clause-threads
returns-clause-threads c =
    let parent = above c.args.tree.now.cliques (start_of c.args.links.now c.args.tree.now.entries.items) in
    let done : c.loop-node.node ≡ 0 = omega arith in
    threaded_all c.args.nodes parent (map at_bound c.loop-node.first.items) (map at_bound c.loop-node.next.items) (subst (λ (i : ℕ). Threaded c.args.nodes parent i (map at_bound c.loop-node.first.items) (map at_bound c.loop-node.next.items)) done c.loop-node.invariant.threads)

pub returns-clause-up : goal.returns-clause-up
returns-clause-up c =
    let parent = above c.args.tree.now.cliques (start_of c.args.links.now c.args.tree.now.entries.items) in
    let done : c.loop-node.node ≡ 0 = omega arith in
    upped_all c.args.nodes parent c.loop-node.up.items (subst (λ (i : ℕ). Upped c.args.nodes parent i c.loop-node.up.items) done c.loop-node.invariant.ups)

pub above-parent-requires-clause-nodes : goal.above-parent-requires-clause-nodes
above-parent-requires-clause-nodes c = c.requires.nodes

pub above-parent-requires-clause-entries : goal.above-parent-requires-clause-entries
above-parent-requires-clause-entries c = c.requires.entries

pub above-parent-requires-clause-rise : goal.above-parent-requires-clause-rise
above-parent-requires-clause-rise c = c.requires.rise
