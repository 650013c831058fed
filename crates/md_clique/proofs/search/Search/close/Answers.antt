use Rattle.std.proofs.Common.{◌≡◌, ◌-◌, length, take, arith}
use Rattle.std.proofs.lemmas.List.{get_or_read, take_rest, with_items_is}
use Rattle.md_clique.specs.Search.{last_first}
use Rattle.md_clique.specs.Kept.{kept}
use Rattle.md_clique.proofs.Close.{Closes, close_stands, close_works, close_renews, closes_from_part, closed_there}
use Rattle.md_clique.proofs.search.Search.close.Given.{Over}
use Rattle.md_clique.proofs.search.Search.close.Goals as goal
use Rattle.md_clique.proofs.search.Search.close.Goals.{After-index, After-close_nodes}

first_is : (g : Over) (c : After-index g) → c.index.result.now ≡ last_first c.args.self.now.first.items
first_is g c =
    let o = c.args.self.now.first.ok.0 in
    let may = c.requires.1.1 in
    let some = may.some in
    let n : c.len.result - 1 ≡ length c.args.self.now.first.items - 1 = omega arith in
    rw (← n) (get_or_read c.args.self.now.first.items (c.len.result - 1) c.index.result.now (omega arith) c.index.ensures 0)

closes : (g : Over) (c : After-close_nodes g) → c.index.result.now ≡ last_first c.args.self.now.first.items → Closes c.args.self.now.trail.items (last_first c.args.self.now.first.items) c.args.self.now.count c.args.self.now.states.items c.close_nodes.new.states
closes g c first =
    let rest = take_rest c.deref.result.now c.index.result.now in
    let trail = c.deref.ensures.value in
    let states = c.deref_mut.ensures.value in
    closes_from_part c.args.self.now.trail.items (last_first c.args.self.now.first.items) c.args.self.now.count c.args.self.now.states.items c.close_nodes.new.states
    (rw states at c.close_nodes.auto.states)
    (rw (rest, trail, first) at c.close_nodes.ensures.closed)
    (rw (rest, trail, first, states) at c.close_nodes.ensures.others)

pub returns-clause-stands : goal.returns-clause-stands
returns-clause-stands g c =
    let first = first_is g (goal.at.returns-clause-stands g c).After-index in
    let done = closes g (goal.at.returns-clause-stands g c).After-close_nodes first in
    let o = c.args.self.now.first.ok.0 in
    let r = c.pop.ensures.rest in
    let popped : c.pop.new.self.items ≡ take (length c.args.self.now.first.items - 1) c.args.self.now.first.items = cc in
    let cut : c.truncate.new.self.items ≡ take (last_first c.args.self.now.first.items) c.args.self.now.trail.items = rw (← first) c.truncate.ensures.items in
    let written = with_items_is c.args.self.now.states c.close_nodes.new.states (rw c.deref_mut.ensures.len at c.close_nodes.auto.states) in
    rw (cut, popped, written) (close_stands g.links c.args.lists.now (kept c.args.self.now) c.requires.0 c.requires.1.0 c.requires.1.1 c.close_nodes.new.states done)

pub returns-clause-works : goal.returns-clause-works
returns-clause-works g c =
    let first = first_is g (goal.at.returns-clause-works g c).After-index in
    let done = closes g (goal.at.returns-clause-works g c).After-close_nodes first in
    let o = c.args.self.now.first.ok.0 in
    let r = c.pop.ensures.rest in
    let popped : c.pop.new.self.items ≡ take (length c.args.self.now.first.items - 1) c.args.self.now.first.items = cc in
    let written = with_items_is c.args.self.now.states c.close_nodes.new.states (rw c.deref_mut.ensures.len at c.close_nodes.auto.states) in
    rw (popped, written) (close_works g.links c.args.lists.now (kept c.args.self.now) c.requires.0 c.requires.1.0 c.requires.1.1 c.close_nodes.new.states done)

pub returns-clause-states : goal.returns-clause-states
returns-clause-states g c =
    let first = first_is g (goal.at.returns-clause-states g c).After-index in
    let done = closes g (goal.at.returns-clause-states g c).After-close_nodes first in
    let written = with_items_is c.args.self.now.states c.close_nodes.new.states (rw c.deref_mut.ensures.len at c.close_nodes.auto.states) in
    rw written (close_renews g.links c.args.lists.now (kept c.args.self.now) c.requires.0 c.requires.1.0 c.requires.1.1 c.close_nodes.new.states done)

pub close_nodes-requires : goal.close_nodes-requires
close_nodes-requires g c =
    let rest = take_rest c.deref.result.now c.index.result.now in
    let trail = c.deref.ensures.value in
    let states = c.deref_mut.ensures.value in
    rw (rest, trail, states) (closed_there g.links c.args.lists.now (kept c.args.self.now) c.index.result.now c.requires.1.0)
