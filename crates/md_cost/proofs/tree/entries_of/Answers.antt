use Rattle.std.proofs.Common.{◌≡◌, ℕ, length, Some, refl, sym, subst, arith}
use Rattle.std.specs.List.{slice_get}
use Rattle.std.proofs.lemmas.Option.{slice_get_read}
use Rattle.md_trace.specs.Cliques.{AreCliques}
use Rattle.md_clique.specs.Entries.{edges_of, AreReached, MayFault}
use Rattle.md_clique.specs.Found.{AreFound}
use Rattle.md_cost.specs.Paths.{ends}
use Rattle.md_cost.specs.Tree.{MayRefuse}
use Rattle.md_cost.proofs.TreeSteps.{ends_at, ends_there, start_there, length-ends, reached, if_err, refuses}
use Rattle.md_cost.proofs.tree.entries_of.Goals as goal
use Rattle.md_cost.proofs.tree.entries_of.Goals.{After-index-links-place, After-into_places}

link_at : (c : After-index-links-place) → slice_get c.args.links.now c.loop-place.place ≡ Some c.index-links-place.result
link_at c = slice_get_read c.args.links.now (length c.args.links.now) c.loop-place.place c.index-links-place.result refl c.loop-place-test.true c.index-links-place.is

pub loop-place-init : goal.loop-place-init
loop-place-init c = c.in_ok-found.ensures.none (ends c.args.links.now)

pub add-requires-clause-place : goal.add-requires-clause-place
add-requires-clause-place c = let few = c.requires.sound.few_links in let lt = c.loop-place-test.true in omega arith

pub add-requires-clause-end : goal.add-requires-clause-end
add-requires-clause-end c =
    let l = (goal.at.add-requires-clause-end c).After-index-links-place in
    let there = (ends_there c.args.nodes c.args.links.now c.requires.sound c.loop-place.place c.index-links-place.result (link_at l)).0 in
    let size = c.requires.cliques.each in
    let number = c.number.ensures in
    omega arith

pub add-requires-clause-start : goal.add-requires-clause-start
add-requires-clause-start c =
    let l = (goal.at.add-requires-clause-start c).After-index-links-place in
    rw (c.start_of.ensures, c.requires.cliques.each) (start_there c.args.nodes c.args.links.now c.requires.sound c.loop-place.place c.index-links-place.result (link_at l))

pub loop-place-preserved : goal.loop-place-preserved
loop-place-preserved c =
    let l = (goal.at.loop-place-preserved c).After-index-links-place in
    rw (c.start_of.ensures, c.number.ensures) at c.add.ensures.found (ends c.args.links.now) c.loop-place.invariant (ends_at c.args.links.now c.loop-place.place c.index-links-place.result (link_at l))

all_found : (c : After-into_places) → AreFound c.args.cliques.now (ends c.args.links.now) (length (ends c.args.links.now)) c.loop-place.found.first.items c.loop-place.found.twice
all_found c =
    let size = length-ends c.args.links.now in
    let end = c.loop-place.auto.place-end in
    let last = c.loop-place-test.false in
    let done : c.loop-place.place ≡ length (ends c.args.links.now) = omega arith in
    subst (λ (k : ℕ). AreFound c.args.cliques.now (ends c.args.links.now) k c.loop-place.found.first.items c.loop-place.found.twice) done c.loop-place.invariant

are : (c : After-into_places) → AreCliques (length c.args.cliques.now) (edges_of (ends c.args.links.now)) c.args.cliques.now
are c = subst (λ (n : ℕ). AreCliques n (edges_of (ends c.args.links.now)) c.args.cliques.now) (sym c.requires.cliques.each) c.requires.cliques

are_reached : (c : After-into_places) → AreReached (ends c.args.links.now) (length c.args.cliques.now)
are_reached c = subst (λ (n : ℕ). AreReached (ends c.args.links.now) n) (sym c.requires.cliques.each) (reached c.args.nodes c.args.links.now c.requires.sound)

pub returns-clause-one : goal.returns-clause-one
returns-clause-one c = let a = (goal.at.returns-clause-one c).After-into_places in c.into_places.ensures.one c.args.cliques.now (ends c.args.links.now) (all_found a) (are a) (are_reached a)

pub returns-clause-two : goal.returns-clause-two
returns-clause-two c =
    let a = (goal.at.returns-clause-two c).After-into_places in
    if_err (λ fault. MayFault c.args.cliques.now (ends c.args.links.now) fault) (λ fault. MayRefuse c.args.nodes c.args.links.now fault) c.into_places.result (λ fault may. refuses c.args.nodes c.args.links.now c.args.cliques.now c.requires.cliques fault may)
    (c.into_places.ensures.two c.args.cliques.now (ends c.args.links.now) (all_found a) (are a) (are_reached a))
