use Rattle.std.proofs.Common.{◌≡◌, ℕ, suc, ◌-◌, ◌<◌, eqb, length, get_or, ap, ◌∙◌, arith}
use Rattle.md_base.specs.declared.measure.Measure.{Measure}
use Rattle.md_clique.specs.Cliques.{clique_count}
use Rattle.md_cost.specs.SumOf.{sum_of}
use Rattle.md_cost.specs.Paths.{start_of}
use Rattle.md_cost.proofs.ClimbSteps.{Climbed, climbed, climbed_own, climbed_next, climbed_all, room_above, entries_rise, start_there, ends_at}
use Rattle.md_cost.proofs.MemberSteps.{members_climbed, members_room}
use Rattle.md_cost.proofs.totals.climb.Goals as goal
use Rattle.md_cost.proofs.totals.climb.Goals.{In-loop-clique, After-start_of_entry-start, After-sum_of_members-total}

pub loop-clique-init : goal.loop-clique-init
loop-clique-init c =
    let count = c.count-clique.ensures in
    climbed_own c.args.cliques.now (start_of c.args.links.now c.args.entries.now) c.args.links.now (entries_rise c.args.cliques.now c.args.entries.now c.args.links.now c.requires.rise) (ends_at c.args.cliques.now c.args.links.now c.requires.ends) c.args.sums.now c.requires.own (c.count-clique.result - 1) (omega arith)

few : (c : In-loop-clique) → c.loop-clique.clique - 1 < clique_count c.args.cliques.now
few c = let count = c.count-clique.ensures in let le = c.loop-clique.auto.clique in omega arith

pub start_of_entry-start-requires-clause-starts : goal.start_of_entry-start-requires-clause-starts
start_of_entry-start-requires-clause-starts c =
    let rise = c.requires.rise (c.loop-clique.clique - 1) (omega arith) (few c) in
    (rise.row, rise.start, rise.there, rise.caller)

-- the clique is not 0, so one is left below it
more : (c : In-loop-clique) → c.loop-clique.clique - 1 ≡ suc (c.loop-clique.clique - 1 - 1)
more c = omega arith

kept : (c : In-loop-clique) → Climbed c.args.cliques.now (start_of c.args.links.now c.args.entries.now) c.args.links.now (suc (c.loop-clique.clique - 1 - 1)) c.loop-clique.sums
kept c = rw (more c) at c.loop-clique.invariant

few_more : (c : In-loop-clique) → suc (c.loop-clique.clique - 1 - 1) < clique_count c.args.cliques.now
few_more c = let f = few c in let m = more c in omega arith

there : (c : In-loop-clique) → start_of c.args.links.now c.args.entries.now (suc (c.loop-clique.clique - 1 - 1)) < length c.args.cliques.now
there c = start_there c.args.cliques.now c.args.entries.now c.args.links.now c.requires.rise (suc (c.loop-clique.clique - 1 - 1)) (omega arith) (few_more c)

start_at : (c : After-start_of_entry-start) → c.loop-clique.clique - 1 ≡ suc (c.loop-clique.clique - 1 - 1) → c.start_of_entry-start.result ≡ start_of c.args.links.now c.args.entries.now (suc (c.loop-clique.clique - 1 - 1))
start_at c e = c.start_of_entry-start.ensures ∙ ap (start_of c.args.links.now c.args.entries.now) e

-- what the clique hands up is its total
total_is : (c : After-sum_of_members-total) → c.loop-clique.clique - 1 ≡ suc (c.loop-clique.clique - 1 - 1) → (m : Measure) → sum_of c.sum_of_members-total.result m ≡ climbed c.args.cliques.now (start_of c.args.links.now c.args.entries.now) c.args.links.now (suc (c.loop-clique.clique - 1 - 1)) (λ d. eqb (get_or c.args.cliques.now d 0) (suc (c.loop-clique.clique - 1 - 1))) m
total_is c e m =
    c.sum_of_members-total.ensures m
    ∙ members_climbed c.args.cliques.now (start_of c.args.links.now c.args.entries.now) (entries_rise c.args.cliques.now c.args.entries.now c.args.links.now c.requires.rise) (start_there c.args.cliques.now c.args.entries.now c.args.links.now c.requires.rise) c.args.links.now (ends_at c.args.cliques.now c.args.links.now c.requires.ends) (c.loop-clique.clique - 1) c.loop-clique.sums c.loop-clique.invariant.of_node (c.loop-clique.clique - 1) m
    ∙ ap (λ (k : ℕ). climbed c.args.cliques.now (start_of c.args.links.now c.args.entries.now) c.args.links.now k (λ d. eqb (get_or c.args.cliques.now d 0) k) m) e

pub sum_of_members-total-requires-clause-room : goal.sum_of_members-total-requires-clause-room
sum_of_members-total-requires-clause-room c =
    λ m. members_room c.args.cliques.now (start_of c.args.links.now c.args.entries.now) (entries_rise c.args.cliques.now c.args.entries.now c.args.links.now c.requires.rise) (start_there c.args.cliques.now c.args.entries.now c.args.links.now c.requires.rise) c.args.links.now (ends_at c.args.cliques.now c.args.links.now c.requires.ends) (c.loop-clique.clique - 1) c.loop-clique.sums c.loop-clique.invariant.of_node (c.loop-clique.clique - 1) m c.requires.few c.requires.small

pub slice_copy_out-plus : goal.slice_copy_out-plus
slice_copy_out-plus c =
    let l = (goal.at.slice_copy_out-plus c).In-loop-clique in
    let start = start_at (goal.at.slice_copy_out-plus c).After-start_of_entry-start (more l) in
    let t = there l in
    let each = c.loop-clique.invariant.each_node in
    omega arith

pub bounds-sums-start : goal.bounds-sums-start
bounds-sums-start c =
    let l = (goal.at.bounds-sums-start c).In-loop-clique in
    let start = start_at (goal.at.bounds-sums-start c).After-start_of_entry-start (more l) in
    let t = there l in
    let each = c.loop-clique.invariant.each_node in
    omega arith

pub plus-sum-requires : goal.plus-sum-requires
plus-sum-requires c =
    let l = (goal.at.plus-sum-requires c).In-loop-clique in
    let start = start_at (goal.at.plus-sum-requires c).After-start_of_entry-start (more l) in
    let total = total_is (goal.at.plus-sum-requires c).After-sum_of_members-total (more l) in
    λ m. rw start (room_above c.args.cliques.now (start_of c.args.links.now c.args.entries.now) c.args.links.now (entries_rise c.args.cliques.now c.args.entries.now c.args.links.now c.requires.rise) (ends_at c.args.cliques.now c.args.links.now c.requires.ends) (c.loop-clique.clique - 1 - 1) c.loop-clique.sums (kept l) (few_more l) (there l) c.sum_of_members-total.result total c.requires.few c.requires.small m)

pub loop-clique-preserved : goal.loop-clique-preserved
loop-clique-preserved c =
    let l = (goal.at.loop-clique-preserved c).In-loop-clique in
    let start = start_at (goal.at.loop-clique-preserved c).After-start_of_entry-start (more l) in
    let total = total_is (goal.at.loop-clique-preserved c).After-sum_of_members-total (more l) in
    rw start (climbed_next c.args.cliques.now (start_of c.args.links.now c.args.entries.now) c.args.links.now (entries_rise c.args.cliques.now c.args.entries.now c.args.links.now c.requires.rise) (ends_at c.args.cliques.now c.args.links.now c.requires.ends) (c.loop-clique.clique - 1 - 1) c.loop-clique.sums (kept l) (few_more l) (there l) c.sum_of_members-total.result total c.plus-sum.result
    (λ m. rw start at (c.plus-sum.ensures m)))

pub returns : goal.returns
returns c =
    let count = c.count-clique.ensures in
    let last : c.loop-clique.clique - 1 ≡ 0 = omega arith in
    climbed_all c.args.cliques.now c.args.entries.now c.args.links.now c.loop-clique.sums (rw last at c.loop-clique.invariant)
