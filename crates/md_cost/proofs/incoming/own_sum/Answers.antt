use Rattle.std.proofs.Common.{◌≡◌, ℕ, ◌+◌, ◌-◌, ◌<◌, length, get_or, Some, refl, sym, ap, ◌∙◌, subst, arith}
use Rattle.std.specs.List.{slice_get}
use Rattle.std.proofs.lemmas.List.{get_or_read}
use Rattle.std.proofs.lemmas.Option.{slice_get_read}
use Rattle.md_base.specs.declared.measure.Measure.{Measure}
use Rattle.md_base.specs.Counts.{count_of}
use Rattle.md_dynamic.specs.declared.link.LinkRow.{LinkRow}
use Rattle.md_cost.specs.Incoming.{IsBound}
use Rattle.md_cost.specs.SumOf.{sum_of}
use Rattle.md_cost.proofs.IncomingSteps.{Adding, adding_none, adding_more, adding_room}
use Rattle.md_cost.proofs.incoming.own_sum.Goals as goal
use Rattle.md_cost.proofs.incoming.own_sum.Goals.{After-from_counts, After-index-bound-in-loop-bound}

pub loop-bound-init : goal.loop-bound-init
loop-bound-init c =
    let read = get_or_read c.args.incoming.now.last.items c.args.node c.index-bound.result.now c.requires.there c.index-bound.ensures 0 in
    rw read (adding_none c.args.links.now c.args.node (get_or c.args.incoming.now.last.items c.args.node 0) (c.requires.incoming.lasts c.args.node c.requires.there))

-- a link stands right below the bound
place_there : (c : After-from_counts) → c.loop-bound.bound - 1 < length c.args.links.now
place_there c = let le = c.loop-bound.invariant.within in let some = c.loop-bound-test.true in omega arith

kept : (c : After-from_counts) → Adding c.args.links.now c.args.node c.loop-bound.sum (c.loop-bound.bound - 1 + 1)
kept c =
    let some = c.loop-bound-test.true in
    let more : c.loop-bound.bound ≡ c.loop-bound.bound - 1 + 1 = omega arith in
    subst (λ (b : ℕ). Adding c.args.links.now c.args.node c.loop-bound.sum b) more c.loop-bound.invariant

link_at : (c : After-from_counts) → slice_get c.args.links.now (c.loop-bound.bound - 1) ≡ Some c.index-links-place.result
link_at c = slice_get_read c.args.links.now (length c.args.links.now) (c.loop-bound.bound - 1) c.index-links-place.result refl (place_there c) c.index-links-place.is

own_is : (c : After-from_counts) → (m : Measure) → sum_of c.from_counts.result m ≡ count_of c.index-links-place.result.own m
own_is c m = c.from_counts.ensures.value m ∙ ap (λ (r : LinkRow). count_of r.own m) (sym c.index-links-place.is)

pub plus-sum-requires : goal.plus-sum-requires
plus-sum-requires c =
    let l = (goal.at.plus-sum-requires c).After-from_counts in
    adding_room c.args.links.now c.args.node c.loop-bound.sum (c.loop-bound.bound - 1) (kept l) c.index-links-place.result (link_at l) c.from_counts.result (own_is l) c.requires.few c.requires.small

next_is : (c : After-index-bound-in-loop-bound) → c.loop-bound.bound - 1 < length c.args.links.now → c.index-bound-in-loop-bound.result.now ≡ get_or c.args.incoming.now.before.items (c.loop-bound.bound - 1) 0
next_is c there =
    let each = c.requires.incoming.each_before in
    get_or_read c.args.incoming.now.before.items (c.loop-bound.bound - 1) c.index-bound-in-loop-bound.result.now (omega arith) c.index-bound-in-loop-bound.ensures 0

next_bound : (c : After-from_counts) → IsBound c.args.links.now c.index-links-place.result.callee (c.loop-bound.bound - 1) (get_or c.args.incoming.now.before.items (c.loop-bound.bound - 1) 0)
next_bound c = c.requires.incoming.befores (c.loop-bound.bound - 1) c.index-links-place.result (link_at c)

pub loop-bound-smaller : goal.loop-bound-smaller
loop-bound-smaller c =
    let l = (goal.at.loop-bound-smaller c).After-from_counts in
    let next = next_is (goal.at.loop-bound-smaller c).After-index-bound-in-loop-bound (place_there l) in
    let le = (next_bound l).within in
    let some = c.loop-bound-test.true in
    omega arith

pub loop-bound-preserved : goal.loop-bound-preserved
loop-bound-preserved c =
    let l = (goal.at.loop-bound-preserved c).After-from_counts in
    let next = next_is (goal.at.loop-bound-preserved c).After-index-bound-in-loop-bound (place_there l) in
    rw next (adding_more c.args.links.now c.args.node c.loop-bound.sum (c.loop-bound.bound - 1) (kept l) c.index-links-place.result (link_at l) c.from_counts.result (own_is l) c.plus-sum.result c.plus-sum.ensures (get_or c.args.incoming.now.before.items (c.loop-bound.bound - 1) 0) (next_bound l))
