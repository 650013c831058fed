use Rattle.std.proofs.Common.{ℕ, get_or, arith}
use Rattle.std.proofs.lemmas.List.Sums.{sum_by_more_le}
use Rattle.md_clique.specs.Cliques.{members_of}
use Rattle.md_cost.specs.SumOf.{sum_of, zero_sums}
use Rattle.md_cost.proofs.MemberSteps.{member_there}
use Rattle.md_cost.proofs.totals.sum_of_members.Goals as goal

pub bounds-sums-member : goal.bounds-sums-member
bounds-sums-member c =
    let lt = rw c.members-member-items.ensures at c.loop-member-test.true in
    let there = member_there c.args.cliques.now c.args.clique c.loop-member.member-index lt in
    rw (c.members-member-items.ensures, c.requires.each) there

pub plus-sum-requires : goal.plus-sum-requires
plus-sum-requires c =
    let lt = rw c.members-member-items.ensures at c.loop-member-test.true in
    λ m.
    let before = c.loop-member.invariant m in
    let more = sum_by_more_le (λ (node : ℕ). sum_of (get_or c.args.sums.now node zero_sums) m) (members_of c.args.cliques.now c.args.clique) c.loop-member.member-index 0 lt in
    let room = c.requires.room m in
    rw c.members-member-items.ensures (omega arith)
