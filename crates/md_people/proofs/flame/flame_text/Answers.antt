use Rattle.std.proofs.Common.{◌≡◌, ℕ, length, refl, sym, ap, ◌∙◌, arith}
use Rattle.std.specs.List.{flat_map, range_with_len}
use Rattle.md_cost.specs.View.{View, OfContext}
use Rattle.md_people.specs.Counts.{own_counts}
use Rattle.md_people.specs.Flame.{flame_line, flame_of}
use Rattle.md_people.proofs.FlameSteps.{some_lines}
use Rattle.md_people.proofs.Ranges.{rows_added}
use Rattle.md_people.proofs.flame.flame_text.Goals as goal

pub loop-node-preserved : goal.loop-node-preserved
loop-node-preserved c = λ v is.
    rows_added (flame_of v c.args.by) c.loop-node.node c.loop-node.text.items c.add_flame.new.out.items _ (c.loop-node.invariant v is) (c.in_ok-add_flame.ensures v is) (ap (λ (d : ℕ). flame_of v c.args.by d) c.new.ensures)

pub returns : goal.returns
returns c = λ v is.
    let f = c.args.loaded.now.profile in
    let last = c.loop-node.auto.node-end in
    let past = c.loop-node-test.false in
    let size : length c.nodes.result.now ≡ length f.nodes = rw (c.nodes.ensures, c.profile-2.ensures.profile) refl in
    let end : c.loop-node.node ≡ length f.nodes = omega arith in
    c.loop-node.invariant v is
    ∙ ap (λ (n : ℕ). flat_map (flame_of v c.args.by) (range_with_len 0 n)) (end ∙ sym (ap (λ (w : View). length w.nodes) is.is))
    ∙ some_lines (λ d. own_counts v (OfContext d) c.args.by) (flame_line v c.args.by) (range_with_len 0 (length v.nodes))
