use Rattle.std.proofs.Common.{arith, ◌∙◌, ◌≤◌, ◌++◌, ap, sym, length}
use Rattle.std.proofs.lemmas.List.{take_all}
use Rattle.md_feedback.specs.Lines.{head_text, pair_lines}
use Rattle.md_feedback.proofs.FaultLemmas.{pair_written, text_of}
use Rattle.md_feedback.proofs.write.write_feedback.Goals as goal

pub loop-pair-preserved : goal.loop-pair-preserved
loop-pair-preserved c =
    pair_written (head_text c.args.f.now) c.as_slice-pair-items.result.now c.loop-pair.pair-index c.pair-item.result c.loop-pair.text.items c.add_pair.new.text.items
    (omega arith) c.pair-item.is c.loop-pair.invariant c.in_ok-add_pair.ensures

pub returns : goal.returns
returns c =
    let items = c.as_slice-pair-items.result.now in
    let end' : length items ≤ c.loop-pair.pair-index = omega arith in
    c.loop-pair.invariant ∙ (ap (λ xs. head_text c.args.f.now ++ pair_lines xs) (take_all c.loop-pair.pair-index items end' ∙ c.as_slice-pair-items.ensures) ∙ sym (text_of c.args.f.now))
