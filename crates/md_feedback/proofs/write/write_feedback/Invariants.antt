use Rattle.std.proofs.Common.{◌≡◌, ◌++◌, take}
use Rattle.md_feedback.specs.Lines.{head_text, pair_lines}
use Rattle.md_feedback.proofs.write.write_feedback.Given as goal

abbrev pub invariant-loop-pair : goal.invariant-loop-pair
invariant-loop-pair l = l.text.items ≡ head_text l.fn.f ++ pair_lines (take l.pair-index l.pair-items)
