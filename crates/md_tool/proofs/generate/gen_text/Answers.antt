use Rattle.std.proofs.Common.{◌∙◌, ◌++◌, ap, List, ℕ, arith}
use Rattle.std.proofs.lemmas.Grind.{common_steps}
use Rattle.law_generated.specs.Generated.{gen_text}
use Rattle.md_tool.proofs.GenShort.{next_level}
use Rattle.md_tool.proofs.generate.gen_text.Goals as goal

pub loop-i-preserved : goal.loop-i-preserved
loop-i-preserved c =
    next_level c.args.n c.loop-i.i c.loop-i.text.items c.extend_from_slice.new.self.items (gen_text c.args.n) c.loop-i-test.true
    (c.in_ok-extend_from_slice.ensures.items ∙ ap (λ (b : List ℕ). c.loop-i.text.items ++ b) (c.as_bytes.ensures.value ∙ (c.as_str.ensures.value ∙ c.in_ok-level.ensures))) c.loop-i.invariant

pub returns : goal.returns
returns c = grind (arith, common_steps)
