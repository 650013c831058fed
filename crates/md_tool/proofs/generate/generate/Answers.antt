use Rattle.std.proofs.Common.{◌∙◌, ◌≤◌, sym, subst, length, List, ℕ, arith}
use Rattle.std.proofs.lemmas.Grind.{common_steps}
use Rattle.md_base.specs.Outside.{Rose}
use Rattle.md_tool.proofs.GenLemmas.{text_written}
use Rattle.md_tool.proofs.GenShort.{gen_short}
use Rattle.md_tool.proofs.generate.generate.Goals as goal

pub summarize-requires-clause-short : goal.summarize-requires-clause-short
summarize-requires-clause-short g c =
    subst (λ (bytes : List ℕ). length bytes ≤ 1048576) (sym (c.deref.ensures.value ∙ c.in-Ok.ensures)) (gen_short c.args.n c.requires.few)

pub returns-clause-ends : goal.returns-clause-ends
returns-clause-ends g c =
    text_written c.args.n c.args.summary (g.O.Sink.held c.args.out.now) (g.O.Sink.held c.write.new.out) (Rose (g.O.Sink.write_faults c.args.out.now) (g.O.Sink.write_faults c.write.new.out))
    c.write.result c.if-summary.false (rw (c.deref-else-summary.ensures.value, c.in-Ok.ensures) at c.write.ensures.ends)

pub summarize-requires-clause-text : goal.summarize-requires-clause-text
summarize-requires-clause-text g c = grind (arith, common_steps)

pub returns-in_default-clause-ends : goal.returns-in_default-clause-ends
returns-in_default-clause-ends g c = grind (arith, common_steps)

pub returns-then-summary-clause-ends : goal.returns-then-summary-clause-ends
returns-then-summary-clause-ends g c = grind (arith, common_steps)

pub gen_text-requires-clause-few : goal.gen_text-requires-clause-few
gen_text-requires-clause-few g c = grind (arith, common_steps)

pub gen_text-requires-clause-some : goal.gen_text-requires-clause-some
gen_text-requires-clause-some g c = grind (arith, common_steps)
