use Rattle.std.proofs.Common.{◌==◌, sym, ◌∙◌}
use Rattle.md_dump.proofs.Cuts.{cut_nowhere, cut_there}
use Rattle.md_dump.proofs.cut.cut.Goals as goal

pub returns-in-None-clause-parts : goal.returns-in-None-clause-parts
returns-in-None-clause-parts c = cut_nowhere (λ b. b == c.args.at) c.args.bytes.now (sym c.place_of.ensures ∙ c.in-None.is)

pub returns-in-Some-clause-parts : goal.returns-in-Some-clause-parts
returns-in-Some-clause-parts c = (cut_there (λ b. b == c.args.at) c.args.bytes.now c.in-Some.place 0 (sym c.place_of.ensures ∙ c.in-Some.is)).1
