use Rattle.md_cover.proofs.ToldLemmas.{told-pushed}
use Rattle.md_cover.proofs.equation.add_sum.Goals as goal

pub returns : goal.returns
returns c = told-pushed c.args.equations.now.items c.push.new.self.items _ c.in_ok-push.ensures.items
