use Rattle.std.proofs.Common.{◌≡◌, arith, Some, None, slice_get}
use Rattle.std.proofs.lemmas.Grind.{common_steps}
use Rattle.md_hlds.specs.Hlds.{hlds_of}
use Rattle.md_code.proofs.LookupLemmas.{fact-found, fact-none}
use Rattle.md_code.proofs.tables.Tables.fact.Goals as goal

pub returns-in-None : goal.returns-in-None
returns-in-None c =
    let there : slice_get c.args.self.now.facts.items c.args.goal ≡ None = grind (arith, common_steps, c.in-None.ensures) in
    fact-none (hlds_of c.args.self.now.source.checked.now) c.args.self.now.facts.items c.args.goal c.args.self.now.surveyed there

pub returns-in-Some : goal.returns-in-Some
returns-in-Some c =
    let there : slice_get c.args.self.now.facts.items c.args.goal ≡ Some c.in-Some.fact.now = grind (arith, common_steps, c.in-Some.ensures) in
    fact-found (hlds_of c.args.self.now.source.checked.now) c.args.self.now.facts.items c.args.goal c.in-Some.fact.now c.args.self.now.surveyed there
