use Rattle.std.proofs.Common.{◌≡◌, arith, Some, None, slice_get}
use Rattle.std.proofs.lemmas.Grind.{common_steps}
use Rattle.md_hlds.specs.Hlds.{hlds_of}
use Rattle.md_code.proofs.LookupLemmas.{callee-found, callee-none}
use Rattle.md_code.proofs.tables.Tables.callee.Goals as goal

pub returns-in-None : goal.returns-in-None
returns-in-None c =
    let there : slice_get c.args.self.now.callees.items c.args.procedure ≡ None = grind (arith, common_steps, c.in-None.ensures) in
    callee-none (hlds_of c.args.self.now.source.checked.now) c.args.self.now.callees.items c.args.procedure _ c.args.self.now.called there

pub returns-in-Some : goal.returns-in-Some
returns-in-Some c =
    let there : slice_get c.args.self.now.callees.items c.args.procedure ≡ Some c.in-Some.callee.now = grind (arith, common_steps, c.in-Some.ensures) in
    callee-found (hlds_of c.args.self.now.source.checked.now) c.args.self.now.callees.items c.args.procedure c.in-Some.callee.now c.args.self.now.called there
