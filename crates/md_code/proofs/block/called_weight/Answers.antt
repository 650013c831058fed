use Rattle.std.proofs.Common.{◌≡◌, ◌∙◌, sym, ap, subst, Some, ℕ}
use Rattle.md_hlds.specs.declared.program.Program.{Program}
use Rattle.md_hlds.specs.Hlds.{hlds_of, procedure_of, procedure_called}
use Rattle.md_code.specs.declared.callee.Callee.{Callee}
use Rattle.md_code.specs.Blocks.{called_weight}
use Rattle.md_code.proofs.LookupLemmas.{called-there}
use Rattle.md_code.proofs.block.called_weight.Goals as goal

pub returns-in-Some : goal.returns-in-Some
returns-in-Some c =
    let s = hlds_of c.args.tables.now.source.checked.now in
    let p = procedure_of c.in-Some.field-0-1.now in
    let n : c.number.result ≡ c.in-Some.procedure = cc (c.number.ensures, c.in-Some.procedure-is) in
    let found : procedure_called s c.args.name.now ≡ Some (c.number.result, p)
    = subst (λ (q : Program). procedure_called (hlds_of q) c.args.name.now ≡ Some (c.in-Some.procedure, p)) c.args.tables.now.source.named c.in-Some.ensures
    ∙ ap (λ (n : ℕ). Some (n, p)) (sym n) in
    ap (λ (d : Callee). d.weight) (c.callee.ensures p (called-there s c.args.name.now c.number.result p found))
    ∙ ap called_weight (sym found)
