use Rattle.std.proofs.Common.{◌≡◌, ◌∙◌, refl, sym, ap, subst, Some, ℕ}
use Rattle.md_hlds.specs.declared.program.Program.{Program}
use Rattle.md_hlds.specs.Hlds.{hlds_of, procedure_of, procedure_called}
use Rattle.md_code.specs.Told.{place_told}
use Rattle.md_code.proofs.LookupLemmas.{call-told}
use Rattle.md_code.proofs.detail.call_detail.Goals as goal

pub returns-in-Some : goal.returns-in-Some
returns-in-Some c =
    let s = hlds_of c.args.tables.now.source.checked.now in
    let p = procedure_of c.in-Some.found.1.now in
    let found : procedure_called s c.args.name.now ≡ Some (c.number.result, p)
    = subst (λ (q : Program). procedure_called (hlds_of q) c.args.name.now ≡ Some (c.in-Some.found.0, p)) c.args.tables.now.source.named c.in-Some.ensures
    ∙ ap (λ (k : ℕ). Some (k, p)) (sym c.number.ensures) in
    call-told s c.args.name.now c.args.site c.args.places.now (place_told c.args.at) c.number.result c.in-Some.found.1.now c.in-Some.found.1.now c.called_detail.result c.called_detail.ensures found refl
