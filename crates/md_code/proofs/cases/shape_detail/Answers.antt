use Rattle.std.proofs.Common.{◌≡◌, ◌∙◌, sym, ap, arith, suc}
use Rattle.md_hlds.specs.declared.program.Program.{Program}
use Rattle.md_hlds.specs.Hlds.{hlds_of}
use Rattle.md_hlds.specs.HldsGoal.{goals_of, gathered}
use Rattle.md_switch.specs.Reading.{read_shape}
use Rattle.md_switch.specs.Keys.{shape_told, keys_told}
use Rattle.md_code.specs.Blocks.{keys_of_shape}
use Rattle.md_code.specs.Details.{keyed_detail}
use Rattle.md_code.proofs.ShapeLemmas.{shape-there}
use Rattle.md_code.proofs.SurveyLemmas.{if-ok-map}
use Rattle.md_code.proofs.cases.shape_detail.Goals as goal

pub returns-in-None : goal.returns-in-None
returns-in-None c = λ stand.
    let s = hlds_of c.args.tables.now.source.checked.now in
    let ps = gathered (goals_of c.args.arms.now) in
    let at : c.in_ok-first.first ≡ suc c.args.number = omega (arith, c.in_ok-first.ensures.next) in
    c.plain_detail.ensures
    ∙ ap (λ shape. keyed_detail s c.args.number ps (keys_of_shape shape)) (sym (ap shape_told c.in-None.is) ∙ (c.in_ok-shape_of.ensures ∙ (ap (λ (p : Program). read_shape (hlds_of p) c.in_ok-first.first ps) c.moded.ensures ∙ shape-there s c.args.number c.in_ok-first.first ps at stand)))

pub returns-in-Some : goal.returns-in-Some
returns-in-Some c =
    let s = hlds_of c.args.tables.now.source.checked.now in
    let ps = gathered (goals_of c.args.arms.now) in
    let at : c.in_ok-first.first ≡ suc c.args.number = omega (arith, c.in_ok-first.ensures.next) in
    if-ok-map c.keyed_detail.result
    (λ d is stand. is stand
    ∙ (ap (λ ks. keyed_detail s c.args.number ps (keys_told ks)) c.as_slice.ensures.keys
    ∙ ap (λ shape. keyed_detail s c.args.number ps (keys_of_shape shape)) (sym (ap shape_told c.in-Some.is) ∙ (c.in_ok-shape_of.ensures ∙ (ap (λ (p : Program). read_shape (hlds_of p) c.in_ok-first.first ps) c.moded.ensures ∙ shape-there s c.args.number c.in_ok-first.first ps at stand)))))
    c.keyed_detail.ensures
