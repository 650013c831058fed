use Rattle.std.proofs.Common.{◌≡◌, ◌∙◌, sym, ap, arith, suc}
use Rattle.md_hlds.specs.declared.program.Program.{Program}
use Rattle.md_hlds.specs.Hlds.{hlds_of}
use Rattle.md_switch.specs.Reading.{read_shape}
use Rattle.md_hlds.specs.HldsGoal.{goals_of, gathered}
use Rattle.md_switch.specs.Keys.{shape_told, keys_told}
use Rattle.md_code.specs.Blocks.{switch_by, keys_of_shape}
use Rattle.md_code.proofs.ShapeLemmas.{shape-there}
use Rattle.md_code.proofs.switch.switch_by.Goals as goal

pub returns-in-None : goal.returns-in-None
returns-in-None c = λ stand.
    let s = hlds_of c.args.tables.now.source.checked.now in
    let at : c.in_ok-first.first ≡ suc c.args.number = omega (arith, c.in_ok-first.ensures.next) in
    ap (λ shape. switch_by s c.args.number c.args.var (keys_of_shape shape)) (sym (ap shape_told c.in-None.is) ∙ (c.in_ok-shape_of.ensures ∙ (ap (λ (p : Program). read_shape (hlds_of p) c.in_ok-first.first (gathered (goals_of c.args.arms.now))) c.moded-moded.ensures ∙ shape-there s c.args.number c.in_ok-first.first (gathered (goals_of c.args.arms.now)) at stand)))

pub returns-in-Some : goal.returns-in-Some
returns-in-Some c = λ stand.
    let s = hlds_of c.args.tables.now.source.checked.now in
    let at : c.in_ok-first.first ≡ suc c.args.number = omega (arith, c.in_ok-first.ensures.next) in
    c.switch_by_keys.ensures
    ∙ (ap (λ ks. switch_by s c.args.number c.args.var (keys_told ks)) c.as_slice.ensures.keys
    ∙ ap (λ shape. switch_by s c.args.number c.args.var (keys_of_shape shape)) (sym (ap shape_told c.in-Some.is) ∙ (c.in_ok-shape_of.ensures ∙ (ap (λ (p : Program). read_shape (hlds_of p) c.in_ok-first.first (gathered (goals_of c.args.arms.now))) c.moded-moded.ensures ∙ shape-there s c.args.number c.in_ok-first.first (gathered (goals_of c.args.arms.now)) at stand))))
