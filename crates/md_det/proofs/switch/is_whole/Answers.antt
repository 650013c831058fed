use Rattle.std.proofs.Common.{◌∙◌, sym, ap}
use Rattle.md_hlds.specs.Hlds.{hlds_functors_of}
use Rattle.md_switch.specs.Keys.{keys_told}
use Rattle.md_det.specs.Switches.{no_functor_missing, all_have_keys}
use Rattle.md_det.specs.Told.{family_told}
use Rattle.md_det.proofs.switch.is_whole.Goals as goal

pub returns-in-None : goal.returns-in-None
returns-in-None c = ap (no_functor_missing (keys_told c.args.keys.now.keys)) (sym (ap family_told c.in-None.is) ∙ c.family_of.ensures)

pub returns-in-Some : goal.returns-in-Some
returns-in-Some c =
    let ks = keys_told c.args.keys.now.keys in
    c.all_have_keys.ensures
    ∙ (ap (λ fs. all_have_keys ks (hlds_functors_of fs)) c.deref.ensures.value
    ∙ ap (no_functor_missing ks) (sym (ap family_told c.in-Some.is) ∙ c.family_of.ensures))
