use Rattle.std.proofs.Common.{◌∙◌, ap, map}
use Rattle.std.proofs.lemmas.Result.{IfOk-weaker}
use Rattle.md_static.specs.Sound.{key_seen}
use Rattle.md_static.proofs.Keys.{procs_told}
use Rattle.md_static.proofs.sound.procs_differ.Goals as goal

pub returns : goal.returns
returns c =
    let keys = procs_told c.deref.result.now c.args.procs.now (ap (map key_seen) c.deref.ensures.value ∙ c.in_ok-keys.ensures) in
    IfOk-weaker c.all_differ.result _ _ (λ differ told. (λ yes. keys.0 (told.0 yes), λ all. told.1 (keys.1 all))) c.all_differ.ensures
