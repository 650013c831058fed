use Rattle.std.proofs.Common.{◌∙◌, ap, map}
use Rattle.std.proofs.lemmas.Result.{IfOk-weaker}
use Rattle.md_static.proofs.Keys.{names_told}
use Rattle.md_static.proofs.sound.names_differ.Goals as goal

pub returns : goal.returns
returns c =
    let keys = names_told c.deref.result.now c.args.names.now (ap (map (λ key. key.now)) c.deref.ensures.value ∙ c.in_ok-keys.ensures) in
    IfOk-weaker c.all_differ.result _ _ (λ differ told. (λ yes. keys.0 (told.0 yes), λ all. told.1 (keys.1 all))) c.all_differ.ensures
