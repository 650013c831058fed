use Rattle.std.proofs.Common.{◌∙◌, ap, map}
use Rattle.std.proofs.lemmas.Result.{IfOk-weaker}
use Rattle.md_dynamic.specs.Valid.{whole_key}
use Rattle.md_dynamic.proofs.Validity.{keys_told}
use Rattle.md_dynamic.proofs.check.links_differ.Goals as goal

pub returns : goal.returns
returns c =
    let keys = keys_told c.args.nodes.now c.deref.result.now c.args.links.now (ap (map whole_key) c.deref.ensures.value ∙ c.in_ok-keys.ensures) in
    IfOk-weaker c.all_differ.result _ _ (λ differ told. (λ yes. keys.0 (told.0 yes), λ all. told.1 (keys.1 all))) c.all_differ.ensures
