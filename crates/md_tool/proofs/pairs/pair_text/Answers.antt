use Rattle.md_hlds.specs.Hlds.{hlds_of}
use Rattle.md_tool.proofs.PairLemmas.{has_name, paired_text}
use Rattle.md_tool.proofs.pairs.pair_text.Goals as goal

pub pair_run-requires-clause-name : goal.pair_run-requires-clause-name
pair_run-requires-clause-name c = has_name c.texts_have_names.ensures c.args.text.now (hlds_of c.in_ok-checked.checked) c.in_ok-checked.ensures

pub returns-in-Ok : goal.returns-in-Ok
returns-in-Ok c =
    paired_text c.args.text.now (hlds_of c.in_ok-checked.checked) c.args.steps c.args.least c.in-Ok.paired c.in_ok-checked.ensures c.in-Ok.ensures.run c.in-Ok.ensures.text
