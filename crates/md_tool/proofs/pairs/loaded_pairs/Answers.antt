use Rattle.md_hlds.specs.Hlds.{hlds_of}
use Rattle.md_tool.proofs.PairLemmas.{feedback_is}
use Rattle.md_tool.proofs.pairs.loaded_pairs.Goals as goal

pub returns : goal.returns
returns c budget means =
    feedback_is (hlds_of c.args.checked.now) budget c.args.least c.from.result c.args.loaded.now.profile c.in_ok-feedback.feedback c.in_ok-text.text.items c.profile-viewed.ensures.viewed means
    c.from.ensures c.in_ok-feedback.ensures.module_is c.in_ok-feedback.ensures.least_is c.in_ok-feedback.ensures.pairs c.in_ok-feedback.ensures.valid c.requires.name c.in_ok-text.ensures
