use Rattle.std.proofs.Common.{◌∙◌}
use Rattle.md_hlds.specs.Hlds.{hlds_of}
use Rattle.md_hlds.specs.HldsGoal.{expr_of}
use Rattle.md_code.specs.Told.{place_told}
use Rattle.md_code.proofs.BlockLemmas.{block-is}
use Rattle.md_code.proofs.block.add_block.Goals as goal

pub returns : goal.returns
returns c = λ stands.
    block-is (hlds_of c.args.tables.now.source.checked.now) c.args.number (expr_of c.args.kind.now) (place_told c.args.at) c.args.instructions.now.items c.extend_from_slice.new.self.items c.extend_from_slice-2.new.self.items c.push.new.self.items
    c.as_slice.result.now c.as_slice-2.result.now c.in_ok-trial.trial c.fact.result c.in_ok-pending.pending stands (c.as_slice.ensures ∙ c.in_ok-own.ensures stands) c.fact.ensures c.in_ok-pending.ensures (c.as_slice-2.ensures ∙ c.in_ok-end.ensures) c.in_ok-trial.ensures
    c.in_ok-extend_from_slice.ensures.items c.in_ok-extend_from_slice-2.ensures.items c.in_ok-push.ensures.items
