use Rattle.md_cover.proofs.Chains.{four-added}
use Rattle.md_cover.proofs.text.add_title.Goals as goal

pub returns : goal.returns
returns c =
    four-added _ c.args.out.now.items _ _ _ _ _ _ _ _ (rw c.number.ensures at c.in_ok-add_number.ensures) c.in_ok-add.ensures (rw c.number-2.ensures at c.in_ok-add_full_name.ensures) c.add-2.ensures
