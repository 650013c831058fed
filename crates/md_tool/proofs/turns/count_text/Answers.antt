use Rattle.md_hlds.specs.Hlds.{hlds_of}
use Rattle.md_commands.specs.Told.{meant}
use Rattle.md_tool.proofs.CoverLemmas.{counted_text}
use Rattle.md_tool.proofs.turns.count_text.Goals as goal

pub returns-in-Ok : goal.returns-in-Ok
returns-in-Ok c = counted_text c.args.text.now (hlds_of c.in_ok-checked.checked) (meant c.args.proc) c.args.steps c.in-Ok.counted c.in_ok-checked.ensures c.in-Ok.ensures.run c.in-Ok.ensures.text
