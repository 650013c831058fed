use Rattle.md_tool.proofs.AcceptLemmas.{text_checked}
use Rattle.md_tool.proofs.accept.accept.Goals as goal

pub returns-in-Ok : goal.returns-in-Ok
returns-in-Ok c = text_checked c.args.text.now c.in-Ok.program c.check.result c.in-Ok.ensures.spelled c.in-Ok.ensures.answer c.check.ensures
