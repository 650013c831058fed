use Rattle.md_hlds.specs.Hlds.{hlds_of}
use Rattle.md_tool.proofs.ReportLemmas.{profiled_text}
use Rattle.md_tool.proofs.report.profile_text.Goals as goal

pub returns-in-Ok : goal.returns-in-Ok
returns-in-Ok c = profiled_text c.args.text.now (hlds_of c.in_ok-checked.checked) c.args.steps c.in-Ok.profiled c.in_ok-checked.ensures c.in-Ok.ensures.bounds c.in-Ok.ensures
