use Rattle.std.proofs.Common.{drop}
use Rattle.md_hlds.specs.Hlds.{hlds_of}
use Rattle.md_det.specs.Findings.{program_findings, switch_at}
use Rattle.md_code.specs.Told.{place_told}
use Rattle.md_code.proofs.LayoutLemmas.{PartsLeft, ArmsLeft}
use Rattle.md_code.proofs.layout.+layout.Given as goal

abbrev pub invariant-lay_conjunction-loop-place : goal.invariant-lay_conjunction-loop-place
invariant-lay_conjunction-loop-place l =
    PartsLeft (hlds_of l.tables.source.checked.now) (place_told l.fn.at) l.fn.output l.output l.goals (drop l.place l.goals) l.fn.first l.entry

abbrev pub invariant-lay_arms-loop-place : goal.invariant-lay_arms-loop-place
invariant-lay_arms-loop-place l =
    ArmsLeft (hlds_of l.tables.source.checked.now) l.fn.number (place_told l.fn.at) (switch_at (program_findings (hlds_of l.tables.source.checked.now)) l.fn.number) l.fn.output l.output l.arms (drop l.place l.arms) l.fn.first l.entry
