use Rattle.law_files.proofs.runs.accepted_runs_go_on.Goals as goal

pub returns : goal.returns
returns c text accepted steps = record {
  never_stuck = c.never_stuck.ensures text accepted.program accepted.spelled accepted.modes steps;
  ends = c.comes_to_its_end.ensures text accepted.program accepted.spelled accepted.modes accepted.determinism steps;
}
