use Rattle.law_files.proofs.runs.accepted_procedures_answer_as_declared.Goals as goal

pub returns : goal.returns
returns c text accepted = c.answers_as_declared.ensures text accepted.program accepted.spelled accepted.modes accepted.determinism
