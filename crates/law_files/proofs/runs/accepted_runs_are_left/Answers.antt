use Rattle.law_files.proofs.runs.accepted_runs_are_left.Goals as goal

pub returns : goal.returns
returns c text accepted steps small ended =
    let bounds = c.accepted_texts_are_within_bounds.ensures text accepted.program steps accepted.spelled accepted.modes small in record {
      links = λ l free. c.ended_runs_balance.ensures.links accepted.program steps l bounds ended free;
      contexts = λ k free. c.ended_runs_balance.ensures.contexts accepted.program steps k bounds ended free;
      activations = λ a there. c.activations_of_runs_end.ensures.ended accepted.program steps a bounds ended there;
      cut = λ a there was. c.activations_of_runs_end.ensures.cut accepted.program steps a bounds ended there was;
    }
