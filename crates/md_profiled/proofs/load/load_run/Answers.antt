use Rattle.law_events.specs.History.{history}
use Rattle.law_events.specs.Table.{site_table}
use Rattle.md_hlds.specs.Run.{run, is_finished}
use Rattle.md_ports.specs.Ports.{statics_of}
use Rattle.md_profiled.proofs.load.load_run.Goals as goal

pub returns-in-Ok-clause-view : goal.returns-in-Ok-clause-view
returns-in-Ok-clause-view c program budget v bounds is_profile is_view =
    c.a_file_says_what_the_run_says.ensures.forth (site_table program) (statics_of program) (history (run program budget)) (is_finished (run program budget)) c.args.profile v
    (c.runs_are_histories.ensures program budget bounds) is_profile c.requires.valid is_view
