-- What was read of a profile so far.
use Rattle.md_dynamic.specs.Profile.{ProfileRows}
use Rattle.md_dump.specs.declared.rows.Rows.{Rows}

abbrev pub rows_of : Rows → ProfileRows
rows_of r = record { statics = record { modules = r.modules; procs = r.procs; sites = r.sites.items }; nodes = r.graph.nodes; links = r.graph.links; finished = r.finished }
