use Rattle.std.proofs.Common.{reverse}
use Rattle.md_static.specs.Tables.{site_table}
use Rattle.md_trace.proofs.Histories.{table-of}
use Rattle.bench_recorder.proofs.ignore.Goals as goal

pub replay-requires : goal.replay-requires
replay-requires c =
    let t = site_table c.args.statics.now 0 in
    record { table = t; stood = table-of t (reverse c.args.events.now) c.requires.history; history = c.requires.history }
