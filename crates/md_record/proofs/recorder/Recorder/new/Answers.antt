use Rattle.std.proofs.Common.{ap}
use Rattle.md_dynamic.specs.Rows.{Rows}
use Rattle.md_record.specs.Kept.{Kept}
use Rattle.md_record.proofs.Ends.{stands-new}
use Rattle.md_record.proofs.recorder.Recorder.new.Goals as goal

pub returns : goal.returns
returns c =
    let k : Kept = record { rows = c.in_ok-tables.tables; chain = c.new-2.result.items; room = c.new-2.result.cap } in
    record {
      stands = stands-new k c.args.statics c.args.main c.requires.sound c.requires.main_there c.in_ok-tables.ensures c.new-2.ensures.items;
      statics = ap (λ (r : Rows). r.statics) c.in_ok-tables.ensures;
    }
