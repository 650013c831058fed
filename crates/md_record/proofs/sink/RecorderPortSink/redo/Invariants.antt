use Rattle.md_record.proofs.sink.RecorderPortSink.redo.Given as goal

abbrev pub ghosts-redo_counted : goal.ghosts-redo_counted
ghosts-redo_counted a = record { name = a.blank.name; parts = a.blank.parts }
