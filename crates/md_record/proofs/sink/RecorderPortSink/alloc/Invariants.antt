use Rattle.md_record.proofs.sink.RecorderPortSink.alloc.Given as goal

abbrev pub ghosts-alloc_counted : goal.ghosts-alloc_counted
ghosts-alloc_counted a = record { name = a.blank.name; parts = a.blank.parts }
