use Rattle.md_record.proofs.sink.RecorderPortSink.exit.Given as goal

abbrev pub ghosts-exit_counted : goal.ghosts-exit_counted
ghosts-exit_counted a = record { name = a.blank.name; parts = a.blank.parts }
