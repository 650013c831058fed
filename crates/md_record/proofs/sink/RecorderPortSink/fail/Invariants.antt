use Rattle.md_record.proofs.sink.RecorderPortSink.fail.Given as goal

abbrev pub ghosts-fail_counted : goal.ghosts-fail_counted
ghosts-fail_counted a = record { name = a.blank.name; parts = a.blank.parts }
