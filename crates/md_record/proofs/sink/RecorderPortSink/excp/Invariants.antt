use Rattle.md_record.proofs.sink.RecorderPortSink.excp.Given as goal

abbrev pub ghosts-excp_counted : goal.ghosts-excp_counted
ghosts-excp_counted a = record { name = a.blank.name; parts = a.blank.parts }
