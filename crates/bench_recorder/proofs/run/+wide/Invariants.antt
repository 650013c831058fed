use Rattle.bench_recorder.proofs.run.+wide.Given as goal

-- proposed from what the function passes where it calls itself
abbrev pub decreases-wide : goal.decreases-wide
decreases-wide l = l.depth
