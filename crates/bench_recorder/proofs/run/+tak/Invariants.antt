use Rattle.bench_recorder.proofs.run.+tak.Given as goal

-- proposed from what the function passes where it calls itself
abbrev pub decreases-tak : goal.decreases-tak
decreases-tak l = l.depth
