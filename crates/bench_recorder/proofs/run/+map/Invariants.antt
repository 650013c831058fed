use Rattle.bench_recorder.proofs.run.+map.Given as goal

-- proposed from what the function passes where it calls itself
abbrev pub decreases-map : goal.decreases-map
decreases-map l = l.length
