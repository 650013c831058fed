use Rattle.bench_recorder.proofs.queens.Board.+place.Given as goal

-- proposed from what the function passes where it calls itself
abbrev pub decreases-place : goal.decreases-place
decreases-place l = l.left
