use Rattle.std.proofs.Common.{◌+◌, ◌*◌, ◌≡◌, length, drop}
use Rattle.md_hlds.specs.Hlds.{hlds_of}
use Rattle.md_plain.specs.Goals.{numbereds_of}
use Rattle.md_plain.specs.Told.{tries}
use Rattle.md_plain.specs.Runs.{frames_of, place_of, run_of}
use Rattle.md_plain.proofs.trace.+trace.Given as goal

-- one deeper there may be a caller more; in one depth the equations call one another in this order
abbrev pub decreases-trace : goal.decreases-trace
decreases-trace l = 8 * l.depth + 4 * length (frames_of l.job.now.callers.now) + 1

abbrev pub decreases-returns : goal.decreases-returns
decreases-returns l = 8 * l.depth + 4 * length (frames_of l.job.now.callers.now)

abbrev pub decreases-unfold : goal.decreases-unfold
decreases-unfold l = 8 * l.depth + 4 * length (frames_of l.place.now.callers.now) + 8

abbrev pub decreases-conjunction : goal.decreases-conjunction
decreases-conjunction l = 8 * l.depth + 4 * length (frames_of l.place.now.callers.now) + 7

abbrev pub decreases-disjunction : goal.decreases-disjunction
decreases-disjunction l = 8 * l.depth + 4 * length (frames_of l.place.now.callers.now) + 7

abbrev pub decreases-tries : goal.decreases-tries
decreases-tries l = 8 * l.depth + 4 * length (frames_of l.place.now.callers.now) + 6

abbrev pub decreases-conditional : goal.decreases-conditional
decreases-conditional l = 8 * l.depth + 4 * length (frames_of l.place.now.callers.now) + 7

abbrev pub decreases-negation : goal.decreases-negation
decreases-negation l = 8 * l.depth + 4 * length (frames_of l.place.now.callers.now) + 7

abbrev pub decreases-quantified : goal.decreases-quantified
decreases-quantified l = 8 * l.depth + 4 * length (frames_of l.place.now.callers.now) + 7

abbrev pub decreases-asks : goal.decreases-asks
decreases-asks l = 8 * l.depth + 4 * length (frames_of l.place.now.callers.now) + 6

abbrev pub decreases-invoke : goal.decreases-invoke
decreases-invoke l = 8 * l.depth + 4 * length (frames_of l.place.now.callers.now) + 7

abbrev pub decreases-after_simple : goal.decreases-after_simple
decreases-after_simple l = 8 * l.depth + 4 * length (frames_of l.place.now.callers.now) + 6

abbrev pub decreases-with_all : goal.decreases-with_all
decreases-with_all l = 8 * l.depth + 4 * length (frames_of l.job.now.callers.now) + 6

abbrev pub decreases-with_first : goal.decreases-with_first
decreases-with_first l = 8 * l.depth + 4 * length (frames_of l.job.now.callers.now) + 6

-- what is left of the arms gives what all of them give
abbrev pub invariant-tries-loop-arm : goal.invariant-tries-loop-arm
invariant-tries-loop-arm l =
    tries (hlds_of l.maker.program.now) l.depth (place_of l.place) (numbereds_of l.arms) (run_of l.fn.run)
    ≡ tries (hlds_of l.maker.program.now) l.depth (place_of l.place) (numbereds_of (drop l.arm-index l.arms)) (run_of l.run)
