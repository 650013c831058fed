use Rattle.std.proofs.Common.{◌≡◌, ◌++◌, map, take, drop}
use Rattle.md_cover.specs.Solved.{with_turns}
use Rattle.md_cover.proofs.covering.tell.Given as goal

-- the rows so far are told
abbrev pub invariant-loop-place : goal.invariant-loop-place
invariant-loop-place l =
    l.goals.items ≡ map (with_turns l.known.entries.items) (take l.place l.fn.goals.items) ++ drop l.place l.fn.goals.items
