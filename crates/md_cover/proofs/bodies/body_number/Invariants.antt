use Rattle.std.proofs.Common.{◌≡◌, ◌<◌}
use Rattle.md_hlds.specs.Hlds.{hlds_of, body_number}
use Rattle.md_cover.proofs.bodies.body_number.Given as goal

-- the number of the next body, which fits
abbrev pub invariant-loop-clause : goal.invariant-loop-clause
invariant-loop-clause l = (l.number ≡ body_number (hlds_of l.moded) l._clause) × (l.number < 4294967295)
