use Rattle.std.proofs.Common.{arith, ◌≡◌, ◌≤◌, length}
use Rattle.md_feedback.proofs.LineLemmas.{not_empty, no_least, least_passes}
use Rattle.md_feedback.proofs.line.least_of.Goals as goal
use Rattle.md_feedback.proofs.line.least_of.Goals.{else-is_empty-via-then-is_empty+then-least-ge1+else-least-le4294967295, else-is_empty-via-then-is_empty+else-least-ge1, else-is_empty-via-else-is_empty}

pub returns-in_err-least : goal.returns-in_err-least
returns-in_err-least c = rw c.from_residual.ensures (no_least c.args.words.now c.in_err-least.ensures)

pub returns-else-is_empty : goal.returns-else-is_empty
returns-else-is_empty c k l =
    let passes : (length c.in_ok-least.rest.now ≡ 0) × (1 ≤ c.in_ok-least.least) × (c.in_ok-least.least ≤ 4294967295) = least_passes c.args.words.now c.in_ok-least.rest.now c.in_ok-least.least k c.in_ok-least.ensures l in
    elim c.else-is_empty.branch [
      | else-is_empty-via-then-is_empty+then-least-ge1+else-least-le4294967295 w ↦ absurd (omega (arith, passes.2, w.if-least-le4294967295.false))
      | else-is_empty-via-then-is_empty+else-least-ge1 w ↦ absurd (omega (arith, passes.1, w.if-least-ge1.false))
      | else-is_empty-via-else-is_empty w ↦ absurd (not_empty _ c.is_empty.result passes.0 c.is_empty.ensures w.if-is_empty.false)
    ]
