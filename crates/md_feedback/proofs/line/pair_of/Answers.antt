use Rattle.std.proofs.Common.{arith, ◌≡◌, ◌<◌, length}
use Rattle.std.proofs.lemmas.Grind.{common_steps}
use Rattle.md_feedback.proofs.LineLemmas.{not_empty, no_first, no_second, no_a, no_b, tests_pass}
use Rattle.md_feedback.proofs.line.pair_of.Goals as goal
use Rattle.md_feedback.proofs.line.pair_of.Goals.{else-is_empty-via-then-is_empty+then-proc-lt-MOST+then-first-second+else-second-lt-MOST, else-is_empty-via-then-is_empty+then-proc-lt-MOST+else-first-second, else-is_empty-via-then-is_empty+else-proc-lt-MOST, else-is_empty-via-else-is_empty}

pub returns-in_err-first : goal.returns-in_err-first
returns-in_err-first c =
    rw c.from_residual-in_err-first.ensures
    (no_first c.args.words.now c.in_ok-proc.rest.now c.in_ok-proc.proc c.in_ok-proc.ensures c.in_err-first.ensures)

pub returns-in_err-second : goal.returns-in_err-second
returns-in_err-second c =
    rw c.from_residual-in_err-second.ensures
    (no_second c.args.words.now c.in_ok-proc.rest.now c.in_ok-first.rest.now c.in_ok-proc.proc c.in_ok-first.first
    c.in_ok-proc.ensures c.in_ok-first.ensures c.in_err-second.ensures)

pub returns-in_err-a : goal.returns-in_err-a
returns-in_err-a c =
    rw c.from_residual-in_err-a.ensures
    (no_a c.args.words.now c.in_ok-proc.rest.now c.in_ok-first.rest.now c.in_ok-second.rest.now c.in_ok-proc.proc c.in_ok-first.first c.in_ok-second.second
    c.in_ok-proc.ensures c.in_ok-first.ensures c.in_ok-second.ensures c.in_err-a.ensures)

pub returns-in_err-b : goal.returns-in_err-b
returns-in_err-b c =
    rw c.from_residual-in_err-b.ensures
    (no_b c.args.words.now c.in_ok-proc.rest.now c.in_ok-first.rest.now c.in_ok-second.rest.now c.in_ok-a.rest.now c.in_ok-proc.proc c.in_ok-first.first c.in_ok-second.second c.in_ok-a.a
    c.in_ok-proc.ensures c.in_ok-first.ensures c.in_ok-second.ensures c.in_ok-a.ensures c.in_err-b.ensures)

pub returns-else-is_empty : goal.returns-else-is_empty
returns-else-is_empty c p l =
    let passes : (length c.in_ok-b.rest.now ≡ 0) × (c.in_ok-proc.proc < 4294967295) × (c.in_ok-first.first < c.in_ok-second.second) × (c.in_ok-second.second < 4294967295)
    = tests_pass c.args.words.now c.in_ok-proc.rest.now c.in_ok-first.rest.now c.in_ok-second.rest.now c.in_ok-a.rest.now c.in_ok-b.rest.now
    c.in_ok-proc.proc c.in_ok-first.first c.in_ok-second.second c.in_ok-a.a c.in_ok-b.b p
    c.in_ok-proc.ensures c.in_ok-first.ensures c.in_ok-second.ensures c.in_ok-a.ensures c.in_ok-b.ensures l in
    elim c.else-is_empty.branch [
      | else-is_empty-via-then-is_empty+then-proc-lt-MOST+then-first-second+else-second-lt-MOST w ↦ absurd (omega (arith, passes.3, w.if-second-lt-MOST.false))
      | else-is_empty-via-then-is_empty+then-proc-lt-MOST+else-first-second w ↦ absurd (omega (arith, passes.2, w.if-first-second.false))
      | else-is_empty-via-then-is_empty+else-proc-lt-MOST w ↦ absurd (omega (arith, passes.1, w.if-proc-lt-MOST.false))
      | else-is_empty-via-else-is_empty w ↦ absurd (not_empty _ c.is_empty.result passes.0 c.is_empty.ensures w.if-is_empty.false)
    ]

pub returns-in_err-proc : goal.returns-in_err-proc
returns-in_err-proc c = grind (arith, common_steps)

pub returns-then-second-lt-MOST : goal.returns-then-second-lt-MOST
returns-then-second-lt-MOST c = grind (arith, common_steps)
