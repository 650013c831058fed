use Rattle.std.proofs.Common.{◌≡◌, ℕ, ◌+◌, ◌==◌, ◌||◌, ◌&&◌, nat_lt, take, drop, length, Option, Some, ap, ◌∙◌, subst, arith}
use Rattle.std.proofs.lemmas.Grind.{common_steps}
use Rattle.test_memory.specs.Memory.{FailingLink}
use Rattle.md_base.specs.Streams.{Stream, after_read}
use Rattle.test_memory.proofs.Read.{stream_at, read_on}
use Rattle.test_memory.proofs.link.MemLinkSource.read.Goals as goal

pub returns-clause-taken : goal.returns-clause-taken
returns-clause-taken c =
    let input = c.self.inside.input.items in
    let place = c.self.inside.place in
    let count = c.give_rest-count.result in
    let now : Option Stream = Some (stream_at (take (place + count) input) (drop (place + count) input) c.has_ended-self-inside.result) in
    subst (λ (link : FailingLink). now ≡ after_read count (length c.args.buf.now) (Some link.stream)) c.self.view_is
    (read_on input place count _ _
    (c.has_ended-self-inside.ensures ∙ ap (λ (size : ℕ). c.self.inside.ended || ((count == 0) && nat_lt 0 size)) c.give_rest-count.auto.buf))

pub returns-then-is_due-clause-beside : goal.returns-then-is_due-clause-beside
returns-then-is_due-clause-beside c = grind (arith, common_steps)

pub returns-then-is_due-clause-bytes : goal.returns-then-is_due-clause-bytes
returns-then-is_due-clause-bytes c = grind (arith, common_steps)

pub returns-then-is_due-clause-cause : goal.returns-then-is_due-clause-cause
returns-then-is_due-clause-cause c = grind (arith, common_steps)

pub returns-then-is_due-clause-count : goal.returns-then-is_due-clause-count
returns-then-is_due-clause-count c = grind (arith, common_steps)

pub returns-then-is_due-clause-counted : goal.returns-then-is_due-clause-counted
returns-then-is_due-clause-counted c = grind (arith, common_steps)

pub returns-then-is_due-clause-kept : goal.returns-then-is_due-clause-kept
returns-then-is_due-clause-kept c = grind (arith, common_steps)

pub returns-then-is_due-clause-same : goal.returns-then-is_due-clause-same
returns-then-is_due-clause-same c = grind (arith, common_steps)

pub returns-then-is_due-clause-taken : goal.returns-then-is_due-clause-taken
returns-then-is_due-clause-taken c = grind (arith, common_steps)

pub returns-then-is_due-clause-within : goal.returns-then-is_due-clause-within
returns-then-is_due-clause-within c = grind (arith, common_steps)

pub returns-clause-beside : goal.returns-clause-beside
returns-clause-beside c = grind (arith, common_steps)

pub returns-clause-bytes : goal.returns-clause-bytes
returns-clause-bytes c = grind (arith, common_steps)

pub returns-clause-cause : goal.returns-clause-cause
returns-clause-cause c = grind (arith, common_steps)

pub returns-clause-count : goal.returns-clause-count
returns-clause-count c = grind (arith, common_steps)

pub returns-clause-counted : goal.returns-clause-counted
returns-clause-counted c = grind (arith, common_steps)

pub returns-clause-due : goal.returns-clause-due
returns-clause-due c = grind (arith, common_steps)

pub returns-clause-kept : goal.returns-clause-kept
returns-clause-kept c = grind (arith, common_steps)

pub returns-clause-same : goal.returns-clause-same
returns-clause-same c = grind (arith, common_steps)

pub returns-clause-within : goal.returns-clause-within
returns-clause-within c = grind (arith, common_steps)
