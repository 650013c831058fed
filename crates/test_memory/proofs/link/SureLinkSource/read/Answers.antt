use Rattle.std.proofs.Common.{◌≡◌, ℕ, ◌+◌, ◌==◌, ◌||◌, ◌&&◌, nat_lt, take, drop, length, Option, Some, ap, ◌∙◌, subst, arith}
use Rattle.std.proofs.lemmas.Grind.{common_steps}
use Rattle.test_memory.specs.Memory.{WholeLink}
use Rattle.md_base.specs.Streams.{Stream, after_read}
use Rattle.test_memory.proofs.Read.{stream_at, read_on}
use Rattle.test_memory.proofs.link.SureLinkSource.read.Goals as goal

pub returns-clause-taken : goal.returns-clause-taken
returns-clause-taken c =
    let input = c.self.inside.input.items in
    let place = c.self.inside.place in
    let count = c.give_rest-count.result in
    let now : Option Stream = Some (stream_at (take (place + count) input) (drop (place + count) input) c.has_ended-self-inside.result) in
    subst (λ (link : WholeLink). now ≡ after_read count (length c.args.buf.now) (Some link.stream)) c.self.view_is
    (read_on input place count _ _
    (c.has_ended-self-inside.ensures ∙ ap (λ (size : ℕ). c.self.inside.ended || ((count == 0) && nat_lt 0 size)) c.give_rest-count.auto.buf))

pub returns-clause-beside : goal.returns-clause-beside
returns-clause-beside c = grind (arith, common_steps)

pub returns-clause-bytes : goal.returns-clause-bytes
returns-clause-bytes c = grind (arith, common_steps)

pub returns-clause-cause : goal.returns-clause-cause
returns-clause-cause c = grind (arith, common_steps)

pub returns-clause-count : goal.returns-clause-count
returns-clause-count c = grind (arith, common_steps)

pub returns-clause-kept : goal.returns-clause-kept
returns-clause-kept c = grind (arith, common_steps)

pub returns-clause-same : goal.returns-clause-same
returns-clause-same c = grind (arith, common_steps)

pub returns-clause-within : goal.returns-clause-within
returns-clause-within c = grind (arith, common_steps)
