use Rattle.std.proofs.Common.{◌∙◌, ◌+◌, ap}
use Rattle.md_hlds.specs.Hlds.{hlds_of}
use Rattle.md_code.specs.Tables.{one_if}
use Rattle.md_code.specs.Told.{place_told}
use Rattle.md_code.proofs.BlockLemmas.{test-places}
use Rattle.md_code.proofs.place.places_of_test.Goals as goal

pub returns : goal.returns
returns c x y one two =
    test-places (hlds_of c.args.tables.now.source.checked.now) c.args.number c.in_ok-first.first c.in_ok-second.second c.in_ok-third.third (place_told c.args.at) (place_told c.in_ok-condition.condition) (place_told c.in_ok-then.then) (place_told c.in_ok-otherwise.otherwise)
    c.fact-fact.result c.fact.result c.in_ok-plus.field-0 c.in_ok-height.height c.in_ok-plus-3.field-0 c.in_ok-plus-2.field-0 c.in_ok-pending_behind.field-0 x y one two
    c.in_ok-first.ensures c.in_ok-second.ensures c.in_ok-third.ensures c.in_ok-condition.ensures c.fact-fact.ensures
    (c.in_ok-plus.ensures ∙ ap (λ b. c.args.at.height + b) (c.one_if.ensures ∙ ap one_if c.leaves.ensures))
    c.in_ok-height.ensures c.in_ok-plus-2.ensures c.in_ok-pending_behind.ensures c.in_ok-then.ensures c.fact.ensures c.in_ok-plus-3.ensures c.in_ok-otherwise.ensures
