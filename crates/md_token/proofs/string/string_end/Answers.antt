use Rattle.md_token.specs.declared.string.Within.TheVariants as within
use Rattle.md_token.proofs.Strings.{goes_on}
use Rattle.md_token.proofs.string.string_end.Goals as goal
use Rattle.md_token.proofs.string.string_end.Goals.{in-Whole, in-Escaping}
use Rattle.std.proofs.Common.{arith}
use Rattle.std.proofs.lemmas.Grind.{common_steps}

pub loop-place-preserved : goal.loop-place-preserved
loop-place-preserved c =
    let bytes = c.args.bytes.now in
    let i = c.loop-place.place in
    elim c.match-past.branch [
      | in-Whole w ↦ rw w.escaped-is (goes_on bytes i c.loop-place.escaped within.Whole c.loop-place-test.true w.in-Whole.ensures c.loop-place.invariant)
      | in-Escaping w ↦ rw w.escaped-is (goes_on bytes i c.loop-place.escaped within.Escaping c.loop-place-test.true w.in-Escaping.ensures c.loop-place.invariant)
    ]

pub returns-in-Broken-clause-end : goal.returns-in-Broken-clause-end
returns-in-Broken-clause-end c = grind (arith, common_steps)

pub returns-in-Broken-clause-within : goal.returns-in-Broken-clause-within
returns-in-Broken-clause-within c = grind (arith, common_steps)

pub returns-clause-end : goal.returns-clause-end
returns-clause-end c = grind (arith, common_steps)

pub returns-clause-within : goal.returns-clause-within
returns-clause-within c = grind (arith, common_steps)

pub returns-in-Closed-clause-end : goal.returns-in-Closed-clause-end
returns-in-Closed-clause-end c = grind (arith, common_steps)

pub returns-in-Closed-clause-within : goal.returns-in-Closed-clause-within
returns-in-Closed-clause-within c = grind (arith, common_steps)
