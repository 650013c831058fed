use Rattle.std.proofs.Common.{arith}
use Rattle.std.proofs.lemmas.Grind.{common_steps}
use Rattle.md_token.proofs.Literals.{too_great, all_digits}
use Rattle.md_token.proofs.literal.number_of.Goals as goal

pub returns-then-number-gt-TENTH : goal.returns-then-number-gt-TENTH
returns-then-number-gt-TENTH c = record { number = too_great c.args.digits.now c.loop-digit.number c.loop-digit.digit-index c.loop-digit-test.true c.if-number-gt-TENTH.true c.loop-digit.invariant }

pub returns : goal.returns
returns c =
    let e = all_digits c.args.digits.now c.loop-digit.number c.loop-digit.digit-index c.loop-digit-test.false c.loop-digit.invariant in
    rw (c.then_some.ensures, e) (record { number = grind arith })

pub loop-digit-init : goal.loop-digit-init
loop-digit-init c = grind (arith, common_steps)

pub loop-digit-preserved : goal.loop-digit-preserved
loop-digit-preserved c = grind (arith, common_steps)

pub loop-digit-smaller : goal.loop-digit-smaller
loop-digit-smaller c = grind (arith, common_steps)
