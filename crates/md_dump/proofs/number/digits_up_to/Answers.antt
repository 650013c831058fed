use Rattle.std.proofs.Common.{sym, arith}
use Rattle.std.proofs.lemmas.Grind.{common_steps}
use Rattle.md_dump.proofs.Decimal.{too_great}
use Rattle.md_dump.proofs.number.digits_up_to.Goals as goal

pub returns-then-number-from : goal.returns-then-number-from
returns-then-number-from c =
    let inv = c.loop-rest.invariant in
    sym (too_great c.args.most c.loop-rest.number c.args.digits.now c.loop-rest.rest.now (omega arith) inv.1 (omega arith))

pub loop-rest-preserved : goal.loop-rest-preserved
loop-rest-preserved c = grind (arith, common_steps)

pub returns : goal.returns
returns c = grind (arith, common_steps)

pub returns-then-not-is_ascii_digit : goal.returns-then-not-is_ascii_digit
returns-then-not-is_ascii_digit c = grind (arith, common_steps)
