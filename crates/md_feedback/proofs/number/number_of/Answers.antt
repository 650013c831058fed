use Rattle.std.proofs.Common.{◌≡◌, ◌<◌, get_or, length, true}
use Rattle.md_feedback.proofs.Digits.{no_leading_zero, digits_are_text, parsed_is_written, written_is_parsed}
use Rattle.md_feedback.proofs.number.number_of.Goals as goal

pub returns-then-has_leading_zero : goal.returns-then-has_leading_zero
returns-then-has_leading_zero c n small is =
    let zero : (1 < length c.args.digits.now) × (get_or c.args.digits.now 0 0 ≡ 48) = c.has_leading_zero.ensures.0 c.if-has_leading_zero.true in
    no_leading_zero n c.args.digits.now small is zero.0 zero.1

pub returns-in_default : goal.returns-in_default
returns-in_default c n small is = absurd (c.in_default.ensures.cases.0 (digits_are_text c.args.digits.now c.requires))

pub returns-in-Ok-parse : goal.returns-in-Ok-parse
returns-in-Ok-parse c =
    let plain : 1 < length c.args.digits.now → get_or c.args.digits.now 0 0 ≡ 48 → ⊥
    = λ long zero. let leads : c.has_leading_zero.result ≡ true = c.has_leading_zero.ensures.1 (long, zero) in absurd (cc (leads, c.if-has_leading_zero.false)) in
    parsed_is_written c.args.digits.now c.in-Ok.text.now c.in-Ok-parse.number c.parse.result c.parse.ensures.value.0 c.in-Ok.ensures.cases.0 c.in-Ok-parse.is c.requires plain

pub returns-in-Err : goal.returns-in-Err
returns-in-Err c n small is =
    written_is_parsed c.args.digits.now c.in-Ok.text.now n c.parse.result c.in-Err.field-0 c.parse.ensures.value.0 c.in-Ok.ensures.cases.0 c.in-Err.is small is
