use Rattle.std.proofs.Common.{◌≡◌, drop, fold}
use Rattle.md_token.specs.Literal.{with_digit}
use Rattle.md_token.proofs.literal.number_of.Given as goal

-- the rest of the digits makes the number so far the whole one
abbrev pub invariant-loop-digit : goal.invariant-loop-digit
invariant-loop-digit l = fold with_digit 0 l.digits ≡ fold with_digit l.number (drop l.digit-index l.digits)
