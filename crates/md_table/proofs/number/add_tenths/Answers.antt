use Rattle.std.proofs.Common.{◌≡◌, ◌+◌, ◌%◌, ◌∷◌, [], decimal, arith}
use Rattle.std.proofs.lemmas.Fmt.{decimal_digit}
use Rattle.std.proofs.lemmas.Grind.{common_steps}
use Rattle.md_table.proofs.number.add_tenths.Goals as goal

pub returns-clause-added : goal.returns-clause-added
returns-clause-added c =
    let digit : decimal (c.args.tenths % 10) ≡ (48 + c.args.tenths % 10) ∷ [] = decimal_digit (c.args.tenths % 10) (omega arith) in
    grind (arith, common_steps, digit)
