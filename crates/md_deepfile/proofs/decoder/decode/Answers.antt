use Rattle.std.proofs.Common.{[], arith}
use Rattle.std.proofs.lemmas.Grind.{common_steps}
use Rattle.md_deepfile.proofs.Fed.{fault_told, never_damaged}
use Rattle.md_deepfile.proofs.decoder.decode.Goals as goal

pub returns-in-Err-clause-only : goal.returns-in-Err-clause-only
returns-in-Err-clause-only c = λ f spells.
    never_damaged c.in-Err.fault c.args.bytes.now f (fault_told c.in-Err.fault c.args.bytes.now (c.in-Err.ensures.tells [] c.in_ok-decoder.ensures)) spells

pub returns-in-Err-clause-damage : goal.returns-in-Err-clause-damage
returns-in-Err-clause-damage c = grind (arith, common_steps)

pub returns-in-Err-clause-found : goal.returns-in-Err-clause-found
returns-in-Err-clause-found c = grind (arith, common_steps)

pub returns-in-Err-clause-valid : goal.returns-in-Err-clause-valid
returns-in-Err-clause-valid c = grind (arith, common_steps)

pub returns-in_err-decoder-clause-damage : goal.returns-in_err-decoder-clause-damage
returns-in_err-decoder-clause-damage c = grind (arith, common_steps)

pub returns-in_err-decoder-clause-found : goal.returns-in_err-decoder-clause-found
returns-in_err-decoder-clause-found c = grind (arith, common_steps)

pub returns-in_err-decoder-clause-only : goal.returns-in_err-decoder-clause-only
returns-in_err-decoder-clause-only c = grind (arith, common_steps)

pub returns-in_err-decoder-clause-valid : goal.returns-in_err-decoder-clause-valid
returns-in_err-decoder-clause-valid c = grind (arith, common_steps)

pub returns-in-Ok-clause-damage : goal.returns-in-Ok-clause-damage
returns-in-Ok-clause-damage c = grind (arith, common_steps)

pub returns-in-Ok-clause-found : goal.returns-in-Ok-clause-found
returns-in-Ok-clause-found c = grind (arith, common_steps)

pub returns-in-Ok-clause-only : goal.returns-in-Ok-clause-only
returns-in-Ok-clause-only c = grind (arith, common_steps)

pub returns-in-Ok-clause-valid : goal.returns-in-Ok-clause-valid
returns-in-Ok-clause-valid c = grind (arith, common_steps)
