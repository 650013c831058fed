use Rattle.std.proofs.Common.{arith}
use Rattle.std.proofs.lemmas.Grind.{common_steps}
use Rattle.md_token.specs.Token.{token_at}
use Rattle.md_token.proofs.scan.token_at.Goals as goal

pub returns-in-34-clause-token : goal.returns-in-34-clause-token
unfolding token_at
returns-in-34-clause-token c = grind (arith, common_steps)

pub returns-in-34-clause-within : goal.returns-in-34-clause-within
unfolding token_at
returns-in-34-clause-within c = grind (arith, common_steps)

pub returns-in-97-to-122-clause-token : goal.returns-in-97-to-122-clause-token
unfolding token_at
returns-in-97-to-122-clause-token c = grind (arith, common_steps)

pub returns-in-97-to-122-clause-within : goal.returns-in-97-to-122-clause-within
unfolding token_at
returns-in-97-to-122-clause-within c = grind (arith, common_steps)

pub returns-in-48-to-57-clause-token : goal.returns-in-48-to-57-clause-token
unfolding token_at
returns-in-48-to-57-clause-token c = grind (arith, common_steps)

pub returns-in-48-to-57-clause-within : goal.returns-in-48-to-57-clause-within
unfolding token_at
returns-in-48-to-57-clause-within c = grind (arith, common_steps)

pub returns-in-65-to-90-clause-token : goal.returns-in-65-to-90-clause-token
unfolding token_at
returns-in-65-to-90-clause-token c = grind (arith, common_steps)

pub returns-in-65-to-90-clause-within : goal.returns-in-65-to-90-clause-within
unfolding token_at
returns-in-65-to-90-clause-within c = grind (arith, common_steps)

pub returns-in_default-clause-token : goal.returns-in_default-clause-token
unfolding token_at
returns-in_default-clause-token c = grind (arith, common_steps)

pub returns-in_default-clause-within : goal.returns-in_default-clause-within
unfolding token_at
returns-in_default-clause-within c = grind (arith, common_steps)
