use Rattle.md_plain.proofs.ValueLemmas.{value_at-env_of, value_at-past}
use Rattle.md_plain.proofs.env.value_at.Goals as goal

pub returns-then-place-env : goal.returns-then-place-env
returns-then-place-env c = value_at-env_of c.args.env.now c.args.place c.index-env-place.result c.if-place-env.true c.index-env-place.is

pub returns-else-place-env : goal.returns-else-place-env
returns-else-place-env c = value_at-past c.args.env.now c.args.place c.if-place-env.false
