use Rattle.std.proofs.Common.{◌∙◌, ap}
use Rattle.md_hlds.specs.Value.{bound}
use Rattle.md_plain.specs.Values.{value_of, env_of}
use Rattle.md_plain.proofs.ValueLemmas.{env_of-bound, bound-past_slots}
use Rattle.md_plain.proofs.env.bound.Goals as goal

pub returns-then-place-new : goal.returns-then-place-new
returns-then-place-new c =
    env_of-bound c.in_ok-new.new.now c.args.place c.args.value c.if-place-new.true
    ∙ ap (λ e. bound (env_of e) c.args.place (value_of c.args.value)) c.in_ok-new.ensures

pub returns-else-place-new : goal.returns-else-place-new
returns-else-place-new c =
    bound-past_slots c.in_ok-new.new.now c.args.place (value_of c.args.value) c.if-place-new.false
    ∙ ap (λ e. bound (env_of e) c.args.place (value_of c.args.value)) c.in_ok-new.ensures
