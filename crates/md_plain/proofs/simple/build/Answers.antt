use Rattle.std.proofs.Common.{◌∙◌, ap, sym, length}
use Rattle.md_hlds.specs.Value.{values_at}
use Rattle.md_plain.specs.Values.{option_parts, env_of}
use Rattle.md_plain.proofs.ValueLemmas.{built}
use Rattle.md_plain.proofs.simple.build.Goals as goal

pub returns : goal.returns
returns c =
    built (env_of c.args.env.now) (env_of c.in_ok-new.new.now) c.args.x (length c.args.variables.now) c.args.name.now c.in-Some.parts.now (values_at (env_of c.args.env.now) c.args.variables.now)
    (sym (ap option_parts c.in-Some.is) ∙ c.in_ok-parts.ensures) c.in_ok-new.ensures
