use Rattle.std.proofs.Common.{◌∙◌, ap, sym, length}
use Rattle.md_hlds.specs.Value.{values_at}
use Rattle.md_plain.specs.Values.{option_parts, env_of}
use Rattle.md_plain.proofs.ValueLemmas.{closed}
use Rattle.md_plain.proofs.simple.close.Goals as goal

pub returns : goal.returns
returns c =
    closed (env_of c.args.env.now) (env_of c.in_ok-new.new.now) c.args.x (length c.args.variables.now) c.in_ok-words.words c.args.procedure c.in-Some.held.now (values_at (env_of c.args.env.now) c.args.variables.now)
    (sym (ap option_parts c.in-Some.is) ∙ c.in_ok-held.ensures) c.in_ok-new.ensures c.in_ok-words.ensures
