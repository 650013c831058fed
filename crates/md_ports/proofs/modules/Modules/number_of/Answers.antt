use Rattle.std.proofs.Common.{◌∙◌}
use Rattle.md_ports.proofs.Names.{number_told}
use Rattle.md_ports.proofs.modules.Modules.number_of.Goals as goal

pub returns : goal.returns
returns c =
    c.unwrap_or.ensures
    ∙ number_told c.args.name.now c.as_bytes.result.now c.self.inside.numbers.keys c.args.self.now c.get_index_of.result
    c.as_bytes.ensures.bytes (c.self.invariant.0 ∙ c.self.view_is) c.get_index_of.ensures.index
