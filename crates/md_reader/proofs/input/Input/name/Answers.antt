use Rattle.std.proofs.Common.{◌∙◌, sym, refl}
use Rattle.md_token.specs.declared.kind.Kind.TheVariants as kind
use Rattle.md_reader.specs.Input.{input_of}
use Rattle.md_reader.proofs.Filled.{filled}
use Rattle.md_reader.proofs.input.Input.name.Goals as goal

pub take_name-requires : goal.take_name-requires
take_name-requires c = filled kind.Name c.token.result (input_of c.args.self.now) c.token.ensures (sym c.sees.ensures ∙ c.if-not-sees.false) refl
