use Rattle.std.proofs.Common.{◌∙◌, sym, refl, arith}
use Rattle.std.proofs.lemmas.Grind.{common_steps}
use Rattle.md_token.specs.declared.kind.Kind.TheVariants as kind
use Rattle.md_reader.specs.Input.{input_of}
use Rattle.md_reader.specs.Rules.{simple_type}
use Rattle.md_reader.proofs.Filled.{filled}
use Rattle.md_reader.proofs.types.simple_type.Goals as goal

pub returns-then-not-sees : goal.returns-then-not-sees
unfolding simple_type
returns-then-not-sees c = grind (arith, common_steps)

pub returns-else-is_word-3 : goal.returns-else-is_word-3
unfolding simple_type
returns-else-is_word-3 c = grind (arith, common_steps)

pub returns : goal.returns
unfolding simple_type
returns c = grind (arith, common_steps)

pub take_name-requires : goal.take_name-requires
take_name-requires c = filled kind.Name c.token.result (input_of c.args.input.now) c.token.ensures (sym c.sees.ensures ∙ c.if-not-sees.false) refl
