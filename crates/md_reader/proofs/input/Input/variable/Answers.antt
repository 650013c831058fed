use Rattle.std.proofs.Common.{◌∙◌, sym, refl, arith}
use Rattle.md_token.specs.declared.kind.Kind.TheVariants as kind
use Rattle.md_reader.specs.Input.{input_of}
use Rattle.md_reader.proofs.Filled.{filled}
use Rattle.md_reader.proofs.Room.{variable_room}
use Rattle.md_reader.proofs.input.Input.variable.Goals as goal

pub add-requires : goal.add-requires
add-requires c = record {
  name = (filled kind.Variable c.token.result (input_of c.args.self.now) c.token.ensures (sym c.sees.ensures ∙ c.if-not-sees.false) refl, c.if-text-gt-MOST.false);
  few = let r = variable_room c.args.self.now c.advance.new.self (sym c.sees.ensures ∙ c.if-not-sees.false) c.advance.ensures in omega (arith, r);
}

pub invariant_of-self : goal.invariant_of-self
invariant_of-self c = record {
  few = let r = variable_room c.args.self.now c.advance.new.self (sym c.sees.ensures ∙ c.if-not-sees.false) c.advance.ensures in omega (arith, r, c.add.ensures.more);
  numbered = c.advance.new.self.numbered;
}
