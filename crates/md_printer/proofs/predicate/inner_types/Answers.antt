use Rattle.std.proofs.Common.{arith}
use Rattle.std.proofs.lemmas.Grind.{common_steps}
use Rattle.md_printer.specs.Layout.{laid}
use Rattle.md_printer.proofs.Views.{inner_types-Ho}
use Rattle.md_printer.proofs.predicate.inner_types.Goals as goal

pub returns-in_ok-type_words-in-Ho : goal.returns-in_ok-type_words-in-Ho
unfolding laid
returns-in_ok-type_words-in-Ho c =
    rw (inner_types-Ho c.args.ty.now c.in-Ho.higher c.deref.result.now c.in-Ho.is c.deref.ensures.value) (grind (arith, common_steps))

pub returns-in-Int : goal.returns-in-Int
unfolding laid
returns-in-Int c = grind (arith, common_steps)

pub returns-in-Int-4 : goal.returns-in-Int-4
unfolding laid
returns-in-Int-4 c = grind (arith, common_steps)
