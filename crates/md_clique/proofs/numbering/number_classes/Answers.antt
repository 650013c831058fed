use Rattle.std.proofs.Common.{◌≡◌, length, get_or, None, arith, refl}
use Rattle.std.proofs.lemmas.Grind.{common_steps}
use Rattle.std.proofs.lemmas.List.{with_items_is}
use Rattle.md_clique.proofs.Naming.{naming_more, count_is, are_numbers}
use Rattle.md_clique.proofs.numbering.number_classes.Goals as goal

pub loop-state-preserved : goal.loop-state-preserved
loop-state-preserved c =
    let value = c.deref_mut.ensures.value in
    let written = with_items_is c.loop-state.names c.name_of-number.new.names (rw c.deref_mut.ensures.len at c.name_of-number.auto.names) in
    rw (c.in_ok-push.ensures.items, written)
    (naming_more c.args.states.now c.args.classes c.loop-state.state-index c.loop-state.names.items c.loop-state.numbers.items c.loop-state.count c.loop-state.invariant
    c.class.result c.class.ensures (rw c.class.ensures (c.requires.below c.loop-state.state-index c.loop-state-test.true))
    (get_or c.loop-state.names.items c.class.result None) refl
    c.name_of-number.result c.name_of-number.new.count c.name_of-number.new.names
    (rw value at c.name_of-number.ensures.known) (rw value at c.name_of-number.ensures.count) (rw value at c.name_of-number.ensures.names))

pub returns-clause-count : goal.returns-clause-count
returns-clause-count c =
    let done : c.loop-state.state-index ≡ length c.args.states.now = omega arith in
    count_is c.args.states.now c.args.classes c.loop-state.names.items c.loop-state.numbers.items c.loop-state.count (rw done at c.loop-state.invariant)

pub returns-clause-numbers : goal.returns-clause-numbers
returns-clause-numbers c =
    let done : c.loop-state.state-index ≡ length c.args.states.now = omega arith in
    are_numbers c.args.states.now c.args.classes c.loop-state.names.items c.loop-state.numbers.items c.loop-state.count (rw done at c.loop-state.invariant)

pub returns-in_err-names-clause-numbers : goal.returns-in_err-names-clause-numbers
returns-in_err-names-clause-numbers c = grind (arith, common_steps)

pub returns-in_err-names-clause-count : goal.returns-in_err-names-clause-count
returns-in_err-names-clause-count c = grind (arith, common_steps)

pub returns-in_err-numbers-clause-numbers : goal.returns-in_err-numbers-clause-numbers
returns-in_err-numbers-clause-numbers c = grind (arith, common_steps)

pub returns-in_err-numbers-clause-count : goal.returns-in_err-numbers-clause-count
returns-in_err-numbers-clause-count c = grind (arith, common_steps)

pub loop-state-init : goal.loop-state-init
loop-state-init c = grind (arith, common_steps)

pub name_of-number-requires-clause-there : goal.name_of-number-requires-clause-there
name_of-number-requires-clause-there c = grind (arith, common_steps)

pub name_of-number-requires-clause-fits : goal.name_of-number-requires-clause-fits
name_of-number-requires-clause-fits c = grind (arith, common_steps)

pub returns-in_err-push-clause-numbers : goal.returns-in_err-push-clause-numbers
returns-in_err-push-clause-numbers c = grind (arith, common_steps)

pub returns-in_err-push-clause-count : goal.returns-in_err-push-clause-count
returns-in_err-push-clause-count c = grind (arith, common_steps)

pub loop-state-smaller : goal.loop-state-smaller
loop-state-smaller c = grind (arith, common_steps)
