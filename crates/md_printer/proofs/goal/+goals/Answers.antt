use Rattle.std.proofs.Common.{arith}
use Rattle.std.proofs.lemmas.Grind.{common_steps}
use Rattle.md_printer.specs.Layout.{laid}
use Rattle.md_printer.proofs.Views.{tokens_of-Conj, tokens_of-Disj}
use Rattle.md_printer.proofs.goal.+goals.Goals as goal

pub goal-returns-in-Conj : goal.goal-returns-in-Conj
goal-returns-in-Conj t c =
    rw (tokens_of-Conj c.args.names.now c.args.inner c.args.printed.now.kind c.in-Conj.goals c.deref.result.now c.in-Conj.is c.deref.ensures.value) c.conjunction.ensures

pub goal-returns-in-Disj : goal.goal-returns-in-Disj
goal-returns-in-Disj t c =
    rw (tokens_of-Disj c.args.names.now c.args.inner c.args.printed.now.kind c.in-Disj.goals c.deref-in-Disj.result.now c.in-Disj.is c.deref-in-Disj.ensures.value) c.disjunction.ensures

pub goal-returns-in-Arith : goal.goal-returns-in-Arith
unfolding laid
goal-returns-in-Arith t c = grind (arith, common_steps)

pub goal-returns-in-Call : goal.goal-returns-in-Call
unfolding laid
goal-returns-in-Call t c = grind (arith, common_steps)

pub goal-returns-in-Compare : goal.goal-returns-in-Compare
unfolding laid
goal-returns-in-Compare t c = grind (arith, common_steps)

pub goal-returns-in-Error : goal.goal-returns-in-Error
unfolding laid
goal-returns-in-Error t c = grind (arith, common_steps)

pub goal-returns-in-Fail : goal.goal-returns-in-Fail
unfolding laid
goal-returns-in-Fail t c = grind (arith, common_steps)

pub goal-returns-in-HoCall : goal.goal-returns-in-HoCall
unfolding laid
goal-returns-in-HoCall t c = grind (arith, common_steps)

pub goal-returns-in-Nl : goal.goal-returns-in-Nl
unfolding laid
goal-returns-in-Nl t c = grind (arith, common_steps)

pub goal-returns-in-Not : goal.goal-returns-in-Not
unfolding laid
goal-returns-in-Not t c = grind (arith, common_steps)

pub goal-returns-in-Some : goal.goal-returns-in-Some
unfolding laid
goal-returns-in-Some t c = grind (arith, common_steps)

pub goal-returns-in-True : goal.goal-returns-in-True
unfolding laid
goal-returns-in-True t c = grind (arith, common_steps)

pub goal-returns-in-Unify : goal.goal-returns-in-Unify
unfolding laid
goal-returns-in-Unify t c = grind (arith, common_steps)

pub goal-returns-in-WriteInt : goal.goal-returns-in-WriteInt
unfolding laid
goal-returns-in-WriteInt t c = grind (arith, common_steps)

pub goal-returns-in-WriteStr : goal.goal-returns-in-WriteStr
unfolding laid
goal-returns-in-WriteStr t c = grind (arith, common_steps)

pub goal-returns-in_ok-alternative-in-If-2 : goal.goal-returns-in_ok-alternative-in-If-2
unfolding laid
goal-returns-in_ok-alternative-in-If-2 t c = grind (arith, common_steps)

pub enclosed-returns : goal.enclosed-returns
unfolding laid
enclosed-returns t c = grind (arith, common_steps)

pub negation-returns : goal.negation-returns
unfolding laid
negation-returns t c = grind (arith, common_steps)

pub quantification-returns : goal.quantification-returns
unfolding laid
quantification-returns t c = grind (arith, common_steps)

pub alternative-returns : goal.alternative-returns
unfolding laid
alternative-returns t c = grind (arith, common_steps)

pub conjunction-returns-else-inner : goal.conjunction-returns-else-inner
unfolding laid
conjunction-returns-else-inner t c = grind (arith, common_steps)

pub conjunction-returns-in_ok-parts : goal.conjunction-returns-in_ok-parts
unfolding laid
conjunction-returns-in_ok-parts t c = grind (arith, common_steps)

pub disjunction-returns : goal.disjunction-returns
unfolding laid
disjunction-returns t c = grind (arith, common_steps)

pub parts-returns-after-loop-part : goal.parts-returns-after-loop-part
unfolding laid
parts-returns-after-loop-part t c = grind (arith, common_steps)

pub parts-loop-part-init : goal.parts-loop-part-init
unfolding laid
parts-loop-part-init t c = grind (arith, common_steps)

pub parts-loop-part-preserved : goal.parts-loop-part-preserved
unfolding laid
parts-loop-part-preserved t c = grind (arith, common_steps)

pub parts-returns-in_default : goal.parts-returns-in_default
unfolding laid
parts-returns-in_default t c = grind (arith, common_steps)
