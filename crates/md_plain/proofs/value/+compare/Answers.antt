use Rattle.std.proofs.Common.{arith}
use Rattle.std.proofs.lemmas.Grind.{common_steps}
use Rattle.md_plain.proofs.value.+compare.Goals as goal

pub compare-returns-after-eq : goal.compare-returns-after-eq
compare-returns-after-eq t c = grind (arith, common_steps)

pub compare-returns-after-p-q : goal.compare-returns-after-p-q
compare-returns-after-p-q t c = grind (arith, common_steps)

pub compare-returns-in-Built-w-2 : goal.compare-returns-in-Built-w-2
compare-returns-in-Built-w-2 t c = grind (arith, common_steps)

pub compare-returns-in-Closure-w : goal.compare-returns-in-Closure-w
compare-returns-in-Closure-w t c = grind (arith, common_steps)

pub compare-returns-in-Literal : goal.compare-returns-in-Literal
compare-returns-in-Literal t c = grind (arith, common_steps)

pub compare-returns-in-Literal-w : goal.compare-returns-in-Literal-w
compare-returns-in-Literal-w t c = grind (arith, common_steps)

pub compare-returns-in-Literal-w-2 : goal.compare-returns-in-Literal-w-2
compare-returns-in-Literal-w-2 t c = grind (arith, common_steps)

pub compare-returns-in-Number : goal.compare-returns-in-Number
compare-returns-in-Number t c = grind (arith, common_steps)

pub compare-returns-in-Number-w : goal.compare-returns-in-Number-w
compare-returns-in-Number-w t c = grind (arith, common_steps)

pub compare-returns-in-Number-w-2 : goal.compare-returns-in-Number-w-2
compare-returns-in-Number-w-2 t c = grind (arith, common_steps)

pub compare_all-returns-in-Nothing : goal.compare_all-returns-in-Nothing
compare_all-returns-in-Nothing t c = grind (arith, common_steps)

pub compare_all-returns-in-Nothing-ys : goal.compare_all-returns-in-Nothing-ys
compare_all-returns-in-Nothing-ys t c = grind (arith, common_steps)

pub compare_all-returns-in_ok-plus-in-Also-ys : goal.compare_all-returns-in_ok-plus-in-Also-ys
compare_all-returns-in_ok-plus-in-Also-ys t c = grind (arith, common_steps)

pub compare_all-returns-then-not-first : goal.compare_all-returns-then-not-first
compare_all-returns-then-not-first t c = grind (arith, common_steps)

pub compare_below-returns : goal.compare_below-returns
compare_below-returns t c = grind (arith, common_steps)

pub compare_below-returns-then-not-same : goal.compare_below-returns-then-not-same
compare_below-returns-then-not-same t c = grind (arith, common_steps)
