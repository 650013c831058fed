use Rattle.std.proofs.Common.{◌≡◌, sym, subst, true, Option, arith}
use Rattle.std.specs.Prelude.{codes}
use Rattle.std.specs.Result.{IfErr}
use Rattle.std.proofs.lemmas.Grind.{common_steps}
use Rattle.md_query.specs.Asked.{Asked, callers_by, keeps_text, table_of}
use Rattle.md_query.specs.Pair.{ArePlain, measure_asked, value_of}
use Rattle.md_query.proofs.Plain.{plain_error}
use Rattle.md_query.proofs.read.found_table.Goals as goal

pub returns-then-eq-clause-memory : goal.returns-then-eq-clause-memory
unfolding table_of
returns-then-eq-clause-memory c = grind (arith, common_steps)

pub returns-then-eq-clause-plain : goal.returns-then-eq-clause-plain
unfolding table_of
returns-then-eq-clause-plain c = grind (arith, common_steps)

pub returns-then-eq-clause-query : goal.returns-then-eq-clause-query
unfolding table_of
returns-then-eq-clause-query c = grind (arith, common_steps)

pub returns-then-eq-2-clause-memory : goal.returns-then-eq-2-clause-memory
unfolding table_of
returns-then-eq-2-clause-memory c = grind (arith, common_steps)

pub returns-then-eq-2-clause-plain : goal.returns-then-eq-2-clause-plain
unfolding table_of
returns-then-eq-2-clause-plain c = grind (arith, common_steps)

pub returns-then-eq-2-clause-query : goal.returns-then-eq-2-clause-query
unfolding table_of
returns-then-eq-2-clause-query c = grind (arith, common_steps)

pub returns-then-eq-3-clause-memory : goal.returns-then-eq-3-clause-memory
unfolding table_of
returns-then-eq-3-clause-memory c = grind (arith, common_steps)

pub returns-then-eq-3-clause-plain : goal.returns-then-eq-3-clause-plain
unfolding table_of
returns-then-eq-3-clause-plain c = grind (arith, common_steps)

pub returns-then-eq-3-clause-query : goal.returns-then-eq-3-clause-query
unfolding table_of
returns-then-eq-3-clause-query c = grind (arith, common_steps)

pub returns-then-eq-4-clause-memory : goal.returns-then-eq-4-clause-memory
unfolding table_of
returns-then-eq-4-clause-memory c = grind (arith, common_steps)

pub returns-then-eq-4-clause-plain : goal.returns-then-eq-4-clause-plain
unfolding table_of
returns-then-eq-4-clause-plain c =
    let pairs = c.args.pairs.now in
    let is : table_of c.args.path.now pairs ≡ callers_by (measure_asked pairs) (value_of (codes "id") pairs) (value_of (codes "name") pairs) = grind (arith, common_steps) in
    subst (λ (o : Option Asked). IfErr c.callers_query.result (λ _. ArePlain pairs → keeps_text o ≡ true)) (sym is) (plain_error c.callers_query.result _ _ c.callers_query.ensures.plain)

pub returns-then-eq-4-clause-query : goal.returns-then-eq-4-clause-query
unfolding table_of
returns-then-eq-4-clause-query c = grind (arith, common_steps)

pub returns-else-eq-6-clause-memory : goal.returns-else-eq-6-clause-memory
unfolding table_of
returns-else-eq-6-clause-memory c = grind (arith, common_steps)

pub returns-else-eq-6-clause-plain : goal.returns-else-eq-6-clause-plain
unfolding table_of
returns-else-eq-6-clause-plain c = grind (arith, common_steps)

pub returns-else-eq-6-clause-query : goal.returns-else-eq-6-clause-query
unfolding table_of
returns-else-eq-6-clause-query c = grind (arith, common_steps)

pub returns-then-eq-5-clause-memory : goal.returns-then-eq-5-clause-memory
unfolding table_of
returns-then-eq-5-clause-memory c = grind (arith, common_steps)

pub returns-then-eq-5-clause-plain : goal.returns-then-eq-5-clause-plain
unfolding table_of
returns-then-eq-5-clause-plain c = grind (arith, common_steps)

pub returns-then-eq-5-clause-query : goal.returns-then-eq-5-clause-query
unfolding table_of
returns-then-eq-5-clause-query c = grind (arith, common_steps)

pub returns-then-eq-6-clause-memory : goal.returns-then-eq-6-clause-memory
unfolding table_of
returns-then-eq-6-clause-memory c = grind (arith, common_steps)

pub returns-then-eq-6-clause-plain : goal.returns-then-eq-6-clause-plain
unfolding table_of
returns-then-eq-6-clause-plain c = grind (arith, common_steps)

pub returns-then-eq-6-clause-query : goal.returns-then-eq-6-clause-query
unfolding table_of
returns-then-eq-6-clause-query c = grind (arith, common_steps)
