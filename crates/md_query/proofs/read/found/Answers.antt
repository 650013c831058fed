use Rattle.std.proofs.Common.{arith}
use Rattle.std.proofs.lemmas.Grind.{common_steps}
use Rattle.md_query.specs.Asked.{query_of}
use Rattle.md_query.proofs.read.found.Goals as goal

pub returns-then-is_menu-clause-memory : goal.returns-then-is_menu-clause-memory
unfolding query_of
returns-then-is_menu-clause-memory c = grind (arith, common_steps)

pub returns-then-is_menu-clause-plain : goal.returns-then-is_menu-clause-plain
unfolding query_of
returns-then-is_menu-clause-plain c = grind (arith, common_steps)

pub returns-then-is_menu-clause-query : goal.returns-then-is_menu-clause-query
unfolding query_of
returns-then-is_menu-clause-query c = grind (arith, common_steps)

pub returns-then-eq-clause-memory : goal.returns-then-eq-clause-memory
unfolding query_of
returns-then-eq-clause-memory c = grind (arith, common_steps)

pub returns-then-eq-clause-plain : goal.returns-then-eq-clause-plain
unfolding query_of
returns-then-eq-clause-plain c = grind (arith, common_steps)

pub returns-then-eq-clause-query : goal.returns-then-eq-clause-query
unfolding query_of
returns-then-eq-clause-query c = grind (arith, common_steps)

pub returns-then-eq-2-clause-memory : goal.returns-then-eq-2-clause-memory
unfolding query_of
returns-then-eq-2-clause-memory c = grind (arith, common_steps)

pub returns-then-eq-2-clause-plain : goal.returns-then-eq-2-clause-plain
unfolding query_of
returns-then-eq-2-clause-plain c = grind (arith, common_steps)

pub returns-then-eq-2-clause-query : goal.returns-then-eq-2-clause-query
unfolding query_of
returns-then-eq-2-clause-query c = grind (arith, common_steps)

pub returns-then-eq-3-clause-memory : goal.returns-then-eq-3-clause-memory
unfolding query_of
returns-then-eq-3-clause-memory c = grind (arith, common_steps)

pub returns-then-eq-3-clause-plain : goal.returns-then-eq-3-clause-plain
unfolding query_of
returns-then-eq-3-clause-plain c = grind (arith, common_steps)

pub returns-then-eq-3-clause-query : goal.returns-then-eq-3-clause-query
unfolding query_of
returns-then-eq-3-clause-query c = grind (arith, common_steps)

pub returns-then-eq-4-clause-memory : goal.returns-then-eq-4-clause-memory
unfolding query_of
returns-then-eq-4-clause-memory c = grind (arith, common_steps)

pub returns-then-eq-4-clause-plain : goal.returns-then-eq-4-clause-plain
unfolding query_of
returns-then-eq-4-clause-plain c = grind (arith, common_steps)

pub returns-then-eq-4-clause-query : goal.returns-then-eq-4-clause-query
unfolding query_of
returns-then-eq-4-clause-query c = grind (arith, common_steps)

pub returns-then-eq-5-clause-memory : goal.returns-then-eq-5-clause-memory
unfolding query_of
returns-then-eq-5-clause-memory c = grind (arith, common_steps)

pub returns-then-eq-5-clause-plain : goal.returns-then-eq-5-clause-plain
unfolding query_of
returns-then-eq-5-clause-plain c = grind (arith, common_steps)

pub returns-then-eq-5-clause-query : goal.returns-then-eq-5-clause-query
unfolding query_of
returns-then-eq-5-clause-query c = grind (arith, common_steps)

pub returns-then-eq-6-clause-memory : goal.returns-then-eq-6-clause-memory
unfolding query_of
returns-then-eq-6-clause-memory c = grind (arith, common_steps)

pub returns-then-eq-6-clause-plain : goal.returns-then-eq-6-clause-plain
unfolding query_of
returns-then-eq-6-clause-plain c = grind (arith, common_steps)

pub returns-then-eq-6-clause-query : goal.returns-then-eq-6-clause-query
unfolding query_of
returns-then-eq-6-clause-query c = grind (arith, common_steps)

pub returns-then-eq-7-clause-memory : goal.returns-then-eq-7-clause-memory
unfolding query_of
returns-then-eq-7-clause-memory c = grind (arith, common_steps)

pub returns-then-eq-7-clause-plain : goal.returns-then-eq-7-clause-plain
unfolding query_of
returns-then-eq-7-clause-plain c = grind (arith, common_steps)

pub returns-then-eq-7-clause-query : goal.returns-then-eq-7-clause-query
unfolding query_of
returns-then-eq-7-clause-query c = grind (arith, common_steps)

pub returns-else-eq-7-clause-memory : goal.returns-else-eq-7-clause-memory
unfolding query_of
returns-else-eq-7-clause-memory c = grind (arith, common_steps)

pub returns-else-eq-7-clause-plain : goal.returns-else-eq-7-clause-plain
unfolding query_of
returns-else-eq-7-clause-plain c = grind (arith, common_steps)

pub returns-else-eq-7-clause-query : goal.returns-else-eq-7-clause-query
unfolding query_of
returns-else-eq-7-clause-query c = grind (arith, common_steps)
