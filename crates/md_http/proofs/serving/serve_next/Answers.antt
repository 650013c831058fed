use Rattle.std.proofs.Common.{arith}
use Rattle.std.proofs.lemmas.Grind.{common_steps}
use Rattle.md_http.proofs.Givings.{step_served, step_refused}
use Rattle.md_http.proofs.serving.serve_next.Goals as goal

pub returns-in-Ok-clause-step : goal.returns-in-Ok-clause-step
returns-in-Ok-clause-step g c = λ v before is told.
    let came = rw c.in-Ok-Some.field-0-is at c.in-Ok-Some.ensures.first in
    step_served v before _ _ _ _ _ c.in-Ok.served told came (λ b input kept stream held. c.in-Ok.ensures.end v b input is kept stream held)

pub returns-in-Err-clause-step : goal.returns-in-Err-clause-step
returns-in-Err-clause-step g c = λ v before is told.
    let came = rw c.in-Ok-Some.field-0-is at c.in-Ok-Some.ensures.first in
    step_refused v before _ _ _ _ _ c.in-Err.fault told came (λ b input kept stream held. c.in-Err.ensures.end v b input is kept stream held)

pub returns-in-Err-Device-clause-memory : goal.returns-in-Err-Device-clause-memory
returns-in-Err-Device-clause-memory g c = grind (arith, common_steps)

pub returns-in-Err-Device-clause-stays : goal.returns-in-Err-Device-clause-stays
returns-in-Err-Device-clause-stays g c = grind (arith, common_steps)

pub returns-in-Err-Device-clause-step : goal.returns-in-Err-Device-clause-step
returns-in-Err-Device-clause-step g c = grind (arith, common_steps)

pub returns-in-Err-NoMemory-clause-memory : goal.returns-in-Err-NoMemory-clause-memory
returns-in-Err-NoMemory-clause-memory g c = grind (arith, common_steps)

pub returns-in-Err-NoMemory-clause-stays : goal.returns-in-Err-NoMemory-clause-stays
returns-in-Err-NoMemory-clause-stays g c = grind (arith, common_steps)

pub returns-in-Err-NoMemory-clause-step : goal.returns-in-Err-NoMemory-clause-step
returns-in-Err-NoMemory-clause-step g c = grind (arith, common_steps)

pub returns-in-Ok-None-clause-memory : goal.returns-in-Ok-None-clause-memory
returns-in-Ok-None-clause-memory g c = grind (arith, common_steps)

pub returns-in-Ok-None-clause-stays : goal.returns-in-Ok-None-clause-stays
returns-in-Ok-None-clause-stays g c = grind (arith, common_steps)

pub returns-in-Ok-None-clause-step : goal.returns-in-Ok-None-clause-step
returns-in-Ok-None-clause-step g c = grind (arith, common_steps)

pub returns-in-Ok-clause-memory : goal.returns-in-Ok-clause-memory
returns-in-Ok-clause-memory g c = grind (arith, common_steps)

pub returns-in-Ok-clause-stays : goal.returns-in-Ok-clause-stays
returns-in-Ok-clause-stays g c = grind (arith, common_steps)

pub returns-in-Err-clause-memory : goal.returns-in-Err-clause-memory
returns-in-Err-clause-memory g c = grind (arith, common_steps)

pub returns-in-Err-clause-stays : goal.returns-in-Err-clause-stays
returns-in-Err-clause-stays g c = grind (arith, common_steps)

pub serve_one-requires-clause-reads : goal.serve_one-requires-clause-reads
serve_one-requires-clause-reads g c = grind (arith, common_steps)

pub serve_one-requires-clause-writes : goal.serve_one-requires-clause-writes
serve_one-requires-clause-writes g c = grind (arith, common_steps)
