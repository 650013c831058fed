use Rattle.std.proofs.Common.{arith}
use Rattle.std.proofs.lemmas.Grind.{common_steps}
use Rattle.md_http.proofs.Readings.{refused_early}
use Rattle.md_http.proofs.link.hear_link.Goals as goal

pub returns-in_err-room-clause-some : goal.returns-in_err-room-clause-some
returns-in_err-room-clause-some g c = refused_early c.from_residual-in_err-room.result _

pub returns-clause-due : goal.returns-clause-due
returns-clause-due g c = grind (arith, common_steps)

pub returns-clause-beside : goal.returns-clause-beside
returns-clause-beside g c = grind (arith, common_steps)

pub returns-in_err-response-clause-due : goal.returns-in_err-response-clause-due
returns-in_err-response-clause-due g c = grind (arith, common_steps)

pub returns-in_err-response-clause-waits : goal.returns-in_err-response-clause-waits
returns-in_err-response-clause-waits g c = grind (arith, common_steps)

pub returns-in_err-response-clause-some : goal.returns-in_err-response-clause-some
returns-in_err-response-clause-some g c = grind (arith, common_steps)

pub returns-in_err-response-clause-beside : goal.returns-in_err-response-clause-beside
returns-in_err-response-clause-beside g c = grind (arith, common_steps)

pub returns-in_err-count-clause-due : goal.returns-in_err-count-clause-due
returns-in_err-count-clause-due g c = grind (arith, common_steps)

pub returns-in_err-count-clause-waits : goal.returns-in_err-count-clause-waits
returns-in_err-count-clause-waits g c = grind (arith, common_steps)

pub returns-in_err-count-clause-some : goal.returns-in_err-count-clause-some
returns-in_err-count-clause-some g c = grind (arith, common_steps)

pub returns-in_err-count-clause-beside : goal.returns-in_err-count-clause-beside
returns-in_err-count-clause-beside g c = grind (arith, common_steps)

pub returns-in_err-room-clause-due : goal.returns-in_err-room-clause-due
returns-in_err-room-clause-due g c = grind (arith, common_steps)

pub returns-in_err-room-clause-waits : goal.returns-in_err-room-clause-waits
returns-in_err-room-clause-waits g c = grind (arith, common_steps)

pub returns-in_err-room-clause-beside : goal.returns-in_err-room-clause-beside
returns-in_err-room-clause-beside g c = grind (arith, common_steps)

pub returns-in_err-bytes-clause-due : goal.returns-in_err-bytes-clause-due
returns-in_err-bytes-clause-due g c = grind (arith, common_steps)

pub returns-in_err-bytes-clause-waits : goal.returns-in_err-bytes-clause-waits
returns-in_err-bytes-clause-waits g c = grind (arith, common_steps)

pub returns-in_err-bytes-clause-some : goal.returns-in_err-bytes-clause-some
returns-in_err-bytes-clause-some g c = grind (arith, common_steps)

pub returns-in_err-bytes-clause-beside : goal.returns-in_err-bytes-clause-beside
returns-in_err-bytes-clause-beside g c = grind (arith, common_steps)

pub returns-clause-some : goal.returns-clause-some
returns-clause-some g c = grind (arith, common_steps)

pub returns-clause-waits : goal.returns-clause-waits
returns-clause-waits g c = grind (arith, common_steps)
