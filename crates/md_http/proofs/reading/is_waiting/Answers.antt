use Rattle.std.proofs.Common.{drop}
use Rattle.md_http.specs.Heard.{by_head}
use Rattle.md_http.proofs.reading.is_waiting.Goals as goal

pub returns-in-Head-clause-decides : goal.returns-in-Head-clause-decides
returns-in-Head-clause-decides c = λ _. let found = c.in-Head.ensures in by_head found.0 (drop c.in-Head.field-0.len c.args.bytes.now) found.1.reads
