use Rattle.md_modes.proofs.Notings.{class_closure, class_open}
use Rattle.md_modes.proofs.finding.class_of_kind.Goals as goal

pub returns-in_ok-copy-in-Closure : goal.returns-in_ok-copy-in-Closure
returns-in_ok-copy-in-Closure c =
    class_closure c.in_ok-copy-in-Closure.copy c.args.kind c.in-Closure.closure c.in-Closure.is
    c.in_ok-copy-in-Closure.ensures.types c.in_ok-copy-in-Closure.ensures.modes c.in_ok-copy-in-Closure.ensures.det

pub returns-in_ok-left-in-Open : goal.returns-in_ok-left-in-Open
returns-in_ok-left-in-Open c =
    class_open c.in_ok-left-in-Open.left c.args.kind c.in-Open.args c.in-Open.det c.in-Open.is
    c.in_ok-left-in-Open.ensures.types c.in_ok-left-in-Open.ensures.modes c.in_ok-left-in-Open.ensures.det
