use Rattle.md_machine.proofs.program.interpret.Goals as goal

pub instrument-requires : goal.instrument-requires
instrument-requires g c = c.in_ok-code.ensures
