use Rattle.std.proofs.Common.{◌≡◌, drop}
use Rattle.md_hlds.specs.Hlds.{hlds_of, hlds_functors_of}
use Rattle.md_modes.specs.Declarations as spec
use Rattle.md_modes.proofs.declarations.check_functors.Given as goal

abbrev pub invariant-loop-functor : goal.invariant-loop-functor
invariant-loop-functor l = spec.functors (hlds_of l.names).types l.line (hlds_functors_of l.functors) ≡ spec.functors (hlds_of l.names).types l.line (hlds_functors_of (drop l.functor-index l.functors))
