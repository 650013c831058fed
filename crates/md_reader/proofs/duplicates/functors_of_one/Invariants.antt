use Rattle.std.proofs.Common.{◌≡◌, ◌++◌, drop, map}
use Rattle.md_hlds.specs.Hlds.{hlds_functors_of}
use Rattle.md_reader.specs.Duplicates as spec
use Rattle.md_reader.specs.Views.{all_declared}
use Rattle.md_reader.proofs.duplicates.functors_of_one.Given as goal

-- what is declared so far and in the rest is the whole
abbrev pub invariant-loop-functor : goal.invariant-loop-functor
invariant-loop-functor l = all_declared l.declared.items ++ map (spec.declared_functor l.line) (hlds_functors_of (drop l.functor-index l.functors)) ≡ all_declared l.fn.declared.items ++ map (spec.declared_functor l.line) (hlds_functors_of l.functors)
