use Rattle.std.proofs.Common.{◌≡◌, [], take, drop, map}
use Rattle.md_reader.specs.Duplicates.{first_second}
use Rattle.md_reader.specs.Views.{all_declared}
use Rattle.md_reader.proofs.duplicates.first_second.Given as goal

-- none was declared before so far, and these are the names of those so far
abbrev pub invariant-loop-one : goal.invariant-loop-one
invariant-loop-one l = record {
  none : first_second [] (all_declared l.declared) ≡ first_second (all_declared (take l.one-index l.declared)) (all_declared (drop l.one-index l.declared));
  seen : l.seen.keys ≡ map (λ d. d.key) (take l.one-index l.declared);
}
