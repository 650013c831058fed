use Rattle.std.proofs.Common.{◌≡◌, ℕ, List, drop}
use Rattle.md_hlds.specs.Hlds.{type_def_of, hlds_functors_of}
use Rattle.md_names.specs.Named.{construct_among, found_in}
use Rattle.md_names.specs.Maps.{functor_in}
use Rattle.md_names.proofs.functors.add_functors.Given as goal

abbrev pub invariant-loop-number : goal.invariant-loop-number
invariant-loop-number l = (name : List ℕ) → (arity : ℕ) → functor_in l.functors name arity
    ≡ found_in (l.place, type_def_of l.family) (construct_among name arity (hlds_functors_of (drop l.number l.family.functors.items))) (functor_in l.initial.functors name arity)
