use Rattle.std.proofs.Common.{◌≡◌, ◌+◌, ℕ, List, drop}
use Rattle.md_hlds.specs.Hlds.{hlds_functors_of}
use Rattle.md_code.specs.Numbers.{number_in, place_among, first_of}
use Rattle.md_code.proofs.functors.add_functors.Given as goal

abbrev pub invariant-loop-functor : goal.invariant-loop-functor
invariant-loop-functor l = record {
  numbers : (name : List ℕ) → (arity : ℕ) → first_of (number_in l.numbers name arity) (place_among name arity l.number (hlds_functors_of (drop l.functor-index l.functors)))
      ≡ first_of (number_in l.initial.numbers name arity) (place_among name arity l.first (hlds_functors_of l.functors));
  count : l.number ≡ l.first + l.functor-index;
}
