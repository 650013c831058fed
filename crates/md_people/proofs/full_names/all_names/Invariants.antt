use Rattle.std.proofs.Common.{◌≡◌, ℕ, List, length, Some, slice_get}
use Rattle.md_people.specs.Words.{full_name}
use Rattle.md_people.proofs.full_names.all_names.Given as goal

-- the names of the first so many procedures
abbrev pub invariant-loop-id : goal.invariant-loop-id
invariant-loop-id l = record {
  each : length l.names.items ≡ l.id;
  are : (q : ℕ) (name : List ℕ) → slice_get l.names.items q ≡ Some name → name ≡ full_name l.statics q;
}
