use Rattle.std.proofs.Common.{◌≡◌, ◌≢◌, ℕ, ◌<◌, get_or, take}
use Rattle.std.specs.List.{list_any}
use Rattle.std.specs.Ordering.{is_eq}
use Rattle.std.specs.BTreeSet.{contains}
use Rattle.std.specs.declared.cmp.Ordering.TheVariants.{Equal}
use Rattle.md_base.proofs.distinct.all_differ.Given as goal

abbrev pub invariant-loop-key : goal.invariant-loop-key
invariant-loop-key g l = record {
  differ : (i j : ℕ) (d : _) → i < j → j < l.key-index → g.T.Ord.cmp (get_or l.keys i d) (get_or l.keys j d) ≢ Equal;
  members : (q : _) → contains g.T.Ord.cmp l.seen q ≡ list_any (λ x. is_eq (g.T.Ord.cmp x q)) (take l.key-index l.keys);
}
