use Rattle.std.proofs.Common.{◌≡◌, ◌<◌, ℕ, length, get_or}
use Rattle.md_cost.specs.Lists.{end_at}
use Rattle.md_cost.proofs.tree.ends_in_order.Given as goal

abbrev pub invariant-loop-place : goal.invariant-loop-place
invariant-loop-place l = record {
  each : length l.ends.items ≡ l.place-index;
  ends : (p : ℕ) → p < l.place-index → get_or l.ends.items p 0 ≡ end_at l.links (get_or l.order p 0);
}
