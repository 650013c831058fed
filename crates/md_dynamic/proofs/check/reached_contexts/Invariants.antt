use Rattle.std.proofs.Common.{◌≡◌, ℕ, ◌<◌, length, take, Some, slice_get}
use Rattle.std.specs.List.{list_any}
use Rattle.md_dynamic.specs.Valid.{leads_down}
use Rattle.md_dynamic.proofs.check.reached_contexts.Given as goal

abbrev pub invariant-loop-link : goal.invariant-loop-link
invariant-loop-link l = record {
  each : length l.reached.items ≡ l.contexts;
  right : (v : ℕ) → v < l.contexts → slice_get l.reached.items v ≡ Some (list_any (leads_down v) (take l.link-index l.links));
}
