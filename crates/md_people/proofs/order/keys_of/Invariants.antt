use Rattle.std.proofs.Common.{◌≡◌, map}
use Rattle.std.specs.Prelude.{All}
use Rattle.std.specs.List.{range_with_len}
use Rattle.md_people.specs.Order.{IsKeyOf}
use Rattle.md_people.proofs.order.keys_of.Given as goal

abbrev pub invariant-loop-place : goal.invariant-loop-place
invariant-loop-place l = record {
  places : map (λ x. x.2) l.keys.items ≡ range_with_len 0 l.place;
  keys : All (IsKeyOf l.rows) l.keys.items;
}
