use Rattle.std.proofs.Common.{◌≡◌, ◌++◌, map}
use Rattle.std.specs.Prelude.{All}
use Rattle.std.specs.List.{filter, range_with_len}
use Rattle.md_people.specs.Words.{full_name}
use Rattle.md_compare.specs.Told.{IsToldBy, is_new_in, is_told_in, name_in}
use Rattle.md_compare.proofs.told.add_new.Given as goal

-- the names of the procedures so far
abbrev pub invariant-loop-id : goal.invariant-loop-id
invariant-loop-id l = record {
  names : map name_in l.told.items ≡ map name_in l.fn.told.items ++ filter (is_told_in l.both l.margin) (filter (is_new_in l.both) (map (full_name l.new) (range_with_len 0 l.id)));
  each : All (IsToldBy l.both) l.fn.told.items → All (IsToldBy l.both) l.told.items;
}
