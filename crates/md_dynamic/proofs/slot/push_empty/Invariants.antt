use Rattle.std.proofs.Common.{◌≡◌, ◌+◌, ◌++◌, None, replicate, vec_capacity}
use Rattle.md_dynamic.specs.Slots.{slot_of}
use Rattle.md_dynamic.proofs.slot.push_empty.Given as goal

abbrev pub invariant-loop : goal.invariant-loop
invariant-loop g l = record {
  made : l.slots.items ≡ l.fn.slots.items ++ replicate l.counter (slot_of None);
  room : vec_capacity l.slots ≡ vec_capacity l.fn.slots;
  counted : l.steps ≡ l.fn.steps + l.counter;
}
