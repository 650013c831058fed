use Rattle.std.proofs.Common.{◌≡◌, ◌≤◌, None, replicate, vec_len, vec_capacity}
use Rattle.md_dynamic.specs.Slots.{slot_of}
use Rattle.md_dynamic.proofs.slot.empty_slots.Given as goal

abbrev pub invariant-loop : goal.invariant-loop
invariant-loop l = record {
  made : l.slots.items ≡ replicate l.counter (slot_of None);
  filled : vec_len l.slots ≡ l.counter;
  room : l.fn.count ≤ vec_capacity l.slots;
}
