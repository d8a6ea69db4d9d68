use Rattle.std.proofs.Common.{◌≡◌, ◌≤◌, ℕ, ◌<◌, length, map, take, vec_capacity, false, get_or, Some}
use Rattle.std.specs.Slots.{slots_items, slots_filled, slots_len, IsFull}
use Rattle.std.specs.Slots.Ownership.{Filled}
use Rattle.turn_locker.proofs.closing.take_all.Given as goal

abbrev pub invariant-loop-item : goal.invariant-loop-item
invariant-loop-item g l = record {
  same : slots_items l.closed.slots ≡ slots_items l.initial.closed.slots;
  count : slots_len l.closed.slots ≡ l.count;
  full : IsFull l.closed.words;
  left : Filled (slots_filled l.closed.slots) l.item (slots_len l.closed.slots);
  gone : (k : ℕ) → k < l.item → get_or (slots_filled l.closed.slots) k false ≡ false;
  taken : map Some l.room.items ≡ take l.item (slots_items l.initial.closed.slots);
  long : (length l.room.items ≡ l.item) × (l.count ≤ vec_capacity l.room);
}
