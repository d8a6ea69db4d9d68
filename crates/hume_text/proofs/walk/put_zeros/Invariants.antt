use Rattle.std.proofs.Common.{◌≡◌, ◌≤◌, ◌-◌, length, take}
use Rattle.hume_text.specs.inner.Readers.{put_zeros}
use Rattle.hume_text.proofs.walk.put_zeros.Given as goal

abbrev pub invariant-loop-place : goal.invariant-loop-place
invariant-loop-place l =
    record {
      room : length l.into ≡ length l.initial.into;
      within : l.end ≤ length l.initial.into;
      onward : l.at ≤ l.end;
      read : put_zeros (length l.initial.into) (l.count - l._place) (take l.end l.into) l.later ≡ put_zeros (length l.initial.into) l.count (take l.at l.initial.into) l.rest;
    }
