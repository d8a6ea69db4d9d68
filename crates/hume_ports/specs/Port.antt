-- What a port means, and what each call of it does to that meaning.
use Rattle.std.specs.Prelude.{◌≡◌, ℕ, ◌+◌, ◌-◌, ◌^◌, ◌≤◌, ◌↔◌, min, Bool, false, List, length, take, Option, None, IfSome, IsSome, Result, IsOk, OnOk, OnErr}
use Rattle.std.specs.Option.{is_some}
use Rattle.std.specs.Result.{is_ok}
use Rattle.std.specs.Io.{ReadsAtMost}
use Rattle.std.specs.Io.KnownBytes.{Appends, ReadConsumes}
use Rattle.hume_ports.specs.declared.port.Failed.{Failed}

-- what a port means
pub record PortView : Type 0 where
  pub name : List ℕ
  -- the bytes left to read and those written so far, where the port tells them
  pub left : Option (List ℕ)
  pub bytes : Option (List ℕ)
  -- how often a read, a write and a finish of it has failed
  pub read_faults : ℕ
  pub write_faults : ℕ
  pub finish_faults : ℕ
  -- how many bytes may be written in all, where the port tells it
  pub room : Option ℕ
  -- whether all that was written is out
  pub flushed : Bool
  -- whether `written` shows the bytes written
  pub shown : Bool

-- the last value of a count, at which it stays
abbrev pub last_count : ℕ
last_count = 2 ^ 64 - 1

-- one more, or the last value
abbrev pub next_count : ℕ → ℕ
next_count count = min (count + 1) last_count

-- The count has grown, or stands at its last value.
abbrev pub Rose : ℕ → ℕ → Type 0
Rose before now = next_count before ≤ now

-- A call that may fail has this effect on its own count: it rises where the call fails, and else stays.
pub record CountsFault {T E : Type 0} (before now : ℕ) (result : Result T E) : Type 0 where
  pub never_falls : before ≤ now
  pub stays_last : last_count ≤ before → now ≡ before
  pub ok : OnOk result (now ≡ before)
  pub failed : OnErr result (Rose before now)

-- Known bytes are followed by all of the written ones at Ok, and by a front of them at Err.
abbrev pub WriteAppends : {T E : Type 0} → Option (List ℕ) → Option (List ℕ) → Result T E → List ℕ → Type 0
WriteAppends before now result written =
    (count : ℕ) × (count ≤ length written) × Appends before now (take count written)
    × OnOk result (count ≡ length written)

-- Where the room and the bytes are told, a write fails exactly where there would be more bytes than the room,
-- and then leaves exactly as many bytes as the room.
abbrev pub FailsByRoom : {T E : Type 0} → PortView → PortView → Result T E → List ℕ → Type 0
FailsByRoom old new result written =
    IfSome old.room (λ room. IfSome old.bytes (λ bytes.
    (IsOk result ↔ (length bytes + length written ≤ room))
    × OnErr result (IfSome new.bytes (λ after. length after ≡ room))))

-- A read: Ok(n) moves the next n bytes that are left into the front of the buffer, none only at the end. Failed
-- takes nothing, and never comes from a port that tells its room.
pub record IsRead (old new : PortView) (result : Result ℕ Failed) (buf : List ℕ) : Type 0 where
  pub bound : ReadsAtMost result buf
  pub bytes : ReadConsumes old.left new.left result buf
  pub told : is_some new.left ≡ is_some old.left
  pub count : CountsFault old.read_faults new.read_faults result
  pub room : IsSome old.room → IsOk result
  -- all else stays
  pub keeps : new ≡ record old { left = new.left; read_faults = new.read_faults }

-- A write: Ok appends all of the bytes, Failed a front of them, and the port isn't flushed.
pub record IsWrite (old new : PortView) (result : Result (Unit {0}) Failed) (written : List ℕ) : Type 0 where
  pub bytes : WriteAppends old.bytes new.bytes result written
  pub told : is_some new.bytes ≡ is_some old.bytes
  pub count : CountsFault old.write_faults new.write_faults result
  pub room : FailsByRoom old new result written
  -- all else stays
  pub keeps : new ≡ record old { bytes = new.bytes; write_faults = new.write_faults; flushed = false }

-- A finish: the port is flushed exactly at Ok, and a port that tells its room doesn't fail.
pub record IsFinish (old new : PortView) (result : Result (Unit {0}) Failed) : Type 0 where
  pub count : CountsFault old.finish_faults new.finish_faults result
  pub room : IsSome old.room → IsOk result
  -- all else stays
  pub keeps : new ≡ record old { finish_faults = new.finish_faults; flushed = is_ok result }

-- a port of that name as it is made, which tells nothing and isn't shown
abbrev pub untold : List ℕ → PortView
untold name = record {
  name = name;
  left = None;
  bytes = None;
  read_faults = 0;
  write_faults = 0;
  finish_faults = 0;
  room = None;
  flushed = false;
  shown = false;
}
