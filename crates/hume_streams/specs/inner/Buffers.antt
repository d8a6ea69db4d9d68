-- What stands at the front of bytes that were not taken as lines yet.
use Rattle.std.specs.Prelude.{◌≡◌, ℕ, ◌+◌, ◌<◌, ◌≤◌, Bool, true, false, List, [], ◌∷◌, ◌++◌, length, take, drop, None}
use Rattle.hume_base.specs.declared.limits.TheConstants.{MAX_LINE_BYTES}
use Rattle.hume_streams.specs.declared.buffer.Next.{Next}
use Rattle.hume_streams.specs.declared.buffer.Next.TheVariants.{Line, TooLong, End}
use Rattle.hume_streams.specs.declared.buffer.LineBuffer.{LineBuffer}
use Rattle.hume_streams.specs.Contents.{unread_in}
use Rattle.hume_streams.specs.Fills.{Drawn}
use Rattle.hume_streams.specs.Lines.{lines_of, whole_lines}
use Rattle.hume_ports.specs.Port.{PortView, Rose}
use Rattle.std.specs.Io.KnownBytes.{IsAtEnd}

-- What stands at the front of the unread bytes, whatever follows them, which is nothing where the port has ended.
abbrev pub IsNext : List ℕ → Bool → Next → Type 0
IsNext unread ended (Line count) =
    (count ≤ length unread) × ((rest : List ℕ) → (ended ≡ true → rest ≡ [])
    → lines_of (unread ++ rest) ≡ take count unread ∷ lines_of (drop (count + 1) unread ++ rest))
    × (length (take count unread) ≤ MAX_LINE_BYTES)
IsNext unread ended TooLong =
    (rest : List ℕ) → (more : List ℕ) × (others : List (List ℕ)) × (MAX_LINE_BYTES < length (unread ++ more))
    × (lines_of (unread ++ rest) ≡ (unread ++ more) ∷ others)
IsNext unread ended End = (unread ≡ []) × (ended ≡ true)

-- Some bytes were read from the port, and stand behind the unread ones.
pub record Draws (old new : LineBuffer) (before after : PortView) : Type 0 where
  pub bytes : List ℕ
  pub drawn : Drawn before after bytes
  pub unread : unread_in new ≡ unread_in old ++ bytes
  pub quiet : after.read_faults ≡ before.read_faults
  pub ended : old.ended ≡ true → (bytes ≡ []) × (new.ended ≡ true)
  pub end : old.ended ≡ false → new.ended ≡ true → IsAtEnd after.left

-- Some bytes were read so, and then a read failed.
pub record FailsAfter (old new : LineBuffer) (before after : PortView) : Type 0 where
  pub bytes : List ℕ
  pub drawn : Drawn before after bytes
  pub unread : unread_in new ≡ unread_in old ++ bytes
  pub rose : Rose before.read_faults after.read_faults
  pub room : before.room ≡ None
  pub ended : (old.ended ≡ false) × (new.ended ≡ false)
  -- no whole line is unread
  pub begun : whole_lines (unread_in new) ≡ []
