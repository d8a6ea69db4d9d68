-- What stands at the front of what was read of the commands, and how more is read.
use Rattle.std.specs.Prelude.{◌≡◌, ℕ, ◌+◌, ◌<◌, ◌≤◌, Bool, true, false, List, [], ◌∷◌, ◌++◌, length, take, drop}
use Rattle.std.specs.Io.KnownBytes.{IsAtEnd}
use Rattle.hume_ports.specs.Port.{PortView}
use Rattle.hume_ports.specs.Ports.{left_of}
use Rattle.hume_ports.specs.Delivery.{Pairs, bytes_for}
use Rattle.hume_streams.specs.Lines.{lines_of, whole_lines}
use Rattle.port_acts.specs.Acts.{wants}
use Rattle.port_acts.specs.Ends.{Made, Fails, nothing}
use Rattle.hume_console.specs.declared.command_lines.Next.{Next}
use Rattle.hume_console.specs.declared.command_lines.Next.TheVariants.{Line, TooLong, End}
use Rattle.hume_console.specs.declared.command_lines.CommandLines.{CommandLines}
use Rattle.hume_console.specs.declared.command_lines.TheConstants.{MAX_COMMAND_BYTES}

-- the bytes that came from the port and were not taken as lines
abbrev pub unread_in : CommandLines → List ℕ
unread_in lines = lines.bytes.items

-- What stands at the front of the unread bytes, whatever follows them, which is nothing where the port has ended.
abbrev pub IsNext : List ℕ → Bool → Next → Type 0
IsNext unread ended (Line count) =
    (count ≤ length unread) × (length (take count unread) ≤ MAX_COMMAND_BYTES) × ((rest : List ℕ) → (ended ≡ true → rest ≡ [])
    → lines_of (unread ++ rest) ≡ take count unread ∷ lines_of (drop (count + 1) unread ++ rest))
IsNext unread ended TooLong =
    (rest : List ℕ) → (more : List ℕ) × (others : List (List ℕ)) × (MAX_COMMAND_BYTES < length (unread ++ more))
    × (lines_of (unread ++ rest) ≡ (unread ++ more) ∷ others)
IsNext unread ended End = (unread ≡ []) × (ended ≡ true)

-- Some bytes were read from the first port of that name, for a want of any number of lines, and stand behind the unread ones.
pub record ReadsOn (old new : CommandLines) (name : List ℕ) (olds news : List PortView) : Type 0 where
  pub taken : Pairs
  pub made : (wanted : ℕ) → Made (wants name wanted ∷ []) taken olds news
  pub unread : unread_in new ≡ unread_in old ++ bytes_for name taken
  -- it never reads on once a read gave nothing, and where the port tells what it has left there is then nothing
  pub stays : old.ended ≡ true → (taken ≡ []) × (new.ended ≡ true)
  pub ended : old.ended ≡ false → new.ended ≡ true → IsAtEnd (left_of name news)

-- Some bytes were read so, no line was whole, and then a read failed.
pub record FailsReading (old : CommandLines) (name : List ℕ) (olds news : List PortView) : Type 0 where
  pub taken : Pairs
  pub mid : List PortView
  pub going : old.ended ≡ false
  pub made : (wanted : ℕ) → Made (wants name wanted ∷ []) taken olds mid
  pub fails : (wanted : ℕ) → Fails nothing [] (wants name wanted ∷ []) mid news
  pub begun : whole_lines (unread_in old ++ bytes_for name taken) ≡ []
