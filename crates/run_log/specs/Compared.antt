-- What a comparison with a log reads, and what it answers.
use Rattle.std.specs.Prelude.{◌≡◌, ◌≤◌, ◌<◌, ℕ, Bool, true, false, List, [], ◌∷◌, length, Option, None, Some, Result, Ok, Err, IsOk}
use Rattle.std.specs.Io.KnownBytes.{IsAtEnd}
use Rattle.std.specs.List.{concat}
use Rattle.hume_model.specs.declared.core_tree.Core.{Core}
use Rattle.hume_ports.specs.declared.port.Failed.{Failed}
use Rattle.hume_ports.specs.Port.{PortView}
use Rattle.hume_ports.specs.Ports.{left_of}
use Rattle.hume_ports.specs.Delivery.{Progress, ReadFailure, Roomy}
use Rattle.run_log.specs.declared.fault.LogFault.{LogFault}
use Rattle.run_log.specs.Faults.{IsFault}
use Rattle.run_log.specs.Moments.{Moment, block_at}

-- These bytes were read from the first port with that name, and no port was written to. No call has failed, or one read of that port,
-- the last.
abbrev pub Reads : {T : Type 0} → List ℕ → List ℕ → List PortView → List PortView → Result T Failed → Type 0
Reads name bytes olds news (Ok value) = Progress olds news ((name, bytes) ∷ []) []
Reads name bytes olds news (Err failed) = ReadFailure name olds news ((name, bytes) ∷ []) []

-- Of so many bytes these were read: all of them, or as many as were left.
pub record AreUpTo (count : ℕ) (name bytes : List ℕ) (news : List PortView) : Type 0 where
  pub few : length bytes ≤ count
  pub end : length bytes < count → IsAtEnd (left_of name news)

-- The bytes of the block of a moment, if no fault is told; else it is this one.
abbrev pub IsVerdict : Core → Moment → List ℕ → Option LogFault → Type 0
IsVerdict core moment bytes None = bytes ≡ concat (block_at core moment)
IsVerdict core moment bytes (Some fault) = IsFault core moment bytes fault

-- Why a comparison ended: as many bytes were read as the block has, or as were left, and this is the verdict on them. Or a read
-- failed before that.
abbrev pub EndsComparison : Core → Moment → List ℕ → List ℕ → List PortView → Result (Option LogFault) Failed → Type 0
EndsComparison core moment name bytes news (Ok fault) =
    AreUpTo (length (concat (block_at core moment))) name bytes news × IsVerdict core moment bytes fault
EndsComparison core moment name bytes news (Err failed) = length bytes < length (concat (block_at core moment))

-- A comparison of the block of a moment with what is read from the first port with that name.
pub record Compares (core : Core) (moment : Moment) (name : List ℕ) (olds news : List PortView) (result : Result (Option LogFault) Failed)
    : Type 0 where
  pub bytes : List ℕ
  pub reads : Reads name bytes olds news result
  pub ends : EndsComparison core moment name bytes news result
  pub roomy : Roomy olds [] → IsOk result

-- whether there was a byte to read
abbrev pub EndsAsked : List ℕ → List ℕ → List PortView → Result Bool Failed → Type 0
EndsAsked name bytes news (Ok true) = (bytes ≡ []) × IsAtEnd (left_of name news)
EndsAsked name bytes news (Ok false) = length bytes ≡ 1
EndsAsked name bytes news (Err failed) = bytes ≡ []

-- One byte was asked for from the first port with that name, and the answer says whether there was none.
pub record AsksEnd (name : List ℕ) (olds news : List PortView) (result : Result Bool Failed) : Type 0 where
  pub bytes : List ℕ
  pub reads : Reads name bytes olds news result
  pub ends : EndsAsked name bytes news result
  pub roomy : Roomy olds [] → IsOk result
