-- What is read of a log in the place of a line.
use Rattle.std.specs.Prelude.{◌<◌, List, [], ℕ, length, Result, Ok, Err, IsOk}
use Rattle.std.specs.Io.KnownBytes.{IsAtEnd}
use Rattle.hume_ports.specs.declared.port.Failed.{Failed}
use Rattle.hume_ports.specs.Port.{PortView}
use Rattle.hume_ports.specs.Ports.{left_of}
use Rattle.hume_ports.specs.Delivery.{Roomy}
use Rattle.run_log.specs.declared.line_read.LineRead.{LineRead}
use Rattle.run_log.specs.Compared.{Reads}
use Rattle.run_log.specs.inner.LineReads.{IsLineRead}

-- Why a read in the place of a line ended.
abbrev pub EndsLine : List ℕ → List ℕ → List ℕ → List PortView → Result LineRead Failed → Type 0
EndsLine line name bytes news (Ok told) = IsLineRead line bytes told × (length bytes < length line → IsAtEnd (left_of name news))
EndsLine line name bytes news (Err failed) = length bytes < length line

-- A read in the place of a line, from the first port with that name.
pub record ReadsLine (line name : List ℕ) (olds news : List PortView) (result : Result LineRead Failed) : Type 0 where
  pub bytes : List ℕ
  pub reads : Reads name bytes olds news result
  pub ends : EndsLine line name bytes news result
  pub roomy : Roomy olds [] → IsOk result
