-- How the sources of a union behind the first one are read.
use Rattle.std.specs.Prelude.{◌≡◌, ◌⊎◌, ◌+◌, ◌≤◌, ℕ, List, [], ◌∷◌, length, IfSome}
use Rattle.hume_base.specs.declared.limits.TheConstants.{MAX_SOURCE_BYTES}
use Rattle.hume_ports.specs.Port.{PortView}
use Rattle.hume_ports.specs.Ports.{left_of}
use Rattle.port_acts.specs.Early.{read_each}
use Rattle.port_acts.specs.Ends.{Fails, Made}
use Rattle.hume_calls.specs.Few.{source_few}
use Rattle.hume_calls.specs.Reading.{source_reads, source_text}

-- A source was read from the port of its name, and has this text.
pub record IsReadWhole (source text : List ℕ) (old new : List PortView) : Type 0 where
  pub made : Made (read_each (source_reads source)) ((source, text) ∷ []) old new
  pub told : IfSome (left_of source old) (λ left. text ≡ source_text left)
  pub short : length text ≤ MAX_SOURCE_BYTES + 1

-- The sources were read in turn, and have these texts.
abbrev pub AreRead : List (List ℕ) → List (List ℕ) → List PortView → List PortView → Type 0
AreRead [] [] old new = new ≡ old
AreRead (source ∷ sources) (text ∷ texts) old new = (mid : List PortView) × IsReadWhole source text old mid × AreRead sources texts mid new
AreRead _ _ old new = ⊥

-- A read of one of them failed, when those before it had been read.
abbrev pub ReadFails : List (List ℕ) → List PortView → List PortView → Type 0
ReadFails [] old new = ⊥
ReadFails (source ∷ sources) old new =
    Fails (source_few source) [] (read_each (source_reads source)) old new
    ⊎ ((text : List ℕ) × (mid : List PortView) × IsReadWhole source text old mid × ReadFails sources mid new)

-- Memory ran out when some of them had been read.
abbrev pub ReadsStop : List (List ℕ) → List PortView → List PortView → Type 0
ReadsStop [] old new = new ≡ old
ReadsStop (source ∷ sources) old new =
    (new ≡ old) ⊎ ((text : List ℕ) × (mid : List PortView) × IsReadWhole source text old mid × ReadsStop sources mid new)
