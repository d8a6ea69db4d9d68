-- A source that is accepted and read, before any memory of its session is taken.
use Rattle.std.specs.Prelude.{◌≡◌, ℕ, List, [], ◌∷◌, None, Some, IfSome}
use Rattle.hume_front.specs.Accepted.{IsAccepted}
use Rattle.hume_ports.specs.Port.{PortView}
use Rattle.hume_ports.specs.Ports.{names, left_of, place_of}
use Rattle.port_acts.specs.Early.{read_each}
use Rattle.port_acts.specs.Ends.{Made}
use Rattle.run_rounds.specs.Streams.{ArePlacesOf, ArePortsApart, std_out, streams}
use Rattle.hume_calls.specs.Reading.{source_reads, source_text}
use Rattle.hume_calls.specs.Streams.{unfit_line}
use Rattle.hume_console.specs.declared.preparing.Ready.{Ready}
use Rattle.hume_console.specs.Words.{std_in}

-- The source was read, which had this text, and nothing else was done.
pub record HasRead (source text : List ℕ) (first now : List PortView) : Type 0 where
  pub made : Made (read_each (source_reads source)) ((source, text) ∷ []) first now
  pub told : IfSome (left_of source first) (λ left. text ≡ source_text left)

-- The source was read and accepted, each stream may have its port, and each port stands at its place.
pub record IsPrepared (source : List ℕ) (first now : List PortView) (ready : Ready) : Type 0 where
  pub text : List ℕ
  pub read : HasRead source text first now
  pub accepted : IsAccepted text ready.accepted
  pub fit : unfit_line (names first) source (std_in ∷ []) (streams ready.accepted.core) ≡ None
  pub streams : ArePlacesOf ready.accepted.core (names first) ready.places.streams.items
  pub apart : ArePortsApart ready.accepted.core
  pub at_source : place_of source (names first) ≡ Some ready.places.source
  pub at_std_in : place_of std_in (names first) ≡ Some ready.places.std_in
  pub at_std_out : place_of std_out (names first) ≡ Some ready.places.std_out
