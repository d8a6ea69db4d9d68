-- A run all of whose memory is taken.
use Rattle.std.specs.Prelude.{◌≡◌, ◌<◌, ℕ, List, length}
use Rattle.std.specs.List.{All}
use Rattle.hume_text.specs.Chunks.{room_of}
use Rattle.trace_print.specs.declared.space_lines.TheConstants.{LINE_BYTES}
use Rattle.port_acts.specs.Acts.{AreNamed}
use Rattle.port_acts.specs.Places.{IsPlaceOf}
use Rattle.phase_workers.specs.Runnable.{IsRunnable}
use Rattle.run_rounds.specs.Streams.{ArePlacesOf, std_out}
use Rattle.run_rounds.specs.Opened.{core_in, traced_in, IsOpened}
use Rattle.hume_calls.specs.declared.run.opening.Opened.{Opened}
use Rattle.hume_calls.specs.Owed.{run_finishes}
use Rattle.hume_calls.specs.Bounds.{KeepsBounds}

-- It stands before its first superstep, knows the bounds of its boxes, and has the places of the ports that it finishes. The
-- report's port is at the given place.
pub record IsOpen (out : ℕ) (opened : Opened) : Type 0 where
  pub runnable : IsRunnable (core_in opened.running)
  pub running : IsOpened (core_in opened.running) (traced_in opened.running) opened.running
  pub bounds : KeepsBounds (core_in opened.running) opened.costs
  pub room : room_of opened.chunk ≡ LINE_BYTES
  pub finishes : (names : List (List ℕ)) → ArePlacesOf (core_in opened.running) names opened.places.items → IsPlaceOf std_out names out
      → AreNamed names opened.finishes.items (run_finishes (core_in opened.running)) × All (λ at. at < length names) opened.finishes.items
