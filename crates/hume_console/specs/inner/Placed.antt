-- Where the ports of a session stand.
use Rattle.std.specs.Prelude.{◌≡◌, ℕ, ◌==◌, Bool, true, false, ◌&&◌, ◌||◌, List, length, Option, None, Some, slice_get, slice_index_or}
use Rattle.hume_model.specs.declared.core_tree.NodeC.{NodeC}
use Rattle.hume_model.specs.declared.core_tree.NodeC.TheVariants.{From, To}
use Rattle.hume_model.specs.declared.core_tree.StreamC.{StreamC}
use Rattle.hume_model.specs.declared.core_tree.Core.{Core}
use Rattle.hume_ports.specs.Ports.{place_of}
use Rattle.run_rounds.specs.Streams.{std_out, stream_of}
use Rattle.hume_console.specs.declared.places.Places.{Places}
use Rattle.hume_console.specs.Words.{std_in}
use Rattle.hume_console.specs.declared.finding.Exchange.{Exchange}
use Rattle.hume_console.specs.Session.{Session, may_exchange, names_of, stream_named}

-- Each port that the session knows stands at its place, of ports with one name the first. No two streams have one port, and none has
-- the source's or that of the commands.
pub record ArePlaced (core : Core) (source : List ℕ) (session : Session) (names : List (List ℕ)) (places : Places) : Type 0 where
  pub same_names : names_of session.ports ≡ names
  pub count : length places.streams.items ≡ length core.nodes
  pub at_source : place_of source names ≡ Some places.source
  pub at_std_in : place_of std_in names ≡ Some places.std_in
  pub at_std_out : place_of std_out names ≡ Some places.std_out
  pub streams : (n : ℕ) (node : NodeC) (stream : StreamC) → slice_get core.nodes n ≡ Some node → stream_of node ≡ Some stream
      → place_of (session.port n) names ≡ Some (slice_index_or places.streams.items n 0)
  pub free : (n : ℕ) (node : NodeC) (stream : StreamC) → slice_get core.nodes n ≡ Some node → stream_of node ≡ Some stream
      → (session.port n ≡ source → ⊥) × (session.port n ≡ std_in → ⊥)
  pub apart : (n m : ℕ) (node other : NodeC) (first second : StreamC) → slice_get core.nodes n ≡ Some node → slice_get core.nodes m ≡ Some other
      → stream_of node ≡ Some first → stream_of other ≡ Some second → session.port n ≡ session.port m → n ≡ m

-- whether the port of the source or a standard one stands at the place
abbrev pub stands_own : Places → ℕ → Bool
stands_own places at = (at == places.source) || ((at == places.std_in) || (at == places.std_out))

-- whether there is a node, and it is a stream
abbrev pub is_stream_at : Option NodeC → Bool
is_stream_at (Some (From stream)) = true
is_stream_at (Some (To stream)) = true
is_stream_at _ = false

-- whether the node of that number is a stream whose port stands at the place
abbrev pub stands_at : Core → List ℕ → ℕ → ℕ → Bool
stands_at core places at n = (slice_index_or places n 0 == at) && is_stream_at (slice_get core.nodes n)

-- The exchange that is asked for is this one, and may be made; or there is none that may be made.
abbrev pub IsExchange : Core → List ℕ → Session → List (List ℕ) → List ℕ → List ℕ → Option Exchange → Type 0
IsExchange core source session names stream port None = (n : ℕ) → stream_named core stream ≡ Some n → may_exchange core source session n port ≡ false
IsExchange core source session names stream port (Some exchange) = (stream_named core stream ≡ Some exchange.node)
    × (may_exchange core source session exchange.node port ≡ true) × (place_of port names ≡ Some exchange.to)
