-- Where a session stands, and how a step and an exchange change that.
use Rattle.std.specs.Prelude.{◌≡◌, ℕ, ◌+◌, ◌-◌, ◌==◌, Bool, true, false, not, ◌&&◌, ◌||◌, List, [], ◌∷◌, ◌++◌, length, map, take, drop, Option, None, Some, if◌then◌else◌, nat_lt, slice_get}
use Rattle.std.specs.List.{find, list_any, position, range_with_len, remove}
use Rattle.std.specs.Option.{is_none, is_some, unwrap_or}
use Rattle.std.specs.Str.{bytes_eq}
use Rattle.hume_base.specs.declared.types.Value.{Value}
use Rattle.hume_model.specs.declared.core_tree.NodeC.{NodeC}
use Rattle.hume_model.specs.declared.core_tree.NodeC.TheVariants.{From, To}
use Rattle.hume_model.specs.declared.core_tree.StreamC.{StreamC}
use Rattle.hume_model.specs.declared.core_tree.Core.{Core}
use Rattle.hume_net.specs.declared.state.State.{State}
use Rattle.hume_net.specs.Lockstep.{lockstep}
use Rattle.hume_net.specs.Sides.{each_node, part_of}
use Rattle.hume_net.specs.Start.{start, no_values}
use Rattle.hume_ports.specs.Ports.{is_among, place_of}
use Rattle.hume_streams.specs.Good.{IsGoodUntil}
use Rattle.box_costs.specs.declared.cost.Cost.{Cost}
use Rattle.box_costs.specs.Costs.{either, nothing}
use Rattle.net_costs.specs.Steps.{peaks}
use Rattle.phase_workers.specs.StreamTypes.{type_at}
use Rattle.run_rounds.specs.Streams.{std_out, stream_of}
use Rattle.hume_console.specs.Words.{std_in}

-- what comes from texts

-- What a text brings to an input stream: the values of its lines before the first bad one, and that one's number, if any is bad.
pub record Supply : Type 0 where
  pub good : List Value
  pub bad : Option ℕ

-- what each text brings to the node of each number
abbrev pub Supplies : Type 0
Supplies = ℕ → List ℕ → Supply

-- They are those of the core's input streams.
abbrev pub AreSupplies : Core → Supplies → Type 0
AreSupplies core supplies = (n : ℕ) (stream : StreamC) (text : List ℕ) → slice_get core.nodes n ≡ Some (From stream)
    → IsGoodUntil core.types (type_at core n) text (supplies n text).good (supplies n text).bad

-- A port that may be read: its name, and all that it has to read.
pub record Offer : Type 0 where
  pub name : List ℕ
  pub text : List ℕ

-- the names of these ports, in order
abbrev pub names_of : List Offer → List (List ℕ)
names_of ports = map (λ port. port.name) ports

-- the text of the first port with that name
abbrev pub text_of : List ℕ → List Offer → List ℕ
text_of name [] = []
text_of name (port ∷ ports) = if bytes_eq port.name name then port.text else text_of name ports

-- a session

-- Where a session stands between two commands.
pub record Session : Type 0 where
  -- the state of the net; what output streams took was written and is forgotten
  pub net : State
  -- the most that each box has taken in an execute step
  pub peaks : ℕ → Cost
  -- by the number of each stream's node: the name of its port, and how many values came from that port
  pub port : ℕ → List ℕ
  pub brought : ℕ → ℕ
  -- the ports that are there, in order
  pub ports : List Offer

-- the port that a stream declares; a box has none
abbrev pub declared_port : Option StreamC → List ℕ
declared_port None = []
declared_port (Some stream) = stream.port

-- the port that the node of a number declares, if it is a stream
abbrev pub port_of_node : Option NodeC → List ℕ
port_of_node None = []
port_of_node (Some node) = declared_port (stream_of node)

-- before the first command nothing has happened, and each stream has the port that it declares
abbrev pub first_session : Core → List Offer → Session
first_session core ports = record {
  net = start core (no_values core);
  peaks = λ n. nothing;
  port = λ n. port_of_node (slice_get core.nodes n);
  brought = λ n. 0;
  ports = ports;
}

-- a step

-- whether there is a node, and it is an input stream
abbrev pub is_input : Option NodeC → Bool
is_input (Some (From stream)) = true
is_input _ = false

-- what the present port of an input stream brings to it in all
abbrev pub supply_of : Supplies → Session → ℕ → Supply
supply_of supplies session n = supplies n (text_of (session.port n) session.ports)

-- how many values a stream lacks for so many supersteps
abbrev pub lacking : Session → ℕ → ℕ → ℕ
lacking session steps n = steps - length (part_of session.net n).coming

-- the next values of an input stream's port, as many as it lacks, or all there are
abbrev pub coming_in : Core → Supplies → Session → ℕ → ℕ → List Value
coming_in core supplies session steps n =
    if is_input (slice_get core.nodes n) then take (lacking session steps n) (drop (session.brought n) (supply_of supplies session n).good) else []

-- the state of the net with these values to come
abbrev pub filled : Core → Supplies → Session → ℕ → State
filled core supplies session steps =
    record session.net { coming = each_node core (λ n. (part_of session.net n).coming ++ coming_in core supplies session steps n) }

-- a stream blocks a step if its port brings fewer values than it lacks, and the line behind them is bad
abbrev pub is_blocked : Core → Supplies → Session → ℕ → ℕ → Bool
is_blocked core supplies session steps n =
    is_input (slice_get core.nodes n) && is_some (supply_of supplies session n).bad
    && nat_lt (length (coming_in core supplies session steps n)) (lacking session steps n)

-- the first stream that does
abbrev pub blocked_by : Core → Supplies → Session → ℕ → Option ℕ
blocked_by core supplies session steps = find (is_blocked core supplies session steps) (range_with_len 0 (length core.nodes))

-- the state of the net after so many supersteps, with what its output streams have taken in them
abbrev pub after_steps : Core → Supplies → Session → ℕ → State
after_steps core supplies session steps = lockstep core (filled core supplies session steps) steps

-- the session after them: what output streams have taken is written and forgotten
abbrev pub stepped : Core → Supplies → Session → ℕ → Session
stepped core supplies session steps = record session {
  net = record (after_steps core supplies session steps) { taken = no_values core };
  peaks = λ n. either (session.peaks n) (peaks core (filled core supplies session steps) steps n);
  brought = λ n. session.brought n + length (coming_in core supplies session steps n);
}

-- an exchange

-- whether there is a stream, of that name
abbrev pub has_name : List ℕ → Option StreamC → Bool
has_name name None = false
has_name name (Some stream) = bytes_eq stream.name name

-- whether a node is the stream of that name
abbrev pub is_stream_of : List ℕ → NodeC → Bool
is_stream_of name node = has_name name (stream_of node)

-- the number of the stream of that name
abbrev pub stream_named : Core → List ℕ → Option ℕ
stream_named core name = position (is_stream_of name) core.nodes

-- whether the node of that number is a stream that has the port
abbrev pub has_port : List ℕ → Session → ℕ → Option NodeC → Bool
has_port port session n (Some (From stream)) = bytes_eq (session.port n) port
has_port port session n (Some (To stream)) = bytes_eq (session.port n) port
has_port port session n _ = false

-- whether a port is the source's, a standard one, or one that a stream has
abbrev pub is_taken : Core → List ℕ → Session → List ℕ → Bool
is_taken core source session port = is_among port (source ∷ std_in ∷ std_out ∷ [])
    || list_any (λ n. has_port port session n (slice_get core.nodes n)) (range_with_len 0 (length core.nodes))

-- a stream can't be given a port that isn't there, or is taken
abbrev pub is_bound : Core → List ℕ → Session → List ℕ → Bool
is_bound core source session port = is_none (place_of port (names_of session.ports)) || is_taken core source session port

-- and it can't give up the standard output
abbrev pub may_exchange : Core → List ℕ → Session → ℕ → List ℕ → Bool
may_exchange core source session n port = not (bytes_eq (session.port n) std_out || is_bound core source session port)

-- the place of a stream's port
abbrev pub place_at : Session → ℕ → ℕ
place_at session n = unwrap_or (place_of (session.port n) (names_of session.ports)) 0

-- a stream goes on with another port, of which nothing has come, and the old one is no longer there; values still to come stay
abbrev pub exchanged : Session → ℕ → List ℕ → Session
exchanged session n name = record session {
  port = λ m. if m == n then name else session.port m;
  brought = λ m. if m == n then 0 else session.brought m;
  ports = remove session.ports (place_at session n);
}
