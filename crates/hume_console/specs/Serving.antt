-- What a session owes for its commands, line by line.
use Rattle.std.specs.Prelude.{ℕ, ◌+◌, List, [], ◌∷◌, ◌++◌, length, Option, None, Some, if◌then◌else◌, slice_get}
use Rattle.std.specs.List.{flat_map, range_with_len}
use Rattle.std.specs.Option.{unwrap_or}
use Rattle.hume_base.specs.declared.types.Value.{Value}
use Rattle.hume_model.specs.declared.core_tree.NodeC.{NodeC}
use Rattle.hume_model.specs.declared.core_tree.NodeC.TheVariants.{From, To}
use Rattle.hume_model.specs.declared.core_tree.Core.{Core}
use Rattle.hume_net.specs.Sides.{on_wire, part_of}
use Rattle.hume_ports.specs.Ports.{other_names}
use Rattle.hume_ports.specs.Delivery.{Pairs}
use Rattle.hume_streams.specs.places.LineWrites.{line_writes}
use Rattle.port_acts.specs.Acts.{Act, wants, writes, finishes, write_each, finish_each}
use Rattle.phase_workers.specs.StreamTypes.{type_at}
use Rattle.trace_print.specs.InTurn.{lines_to}
use Rattle.trace_print.specs.TraceLines.{peak_lines, wire_lines}
use Rattle.run_rounds.specs.Streams.{std_out}
use Rattle.run_rounds.specs.Writes.{bad_value_line, name_of}
use Rattle.hume_console.specs.declared.ending.Ending.{Ending}
use Rattle.hume_console.specs.declared.ending.Ending.TheVariants.{Done, BadValue}
use Rattle.hume_console.specs.Words.{std_in}
use Rattle.hume_console.specs.Commands.{Command, Step, Wires, Peaks, Exchange, End, command_of, is_bad_line, no_command_line, no_exchange_line}
use Rattle.hume_console.specs.Courses.{Course, ends, leaves, first_do}
use Rattle.hume_console.specs.Session.{Session, Supplies, blocked_by, after_steps, stepped, lacking, supply_of, stream_named, may_exchange, place_at, exchanged}

-- a line that is told
abbrev pub tells : List ℕ → List Act
tells line = writes std_out line ∷ []

-- the end

-- the port of an output stream
abbrev pub output_port : Session → ℕ → Option NodeC → List (List ℕ)
output_port session n (Some (To stream)) = session.port n ∷ []
output_port session n _ = []

-- the ports of all output streams, in source order
abbrev pub output_ports : Core → Session → List (List ℕ)
output_ports core session = flat_map (λ n. output_port session n (slice_get core.nodes n)) (range_with_len 0 (length core.nodes))

-- each output stream's port is finished once, in source order, and `std_out` last
abbrev pub closed : Core → Session → Ending → Course
closed core session answer = ends session.port (finish_each (other_names std_out (output_ports core session) ++ std_out ∷ [])) answer

-- a step

-- an input stream is read until its port has brought what it lacks
abbrev pub want_of_node : Session → ℕ → ℕ → Option NodeC → List Act
want_of_node session steps n (Some (From stream)) = wants (session.port n) (session.brought n + lacking session steps n) ∷ []
want_of_node session steps n _ = []

-- so are the streams among the first nodes, in source order
abbrev pub step_wants : Core → Session → ℕ → ℕ → List Act
step_wants core session steps count = flat_map (λ n. want_of_node session steps n (slice_get core.nodes n)) (range_with_len 0 count)

-- an output stream writes each value that it has taken as a line
abbrev pub lines_of_node : Core → Session → (ℕ → List Value) → ℕ → Option NodeC → Pairs
lines_of_node core session taken n (Some (To stream)) = line_writes (session.port n) core.types (type_at core n) (taken n)
lines_of_node core session taken n _ = []

-- so do all output streams, in source order
abbrev pub step_lines : Core → Session → (ℕ → List Value) → Pairs
step_lines core session taken = flat_map (λ n. lines_of_node core session taken n (slice_get core.nodes n)) (range_with_len 0 (length core.nodes))

-- streams are read, the supersteps made, and their lines written; or streams are read up to the first that blocks the step, and its bad
-- line is told
abbrev pub step_course : Core → Supplies → Session → ℕ → Option ℕ → (Session → Course) → Course
step_course core supplies session steps None later =
    first_do (step_wants core session steps (length core.nodes)
    ++ write_each (step_lines core session (λ n. (part_of (after_steps core supplies session steps) n).taken))) (later (stepped core supplies session steps))
step_course core supplies session steps (Some n) later =
    first_do (step_wants core session steps (n + 1)
    ++ tells (bad_value_line (name_of (slice_get core.nodes n)) (unwrap_or (supply_of supplies session n).bad 0))) (closed core session BadValue)

-- an exchange

-- the old port of an output stream is finished before it leaves
abbrev pub exchange_acts : Session → ℕ → Option NodeC → List Act
exchange_acts session n (Some (To stream)) = finishes (session.port n) ∷ []
exchange_acts session n _ = []

-- the stream's old port leaves, if it may
abbrev pub exchange_course : Core → List ℕ → Session → ℕ → Option ℕ → List ℕ → (Session → Course) → Course
exchange_course core source session number None port later = first_do (tells (no_exchange_line number)) (later session)
exchange_course core source session number (Some n) port later =
    if may_exchange core source session n port
    then leaves session.port (exchange_acts session n (slice_get core.nodes n)) (place_at session n) (later (exchanged session n port))
    else first_do (tells (no_exchange_line number)) (later session)

-- the lines

-- what a line is answered that asks for this, and what comes later
abbrev pub answered : Core → Supplies → List ℕ → Session → ℕ → Option Command → (Session → Course) → Course
answered core supplies source session number None later = first_do (tells (no_command_line number)) (later session)
answered core supplies source session number (Some (Step steps)) later =
    step_course core supplies session steps (blocked_by core supplies session steps) later
answered core supplies source session number (Some Wires) later = first_do (lines_to std_out (wire_lines core (on_wire session.net))) (later session)
answered core supplies source session number (Some Peaks) later = first_do (lines_to std_out (peak_lines core session.peaks)) (later session)
answered core supplies source session number (Some (Exchange stream port)) later =
    exchange_course core source session number (stream_named core stream) port later
answered core supplies source session number (Some End) later = closed core session Done

-- The course of a session from the line of that number on: each line is read, and answered before the next one is read. A bad line ends
-- the session, as does the end of the lines.
unfoldable pub served : Core → Supplies → List ℕ → Session → ℕ → List (List ℕ) → Course
served core supplies source session number [] = first_do (wants std_in number ∷ []) (closed core session Done)
served core supplies source session number (line ∷ lines) = first_do (wants std_in number ∷ []) (
    if is_bad_line number line then first_do (tells (bad_value_line std_in number)) (closed core session BadValue)
    else answered core supplies source session number (command_of line) (λ next. served core supplies source next (number + 1) lines))
