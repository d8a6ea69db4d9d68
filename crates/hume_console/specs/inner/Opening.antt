-- A session all of whose memory is taken.
use Rattle.std.specs.Prelude.{◌≡◌, ℕ, List, [], None, false, slice_get}
use Rattle.hume_base.specs.Least.{IsLeast}
use Rattle.hume_model.specs.declared.core_tree.Core.{Core}
use Rattle.hume_model.specs.WellFormed.{HasSoundFrame}
use Rattle.hume_net.specs.StatePlaces.{BoxesHandleAll}
use Rattle.wiring_check.specs.Wires.{IsWiringOf}
use Rattle.box_costs.specs.declared.cost.Cost.{Cost}
use Rattle.box_costs.specs.CostRules.{BreaksCosts}
use Rattle.space_costs.specs.NodeCosts.{AreCosts}
use Rattle.hume_front.specs.declared.acceptance.Accepted.{Accepted}
use Rattle.phase_workers.specs.Runnable.{IsRunnable}
use Rattle.run_rounds.specs.declared.rounds.TheConstants.{SPAN}
use Rattle.run_rounds.specs.Opened.{IsFresh}
use Rattle.hume_console.specs.declared.opening.Opened.{Opened}
use Rattle.hume_console.specs.declared.places.Places.{Places}
use Rattle.port_acts.specs.Acts.{write_each}
use Rattle.hume_calls.specs.Owed.{table_writes}
use Rattle.hume_ports.specs.Delivery.{Pairs}
use Rattle.box_costs.specs.Costs.{nothing}
use Rattle.hume_console.specs.Courses.{Course, first_do}
use Rattle.hume_console.specs.Session.{Session, port_of_node}
use Rattle.hume_console.specs.inner.Answering.{IsRoomy, left_lines}
use Rattle.hume_console.specs.inner.Standing.{Bindings, Call}
use Rattle.hume_console.specs.inner.CommandBuffers.{unread_in}

-- The core that was accepted can be run, its boxes handle all that they raise, and these are its wires and its costs, which keep the
-- limits.
pub record IsOpenable (accepted : Accepted) : Type 0 where
  pub runnable : IsRunnable accepted.core
  pub handles : BoxesHandleAll accepted.core
  pub wiring : IsWiringOf accepted.core accepted.wiring
  pub frame : HasSoundFrame accepted.core
  pub costs : AreCosts accepted.core accepted.costs
  pub within : IsLeast (BreaksCosts accepted.core) None

-- A session of the core stands before its first superstep, and none of its commands was read.
pub record IsOpen (core : Core) (bounds : List Cost) (at : Places) (opened : Opened) : Type 0 where
  pub fresh : IsFresh core SPAN opened.session.engine
  pub costs : opened.costs ≡ bounds
  pub places : opened.session.places ≡ at
  pub unread : unread_in opened.session.lines ≡ []
  pub going : opened.session.lines.ended ≡ false
  pub roomy : IsRoomy opened.session

-- the bindings of a call that has read its source
abbrev pub first_bindings : Call → Pairs → Bindings
first_bindings call taken = record {
  port = λ n. port_of_node (slice_get call.core.nodes n);
  brought = λ n. 0;
  came = λ n. [];
  peaks = λ n. nothing;
  taken = taken;
  firsts = call.first.ports;
}

-- the table is left to write, and then all lines are left
abbrev pub left_table : Call → Session → List ℕ → Course
left_table call session rest = first_do (write_each (table_writes call.core)) (left_lines call 1 [] session rest)
