-- The lines of what one node has taken.
use Rattle.std.proofs.Common.{◌≡◌, ℕ, List, [], Option, None, Some, Result, Ok, Err}
use Rattle.std.specs.Prelude.{OnOk, slice_get, slice_set}
use Rattle.hume_base.specs.declared.types.Value.{Value}
use Rattle.hume_model.specs.declared.core_tree.NodeC.{NodeC}
use Rattle.hume_model.specs.declared.core_tree.NodeC.TheVariants.{Rules, From, To}
use Rattle.hume_model.specs.declared.core_tree.Core.{Core}
use Rattle.hume_net.specs.declared.state.State.{State}
use Rattle.hume_net.specs.Nodes.{IsOutput, IsOutputStream}
use Rattle.hume_ports.specs.declared.port.Failed.{Failed}
use Rattle.hume_ports.specs.Port.{PortView}
use Rattle.hume_ports.specs.Ports.{ForNameAt}
use Rattle.hume_streams.specs.places.LineWrites.{line_writes}
use Rattle.port_acts.specs.Acts.{write_each}
use Rattle.port_acts.specs.Ends.{Ends, Made, never}
use Rattle.port_acts.proofs.Making.{Made-start}
use Rattle.phase_workers.specs.StreamTypes.{type_at}
use Rattle.hume_console.specs.inner.Stepping.{cleared_at, lines_at}

-- a node that is no output stream writes nothing
pub no_lines : (core : Core) (n : ℕ) (name : List ℕ) (values : List Value) (ports : List PortView) → (IsOutputStream core n → ⊥)
    → Made (write_each (lines_at core name n (slice_get core.nodes n) values)) [] ports ports
no_lines core n name values ports other = by (slice_get core.nodes n) other
  where
    by : (o : Option NodeC) → (IsOutput o → ⊥) → Made (write_each (lines_at core name n o values)) [] ports ports
    by None isnt = Made-start ports
    by (Some (Rules b)) isnt = Made-start ports
    by (Some (From stream)) isnt = Made-start ports
    by (Some (To stream)) isnt = absurd (isnt tt)

-- nothing is said of an output stream where it is none
pub never_quiet : (core : Core) (n : ℕ) (olds news : List PortView) (result : Result (Unit {0}) Failed) → IsOutputStream core n → (IsOutputStream core n → ⊥)
    → Ends never [] [] [] olds news result
never_quiet core n olds news result output isnt = absurd (isnt output)

-- and it has forgotten nothing
pub node_kept : (core : Core) (n : ℕ) (state : State) → (IsOutputStream core n → ⊥) → state ≡ cleared_at n (slice_get core.nodes n) state
node_kept core n state other = by (slice_get core.nodes n) other
  where
    by : (o : Option NodeC) → (IsOutput o → ⊥) → state ≡ cleared_at n o state
    by None isnt = λ i. state
    by (Some (Rules b)) isnt = λ i. state
    by (Some (From stream)) isnt = λ i. state
    by (Some (To stream)) isnt = absurd (isnt tt)

-- an output stream writes its lines
pub output_lines : (core : Core) (n place : ℕ) (values : List Value) (olds news : List PortView) (result : Result (Unit {0}) Failed) → IsOutputStream core n
    → ForNameAt place olds (λ name. Ends never [] (write_each (line_writes name core.types (type_at core n) values)) [] olds news result)
    → ForNameAt place olds (λ name. Ends never [] (write_each (lines_at core name n (slice_get core.nodes n) values)) [] olds news result)
output_lines core n place values olds news result output ends name there = by (slice_get core.nodes n) output
  where
    by : (o : Option NodeC) → IsOutput o → Ends never [] (write_each (lines_at core name n o values)) [] olds news result
    by None is = absurd is
    by (Some (Rules b)) is = absurd is
    by (Some (From stream)) is = absurd is
    by (Some (To stream)) is = ends name there

-- and forgets them
pub node_cleared : (core : Core) (n : ℕ) (before after : State) (result : Result (Unit {0}) Failed) → IsOutputStream core n
    → OnOk result (after ≡ record before { taken = slice_set before.taken n [] }) → OnOk result (after ≡ cleared_at n (slice_get core.nodes n) before)
node_cleared core n before after (Ok done) output cleared = by (slice_get core.nodes n) output
  where
    by : (o : Option NodeC) → IsOutput o → after ≡ cleared_at n o before
    by None is = absurd is
    by (Some (Rules b)) is = absurd is
    by (Some (From stream)) is = absurd is
    by (Some (To stream)) is = cleared
node_cleared core n before after (Err failed) output cleared = tt
