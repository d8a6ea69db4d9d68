-- The old port of an exchange is finished, if it is that of an output stream.
use Rattle.std.proofs.Common.{ℕ, List, [], ◌∷◌, Option, None, Some, Result}
use Rattle.std.specs.Prelude.{slice_get}
use Rattle.hume_model.specs.declared.core_tree.NodeC.{NodeC}
use Rattle.hume_model.specs.declared.core_tree.NodeC.TheVariants.{Rules, From, To}
use Rattle.hume_model.specs.declared.core_tree.Core.{Core}
use Rattle.hume_net.specs.Nodes.{IsOutput, IsOutputStream}
use Rattle.hume_ports.specs.declared.port.Failed.{Failed}
use Rattle.hume_ports.specs.Port.{PortView}
use Rattle.hume_ports.specs.Ports.{ForNameAt}
use Rattle.port_acts.specs.Acts.{finishes}
use Rattle.port_acts.specs.Ends.{Ends, Made, never}
use Rattle.port_acts.proofs.Making.{Made-start}
use Rattle.hume_console.specs.inner.Exchanging.{finish_of}

-- a node that is no output stream finishes nothing
pub nothing_finished : (core : Core) (n : ℕ) (name : List ℕ) (ports : List PortView) → (IsOutputStream core n → ⊥)
    → Made (finish_of name (slice_get core.nodes n)) [] ports ports
nothing_finished core n name ports other = by (slice_get core.nodes n) other
  where
    by : (o : Option NodeC) → (IsOutput o → ⊥) → Made (finish_of name o) [] ports ports
    by None isnt = Made-start ports
    by (Some (Rules b)) isnt = Made-start ports
    by (Some (From stream)) isnt = Made-start ports
    by (Some (To stream)) isnt = absurd (isnt tt)

-- an output stream's port is finished
pub one_finished : (core : Core) (n place : ℕ) (olds news : List PortView) (result : Result (Unit {0}) Failed) → IsOutputStream core n
    → ForNameAt place olds (λ name. Ends never [] (finishes name ∷ []) [] olds news result)
    → ForNameAt place olds (λ name. Ends never [] (finish_of name (slice_get core.nodes n)) [] olds news result)
one_finished core n place olds news result output ends name there = by (slice_get core.nodes n) output
  where
    by : (o : Option NodeC) → IsOutput o → Ends never [] (finish_of name o) [] olds news result
    by None is = absurd is
    by (Some (Rules b)) is = absurd is
    by (Some (From stream)) is = absurd is
    by (Some (To stream)) is = ends name there
