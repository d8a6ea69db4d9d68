-- That an output stream of a core is a node of it.
use Rattle.std.proofs.Common.{◌≡◌, ℕ, Option, Some, None, slice_get, refl}
use Rattle.hume_model.specs.declared.core_tree.NodeC.{NodeC}
use Rattle.hume_model.specs.declared.core_tree.NodeC.TheVariants.{Rules, From, To}
use Rattle.hume_model.specs.declared.core_tree.StreamC.{StreamC}
use Rattle.hume_model.specs.declared.core_tree.Core.{Core}
use Rattle.hume_net.specs.Nodes.{IsOutput, IsOutputStream}

pub stream_there : (core : Core) (n : ℕ) → IsOutputStream core n → (stream : StreamC) × (slice_get core.nodes n ≡ Some (To stream))
stream_there core n output = by_node (slice_get core.nodes n) refl output
  where
    by_node : (o : Option NodeC) → slice_get core.nodes n ≡ o → IsOutput o → (stream : StreamC) × (slice_get core.nodes n ≡ Some (To stream))
    by_node (Some (To stream)) is output = (stream, is)
    by_node (Some (Rules b)) is output = absurd output
    by_node (Some (From stream)) is output = absurd output
    by_node None is output = absurd output
