-- How many values come to a node once it was fed.
use Rattle.std.proofs.Common.{◌≡◌, ℕ, zero, suc, ◌+◌, ◌<◌, List, [], ◌∷◌, ◌++◌, length, ap, ◌∙◌, arith, length-append, slice_set, slice_index_or}
use Rattle.std.specs.Prelude.{slice_get}
use Rattle.std.specs.Option.{unwrap_or}
use Rattle.hume_base.specs.declared.types.Value.{Value}
use Rattle.hume_net.specs.declared.state.State.{State}
use Rattle.hume_net.specs.Sides.{part_of}
use Rattle.phase_workers.specs.NodeFills.{fed_at}

fed_length : (lists : List (List Value)) (node : ℕ) (values : List Value) → node < length lists
    → length (unwrap_or (slice_get (slice_set lists node (slice_index_or lists node [] ++ values)) node) []) ≡ length (unwrap_or (slice_get lists node) []) + length values
fed_length [] node values within = absurd (omega (arith, within))
fed_length (list ∷ lists) zero values within = length-append list values
fed_length (list ∷ lists) (suc node) values within = fed_length lists node values (omega (arith, within))

pub coming_more : (before after : State) (node : ℕ) (values : List Value) → node < length before.coming → after ≡ fed_at node values before
    → length (part_of after node).coming ≡ length (part_of before node).coming + length values
coming_more before after node values within e = ap (λ (s : State). length (part_of s node).coming) e ∙ fed_length before.coming node values within
