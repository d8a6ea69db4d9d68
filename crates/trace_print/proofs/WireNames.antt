-- The names at the ends of wires are short.
use Rattle.std.proofs.Common.{◌≡◌, ℕ, ◌≤◌, List, length, Some, slice_get, subst, All}
use Rattle.std.proofs.lemmas.List.Elements.{All-get_or}
use Rattle.std.proofs.lemmas.Option.{get_or_from_slice_get, slice_get_within}
use Rattle.hume_base.specs.declared.limits.TheConstants.{MAX_NAME_BYTES}
use Rattle.hume_model.specs.declared.core_tree.PortC.{PortC}
use Rattle.hume_model.specs.declared.core_tree.BoxC.{BoxC}
use Rattle.hume_model.specs.declared.core_tree.StreamC.{StreamC}
use Rattle.hume_model.specs.declared.core_tree.NodeC.TheVariants.{Rules, From, To}
use Rattle.hume_model.specs.declared.core_tree.Core.{Core}
use Rattle.hume_model.specs.Limits.{IsSmallNode, IsSmallBoxPort}
use Rattle.hume_model.specs.WellFormed.{HasSoundFrame}

pub all_at : {A : Type 0} (P : A → Type 0) (xs : List A) (n : ℕ) (x : A) → All P xs → slice_get xs n ≡ Some x → P x
all_at P xs n x all there = subst P (get_or_from_slice_get xs n x x there) (All-get_or P xs n x (slice_get_within xs n x there) all)

module _ (core : Core) (frame : HasSoundFrame core) (n : ℕ) where
  pub box_named : (b : BoxC) → slice_get core.nodes n ≡ Some (Rules b) → length b.name ≤ MAX_NAME_BYTES
  box_named b there = (all_at (IsSmallNode core.types) core.nodes n (Rules b) frame.limits.each_node there).name.bytes

  pub output_named : (b : BoxC) → slice_get core.nodes n ≡ Some (Rules b) → (place : ℕ) (port : PortC) → slice_get b.outs place ≡ Some port
      → length port.name ≤ MAX_NAME_BYTES
  output_named b there place port at =
      (all_at (IsSmallBoxPort core.types) b.outs place port (all_at (IsSmallNode core.types) core.nodes n (Rules b) frame.limits.each_node there).each_output at).name.bytes

  pub input_named : (b : BoxC) → slice_get core.nodes n ≡ Some (Rules b) → (place : ℕ) (port : PortC) → slice_get b.ins place ≡ Some port
      → length port.name ≤ MAX_NAME_BYTES
  input_named b there place port at =
      (all_at (IsSmallBoxPort core.types) b.ins place port (all_at (IsSmallNode core.types) core.nodes n (Rules b) frame.limits.each_node there).each_input at).name.bytes

  pub input_stream_named : (stream : StreamC) → slice_get core.nodes n ≡ Some (From stream) → length stream.name ≤ MAX_NAME_BYTES
  input_stream_named stream there = (all_at (IsSmallNode core.types) core.nodes n (From stream) frame.limits.each_node there).name.bytes

  pub output_stream_named : (stream : StreamC) → slice_get core.nodes n ≡ Some (To stream) → length stream.name ≤ MAX_NAME_BYTES
  output_stream_named stream there = (all_at (IsSmallNode core.types) core.nodes n (To stream) frame.limits.each_node there).name.bytes
