-- The types of the wires of a core whose lines can be read.
use Rattle.std.proofs.Common.{◌≡◌, ℕ, ◌<◌, ◌≤◌, List, length, Some, slice_get, slice_index_or, subst, sym}
use Rattle.std.proofs.lemmas.Option.{slice_get-get_or}
use Rattle.hume_base.specs.declared.limits.TheConstants.{MAX_TYPE_WORDS}
use Rattle.hume_base.specs.Sizes.{size_of}
use Rattle.hume_model.specs.declared.core_tree.WireC.{WireC}
use Rattle.hume_model.specs.declared.core_tree.Core.{Core}
use Rattle.hume_text.specs.Bounds.{IsPrintable}
use Rattle.look_told.specs.Readable.{HasReadableLines}

-- the wire at a place of a list that is that of the core's wires
module _ (core : Core) (h : HasReadableLines core) (wires : List WireC) (same : wires ≡ core.wires) (place : ℕ) (below : place < length core.wires)
    (other : WireC) where
  there : slice_get core.wires place ≡ Some (slice_index_or wires place other)
  there =
      subst (λ ws. slice_get core.wires place ≡ Some (slice_index_or ws place other)) (sym same) (slice_get-get_or core.wires place other below)

  pub printable_wire : IsPrintable core.types (slice_index_or wires place other).ty
  printable_wire = h.printable place _ there

  pub small_wire : size_of core.types (slice_index_or wires place other).ty ≤ MAX_TYPE_WORDS
  small_wire = h.words place _ there
