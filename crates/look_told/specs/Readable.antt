-- Of which cores the lines of input streams can be read.
use Rattle.std.specs.Prelude.{◌≡◌, ℕ, ◌≤◌, Some, slice_get}
use Rattle.hume_base.specs.declared.limits.TheConstants.{MAX_TYPE_WORDS}
use Rattle.hume_base.specs.Sizes.{size_of, HaveTheirSizes}
use Rattle.hume_model.specs.declared.core_tree.WireC.{WireC}
use Rattle.hume_model.specs.declared.core_tree.Core.{Core}
use Rattle.hume_text.specs.Bounds.{IsPrintable}
use Rattle.hume_text.specs.Names.{HaveNames}

-- The values on the wires have texts, and no more words than a type may have. Cores of sound sources are so.
pub record HasReadableLines (core : Core) : Type 0 where
  pub sizes : HaveTheirSizes core.types
  pub names : HaveNames core.types
  pub printable : (w : ℕ) (wire : WireC) → slice_get core.wires w ≡ Some wire → IsPrintable core.types wire.ty
  pub words : (w : ℕ) (wire : WireC) → slice_get core.wires w ≡ Some wire → size_of core.types wire.ty ≤ MAX_TYPE_WORDS
