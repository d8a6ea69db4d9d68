-- Which boxes lack a handler, and which have one that may raise. Each fact is about the number of a box's declaration.
use Rattle.std.specs.Prelude.{◌≡◌, ◌⊎◌, ℕ, ◌<◌, ◌==◌, Bool, true, false, List, length, Some, slice_get}
use Rattle.std.specs.List.{list_any}
use Rattle.hume_base.specs.declared.finding.Finding.{Finding}
use Rattle.hume_base.specs.declared.rule.Rule.TheVariants.{C60, C61}
use Rattle.hume_base.specs.Least.{OfRule}
use Rattle.hume_model.specs.declared.core_tree.RuleC.{RuleC}
use Rattle.hume_model.specs.declared.core_tree.HandC.{HandC}
use Rattle.hume_model.specs.declared.core_tree.BoxC.{BoxC}
use Rattle.hume_model.specs.declared.core_tree.NodeC.TheVariants.{Rules}
use Rattle.hume_model.specs.declared.core_tree.Core.{Core}
use Rattle.hume_model.specs.Raising.{result_may_raise}

-- one of the handlers is for the exception
abbrev pub has_handler : List HandC → ℕ → Bool
has_handler handlers exn = list_any (λ (handler : HandC). handler.exn == exn) handlers

-- an exception of the core that the result of one of the box's rules may raise has no handler
pub record LeavesUnhandled (core : Core) (b : BoxC) : Type 0 where
  pub number : ℕ
  pub rule : RuleC
  pub there : slice_get b.rules number ≡ Some rule
  pub exn : ℕ
  pub known : exn < length core.exns
  pub raises : result_may_raise core exn rule.result ≡ true
  pub unhandled : has_handler b.handlers exn ≡ false

-- the result of one of the box's handlers may raise an exception of the core
pub record RaisesAgain (core : Core) (b : BoxC) : Type 0 where
  pub number : ℕ
  pub handler : HandC
  pub there : slice_get b.handlers number ≡ Some handler
  pub exn : ℕ
  pub known : exn < length core.exns
  pub raises : result_may_raise core exn handler.result ≡ true

-- the declaration is that of a box with the property
pub record OfBox (core : Core) (P : Core → BoxC → Type 0) (declaration : ℕ) : Type 0 where
  pub n : ℕ
  pub b : BoxC
  pub there : slice_get core.nodes n ≡ Some (Rules b)
  pub declared : b.declaration ≡ declaration
  pub holds : P core b

-- what the handlers of a core break
abbrev pub BreaksHandlers : Core → Finding → Type 0
BreaksHandlers core finding = OfRule C60 (OfBox core LeavesUnhandled) finding ⊎ OfRule C61 (OfBox core RaisesAgain) finding
