-- Rules and handlers of a box, as they stand in a code.
use Rattle.std.specs.Prelude.{◌≡◌, ℕ, List, length, map, Option, Some, None, slice_get}
use Rattle.std.specs.Option.{unwrap_or}
use Rattle.hume_model.specs.declared.core_tree.RuleC.{RuleC}
use Rattle.hume_model.specs.declared.core_tree.HandC.{HandC}
use Rattle.hume_model.specs.declared.core_tree.BoxC.{BoxC}
use Rattle.box_code.specs.Represents.{RuleStands, HandlerStands}
use Rattle.box_code.specs.RepresentsBox.{handler_of}
use Rattle.box_compile.specs.inner.Emitted.{Emitted}

-- the rule of the number stands at the place of its number
pub record RuleFound (code : List ℕ) (entry : ℕ → Option ℕ) (places : List ℕ) (number : ℕ) (rule : RuleC) : Type 0 where
  pub place : ℕ
  pub begins : slice_get places number ≡ Some place
  pub stands : RuleStands code entry rule place

-- each of the rules does, and there are no more places
pub record RulesFound (code : List ℕ) (entry : ℕ → Option ℕ) (places : List ℕ) (rules : List RuleC) : Type 0 where
  pub count : length places ≡ length rules
  pub each : (number : ℕ) (rule : RuleC) → slice_get rules number ≡ Some rule → RuleFound code entry places number rule

-- the handler stands at the place, or there is neither
pub data HandlerFound (code : List ℕ) (entry : ℕ → Option ℕ) : Option HandC → Option ℕ → Type 0 where
  none : HandlerFound code entry None None
  some : (handler : HandC) (place : ℕ) → HandlerStands code entry handler place → HandlerFound code entry (Some handler) (Some place)

-- for each of so many exceptions the place of the box's handler, if it has one
pub record HandlersFound (code : List ℕ) (entry : ℕ → Option ℕ) (b : BoxC) (found : List (Option ℕ)) (exceptions : ℕ) : Type 0 where
  pub count : length found ≡ exceptions
  pub each : (exn : ℕ) (place : Option ℕ) → slice_get found exn ≡ Some place → HandlerFound code entry (handler_of b exn) place

-- The rules were appended, and then the handlers. An exception without a handler has the end of the code for its place.
pub record BoxWritten (old new : List ℕ) (entry : ℕ → Option ℕ) (b : BoxC) (rules handlers : List ℕ) (exceptions : ℕ) : Type 0 where
  pub mid : List ℕ
  pub found : List (Option ℕ)
  pub rules_are : Emitted old mid (λ code from to. RulesFound code entry rules b.rules)
  pub handlers_are : Emitted mid new (λ code from to. HandlersFound code entry b found exceptions)
  pub places : handlers ≡ map (λ (place : Option ℕ). unwrap_or place (length new)) found
