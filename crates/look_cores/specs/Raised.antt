-- Which exceptions a rule or a handler lets out of its box.
use Rattle.std.specs.Prelude.{◌≡◌, ℕ, ◌-◌, ◌<◌, ◌==◌, ◌&&◌, not, Bool, true, false, List, length, Option, Some, None, slice_get}
use Rattle.std.specs.List.{list_any}
use Rattle.hume_base.specs.declared.limits.TheConstants.{MAX_EXCEPTIONS}
use Rattle.hume_model.specs.declared.core_tree.RuleC.{RuleC}
use Rattle.hume_model.specs.declared.core_tree.HandC.{HandC}
use Rattle.hume_model.specs.declared.core_tree.BoxC.{BoxC}
use Rattle.hume_model.specs.declared.core_tree.NodeC.{NodeC}
use Rattle.hume_model.specs.declared.core_tree.NodeC.TheVariants.{Rules, From, To}
use Rattle.hume_model.specs.declared.core_tree.Core.{Core}
use Rattle.hume_model.specs.HandlerRules.{has_handler}
use Rattle.hume_model.specs.Raising.{result_may_raise}
use Rattle.look_sources.specs.declared.span.Sort.{Sort}
use Rattle.look_sources.specs.declared.span.Sort.TheVariants.{Handler}
use Rattle.look_cores.specs.declared.broken.Culprit.{Culprit}

-- the rule may raise the exception, and none of the handlers is for it
abbrev pub rule_lets_out : Core → List HandC → ℕ → Option RuleC → Bool
rule_lets_out core handlers exn None = false
rule_lets_out core handlers exn (Some rule) = result_may_raise core exn rule.result && not (has_handler handlers exn)

-- the handler may raise the exception: nothing handles what a handler raises
abbrev pub handler_lets_out : Core → ℕ → Option HandC → Bool
handler_lets_out core exn None = false
handler_lets_out core exn (Some handler) = result_may_raise core exn handler.result

-- the box's part of that sort at the place does
abbrev pub part_lets_out : Core → BoxC → ℕ → ℕ → Sort → Bool
part_lets_out core b exn place Handler = handler_lets_out core exn (slice_get b.handlers place)
part_lets_out core b exn place _ = rule_lets_out core b.handlers exn (slice_get b.rules place)

-- the node is a box in that line, and its part does
abbrev pub node_lets_out : Core → ℕ → Culprit → ℕ → NodeC → Bool
node_lets_out core line culprit exn (Rules b) = (b.line == line) && part_lets_out core b exn (culprit.number - 1) culprit.sort
node_lets_out core line culprit exn (From stream) = false
node_lets_out core line culprit exn (To stream) = false

-- a box in that line does
abbrev pub lets_out : Core → ℕ → Culprit → ℕ → Bool
lets_out core line culprit exn = list_any (node_lets_out core line culprit exn) core.nodes

-- the exception is the first of the core's that is let out; or there is none
abbrev pub IsFirstOut : Core → ℕ → Culprit → Option ℕ → Type 0
IsFirstOut core line culprit None = (exn : ℕ) → exn < length core.exns → exn < MAX_EXCEPTIONS → lets_out core line culprit exn ≡ false
IsFirstOut core line culprit (Some exn) = (lets_out core line culprit exn ≡ true) × ((earlier : ℕ) → earlier < exn → lets_out core line culprit earlier ≡ false)
