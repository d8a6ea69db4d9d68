-- The bare form of a core.
use Rattle.std.specs.Prelude.{[], map}
use Rattle.hume_model.specs.declared.core_tree.Res.TheVariants.{Outs}
use Rattle.hume_model.specs.declared.core_tree.RuleC.{RuleC}
use Rattle.hume_model.specs.declared.core_tree.HandC.{HandC}
use Rattle.hume_model.specs.declared.core_tree.BoxC.{BoxC}
use Rattle.hume_model.specs.declared.core_tree.NodeC.{NodeC}
use Rattle.hume_model.specs.declared.core_tree.NodeC.TheVariants.{Rules, From, To}
use Rattle.hume_model.specs.declared.core_tree.Core.{Core}

-- a rule with its patterns alone
abbrev pub bare_rule : RuleC → RuleC
bare_rule rule = record rule { result = Outs [] }

abbrev pub bare_handler : HandC → HandC
bare_handler handler = record handler { result = Outs [] }

abbrev pub bare_box : BoxC → BoxC
bare_box b = record b { rules = map bare_rule b.rules; handlers = map bare_handler b.handlers }

abbrev pub bare_node : NodeC → NodeC
bare_node (Rules b) = Rules (bare_box b)
bare_node (From stream) = From stream
bare_node (To stream) = To stream

-- no functions, and no results of rules and handlers; all else is as in the core
abbrev pub bare_of : Core → Core
bare_of core = record core { funs = []; nodes = map bare_node core.nodes }
