-- Which rules the declarations of a program break, by themselves and by the program's core.
use Rattle.std.specs.Prelude.{ℕ, List}
use Rattle.hume_base.specs.declared.finding.Finding.{Finding}
use Rattle.hume_base.specs.declared.rule.Rule.{Rule}
use Rattle.hume_base.specs.declared.rule.Rule.TheVariants.{C30, C31, C32, C33, C40, C41, C42, C43, C44, C45, C50, C51, C52, C53, C54, C60, C61, C72, C73, C74, C75, C76, C78, C79}
use Rattle.hume_ast.specs.declared.tree.Program.{Program}
use Rattle.hume_model.specs.declared.core_tree.Core.{Core}
use Rattle.hume_model.specs.WireRules.{LacksInput, RepeatsInput, LacksOutput, RepeatsOutput, JoinsOthers}
use Rattle.hume_model.specs.HandlerRules.{OfBox, LeavesUnhandled, RaisesAgain}
use Rattle.box_costs.specs.CostRules.{OfNode, HeapPasses, StackPasses, SpacePasses, WorkPasses}
use Rattle.check_names.specs.Repeated.{RepeatsName}
use Rattle.check_names.specs.Unknown.{HasUnknownName}
use Rattle.check_names.specs.Leading.{CallsItself, HoldsItself}
use Rattle.check_names.specs.Twice.{BindsTwice}
use Rattle.check_counts.specs.CountRules.{Miscounts, HasStrayStar}
use Rattle.check_counts.specs.Limits.{PassesLimits}
use Rattle.check_rules.specs.Declared.{Decls}
use Rattle.check_rules.specs.TypeRules.{IsUntyped, HasLiteralOutOfRange, HasNoInitial}
use Rattle.check_rules.specs.SizeRules.{HasLargeType, PassesWords}
use Rattle.check_rules.specs.CoreOf.{IsCoreOf}

-- the declaration of the number breaks the rule on names, counts, types or limits
abbrev pub Broken : Decls → Rule → ℕ → Type 0
Broken decls C30 number = RepeatsName decls number
Broken decls C31 number = HasUnknownName decls number
Broken decls C32 number = CallsItself decls number
Broken decls C33 number = HoldsItself decls number
Broken decls C40 number = IsUntyped decls number
Broken decls C41 number = HasLiteralOutOfRange decls number
Broken decls C42 number = Miscounts decls number
Broken decls C43 number = BindsTwice decls number
Broken decls C44 number = HasStrayStar decls number
Broken decls C45 number = HasNoInitial decls number
Broken decls C72 number = PassesLimits decls number
Broken decls C73 number = HasLargeType decls number
Broken decls C74 number = PassesWords decls number
Broken decls _ number = ⊥

-- the declaration of the number breaks the rule on wires, exceptions, heap, stack or work
abbrev pub BrokenCore : Core → Rule → ℕ → Type 0
BrokenCore core C50 number = LacksInput core number
BrokenCore core C51 number = RepeatsInput core number
BrokenCore core C52 number = LacksOutput core number
BrokenCore core C53 number = RepeatsOutput core number
BrokenCore core C54 number = JoinsOthers core number
BrokenCore core C60 number = OfBox core LeavesUnhandled number
BrokenCore core C61 number = OfBox core RaisesAgain number
BrokenCore core C75 number = OfNode core HeapPasses number
BrokenCore core C76 number = OfNode core StackPasses number
BrokenCore core C78 number = OfNode core SpacePasses number
BrokenCore core C79 number = OfNode core WorkPasses number
BrokenCore core _ number = ⊥

-- a declaration of the program breaks a rule, by itself or by the core of the program
pub data BreaksProgram (text : List ℕ) (program : Program) (f : Finding) : Type 0 where
  itself : Broken program.decls f.rule f.declaration → BreaksProgram text program f
  by_core : (core : Core) → IsCoreOf text program core → BrokenCore core f.rule f.declaration → BreaksProgram text program f
