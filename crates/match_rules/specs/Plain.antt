-- Boxes whose rules take each input as it is: its pattern is a variable, and its values are single words.
use Rattle.std.specs.Prelude.{◌≡◌, ◌==◌, ◌&&◌, Bool, true, false, List, length, map}
use Rattle.std.specs.List.{list_all}
use Rattle.hume_base.specs.declared.types.Ty.{Ty, out-Ty}
use Rattle.hume_base.specs.declared.types.Value.{Value}
use Rattle.hume_model.specs.declared.core_tree.PatC.{PatC, out-PatC}
use Rattle.hume_model.specs.declared.core_tree.PatC.TheOpen.{PatC-F}
use Rattle.hume_model.specs.declared.core_tree.InPat.{InPat}
use Rattle.hume_model.specs.declared.core_tree.InPat.TheVariants.{Star, AnyStar, Any, Built}
use Rattle.hume_model.specs.declared.core_tree.RuleC.{RuleC}
use Rattle.hume_model.specs.declared.core_tree.BoxC.{BoxC}
use Rattle.hume_model.specs.declared.core_tree.Core.{Core}
use Rattle.hume_model.specs.BoxTyping.{port_types}
use Rattle.hume_model.specs.Matching.{fits}
use Rattle.hume_model.specs.Typing.{is_scalar_layer}
use Rattle.hume_net.specs.HalfSteps.{oldest}
use Rattle.wire_cells.specs.Cells.{CellView}
use Rattle.match_rules.specs.Inputs.{AreCellsOf}

-- the pattern is a variable alone
abbrev pub is_variable : PatC-F PatC → Bool
is_variable PatC-F.Var = true
is_variable _ = false

-- the position needs a value, and takes it as it is
abbrev pub plain_pattern : InPat → Bool
plain_pattern Star = false
plain_pattern AnyStar = false
plain_pattern Any = false
plain_pattern (Built pattern) = is_variable (out-PatC pattern)

-- the values of the type are single words: it is `bool`, `char`, `int` or `nat`
abbrev pub scalar : Ty → Bool
scalar ty = is_scalar_layer (out-Ty ty)

-- the rule takes an input of each type as it is, and each type is one of single words
abbrev pub plain_rule : List Ty → RuleC → Bool
plain_rule types rule = list_all plain_pattern rule.pats && (length rule.pats == length types) && list_all scalar types

-- each rule of the box is plain for its inputs
abbrev pub plain_box : BoxC → Bool
plain_box b = list_all (plain_rule (port_types b.ins)) b.rules

-- the rule is plain for the types, the cells are of these types and hold the values, and the rule fits the oldest of them
pub record ArePlainInputs (core : Core) (types : List Ty) (rule : RuleC) (ins : List CellView) (values : List (List Value)) : Type 0 where
  pub plain : plain_rule types rule ≡ true
  pub cells : AreCellsOf core types ins values
  pub fit : fits rule.pats (map oldest values) ≡ true
