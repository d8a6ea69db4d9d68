-- When typed trees are those of a core: each of its functions and boxes has the trees in its place.
use Rattle.std.specs.Prelude.{◌≡◌, List, [], ◌∷◌, map}
use Rattle.std.specs.List.{All}
use Rattle.hume_model.specs.declared.core_tree.FunC.{FunC}
use Rattle.hume_model.specs.declared.core_tree.BoxC.{BoxC}
use Rattle.hume_model.specs.declared.core_tree.NodeC.{NodeC}
use Rattle.hume_model.specs.declared.core_tree.NodeC.TheVariants.{Rules, From, To}
use Rattle.hume_model.specs.declared.core_tree.Core.{Core}
use Rattle.typed_core.specs.declared.typed_tree.TypedEquation.{TypedEquation}
use Rattle.typed_core.specs.Declarations.{AreEquationsOf, TypedHandlerFits, TypedRuleFits}
use Rattle.typed_core.specs.Erasing.{erased_handler, erased_rule}
use Rattle.typed_core.specs.declared.trees.BoxTrees.{BoxTrees}
use Rattle.typed_core.specs.declared.trees.Trees.{Trees}

-- as many trees as functions, in the same order
abbrev pub FunctionsHave : Core → List FunC → List (List TypedEquation) → Type 0
FunctionsHave core [] [] = Unit {0}
FunctionsHave core (function ∷ functions) (equations ∷ others) = AreEquationsOf core function equations × FunctionsHave core functions others
FunctionsHave core _ _ = ⊥

-- the rules and the handlers of the box are what these erase to, and these are typed
pub record AreTreesOfBox (core : Core) (b : BoxC) (trees : BoxTrees) : Type 0 where
  pub rules : map erased_rule trees.rules ≡ b.rules
  pub rules_fit : All (TypedRuleFits core b) trees.rules
  pub handlers : map erased_handler trees.handlers ≡ b.handlers
  pub handlers_fit : All (TypedHandlerFits core b) trees.handlers

-- as many trees as boxes among the nodes, in the same order
abbrev pub BoxesHave : Core → List NodeC → List BoxTrees → Type 0
BoxesHave core [] [] = Unit {0}
BoxesHave core (Rules b ∷ nodes) (trees ∷ others) = AreTreesOfBox core b trees × BoxesHave core nodes others
BoxesHave core (From stream ∷ nodes) trees = BoxesHave core nodes trees
BoxesHave core (To stream ∷ nodes) trees = BoxesHave core nodes trees
BoxesHave core _ _ = ⊥

-- the trees are those of the core's functions and boxes
pub record AreTrees (core : Core) (trees : Trees) : Type 0 where
  pub functions : FunctionsHave core core.funs trees.functions
  pub boxes : BoxesHave core core.nodes trees.boxes
