-- What is found of a declaration.
use Rattle.std.proofs.Common.{◌≡◌, ℕ, Bool, List, Option, Some, None, ap}
use Rattle.std.proofs.lemmas.Grind.{common_steps}
use Rattle.hume_ast.specs.declared.tree.TyExp.{TyExp}
use Rattle.typed_core.specs.declared.typed_tree.TypedEquation.{TypedEquation}
use Rattle.typed_core.specs.declared.typed_tree.TypedRule.{TypedRule}
use Rattle.typed_core.specs.declared.typed_tree.TypedHandler.{TypedHandler}
use Rattle.typed_core.specs.declared.typed_tree.TypedDeclaration.TheVariants.{Equations, Rules}
use Rattle.check_typing.specs.Partial.{given}
use Rattle.check_typing.specs.Declarations.{CoredEquation, WrittenEquation, CoredRule, WrittenRule, CoredHandler, WrittenHandler, CoredDeclaration, function_core, box_core}
use Rattle.check_typing.specs.inner.DeclarationWalk.{function_walk, box_walk}
use Rattle.check_typing.specs.declared.signatures.Signatures.{Signatures}
use Rattle.check_declarations.specs.functions.inner.Functions.{found_together}
use Rattle.check_declarations.specs.boxes.inner.Boxes.{box_found}

-- the trees of a function
abbrev trees_of_function : List TypedEquation × Bool → Option CoredDeclaration
trees_of_function found = Some (Equations found.0, found.1)

-- the trees of a box
abbrev trees_of_box : List TypedRule × List TypedHandler × Bool → Option CoredDeclaration
trees_of_box found = Some (Rules found.0 found.1, found.2)

of_function : (o : Option (List CoredEquation)) (found : List TypedEquation × Bool) → found_together o ≡ Some found
    → given o (λ cs. Some (function_core cs)) ≡ trees_of_function found
of_function None found h = cc
of_function (Some cs) found h = ap (λ (o : Option (List TypedEquation × Bool)). given o trees_of_function) h

of_box : (o : Option (List CoredRule × List CoredHandler)) (found : List TypedRule × List TypedHandler × Bool) → box_found o ≡ Some found
    → given o (λ cs. Some (box_core cs.0 cs.1)) ≡ trees_of_box found
of_box None found h = cc
of_box (Some cs) found h = ap (λ (o : Option (List TypedRule × List TypedHandler × Bool)). given o trees_of_box) h

module _ (s : Signatures) (name : List ℕ) (types : List TyExp) (equations : List WrittenEquation) where
  pub function_cored : (cores : List TypedEquation) (too_wide : Bool)
      → ((any : List ℕ) → found_together (function_walk s any types equations) ≡ Some (cores, too_wide))
      → given (function_walk s name types equations) (λ cs. Some (function_core cs)) ≡ Some (Equations cores, too_wide)
  function_cored cores too_wide h = of_function (function_walk s name types equations) (cores, too_wide) (h name)

  pub function_untyped : ((any : List ℕ) → function_walk s any types equations ≡ None)
      → given (function_walk s name types equations) (λ cs. Some (function_core cs)) ≡ None
  function_untyped h = ap (λ o. given o (λ (cs : List CoredEquation). Some (function_core cs))) (h name)

module _ (s : Signatures) (inputs outputs : List (List ℕ × TyExp)) (rules : List WrittenRule) (handlers : List WrittenHandler) where
  pub box_cored : (rs : List TypedRule) (hs : List TypedHandler) (too_wide : Bool)
      → box_found (box_walk s inputs outputs rules handlers) ≡ Some (rs, hs, too_wide)
      → given (box_walk s inputs outputs rules handlers) (λ found. Some (box_core found.0 found.1)) ≡ Some (Rules rs hs, too_wide)
  box_cored rs hs too_wide h = of_box (box_walk s inputs outputs rules handlers) (rs, hs, too_wide) h

  pub box_untyped : box_walk s inputs outputs rules handlers ≡ None
      → given (box_walk s inputs outputs rules handlers) (λ found. Some (box_core found.0 found.1)) ≡ None
  box_untyped h = ap (λ o. given o (λ (found : List CoredRule × List CoredHandler). Some (box_core found.0 found.1))) h

pub ruleset declaration_steps = (common_steps, function_cored, function_untyped, box_cored, box_untyped)

pub ruleset verdict_steps = (common_steps)
