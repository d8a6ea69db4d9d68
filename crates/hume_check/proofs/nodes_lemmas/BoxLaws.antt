-- What is said of a box and its trees is what its core has.
use Rattle.std.proofs.Common.{◌≡◌, ℕ, Bool, List, ap, sym, subst, ◌∙◌, refl, map, Some}
use Rattle.hume_ast.specs.declared.tree.TyExp.{TyExp}
use Rattle.hume_ast.specs.declared.tree.Decl.{Decl}
use Rattle.hume_ast.specs.declared.tree.Decl.TheVariants.{BoxD}
use Rattle.hume_model.specs.declared.core_tree.BoxC.{BoxC}
use Rattle.hume_model.specs.declared.core_tree.NodeC.TheVariants as node
use Rattle.typed_core.specs.declared.typed_tree.TypedRule.{TypedRule}
use Rattle.typed_core.specs.declared.typed_tree.TypedHandler.{TypedHandler}
use Rattle.typed_core.specs.declared.typed_tree.TypedDeclaration.{TypedDeclaration}
use Rattle.typed_core.specs.declared.typed_tree.TypedDeclaration.TheVariants.{Rules}
use Rattle.typed_core.specs.Erasing.{erased_handler, erased_rule}
use Rattle.check_typing.specs.Declarations.{WrittenRule, WrittenHandler, CoredDeclaration, cores_alone, HasTrees}
use Rattle.check_typing.specs.declared.signatures.Signatures.{Signatures}
use Rattle.hume_check.specs.declared.nodes.declared.BoxParts.{BoxParts}
use Rattle.hume_check.specs.nodes.inner.Parts.{AreOfBox, HaveTypes, IsBoxFrom, IsNodeIfOne, numbered}

same_rules : (rules others : List TypedRule) (handlers more : List TypedHandler) → Rules rules handlers ≡ Rules others more → rules ≡ others
same_rules rules others handlers more h = cc

same_handlers : (rules others : List TypedRule) (handlers more : List TypedHandler) → Rules rules handlers ≡ Rules others more → handlers ≡ more
same_handlers rules others handlers more h = cc

module _ (s : Signatures) (d : ℕ × Decl) (trees : TypedDeclaration) (typed : HasTrees s d.1 trees) (name : List ℕ) (ins outs : List (List ℕ × TyExp)) where
  module _ (fair : Bool) (rules : List WrittenRule) (handlers : List WrittenHandler) (is : d.1 ≡ BoxD name ins outs fair rules handlers) where
    has : HasTrees s (BoxD name ins outs fair rules handlers) trees
    has = subst (λ decl. HasTrees s decl trees) is typed

    same : trees ≡ Rules (cores_alone has.0) (cores_alone has.1)
    same = ap (λ (c : CoredDeclaration). c.0) has.3

    pub of_box : AreOfBox trees
    of_box = (cores_alone has.0, cores_alone has.1, same)

    pub inputs_typed : HaveTypes s.types ins
    inputs_typed = (has.2.ins, has.2.inputs_are)

    pub outputs_typed : HaveTypes s.types outs
    outputs_typed = (has.2.outs, has.2.outputs_are)

-- the node of a box is what is made of its parts
module _ (text : List ℕ) (s : Signatures) (number : ℕ) (d : ℕ × Decl) (trees : TypedDeclaration) (typed : HasTrees s d.1 trees) where
  pub box_node : (parts : BoxParts) (rules : List WrittenRule) (handlers : List WrittenHandler) (b : BoxC)
      → d.1 ≡ BoxD parts.name.now parts.inputs.now parts.outputs.now parts.is_fair rules handlers
      → trees ≡ Rules parts.rules.now parts.handlers.now → IsBoxFrom text s.types number d.0 parts b
      → IsNodeIfOne text s (numbered number d) (Some (node.Rules b))
  box_node parts rules handlers b is are from =
      let decl = BoxD parts.name.now parts.inputs.now parts.outputs.now parts.is_fair rules handlers in
      let has : HasTrees s decl trees = subst (λ decl. HasTrees s decl trees) is typed in
      let same : Rules parts.rules.now parts.handlers.now ≡ Rules (cores_alone has.0) (cores_alone has.1) =
      sym are ∙ ap (λ (c : CoredDeclaration). c.0) has.3 in
      subst (λ decl. IsNodeIfOne text s (numbered number (d.0, decl)) (Some (node.Rules b))) (sym is) (
        refl,
        (
          b,
          refl,
          record {
            name = from.name;
            line = from.line;
            declaration = from.declaration;
            ins = from.ins;
            outs = from.outs;
            fair = from.fair;
            rule_cores = has.0;
            handler_cores = has.1;
            typed = has.2;
            rules_are = from.rules ∙ ap (map erased_rule) (same_rules parts.rules.now (cores_alone has.0) parts.handlers.now (cores_alone has.1) same);
            handlers_are = from.handlers
                ∙ ap (map erased_handler) (same_handlers parts.rules.now (cores_alone has.0) parts.handlers.now (cores_alone has.1) same);
          },
        ),
      )
