-- The cores of equations, rules and handlers have their types, if no literal in them is out of range.
use Rattle.std.proofs.Common.{◌≡◌, ◌≢◌, ℕ, zero, suc, slice_get, List, [], ◌∷◌, map, Option, Some, None, refl, ap, sym, subst, ◌∙◌, Bool, true, false, if◌then◌else◌}
use Rattle.std.proofs.lemmas.Bool.{or_parts}
use Rattle.hume_base.specs.declared.types.Ty.{Ty}
use Rattle.hume_ast.specs.declared.tree.TyExp.{TyExp}
use Rattle.hume_ast.specs.declared.tree.Pat.{Pat, out-Pat}
use Rattle.hume_ast.specs.declared.tree.Pat.TheOpen.{Pat-F}
use Rattle.hume_model.specs.declared.core_tree.Core.{Core}
use Rattle.hume_model.specs.declared.core_tree.FunC.{FunC}
use Rattle.hume_model.specs.declared.core_tree.BoxC.{BoxC}
use Rattle.hume_model.specs.declared.core_tree.RuleC.{RuleC}
use Rattle.hume_model.specs.declared.core_tree.HandC.{HandC}
use Rattle.hume_model.specs.Typing.{ArePatterns}
use Rattle.hume_model.specs.BoxTyping.{port_types, PositionsHave, RuleIsTyped, HandlerIsTyped, BoxIsTyped, carried_types}
use Rattle.typed_core.specs.declared.typed_tree.TypedEquation.{TypedEquation}
use Rattle.typed_core.specs.Erasing.{erased_equation, erased_rule, erased_handler}
use Rattle.typed_core.specs.Typing.{IsTyped}
use Rattle.typed_core.specs.ResultTyping.{ResultIsTyped}
use Rattle.typed_core.specs.Declarations.{AreEquationsOf, EquationsAreTyped, TypedRuleFits, TypedHandlerFits}
use Rattle.typed_core.proofs.TypedResults as whole
use Rattle.check_typing.specs.Signatures.{Scope}
use Rattle.check_typing.specs.Patterns.{pat_cores, some_pat_too_wide}
use Rattle.check_typing.specs.Declarations.{InPlaces, CoredEquation, CoredRule, CoredHandler, some_so, cores_alone, WrittenEquation, IsEquation, WrittenRule, IsRule, WrittenHandler, carried_layer, carried_vars, IsHandler, signature_written, ports_written, IsFunction, IsBox}
use Rattle.check_typing.specs.CoreSignatures.{scope_types, IsOfSignature, HasSignatures}
use Rattle.check_typing.specs.declared.signatures.Signature.{Signature}
use Rattle.check_typing.specs.declared.signatures.Signatures.{Signatures}
use Rattle.check_typing.proofs.Maybe.{some-same, not_some}
use Rattle.check_typing.proofs.PatternsTyped.{patterns_typed, positions_typed}
use Rattle.check_typing.proofs.FormsTyped.{exn_stands}
use Rattle.check_typing.proofs.ExpressionsTyped.{sound}
use Rattle.check_typing.proofs.ResultsTyped.{sound_result}

module _ (s : Signatures) (core : Core) (of : HasSignatures s core) where
  -- an equation before others
  before : (signature : Signature) (function : FunC) → IsOfSignature signature function → (equation : WrittenEquation) (c : CoredEquation)
      → IsEquation s signature equation c → c.1 ≡ false → (others : List TypedEquation)
      → EquationsAreTyped core function.params function.gives others → EquationsAreTyped core function.params function.gives (c.0 ∷ others)
  before signature function is equation c h off others rest =
      let flags = or_parts (some_pat_too_wide h.pats) h.body.1 (ap (λ (r : CoredEquation). r.1) (sym h.is) ∙ off) in
      let pats : ArePatterns core.types function.params (pat_cores h.pats) (scope_types h.vars) =
      subst (λ types. ArePatterns types function.params (pat_cores h.pats) (scope_types h.vars)) (sym of.types)
      (subst (λ ts. ArePatterns s.types ts (pat_cores h.pats) (scope_types h.vars)) (sym is.params)
      (patterns_typed s equation.1 signature.params (h.vars, h.pats) h.binds flags.0)) in
      let body : IsTyped core (scope_types h.vars) h.body.0 function.gives =
      subst (IsTyped core (scope_types h.vars) h.body.0) (sym is.gives)
      ((sound s core of equation.2).checked h.vars signature.gives h.body h.typed flags.1) in
      subst (λ (r : CoredEquation). EquationsAreTyped core function.params function.gives (r.0 ∷ others)) (sym h.is)
      (EquationsAreTyped.one (scope_types h.vars) pats body rest)

  pub equations_typed : (signature : Signature) (function : FunC) → IsOfSignature signature function
      → (equations : List WrittenEquation) (cs : List CoredEquation)
      → InPlaces (IsEquation s signature) equations cs → some_so cs ≡ false
      → EquationsAreTyped core function.params function.gives (cores_alone cs)
  equations_typed signature function is [] [] h off = EquationsAreTyped.none
  equations_typed signature function is [] (c ∷ cs) h off = absurd h
  equations_typed signature function is (x ∷ xs) [] h off = absurd h
  equations_typed signature function is (x ∷ xs) (c ∷ cs) h off =
      let flags = or_parts c.1 (some_so cs) off in before signature function is x c h.0 flags.0 _ (equations_typed signature function is xs cs h.1 flags.1)

  pub rule_typed : (b : BoxC) (rule : WrittenRule) (c : CoredRule) → IsRule s (port_types b.ins) (port_types b.outs) rule c → c.1 ≡ false
      → TypedRuleFits core b c.0
  rule_typed b rule c h off =
      let flags = or_parts (some_so h.pats) h.result.1 (ap (λ (r : CoredRule). r.1) (sym h.is) ∙ off) in
      let cores = cores_alone h.pats in
      let pats : PositionsHave core.types (port_types b.ins) cores (scope_types h.vars) =
      subst (λ types. PositionsHave types (port_types b.ins) cores (scope_types h.vars)) (sym of.types) (positions_typed s rule.0 (port_types b.ins) (h.vars, h.pats) h.binds flags.0) in
      subst (λ (r : CoredRule). TypedRuleFits core b r.0) (sym h.is) (record {
        positions = record { vars = scope_types h.vars; have = pats };
        outputs = (sound_result s core of rule.1).result h.vars (port_types b.outs) h.result h.gives flags.1;
      })

  -- what a handler binds
  record Carries (carried : Option Ty) (vars : Scope) (bound : Bool) : Type 0 where
    types : scope_types vars ≡ (if bound then carried_types carried else [])
    some : bound ≡ true → carried ≢ None

  layer_carries : (t : Ty) (layer : Pat-F Pat) (r : Scope × Bool) → carried_layer t layer ≡ Some r → Carries (Some t) r.0 r.1
  layer_carries t (Pat-F.Name name) r h =
      subst (λ (r : Scope × Bool). Carries (Some t) r.0 r.1) (some-same ((name, t) ∷ [], true) r h) (record { types = refl; some = λ on e. not_some t (sym e) })
  layer_carries t Pat-F.Any r h = subst (λ (r : Scope
      × Bool). Carries (Some t) r.0 r.1) (some-same ([], false) r h) (record { types = refl; some = λ on e. not_some t (sym e) })
  layer_carries t _ r h = cc

  carries : (carried : Option Ty) (pat : Option Pat) (r : Scope × Bool) → carried_vars carried pat ≡ Some r → Carries carried r.0 r.1
  carries None None r h = subst (λ (r : Scope × Bool). Carries None r.0 r.1) (some-same ([], false) r h) (record { types = refl; some = λ on e. cc })
  carries None (Some pat) r h = cc
  carries (Some t) None r h = cc
  carries (Some t) (Some pat) r h = layer_carries t (out-Pat pat) r h

  pub handler_typed : (b : BoxC) (handler : WrittenHandler) (c : CoredHandler) → IsHandler s (port_types b.outs) handler c → c.1 ≡ false
      → TypedHandlerFits core b c.0
  handler_typed b handler c h off =
      let binds = carries h.exn.carries handler.1 (h.vars, h.bound) h.binds in
      let typed = (sound_result s core of handler.2).result h.vars (port_types b.outs) h.result h.gives (ap (λ (r : CoredHandler). r.1) (sym h.is)
      ∙ off) in
      subst (λ (r : CoredHandler). TypedHandlerFits core b r.0) (sym h.is) (record {
        is = record { exn = h.exn; known = exn_stands s core of handler.0 h.number h.exn h.known; carries = binds.some };
        outputs = subst (λ vars. ResultIsTyped core (port_types b.outs) vars h.result.0) binds.types typed;
      })

  -- what a tree of several erases to belongs to something, and has no literal that is out of range
  record StandsFor {A B C : Type 0} (Belongs : A → B × Bool → Type 0) (erase : B → C) (d : C) : Type 0 where
    written : A
    cored : B × Bool
    belongs : Belongs written cored
    is : erase cored.0 ≡ d
    narrow : cored.1 ≡ false

  at_place : {A B C : Type 0} (Belongs : A → B × Bool → Type 0) (erase : B → C) (xs : List A) (cs : List (B × Bool)) → InPlaces Belongs xs cs
      → some_so cs ≡ false → (i : ℕ) (d : C) → slice_get (map erase (cores_alone cs)) i ≡ Some d → StandsFor Belongs erase d
  at_place Belongs erase [] [] h off i d e = cc
  at_place Belongs erase [] (c ∷ cs) h off i d e = absurd h
  at_place Belongs erase (x ∷ xs) [] h off i d e = absurd h
  at_place Belongs erase (x ∷ xs) (c ∷ cs) h off zero d e =
      record { written = x; cored = c; belongs = h.0; is = some-same _ _ e; narrow = (or_parts c.1 (some_so cs) off).0 }
  at_place Belongs erase (x ∷ xs) (c ∷ cs) h off (suc i) d e = at_place Belongs erase xs cs h.1 (or_parts c.1 (some_so cs) off).1 i d e

  pub function_typed : (name : List ℕ) (tys : List TyExp) (equations : List WrittenEquation) (cs : List CoredEquation) (signature : Signature) (function : FunC)
      → IsFunction s name tys equations cs → some_so cs ≡ false → signature_written s.types name tys ≡ Some signature → IsOfSignature signature function
      → function.equations ≡ map erased_equation (cores_alone cs) → AreEquationsOf core function (cores_alone cs)
  function_typed name tys equations cs signature function h off written is same =
      let one : h.signature ≡ signature = some-same _ _ (sym h.is_written ∙ written) in
      record {
        erases = sym same;
        typed = equations_typed signature function is equations cs (subst (λ f. InPlaces (IsEquation s f) equations cs) one h.have) off;
      }

  pub box_typed : (inputs outputs : List (List ℕ × TyExp)) (rules : List WrittenRule) (handlers : List WrittenHandler) (rs : List CoredRule)
      (hs : List CoredHandler) (b : BoxC) → IsBox s inputs outputs rules handlers rs hs → some_so rs ≡ false → some_so hs ≡ false
      → ports_written s.types inputs ≡ Some (port_types b.ins) → ports_written s.types outputs ≡ Some (port_types b.outs)
      → b.rules ≡ map erased_rule (cores_alone rs) → b.handlers ≡ map erased_handler (cores_alone hs) → BoxIsTyped core b
  box_typed inputs outputs rules handlers rs hs b h off_rules off_handlers ins outs same_rules same_handlers =
      let ins_are : h.ins ≡ port_types b.ins = some-same _ _ (sym h.inputs_are ∙ ins) in
      let outs_are : h.outs ≡ port_types b.outs = some-same _ _ (sym h.outputs_are ∙ outs) in
      let rules_have = subst (λ us. InPlaces (IsRule s us (port_types b.outs)) rules rs) ins_are
      (subst (λ us. InPlaces (IsRule s h.ins us) rules rs) outs_are h.rules_have) in
      let handlers_have = subst (λ us. InPlaces (IsHandler s us) handlers hs) outs_are h.handlers_have in
      record {
        rules = λ number rule there.
            let x = at_place (IsRule s (port_types b.ins) (port_types b.outs)) erased_rule rules rs rules_have off_rules number rule
            (ap (λ (xs : List RuleC). slice_get xs number) (sym same_rules) ∙ there) in
            subst (RuleIsTyped core b) x.is (whole.rule_typed core b x.cored.0 (rule_typed b x.written x.cored x.belongs x.narrow));
        handlers = λ number handler there.
            let x = at_place (IsHandler s (port_types b.outs)) erased_handler handlers hs handlers_have off_handlers number handler
            (ap (λ (xs : List HandC). slice_get xs number) (sym same_handlers) ∙ there) in
            subst (HandlerIsTyped core b) x.is (whole.handler_typed core b x.cored.0 (handler_typed b x.written x.cored x.belongs x.narrow));
      }
