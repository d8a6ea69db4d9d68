-- Equations, rules and handlers of a core are as a source may write them.
use Rattle.std.proofs.Common.{◌≡◌, ℕ, suc, ◌++◌, not, ◌==◌, ◌||◌, ◌&&◌, Bool, true, false, List, [], ◌∷◌, map, length, Option, Some, None, slice_get, refl, ap, sym, subst, ◌∙◌}
use Rattle.std.specs.List.{list_all, list_any}
use Rattle.std.proofs.lemmas.Bool.{or_parts}
use Rattle.std.proofs.lemmas.List.Elements.{All-contains}
use Rattle.hume_base.specs.declared.limits.TheConstants.{MAX_DEPTH}
use Rattle.hume_base.specs.declared.types.Ty.{Ty}
use Rattle.hume_base.specs.declared.types.Types.{Types}
use Rattle.hume_ast.specs.declared.tree.Pat.{Pat, out-Pat}
use Rattle.hume_ast.specs.declared.tree.Pat.TheOpen.{Pat-F}
use Rattle.hume_ast.specs.declared.tree.Decl.TheVariants.{Fun, BoxD}
use Rattle.hume_ast.specs.declared.tree.Program.{Program}
use Rattle.hume_ast.specs.Fits.{Each, EquationFits, RuleFits, HandlerFits, IsFit}
use Rattle.check_counts.specs.declared.counts.Counts.{Counts}
use Rattle.check_counts.specs.Counted.{counted, parameters, is_other}
use Rattle.check_counts.specs.Miscounts.{pattern_miscounts, miscounts, result_miscounts}
use Rattle.check_counts.specs.CountRules.{some_type_miscounts, places_miscount, equation_miscounts, rule_miscounts, handler_miscounts, bound_values}
use Rattle.hume_model.specs.declared.core_tree.PatC.{PatC}
use Rattle.hume_model.specs.declared.core_tree.PortC.{PortC}
use Rattle.hume_model.specs.declared.core_tree.HandC.{HandC}
use Rattle.hume_model.specs.declared.core_tree.ExnDef.{ExnDef}
use Rattle.hume_model.specs.declared.core_tree.FunC.{FunC}
use Rattle.hume_model.specs.declared.core_tree.BoxC.{BoxC}
use Rattle.hume_model.specs.declared.core_tree.NodeC.TheVariants.{Rules}
use Rattle.hume_model.specs.declared.core_tree.Core.{Core}
use Rattle.hume_model.specs.BoxTyping.{port_types}
use Rattle.hume_model.specs.TypeLimits.{is_type, IsWrittenType}
use Rattle.hume_model.specs.PartLimits.{is_written_pattern, is_written_equation, is_written_rule, is_written_result}
use Rattle.hume_model.specs.Limits.{IsSmallException}
use Rattle.typed_core.specs.Erasing.{erased_result, erased_equation, erased_rule, erased_handler}
use Rattle.check_typing.specs.Signatures.{Scope}
use Rattle.check_typing.specs.Declarations.{InPlaces, CoredEquation, CoredRule, CoredHandler, cores_alone, WrittenEquation, WrittenRule, WrittenHandler, IsEquation, IsRule, IsHandler, carried_layer, carried_vars, signature_written}
use Rattle.check_typing.specs.declared.signatures.Signature.{Signature}
use Rattle.check_typing.specs.declared.signatures.Signatures.{Signatures}
use Rattle.check_typing.proofs.Maybe.{some-same}
use Rattle.check_rules.specs.Declared.{FunctionDecl, function_of}
use Rattle.check_rules.specs.CheckRules.{IsFine}
use Rattle.check_rules.specs.OfTokens.{IsOfTokens}
use Rattle.check_rules.specs.CoreOf.{IsCoreOf}
use Rattle.check_rules.proofs.Stands.{from_right, declared, function_is}
use Rattle.check_rules.proofs.OrderedPlaces.{front}
use Rattle.check_rules.proofs.CoreTyped.{ports_are, box_declared}
use Rattle.check_rules.proofs.TypesWritten.{both}
use Rattle.check_rules.proofs.PortsWritten.{box_ports, counts}
use Rattle.check_rules.proofs.DataWritten.{EachWritten, all_types, contains_at, fields_are_types}
use Rattle.check_rules.proofs.SmallParts.{fits, last, signature_parts, signature_types, small_exceptions, function_declared}
use Rattle.check_rules.proofs.SmallNodes.{HasWrittenResults}
use Rattle.check_rules.proofs.PatternsWritten.{IsTy, AreTys, HasTypes, patterns_written, positions_written}
use Rattle.check_rules.proofs.FormsWritten.{HaveTypes, carried_ty}
use Rattle.check_rules.proofs.ExpressionsWritten.{expression_written}
use Rattle.check_rules.proofs.ResultsWritten.{result_written}

each_alike : (ps : List PatC) → list_all (λ b. b) (map is_written_pattern ps) ≡ true → list_all is_written_pattern ps ≡ true
each_alike ps h = sym (by ps) ∙ h
  where
    by : (ps : List PatC) → list_all (λ b. b) (map is_written_pattern ps) ≡ list_all is_written_pattern ps
    by [] = refl
    by (p ∷ ps) = ap (λ b. is_written_pattern p && b) (by ps)

module _ (s : Signatures) (have : HaveTypes s) (numbers : Counts) where
  equation_written : (signature : Signature) → AreTys s signature.params → IsTy s signature.gives
      → (count : ℕ) (equation : WrittenEquation) (c : CoredEquation)
      → IsEquation s signature equation c → EquationFits MAX_DEPTH equation → equation_miscounts numbers count equation ≡ false
      → is_written_equation s.types (erased_equation c.0) ≡ true
  equation_written signature are gives count equation c h proper off =
      let flags = or_parts (not (length equation.1 == count)) (list_any (pattern_miscounts numbers) equation.1 || miscounts numbers equation.2) off in
      let body = or_parts (list_any (pattern_miscounts numbers) equation.1) (miscounts numbers equation.2) flags.1 in
      let bound = patterns_written s have.fields equation.1 signature.params (h.vars, h.pats) are h.binds in
      ap (λ (c : CoredEquation). is_written_equation s.types (erased_equation c.0)) h.is
      ∙ both _ _ (each_alike _ bound.pats) ((expression_written s have numbers equation.2 MAX_DEPTH 1 proper.1 body.1).checked h.vars signature.gives h.body bound.vars gives h.typed)

  equations_written : (signature : Signature) → AreTys s signature.params → IsTy s signature.gives
      → (count : ℕ) (equations : List WrittenEquation) (cs : List CoredEquation)
      → InPlaces (IsEquation s signature) equations cs → Each (EquationFits MAX_DEPTH) equations
      → list_any (equation_miscounts numbers count) equations ≡ false
      → list_all (is_written_equation s.types) (map erased_equation (cores_alone cs)) ≡ true
  equations_written signature are gives count [] [] h proper off = refl
  equations_written signature are gives count [] (c ∷ cs) h proper off = absurd h
  equations_written signature are gives count (x ∷ xs) [] h proper off = absurd h
  equations_written signature are gives count (x ∷ xs) (c ∷ cs) h proper off =
      let flags = or_parts (equation_miscounts numbers count x) (list_any (equation_miscounts numbers count) xs) off in
      both _ _ (equation_written signature are gives count x c h.0 proper.0 flags.0) (equations_written signature are gives count xs cs h.1 proper.1 flags.1)

  rule_written : (ins outs : List Ty) → AreTys s ins → AreTys s outs → (m n : ℕ) (rule : WrittenRule) (c : CoredRule)
      → IsRule s ins outs rule c → RuleFits MAX_DEPTH rule → rule_miscounts numbers m n rule ≡ false → is_written_rule s.types (erased_rule c.0) ≡ true
  rule_written ins outs ins_are outs_are m n rule c h proper off =
      let flags = or_parts (not (length rule.0 == m)) (list_any (pattern_miscounts numbers) rule.0 || result_miscounts numbers n rule.1) off in
      let result = or_parts (list_any (pattern_miscounts numbers) rule.0) (result_miscounts numbers n rule.1) flags.1 in
      let inner = or_parts (miscounts numbers rule.1) _ result.1 in
      let bound = positions_written s have.fields rule.0 ins (h.vars, h.pats) ins_are h.binds in
      ap (λ (c : CoredRule). is_written_rule s.types (erased_rule c.0)) h.is
      ∙ both _ _ bound.pats ((result_written s have numbers rule.1 MAX_DEPTH 1 proper.1 inner.0).result h.vars outs h.result bound.vars outs_are h.gives)

  rules_written : (ins outs : List Ty) → AreTys s ins → AreTys s outs → (m n : ℕ) (rules : List WrittenRule) (cs : List CoredRule)
      → InPlaces (IsRule s ins outs) rules cs → Each (RuleFits MAX_DEPTH) rules → list_any (rule_miscounts numbers m n) rules ≡ false
      → list_all (is_written_rule s.types) (map erased_rule (cores_alone cs)) ≡ true
  rules_written ins outs ins_are outs_are m n [] [] h proper off = refl
  rules_written ins outs ins_are outs_are m n [] (c ∷ cs) h proper off = absurd h
  rules_written ins outs ins_are outs_are m n (x ∷ xs) [] h proper off = absurd h
  rules_written ins outs ins_are outs_are m n (x ∷ xs) (c ∷ cs) h proper off =
      let flags = or_parts (rule_miscounts numbers m n x) (list_any (rule_miscounts numbers m n) xs) off in
      both _ _ (rule_written ins outs ins_are outs_are m n x c h.0 proper.0 flags.0) (rules_written ins outs ins_are outs_are m n xs cs h.1 proper.1 flags.1)

  -- a variable of what an exception carries has its type
  layer_typed : (carried : Ty) → IsTy s carried → (layer : Pat-F Pat) (vars : Scope) (bound : Bool)
      → carried_layer carried layer ≡ Some (vars, bound) → HasTypes s vars
  layer_typed carried is (Pat-F.Name name) vars bound h = subst (λ (r : Scope × Bool). HasTypes s r.0) (some-same ((name, carried) ∷ [], true) (vars, bound) h) (is, tt)
  layer_typed carried is Pat-F.Any vars bound h = subst (λ (r : Scope × Bool). HasTypes s r.0) (some-same ([], false) (vars, bound) h) tt
  layer_typed carried is _ vars bound h = cc

  vars_typed : (carries : Option Ty) → ((t : Ty) → carries ≡ Some t → IsTy s t) → (pat : Option Pat) (vars : Scope) (bound : Bool)
      → carried_vars carries pat ≡ Some (vars, bound) → HasTypes s vars
  vars_typed None is None vars bound h = subst (λ (r : Scope × Bool). HasTypes s r.0) (some-same ([], false) (vars, bound) h) tt
  vars_typed None is (Some pat) vars bound h = cc
  vars_typed (Some carried) is None vars bound h = cc
  vars_typed (Some carried) is (Some pat) vars bound h = layer_typed carried (is carried refl) (out-Pat pat) vars bound h

  handler_written : (outs : List Ty) → AreTys s outs → (n : ℕ) (handler : WrittenHandler) (c : CoredHandler)
      → IsHandler s outs handler c → HandlerFits MAX_DEPTH handler → handler_miscounts numbers n handler ≡ false
      → is_written_result s.types (erased_result c.0.result) ≡ true
  handler_written outs outs_are n handler c h proper off =
      let flags = or_parts (is_other numbers.exceptions handler.0 (bound_values handler.1)) (result_miscounts numbers n handler.2) off in
      let inner = or_parts (miscounts numbers handler.2) _ flags.1 in
      let vars = vars_typed h.exn.carries (λ t e. carried_ty s have handler.0 h.number h.exn t h.known e) handler.1 h.vars h.bound h.binds in
      ap (λ (c : CoredHandler). is_written_result s.types (erased_result c.0.result)) h.is
      ∙ (result_written s have numbers handler.2 MAX_DEPTH 1 proper.1 inner.0).result h.vars outs h.result vars outs_are h.gives

  handlers_written : (outs : List Ty) → AreTys s outs → (n : ℕ) (handlers : List WrittenHandler) (cs : List CoredHandler)
      → InPlaces (IsHandler s outs) handlers cs → Each (HandlerFits MAX_DEPTH) handlers → list_any (handler_miscounts numbers n) handlers ≡ false
      → list_all (λ (handler : HandC). is_written_result s.types handler.result) (map erased_handler (cores_alone cs)) ≡ true
  handlers_written outs outs_are n [] [] h proper off = refl
  handlers_written outs outs_are n [] (c ∷ cs) h proper off = absurd h
  handlers_written outs outs_are n (x ∷ xs) [] h proper off = absurd h
  handlers_written outs outs_are n (x ∷ xs) (c ∷ cs) h proper off =
      let flags = or_parts (handler_miscounts numbers n x) (list_any (handler_miscounts numbers n) xs) off in
      both _ _ (handler_written outs outs_are n x c h.0 proper.0 flags.0) (handlers_written outs outs_are n xs cs h.1 proper.1 flags.1)

ports_types : (s : Signatures) (ports : List PortC) → ((i : ℕ) (port : PortC) → slice_get ports i ≡ Some port → IsWrittenType s.types port.ty)
    → AreTys s (port_types ports)
ports_types s [] all = refl
ports_types s (port ∷ ports) all = both _ _ (all 0 port refl).parts (ports_types s ports (λ i port e. all (suc i) port e))

module _ (text : List ℕ) (program : Program) (core : Core) (fine : IsFine program.decls) (fit : IsFit program) (tokens : IsOfTokens program) (p : IsCoreOf text program core) where
  abbrev types : Types
  types = p.signatures.types

  carried_is : (n : ℕ) (exn : ExnDef) → slice_get p.signatures.exns n ≡ Some exn → (t : Ty) → exn.carries ≡ Some t → IsTy p.signatures t
  carried_is n exn there t e =
      let at : slice_get core.exns n ≡ Some exn = ap (λ (exns : List ExnDef). slice_get exns n) p.exns ∙ there in
      let small = All-contains (IsSmallException core.types) core.exns exn (small_exceptions text program core fine fit tokens p) (contains_at core.exns n exn at) in
      subst (λ t'. is_type t' t ≡ true) p.types (small.carries t e).parts

  signature_is : (n : ℕ) (f : Signature) → slice_get p.signatures.funs n ≡ Some f → EachWritten types (f.params ++ f.gives ∷ [])
  signature_is n f there =
      let c = from_right (λ (f : FunctionDecl) (s : Signature). signature_written types f.name f.types ≡ Some s) _ _ p.are.funs.each n f there in
      let d = declared function_of p.are.funs.order program.decls n c.0 c.1 in
      let at : slice_get program.decls d.0 ≡ Some (d.1.0, Fun c.0.name c.0.types c.0.equations) =
      d.2 ∙ ap (λ decl. Some (d.1.0, decl)) (function_is d.1 c.0 d.3) in
      let parts = signature_parts types c.0.name c.0.types f c.2 in
      subst (EachWritten types) parts.is (signature_types text program core fine fit tokens p d.0 d.1.0 c.0.name c.0.types c.0.equations at parts.all parts.are)

  have : HaveTypes p.signatures
  have = record {
    fields = fields_are_types text program core fine fit p;
    carried = carried_is;
    params = λ n f there. all_types types f.params (λ i t e. signature_is n f there i t (front f.params (f.gives ∷ []) i t e));
    gives = λ n f there. (signature_is n f there (length f.params) f.gives (last f.params f.gives)).parts;
  }

  pub function_written : (k : ℕ) (function : FunC) → slice_get core.funs k ≡ Some function
      → list_all (is_written_equation types) function.equations ≡ true
  function_written k function there =
      let d = function_declared text program core fine fit tokens p k function there in
      let f = d.f in
      let decl = Fun f.name f.types f.equations in
      let typed = d.is.typed in
      let parts = signature_parts types f.name f.types typed.signature typed.is_written in
      let whole : EachWritten types (typed.signature.params ++ typed.signature.gives ∷ []) =
      subst (EachWritten types) parts.is (signature_types text program core fine fit tokens p d.number d.place f.name f.types f.equations d.there parts.all parts.are) in
      let params = all_types types typed.signature.params (λ i t e. whole i t (front typed.signature.params (typed.signature.gives ∷ []) i t e)) in
      let gives = (whole (length typed.signature.params) typed.signature.gives (last typed.signature.params typed.signature.gives)).parts in
      let proper = fits text program core fine fit tokens p d.number (d.place, decl) d.there in
      let off = or_parts (some_type_miscounts f.types) (list_any (equation_miscounts (counted program.decls) (parameters f.types)) f.equations) (counts text program core fine fit p d.number (d.place, decl) d.there) in
      ap (list_all (is_written_equation types)) d.is.equations
      ∙ equations_written p.signatures have (counted program.decls) typed.signature params gives (parameters f.types) f.equations d.is.cores typed.have proper.2.1 off.1

  pub results_written : (n : ℕ) (b : BoxC) → slice_get core.nodes n ≡ Some (Rules b) → HasWrittenResults text program core fine fit tokens p b
  results_written n b there =
      let c = box_declared text program core fine p n b there in
      let box = c.2 in
      let decl = BoxD box.name box.ins box.outs box.is_fair box.rules box.handlers in
      let at : slice_get program.decls c.0.number ≡ Some (c.0.place, decl) = c.1 ∙ ap (λ d. Some (c.0.place, d)) box.decl in
      let proper = fits text program core fine fit tokens p c.0.number (c.0.place, decl) at in
      let numbers = counted program.decls in
      let first = or_parts (places_miscount box.ins || places_miscount box.outs)
      (list_any (rule_miscounts numbers (length box.ins) (length box.outs)) box.rules || list_any (handler_miscounts numbers (length box.outs)) box.handlers)
      (counts text program core fine fit p c.0.number (c.0.place, decl) at) in
      let flags = or_parts (list_any (rule_miscounts numbers (length box.ins) (length box.outs)) box.rules) (list_any (handler_miscounts numbers (length box.outs)) box.handlers) first.1 in
      let ports = box_ports text program core fine fit p n b there in
      let typed = box.is.typed in
      let ins : AreTys p.signatures typed.ins =
      subst (AreTys p.signatures) (some-same _ _ (sym (ports_are types box.ins b.ins box.is.ins) ∙ typed.inputs_are)) (ports_types p.signatures b.ins ports.ins) in
      let outs : AreTys p.signatures typed.outs =
      subst (AreTys p.signatures) (some-same _ _ (sym (ports_are types box.outs b.outs box.is.outs) ∙ typed.outputs_are)) (ports_types p.signatures b.outs ports.outs) in
      record {
        rules = ap (list_all (is_written_rule types)) box.is.rules_are
            ∙ rules_written p.signatures have numbers typed.ins typed.outs ins outs (length box.ins) (length box.outs) box.rules box.is.rule_cores typed.rules_have proper.2.1 flags.0;
        handlers = ap (list_all (λ (handler : HandC). is_written_result types handler.result)) box.is.handlers_are
            ∙ handlers_written p.signatures have numbers typed.outs outs (length box.outs) box.handlers box.is.handler_cores typed.handlers_have proper.3 flags.1;
      }
