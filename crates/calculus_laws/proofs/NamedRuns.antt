-- An output that becomes a function keeps every run.
use Rattle.std.proofs.Common.{◌≡◌, ℕ, true, List, [], ◌∷◌, map, length, Option, Some, None, slice_get, slice_set, refl, ap, sym, ◌∙◌}
use Rattle.std.specs.List.{range_with_len}
use Rattle.std.specs.Option.{option_and_then, option_map}
use Rattle.hume_base.specs.declared.types.Value.{Value}
use Rattle.hume_model.specs.declared.core_tree.Expr.{Expr}
use Rattle.hume_model.specs.declared.core_tree.Expr.TheVariants as expr
use Rattle.hume_model.specs.declared.core_tree.Res.{Res, out-Res, roll-Res, roll-out-Res}
use Rattle.hume_model.specs.declared.core_tree.Res.TheOpen.{Res-F}
use Rattle.hume_model.specs.declared.core_tree.Res.TheVariants as res
use Rattle.hume_model.specs.declared.core_tree.FunC.{FunC}
use Rattle.hume_model.specs.declared.core_tree.PortC.{PortC}
use Rattle.hume_model.specs.declared.core_tree.RuleC.{RuleC}
use Rattle.hume_model.specs.declared.core_tree.BoxC.{BoxC}
use Rattle.hume_model.specs.declared.core_tree.NodeC.TheVariants.{Rules}
use Rattle.hume_model.specs.declared.core_tree.Core.{Core}
use Rattle.hume_model.specs.declared.outcome.Outputs.TheVariants.{Asserts}
use Rattle.hume_model.specs.Matching.{bound, fits}
use Rattle.hume_model.specs.Outcomes.{then_outs}
use Rattle.hume_model.specs.Results.{result_of}
use Rattle.hume_model.specs.BoxTyping.{PositionsAreTyped}
use Rattle.hume_model.specs.WellFormed.{IsWellFormed}
use Rattle.hume_model.proofs.ResultTypes.{result-outs}
use Rattle.calculus_laws.specs.Boxes.{box_at}
use Rattle.calculus_laws.specs.Naming.{OnlyOutput, body_of, calling_box, calling_rule, named_function, named_output, only_output, output_at, variables}
use Rattle.calculus_laws.proofs.Bindings.{rule_count, rule_types}
use Rattle.calculus_laws.proofs.ChangedBox.{box_there, length-set_node, related_at}
use Rattle.calculus_laws.proofs.NamedCalls.{last_called, meaning_same}
use Rattle.calculus_laws.proofs.SameNets.{SameNets, SameNodes}
use Rattle.calculus_laws.proofs.SameRules.{SameRules}
use Rattle.calculus_laws.proofs.TypedNets.{own_node, own_rule, same_rules}

-- what is known of a rule that gives a value to its box's only output
pub record IsOnlyOutput (b : BoxC) (rule : ℕ) (output : OnlyOutput) : Type 0 where
  pub port : PortC
  pub outs : b.outs ≡ port ∷ []
  pub gives : output.gives ≡ port.ty
  pub there : slice_get b.rules rule ≡ Some output.rule
  pub result : output.rule.result ≡ res.Outs (Some output.body ∷ [])

layer_is : (layer : Res-F Res) (body : Expr) → body_of layer ≡ Some body → layer ≡ Res-F.Outs (Some body ∷ [])
layer_is (Res-F.Outs []) body is = cc
layer_is (Res-F.Outs (out ∷ [])) body is = ap (λ o. Res-F.Outs (o ∷ [])) is
layer_is (Res-F.Outs (out ∷ next ∷ outs)) body is = cc
layer_is (Res-F.If test a b) body is = cc
layer_is (Res-F.Case part forms arms) body is = cc
layer_is (Res-F.Let part rest) body is = cc
layer_is (Res-F.Raise exn part) body is = cc

-- a result with that body is that one output
body_is : (result : Res) (body : Expr) → body_of (out-Res result) ≡ Some body → result ≡ res.Outs (Some body ∷ [])
body_is result body is =
    sym (roll-out-Res result) ∙ ap roll-Res (layer_is (out-Res result) body is) ∙ res.rolls-Outs (Some body ∷ [])

output_parts : (ports : List PortC) (rule : RuleC) (output : OnlyOutput) → only_output ports rule ≡ Some output
    → (port : PortC) × (ports ≡ port ∷ []) × (output.gives ≡ port.ty) × (rule ≡ output.rule) × (body_of (out-Res rule.result) ≡ Some output.body)
output_parts [] rule output is = cc
output_parts (port ∷ other ∷ ports) rule output is = cc
output_parts (port ∷ []) rule output is = by (body_of (out-Res rule.result)) refl is
  where
    by : (o : Option Expr) → body_of (out-Res rule.result) ≡ o → option_map (λ body. record { rule = rule; body = body; gives = port.ty }) o ≡ Some output
        → (p : PortC) × (port ∷ [] ≡ p ∷ []) × (output.gives ≡ p.ty) × (rule ≡ output.rule) × (body_of (out-Res rule.result) ≡ Some output.body)
    by None has none = cc
    by (Some body) has some =
        let same : record { rule = rule; body = body; gives = port.ty } ≡ output = cc in
        (port, refl, ap (λ (o : OnlyOutput). o.gives) (sym same), ap (λ (o : OnlyOutput). o.rule) same, has ∙ ap (λ (o : OnlyOutput). Some o.body) same)

pub output_is : (b : BoxC) (rule : ℕ) (output : OnlyOutput) → output_at b rule ≡ Some output → IsOnlyOutput b rule output
output_is b rule output is = by (slice_get b.rules rule) refl is
  where
    by : (o : Option RuleC) → slice_get b.rules rule ≡ o → option_and_then (only_output b.outs) o ≡ Some output → IsOnlyOutput b rule output
    by None at none = cc
    by (Some r) at some =
        let parts = output_parts b.outs r output some in
        record {
          port = parts.0;
          outs = parts.1;
          gives = parts.2;
          there = at ∙ ap Some parts.3;
          result = ap (λ (x : RuleC). x.result) (sym parts.3) ∙ body_is r.result output.body parts.4;
        }

module _ (core : Core) (formed : IsWellFormed core) (n rule : ℕ) (name : List ℕ) (b : BoxC) (there : box_at core n ≡ Some b)
    (output : OnlyOutput) (is : IsOnlyOutput b rule output) where
  abbrev new : Core
  new = named_output core n rule name b (Some output)

  abbrev last : FunC
  last = named_function core.types b name output

  abbrev count : ℕ
  count = length (variables core.types b output.rule)

  abbrev calling : RuleC
  calling = calling_rule (length core.funs) count output.rule

  abbrev other : BoxC
  other = calling_box core.types (length core.funs) rule output b

  at : slice_get core.nodes n ≡ Some (Rules b)
  at = box_there core n b there

  typed : PositionsAreTyped core.types b output.rule
  typed = (formed.frame.boxes n b at).positions rule output.rule is.there

  bound_count : (ins : List (Option Value)) → fits output.rule.pats ins ≡ true → length (bound output.rule.pats ins) ≡ count
  bound_count ins fit = rule_count core.types typed.have ins fit ∙ ap length (sym (rule_types core.types typed.have))

  same_calling : SameRules core new output.rule calling
  same_calling = record {
    pats = refl;
    gives = λ ins fit.
        let env = bound output.rule.pats ins in
        result-outs new env (Some (expr.Call (length core.funs) (map expr.Var (range_with_len 0 count))) ∷ [])
        ∙ ap (λ o. then_outs o (Asserts [])) (last_called core new.nodes last output.body count refl env (bound_count ins fit))
        ∙ sym (result-outs core env (Some output.body ∷ []))
        ∙ ap (result_of core env) (sym is.result);
  }

  -- the core with the new function does what the old one did
  pub named_same : SameNets core new
  named_same =
      let mean = meaning_same core new.nodes last in
      let own = formed.boxes n b at in
      record {
        wires = refl;
        count = length-set_node core.nodes n (Rules other);
        nodes = related_at (SameNodes core new) core.nodes (own_node core new mean formed) n (Rules b) (Rules other) at
            (same_rules core new mean b own (slice_set b.rules rule calling)
            (related_at (SameRules core new) b.rules (own_rule core new mean b own) rule output.rule calling is.there same_calling));
      }
