-- Boxes and streams of a core are within their limits, if their rules and handlers are.
use Rattle.std.proofs.Common.{◌≡◌, ℕ, ◌≤◌, List, length, Some, slice_get, ap, sym, subst, ◌∙◌, ◌||◌, true, false, All}
use Rattle.std.specs.List.{list_all}
use Rattle.std.proofs.lemmas.Bool.{or_parts}
use Rattle.std.proofs.lemmas.List.{length-map}
use Rattle.hume_base.specs.declared.limits.TheConstants.{MAX_INPUTS, MAX_OUTPUTS, MAX_RULES}
use Rattle.hume_base.specs.declared.types.Types.{Types}
use Rattle.hume_ast.specs.declared.tree.TyExp.{TyExp}
use Rattle.hume_ast.specs.declared.tree.Decl.{Decl}
use Rattle.hume_ast.specs.declared.tree.Decl.TheVariants.{BoxD, Stream}
use Rattle.hume_ast.specs.declared.tree.Program.{Program}
use Rattle.hume_ast.specs.Fits.{IsFit}
use Rattle.check_counts.specs.Miscounts.{has_many}
use Rattle.hume_model.specs.declared.core_tree.RuleC.{RuleC}
use Rattle.hume_model.specs.declared.core_tree.HandC.{HandC}
use Rattle.hume_model.specs.declared.core_tree.BoxC.{BoxC}
use Rattle.hume_model.specs.declared.core_tree.NodeC.{NodeC}
use Rattle.hume_model.specs.declared.core_tree.NodeC.TheVariants.{Rules}
use Rattle.hume_model.specs.declared.core_tree.Core.{Core}
use Rattle.hume_model.specs.PartLimits.{is_written_rule, is_written_result}
use Rattle.hume_model.specs.Limits.{IsName, IsSmallBoxPort, IsSmallBox, IsSmallNode}
use Rattle.typed_core.specs.Erasing.{erased_rule}
use Rattle.check_typing.specs.Declarations.{CoredRule, cores_alone, IsRule}
use Rattle.check_rules.specs.Declared.{Numbered, nodes_in}
use Rattle.check_rules.specs.CheckRules.{IsFine}
use Rattle.check_rules.specs.OfTokens.{IsOfTokens, HasNames}
use Rattle.check_rules.specs.CoreOf.{IsPort, IsNodeOf, IsCoreOf}
use Rattle.check_rules.proofs.Stands.{from_right, node_stands}
use Rattle.check_rules.proofs.CoreTyped.{box_declared}
use Rattle.check_rules.proofs.CountsWithin.{same_long}
use Rattle.check_rules.proofs.PortsWritten.{each_at, box_ports}
use Rattle.check_rules.proofs.SmallParts.{every, few, named, fits, few_parts}

module _ (text : List ℕ) (program : Program) (core : Core) (fine : IsFine program.decls) (fit : IsFit program) (tokens : IsOfTokens program) (p : IsCoreOf text program core) where
  abbrev types : Types
  types = p.signatures.types

  -- parts of rules and handlers of a box are as a source may write them
  pub record HasWrittenResults (b : BoxC) : Type 0 where
    pub rules : list_all (is_written_rule types) b.rules ≡ true
    pub handlers : list_all (λ (handler : HandC). is_written_result types handler.result) b.handlers ≡ true

  small_box : (n : ℕ) (b : BoxC) → slice_get core.nodes n ≡ Some (Rules b) → HasWrittenResults b → IsSmallBox types b
  small_box n b there results =
      let c = box_declared text program core fine p n b there in
      let box = c.2 in
      let decl = BoxD box.name box.ins box.outs box.is_fair box.rules box.handlers in
      let at : slice_get program.decls c.0.number ≡ Some (c.0.place, decl) = c.1 ∙ ap (λ d. Some (c.0.place, d)) box.decl in
      let names = named text program core fine fit tokens p c.0.number (c.0.place, decl) at in
      let proper = fits text program core fine fit tokens p c.0.number (c.0.place, decl) at in
      let ports = box_ports text program core fine fit p n b there in
      let first = or_parts (has_many MAX_INPUTS box.ins) (has_many MAX_OUTPUTS box.outs || has_many MAX_RULES box.rules) (few_parts text program core fine fit tokens p c.0.number (c.0.place, decl) at) in
      let flags = or_parts (has_many MAX_OUTPUTS box.outs) (has_many MAX_RULES box.rules) first.1 in
      let ins = same_long (IsPort types) box.ins b.ins box.is.ins in
      let outs = same_long (IsPort types) box.outs b.outs box.is.outs in
      let cores : length box.rules ≡ length box.is.rule_cores =
      same_long (IsRule p.signatures box.is.typed.ins box.is.typed.outs) box.rules box.is.rule_cores box.is.typed.rules_have in
      let rules : length box.rules ≡ length b.rules =
      cores ∙ sym (ap (λ (rules : List RuleC). length rules) box.is.rules_are ∙ length-map (cores_alone box.is.rule_cores) erased_rule
      ∙ length-map box.is.rule_cores (λ (c : CoredRule). c.0)) in
      record {
        name = subst IsName (sym box.is.name) names.0;
        some_inputs = subst (λ n. 1 ≤ n) ins proper.0.0;
        inputs = subst (λ n. n ≤ MAX_INPUTS) ins (few MAX_INPUTS box.ins first.0);
        each_input = every (IsSmallBoxPort types) b.ins (λ i port e.
            let w = from_right (IsPort types) box.ins b.ins box.is.ins i port e in
            record { name = subst IsName (sym w.2.name) (each_at (λ (place : List ℕ × TyExp). IsName place.0) box.ins names.1 i w.0 w.1); ty = ports.ins i port e });
        some_outputs = subst (λ n. 1 ≤ n) outs proper.1.0;
        outputs = subst (λ n. n ≤ MAX_OUTPUTS) outs (few MAX_OUTPUTS box.outs flags.0);
        each_output = every (IsSmallBoxPort types) b.outs (λ i port e.
            let w = from_right (IsPort types) box.outs b.outs box.is.outs i port e in
            record { name = subst IsName (sym w.2.name) (each_at (λ (place : List ℕ × TyExp). IsName place.0) box.outs names.2 i w.0 w.1); ty = ports.outs i port e });
        some_rules = subst (λ n. 1 ≤ n) rules proper.2.0;
        rules = subst (λ n. n ≤ MAX_RULES) rules (few MAX_RULES box.rules flags.1);
        each_rule = results.rules;
        each_handler = results.handlers;
      }

  node_small : (d : Numbered) (decl : Decl) (node : NodeC) → HasNames decl → IsNodeOf text p.signatures d decl node
      → ((b : BoxC) → node ≡ Rules b → IsSmallBox types b) → IsSmallNode types node
  node_small d (BoxD name ins outs fair rules handlers) node names h box = subst (IsSmallNode types) (sym h.1) (box h.0 h.1)
  node_small d (Stream name true port) node names h box = subst (IsSmallNode types) (sym h) (record { name = names.0; port = names.1 })
  node_small d (Stream name false port) node names h box = subst (IsSmallNode types) (sym h) (record { name = names.0; port = names.1 })
  node_small d _ node names h box = absurd h

  pub small_nodes : ((n : ℕ) (b : BoxC) → slice_get core.nodes n ≡ Some (Rules b) → HasWrittenResults b) → All (IsSmallNode core.types) core.nodes
  small_nodes results =
      subst (λ t. All (IsSmallNode t) core.nodes) (sym p.types) (every (IsSmallNode types) core.nodes (λ n node there.
      let c = from_right (λ (d : Numbered) node. IsNodeOf text p.signatures d d.decl node) (nodes_in program.decls) core.nodes p.nodes n node there in
      let names = named text program core fine fit tokens p c.0.number (c.0.place, c.0.decl) (node_stands program.decls n c.0 c.1) in
      node_small c.0 c.0.decl node names c.2 (λ b is.
      let at : slice_get core.nodes n ≡ Some (Rules b) = there ∙ ap Some is in small_box n b at (results n b at))))
