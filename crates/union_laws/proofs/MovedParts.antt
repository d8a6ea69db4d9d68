-- The boxes, wires, functions, exceptions and data types of a program are in a larger one, moved up, as they should be.
use Rattle.std.proofs.Common.{◌≡◌, ℕ, ◌+◌, ◌*◌, ◌<◌, ◌≤◌, ◌&&◌, nat_lt, Bool, true, false, if◌then◌else◌, All, List, [], ◌∷◌, length, map, Option, Some, None, slice_get, refl, ap, sym, ◌∙◌, subst, arith}
use Rattle.std.specs.Option.{option_map}
use Rattle.std.proofs.lemmas.Bool.{eq-eqb, eqb-true, lt-ltb}
use Rattle.std.proofs.lemmas.List.{length-map}
use Rattle.std.proofs.lemmas.List.Elements.{All-map, All-weaker}
use Rattle.std.proofs.lemmas.Option.{slice_get-map, slice_get_within}
use Rattle.hume_base.specs.declared.limits.TheConstants.{MAX_TYPE_WORDS}
use Rattle.hume_base.specs.declared.types.Ty.{Ty, fold-roll-Ty}
use Rattle.hume_base.specs.declared.types.Ty.TheOpen.{Ty-F}
use Rattle.hume_base.specs.declared.types.Ty.TheVariants as shape
use Rattle.hume_base.specs.declared.types.ConDef.{ConDef}
use Rattle.hume_base.specs.declared.types.SumDef.{SumDef}
use Rattle.hume_base.specs.declared.types.Value.{Value}
use Rattle.hume_base.specs.Holding.{HoldSmaller, holds_below, holds_step}
use Rattle.hume_base.specs.Sizes.{size_of}
use Rattle.hume_model.specs.declared.core_tree.InPat.{InPat}
use Rattle.hume_model.specs.declared.core_tree.InPat.TheVariants.{Built}
use Rattle.hume_model.specs.declared.core_tree.Res.{Res}
use Rattle.hume_model.specs.declared.core_tree.PortC.{PortC}
use Rattle.hume_model.specs.declared.core_tree.HandC.{HandC}
use Rattle.hume_model.specs.declared.core_tree.RuleC.{RuleC}
use Rattle.hume_model.specs.declared.core_tree.BoxC.{BoxC}
use Rattle.hume_model.specs.declared.core_tree.NodeC.{NodeC}
use Rattle.hume_model.specs.declared.core_tree.NodeC.TheVariants.{Rules, From, To}
use Rattle.hume_model.specs.declared.core_tree.WireC.{WireC}
use Rattle.hume_model.specs.declared.core_tree.ExnDef.{ExnDef}
use Rattle.hume_model.specs.declared.core_tree.FunC.{FunC}
use Rattle.hume_model.specs.declared.core_tree.Core.{Core}
use Rattle.hume_model.specs.BoxTyping.{BoxHasFrame, BoxIsTyped, HandlerIsKnown, HandlerIsTyped, PositionsAreTyped, PositionsHave, RuleIsTyped, carried_types, handler_types, port_types}
use Rattle.hume_model.specs.ResultTyping.{GivesOutputs}
use Rattle.hume_model.specs.Limits.{IsSmallBoxPort, IsSmallConstructor, IsSmallData, IsSmallException, IsSmallFunction, IsSmallNode, is_stream_there, wire_words}
use Rattle.hume_model.specs.TypeLimits.{IsWrittenType, is_type}
use Rattle.hume_model.specs.WireEnds.{HasEnds, input_type, is_stream, output_type, type_of_ends}
use Rattle.hume_model.specs.Wiring.{inputs_of, outputs_of}
use Rattle.union_laws.specs.declared.moves.Moves.{Moves}
use Rattle.union_laws.specs.Moving.{moved_box, moved_con, moved_data, moved_equation, moved_exception, moved_exn, moved_function, moved_handler, moved_node, moved_port, moved_rule, moved_type, moved_wire}
use Rattle.union_laws.proofs.MovedFiring.{exn_same}
use Rattle.union_laws.proofs.MovedForms as form
use Rattle.union_laws.proofs.MovedTyping.{TreesStandIn, map_both, pattern_moved, results_moved}
use Rattle.union_laws.proofs.MovedValues.{is_type_moved, size_same, type_written, value_same}
use Rattle.union_laws.proofs.MovedWritten.{equations_written, handlers_written, rules_written}
use Rattle.union_laws.proofs.TypeFolds.{type_holds}
use Rattle.union_laws.proofs.Unions.{was_mapped}

module _ (moves : Moves) where
  abbrev new : Ty → Ty
  new = moved_type moves

  pub ports_moved : (ports : List PortC) → port_types (map (moved_port moves) ports) ≡ map new (port_types ports)
  ports_moved [] = refl
  ports_moved (port ∷ ports) = ap (λ tys. new port.ty ∷ tys) (ports_moved ports)

  handler_types_moved : (handler : HandC) (exn : ExnDef) → map new (handler_types handler exn) ≡ handler_types (moved_handler moves handler) (moved_exception moves exn)
  handler_types_moved handler exn = by handler.bound exn.carries
    where
      by : (b : Bool) (o : Option Ty) → map new (if b then carried_types o else []) ≡ (if b then carried_types (option_map new o) else [])
      by true None = refl
      by true (Some ty) = refl
      by false o = refl

  still_none : (o : Option Ty) → option_map new o ≡ None → o ≡ None
  still_none None is = refl
  still_none (Some ty) is = cc

  pub outputs_moved : (node : NodeC) → outputs_of (moved_node moves node) ≡ outputs_of node
  outputs_moved (Rules b) = length-map b.outs (moved_port moves)
  outputs_moved (From stream) = refl
  outputs_moved (To stream) = refl

  pub inputs_moved : (node : NodeC) → inputs_of (moved_node moves node) ≡ inputs_of node
  inputs_moved (Rules b) = length-map b.ins (moved_port moves)
  inputs_moved (From stream) = refl
  inputs_moved (To stream) = refl

  port_at : (ports : List PortC) (place : ℕ) → option_map (λ (port : PortC). port.ty) (slice_get (map (moved_port moves) ports) place)
      ≡ option_map new (option_map (λ (port : PortC). port.ty) (slice_get ports place))
  port_at ports place = ap (option_map (λ (port : PortC). port.ty)) (slice_get-map (moved_port moves) ports place) ∙ by (slice_get ports place)
    where
      by : (o : Option PortC) → option_map (λ (port : PortC). port.ty) (option_map (moved_port moves) o) ≡ option_map new (option_map (λ (port : PortC). port.ty) o)
      by None = refl
      by (Some port) = refl

  pub output_type_moved : (node : NodeC) (place : ℕ) → output_type (moved_node moves node) place ≡ option_map new (output_type node place)
  output_type_moved (Rules b) place = port_at b.outs place
  output_type_moved (From stream) place = refl
  output_type_moved (To stream) place = refl

  pub input_type_moved : (node : NodeC) (place : ℕ) → input_type (moved_node moves node) place ≡ option_map new (input_type node place)
  input_type_moved (Rules b) place = port_at b.ins place
  input_type_moved (From stream) place = refl
  input_type_moved (To stream) place = refl

  ends_moved : (a b : Option Ty) → new (type_of_ends a b) ≡ type_of_ends (option_map new a) (option_map new b)
  ends_moved (Some ty) b = refl
  ends_moved None (Some ty) = refl
  ends_moved None None = form.type_bool moves

  pub kind_moved : (node : NodeC) → is_stream (moved_node moves node) ≡ is_stream node
  kind_moved (Rules b) = refl
  kind_moved (From stream) = refl
  kind_moved (To stream) = refl

module _ (moves : Moves) (small large : Core) (stands : TreesStandIn moves small large) (holds : HoldSmaller small.types) where
  abbrev up : Ty → Ty
  up = moved_type moves

  positions_moved : {tys vars : List Ty} {pats : List InPat} → PositionsHave small.types tys pats vars → PositionsHave large.types (map up tys) pats (map up vars)
  positions_moved PositionsHave.none = PositionsHave.none
  positions_moved (PositionsHave.star rest) = PositionsHave.star (positions_moved rest)
  positions_moved (PositionsHave.any_star rest) = PositionsHave.any_star (positions_moved rest)
  positions_moved (PositionsHave.any rest) = PositionsHave.any (positions_moved rest)
  positions_moved (PositionsHave.built {ty = ty} {tys = tys} {vars = vars} {more = more} {p = p} {pats = pats} pattern rest) =
      subst (PositionsHave large.types (up ty ∷ map up tys) (Built p ∷ pats)) (map_both up vars more)
      (PositionsHave.built (pattern_moved moves small.types large.types stands.types holds pattern) (positions_moved rest))

  abbrev rule_positions : (b : BoxC) (rule : RuleC) → PositionsAreTyped small.types b rule → PositionsAreTyped large.types (moved_box moves b) (moved_rule moves rule)
  rule_positions b rule typed = record {
    vars = map up typed.vars;
    have = subst (λ tys. PositionsHave large.types tys rule.pats (map up typed.vars)) (sym (ports_moved moves b.ins)) (positions_moved typed.have);
  }

  abbrev known_moved : (handler : HandC) → HandlerIsKnown small handler → HandlerIsKnown large (moved_handler moves handler)
  known_moved handler is = record {
    exn = moved_exception moves is.exn;
    known = stands.exns handler.exn is.exn is.known;
    carries = λ bound none. is.carries bound (still_none moves is.exn.carries none);
  }

  pub frame_moved : (b : BoxC) → BoxHasFrame small b → BoxHasFrame large (moved_box moves b)
  frame_moved b frame = record {
    positions = λ number rule found.
        let was = was_mapped (moved_rule moves) b.rules number rule found in
        subst (PositionsAreTyped large.types (moved_box moves b)) was.2 (rule_positions b was.0 (frame.positions number was.0 was.1));
    handlers = λ number handler found.
        let was = was_mapped (moved_handler moves) b.handlers number handler found in
        subst (HandlerIsKnown large) was.2 (known_moved was.0 (frame.handlers number was.0 was.1));
    apart = λ first second handler other at_first at_second same.
        let one = was_mapped (moved_handler moves) b.handlers first handler at_first in
        let two = was_mapped (moved_handler moves) b.handlers second other at_second in
        let equal : moved_exn moves one.0.exn ≡ moved_exn moves two.0.exn = ap (λ (h : HandC). h.exn) one.2 ∙ same ∙ sym (ap (λ (h : HandC). h.exn) two.2) in
        frame.apart first second one.0 two.0 one.1 two.1
        (eqb-true one.0.exn two.0.exn (sym (exn_same moves one.0.exn two.0.exn) ∙ eq-eqb (moved_exn moves one.0.exn) (moved_exn moves two.0.exn) equal));
  }

  outputs_as : (b : BoxC) {vars : List Ty} {r : Res} → GivesOutputs large (map up (port_types b.outs)) vars r → GivesOutputs large (port_types (map (moved_port moves) b.outs)) vars r
  outputs_as b {vars} {r} gives = subst (λ tys. GivesOutputs large tys vars r) (sym (ports_moved moves b.outs)) gives

  rule_moved : (b : BoxC) (rule : RuleC) → RuleIsTyped small b rule → RuleIsTyped large (moved_box moves b) (moved_rule moves rule)
  rule_moved b rule typed = record {
    positions = rule_positions b rule typed.positions;
    outputs = outputs_as b (results_moved moves small large stands holds (port_types b.outs) typed.outputs);
  }

  handler_moved : (b : BoxC) (handler : HandC) → HandlerIsTyped small b handler → HandlerIsTyped large (moved_box moves b) (moved_handler moves handler)
  handler_moved b handler typed = record {
    is = known_moved handler typed.is;
    outputs = subst (λ vars. GivesOutputs large (port_types (map (moved_port moves) b.outs)) vars (moved_handler moves handler).result)
        (handler_types_moved moves handler typed.is.exn) (outputs_as b (results_moved moves small large stands holds (port_types b.outs) typed.outputs));
  }

  pub box_moved : (b : BoxC) → BoxIsTyped small b → BoxIsTyped large (moved_box moves b)
  box_moved b typed = record {
    rules = λ number rule found.
        let was = was_mapped (moved_rule moves) b.rules number rule found in
        subst (RuleIsTyped large (moved_box moves b)) was.2 (rule_moved b was.0 (typed.rules number was.0 was.1));
    handlers = λ number handler found.
        let was = was_mapped (moved_handler moves) b.handlers number handler found in
        subst (HandlerIsTyped large (moved_box moves b)) was.2 (handler_moved b was.0 (typed.handlers number was.0 was.1));
  }

  -- wires

  module _ (nodes : (n : ℕ) (node : NodeC) → slice_get small.nodes n ≡ Some node → slice_get large.nodes (moves.nodes + n) ≡ Some (moved_node moves node)) where
    pub ends_of_moved : (wire : WireC) → HasEnds small wire → HasEnds large (moved_wire moves wire)
    ends_of_moved wire ends = record {
      producer = moved_node moves ends.producer;
      consumer = moved_node moves ends.consumer;
      from = nodes wire.from ends.producer ends.from;
      from_port = subst (λ n. wire.from_port < n) (sym (outputs_moved moves ends.producer)) ends.from_port;
      to = nodes wire.to ends.consumer ends.to;
      to_port = subst (λ n. wire.to_port < n) (sym (inputs_moved moves ends.consumer)) ends.to_port;
      ty = ap up ends.ty ∙ ends_moved moves (output_type ends.producer wire.from_port) (input_type ends.consumer wire.to_port)
          ∙ sym (λ i. type_of_ends (output_type_moved moves ends.producer wire.from_port i) (input_type_moved moves ends.consumer wire.to_port i));
      some_depth = ends.some_depth;
      depth = ends.depth;
      initial = λ v is. ap (λ (test : Value → Bool). test v)
          (value_same moves small.types large.types stands.types holds wire.ty (type_holds small.types wire.ty ends.written.parts)) ∙ ends.initial v is;
      no_initial = λ first second. ends.no_initial (sym (kind_moved moves ends.producer) ∙ first) (sym (kind_moved moves ends.consumer) ∙ second);
      written = type_written moves small.types large.types stands.types holds wire.ty ends.written;
    }

    kind_there : (n : ℕ) (node : NodeC) → slice_get small.nodes n ≡ Some node → is_stream_there (slice_get large.nodes (moves.nodes + n)) ≡ is_stream_there (slice_get small.nodes n)
    kind_there n node at = ap is_stream_there (nodes n node at) ∙ kind_moved moves node ∙ ap is_stream_there (sym at)

    pub words_moved : (wire : WireC) → HasEnds small wire → wire_words large (moved_wire moves wire) ≡ wire_words small wire
    words_moved wire ends = λ i.
        if kind_there wire.from ends.producer ends.from i && kind_there wire.to ends.consumer ends.to i then 0
        else size_same moves small.types large.types stands.types holds wire.ty (type_holds small.types wire.ty ends.written.parts) i * wire.depth

  -- limits

  abbrev written : (ty : Ty) → IsWrittenType small.types ty → IsWrittenType large.types (up ty)
  written = type_written moves small.types large.types stands.types holds

  all_types : (tys : List Ty) → All (IsWrittenType small.types) tys → All (IsWrittenType large.types) (map up tys)
  all_types tys all =
      All-map (IsWrittenType large.types) up tys (All-weaker (IsWrittenType small.types) (λ ty. IsWrittenType large.types (up ty)) written tys all)

  small_port : (port : PortC) → IsSmallBoxPort small.types port → IsSmallBoxPort large.types (moved_port moves port)
  small_port port is = record { name = is.name; ty = written port.ty is.ty }

  all_ports : (ports : List PortC) → All (IsSmallBoxPort small.types) ports → All (IsSmallBoxPort large.types) (map (moved_port moves) ports)
  all_ports ports all =
      All-map (IsSmallBoxPort large.types) (moved_port moves) ports
      (All-weaker (IsSmallBoxPort small.types) (λ port. IsSmallBoxPort large.types (moved_port moves port)) small_port ports all)

  abbrev are_types : (ty : Ty) → is_type small.types ty ≡ true → is_type large.types (up ty) ≡ true
  are_types = is_type_moved moves small.types large.types stands.types holds

  pub small_node : (node : NodeC) → IsSmallNode small.types node → IsSmallNode large.types (moved_node moves node)
  small_node (Rules b) is =
      let ins = length-map b.ins (moved_port moves) in
      let outs = length-map b.outs (moved_port moves) in
      let rules = length-map b.rules (moved_rule moves) in
      let some_inputs = is.some_inputs in
      let inputs = is.inputs in
      let some_outputs = is.some_outputs in
      let outputs = is.outputs in
      let some_rules = is.some_rules in
      let few_rules = is.rules in
      record {
        name = is.name;
        some_inputs = omega (arith, ins, some_inputs);
        inputs = omega (arith, ins, inputs);
        each_input = all_ports b.ins is.each_input;
        some_outputs = omega (arith, outs, some_outputs);
        outputs = omega (arith, outs, outputs);
        each_output = all_ports b.outs is.each_output;
        some_rules = omega (arith, rules, some_rules);
        rules = omega (arith, rules, few_rules);
        each_rule = rules_written moves small.types large.types are_types b.rules is.each_rule;
        each_handler = handlers_written moves small.types large.types are_types b.handlers is.each_handler;
      }
  small_node (From stream) is = is
  small_node (To stream) is = is

  pub small_function : (function : FunC) → IsSmallFunction small.types function → IsSmallFunction large.types (moved_function moves function)
  small_function function is =
      let params = length-map function.params (moved_type moves) in
      let equations = length-map function.equations (moved_equation moves) in
      let some_params = is.some_params in
      let few_params = is.params in
      let some_equations = is.equations in
      record {
        name = is.name;
        some_params = omega (arith, params, some_params);
        params = omega (arith, params, few_params);
        each_param = all_types function.params is.each_param;
        gives = written function.gives is.gives;
        equations = omega (arith, equations, some_equations);
        each_equation = equations_written moves small.types large.types are_types function.equations is.each_equation;
      }

  carried : (o : Option Ty) → ((ty : Ty) → o ≡ Some ty → IsWrittenType small.types ty) → (ty : Ty) → option_map up o ≡ Some ty → IsWrittenType large.types ty
  carried None each ty is = cc
  carried (Some old) each ty is = (let same : up old ≡ ty = cc in subst (IsWrittenType large.types) same (written old (each old refl)))

  pub small_exception : (exn : ExnDef) → IsSmallException small.types exn → IsSmallException large.types (moved_exception moves exn)
  small_exception exn is = record { name = is.name; carries = carried exn.carries is.carries }

  small_con : (con : ConDef) → IsSmallConstructor small.types con → IsSmallConstructor large.types (moved_con moves con)
  small_con con is =
      let many = length-map con.fields (moved_type moves) in
      let few = is.fields in
      record { name = is.name; fields = omega (arith, many, few); each_field = all_types con.fields is.each_field }

  named_held : (number : ℕ) → nat_lt number (length small.types.sums) ≡ true → holds_below (length small.types.sums) (shape.Named number) ≡ true
  named_held number less =
      ap (holds_below (length small.types.sums)) (sym (shape.rolls-Named number)) ∙ fold-roll-Ty Bool (holds_step (length small.types.sums)) (Ty-F.Named number) ∙ less

  pub small_data : (number : ℕ) (sum : SumDef) → slice_get small.types.sums number ≡ Some sum → IsSmallData small number sum
      → IsSmallData large (moves.types + number) (moved_data moves sum)
  small_data number sum found is =
      let many = length-map sum.cons (moved_con moves) in
      let some = is.some_constructors in
      let few = is.constructors in
      let same : size_of large.types (shape.Named (moves.types + number)) ≡ size_of small.types (shape.Named number) =
      ap (size_of large.types) (sym (form.type_named moves number))
      ∙ size_same moves small.types large.types stands.types holds (shape.Named number)
      (named_held number (lt-ltb number (length small.types.sums) (slice_get_within small.types.sums number sum found))) in
      record {
        name = is.name;
        some_constructors = omega (arith, many, some);
        constructors = omega (arith, many, few);
        each_constructor = All-map (IsSmallConstructor large.types) (moved_con moves) sum.cons
            (All-weaker (IsSmallConstructor small.types) (λ con. IsSmallConstructor large.types (moved_con moves con)) small_con sum.cons is.each_constructor);
        words = subst (λ n. n ≤ MAX_TYPE_WORDS) (sym same) is.words;
      }
