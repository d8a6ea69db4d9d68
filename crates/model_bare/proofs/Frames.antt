-- The bare form of a core whose frame is sound.
use Rattle.std.proofs.Common.{◌≡◌, ◌<◌, ◌≤◌, ℕ, ◌*◌, ◌&&◌, Bool, true, if◌then◌else◌, List, [], ◌∷◌, length, map, sum, Option, Some, None, slice_get, refl, ap, sym, ◌∙◌, subst, arith}
use Rattle.std.specs.Option.{option_map}
use Rattle.std.specs.List.{list_all}
use Rattle.std.proofs.lemmas.Bool.{and_parts}
use Rattle.std.proofs.lemmas.Option.{slice_get-map}
use Rattle.std.proofs.lemmas.List.{length-map}
use Rattle.std.proofs.lemmas.List.Elements.{All-nil, All-map, All-weaker}
use Rattle.hume_base.specs.declared.limits.TheConstants.{MAX_WIRE_WORDS}
use Rattle.hume_base.specs.declared.types.Types.{Types}
use Rattle.hume_base.specs.Sizes.{size_of}
use Rattle.hume_model.specs.declared.core_tree.Res.{fold-roll-Res}
use Rattle.hume_model.specs.declared.core_tree.Res.TheOpen.{Res-F}
use Rattle.hume_model.specs.declared.core_tree.Res.TheVariants as res
use Rattle.hume_model.specs.declared.core_tree.RuleC.{RuleC}
use Rattle.hume_model.specs.declared.core_tree.HandC.{HandC}
use Rattle.hume_model.specs.declared.core_tree.BoxC.{BoxC}
use Rattle.hume_model.specs.declared.core_tree.NodeC.{NodeC}
use Rattle.hume_model.specs.declared.core_tree.NodeC.TheVariants.{Rules, From, To}
use Rattle.hume_model.specs.declared.core_tree.WireC.{WireC}
use Rattle.hume_model.specs.declared.core_tree.Core.{Core}
use Rattle.hume_model.specs.BoxTyping.{BoxHasFrame, PositionsAreTyped, HandlerIsKnown}
use Rattle.hume_model.specs.Limits.{IsWithinLimits, IsSmallFunction, IsSmallNode, is_stream_there, wire_words}
use Rattle.hume_model.specs.PartLimits.{is_written_rule, is_written_result, result_step}
use Rattle.hume_model.specs.WellFormed.{HasSoundFrame}
use Rattle.hume_model.specs.WireEnds.{HasEnds, is_stream, output_type, input_type, type_of_ends}
use Rattle.hume_model.specs.Wiring.{inputs_of, outputs_of}
use Rattle.model_bare.specs.Bare.{bare_rule, bare_handler, bare_box, bare_node, bare_of}

-- what is mapped and found was there before
pub was_there : {X Y : Type 0} (f : X → Y) (xs : List X) (i : ℕ) (y : Y) → slice_get (map f xs) i ≡ Some y → (x : X) × (slice_get xs i ≡ Some x) × (f x ≡ y)
was_there f xs i y found = by (slice_get xs i) refl
  where
    by : (o : Option _) → slice_get xs i ≡ o → (x : _) × (slice_get xs i ≡ Some x) × (f x ≡ y)
    by None at = absurd (let both : None ≡ Some y = ap (option_map f) (sym at) ∙ sym (slice_get-map f xs i) ∙ found in cc)
    by (Some x) at = (x, at, (let both : Some (f x) ≡ Some y = ap (option_map f) (sym at) ∙ sym (slice_get-map f xs i) ∙ found in cc))

pub there : {X Y : Type 0} (f : X → Y) (xs : List X) (i : ℕ) (x : X) → slice_get xs i ≡ Some x → slice_get (map f xs) i ≡ Some (f x)
there f xs i x at = slice_get-map f xs i ∙ ap (option_map f) at

bare_box_frame : (core : Core) (b : BoxC) → BoxHasFrame core b → BoxHasFrame (bare_of core) (bare_box b)
bare_box_frame core b frame = record {
  positions = λ number rule found.
      let before = was_there bare_rule b.rules number rule found in
      let typed : PositionsAreTyped core.types b before.0 = frame.positions number before.0 before.1 in
      subst (PositionsAreTyped core.types (bare_box b)) before.2 (record { vars = typed.vars; have = typed.have });
  handlers = λ number handler found.
      let before = was_there bare_handler b.handlers number handler found in
      let known : HandlerIsKnown core before.0 = frame.handlers number before.0 before.1 in
      subst (HandlerIsKnown (bare_of core)) before.2 (record { exn = known.exn; known = known.known; carries = known.carries });
  apart = λ first second handler other at_first at_second same.
      let one = was_there bare_handler b.handlers first handler at_first in
      let two = was_there bare_handler b.handlers second other at_second in
      frame.apart first second one.0 two.0 one.1 two.1 (ap (λ (h : HandC). h.exn) one.2 ∙ same ∙ sym (ap (λ (h : HandC). h.exn) two.2));
}

pub same_outputs : (node : NodeC) → outputs_of (bare_node node) ≡ outputs_of node
same_outputs (Rules b) = refl
same_outputs (From stream) = refl
same_outputs (To stream) = refl

pub same_inputs : (node : NodeC) → inputs_of (bare_node node) ≡ inputs_of node
same_inputs (Rules b) = refl
same_inputs (From stream) = refl
same_inputs (To stream) = refl

same_output_type : (node : NodeC) (place : ℕ) → output_type (bare_node node) place ≡ output_type node place
same_output_type (Rules b) place = refl
same_output_type (From stream) place = refl
same_output_type (To stream) place = refl

same_input_type : (node : NodeC) (place : ℕ) → input_type (bare_node node) place ≡ input_type node place
same_input_type (Rules b) place = refl
same_input_type (From stream) place = refl
same_input_type (To stream) place = refl

pub same_kind : (node : NodeC) → is_stream (bare_node node) ≡ is_stream node
same_kind (Rules b) = refl
same_kind (From stream) = refl
same_kind (To stream) = refl

same_kind_there : (core : Core) (n : ℕ) → is_stream_there (slice_get (map bare_node core.nodes) n) ≡ is_stream_there (slice_get core.nodes n)
same_kind_there core n = ap is_stream_there (slice_get-map bare_node core.nodes n) ∙ by (slice_get core.nodes n)
  where
    by : (o : Option NodeC) → is_stream_there (option_map bare_node o) ≡ is_stream_there o
    by None = refl
    by (Some node) = same_kind node

bare_ends : (core : Core) (wire : WireC) → HasEnds core wire → HasEnds (bare_of core) wire
bare_ends core wire ends = record {
  producer = bare_node ends.producer;
  consumer = bare_node ends.consumer;
  from = there bare_node core.nodes wire.from ends.producer ends.from;
  from_port = subst (λ n. wire.from_port < n) (sym (same_outputs ends.producer)) ends.from_port;
  to = there bare_node core.nodes wire.to ends.consumer ends.to;
  to_port = subst (λ n. wire.to_port < n) (sym (same_inputs ends.consumer)) ends.to_port;
  ty = ends.ty ∙ sym (λ i. type_of_ends (same_output_type ends.producer wire.from_port i) (same_input_type ends.consumer wire.to_port i));
  some_depth = ends.some_depth;
  depth = ends.depth;
  initial = ends.initial;
  no_initial = λ first second. ends.no_initial (sym (same_kind ends.producer) ∙ first) (sym (same_kind ends.consumer) ∙ second);
  written = ends.written;
}

-- no outputs are as a source may write them
nothing_written : (types : Types) → is_written_result types (res.Outs []) ≡ true
nothing_written types = ap (is_written_result types) (sym (res.rolls-Outs [])) ∙ fold-roll-Res Bool (result_step types) (Res-F.Outs [])

written_rules : (types : Types) (rules : List RuleC) → list_all (is_written_rule types) rules ≡ true
    → list_all (is_written_rule types) (map bare_rule rules) ≡ true
written_rules types [] all = refl
written_rules types (rule ∷ rules) all =
    let both = and_parts (is_written_rule types rule) _ all in
    let own = and_parts _ (is_written_result types rule.result) both.0 in
    let rest = list_all (is_written_rule types) (map bare_rule rules) in
    ap (λ t. (t && is_written_result types (res.Outs [])) && rest) own.0 ∙ ap (λ t. t && rest) (nothing_written types) ∙ written_rules types rules both.1

written_handlers : (types : Types) (handlers : List HandC)
    → list_all (λ (handler : HandC). is_written_result types handler.result) (map bare_handler handlers) ≡ true
written_handlers types [] = refl
written_handlers types (handler ∷ handlers) =
    ap (λ t. t && list_all (λ (h : HandC). is_written_result types h.result) (map bare_handler handlers)) (nothing_written types)
    ∙ written_handlers types handlers

bare_small : (types : Types) (node : NodeC) → IsSmallNode types node → IsSmallNode types (bare_node node)
bare_small types (Rules b) small =
    let many : length (map bare_rule b.rules) ≡ length b.rules = length-map b.rules bare_rule in
    let some = small.some_rules in
    let few = small.rules in
    record {
      name = small.name;
      some_inputs = small.some_inputs;
      inputs = small.inputs;
      each_input = small.each_input;
      some_outputs = small.some_outputs;
      outputs = small.outputs;
      each_output = small.each_output;
      some_rules = omega (arith, some, many);
      rules = omega (arith, few, many);
      each_rule = written_rules types b.rules small.each_rule;
      each_handler = written_handlers types b.handlers;
    }
bare_small types (From stream) small = small
bare_small types (To stream) small = small

same_words : (core : Core) (wire : WireC) → wire_words (bare_of core) wire ≡ wire_words core wire
same_words core wire = λ i.
    if same_kind_there core wire.from i && same_kind_there core wire.to i then 0 else size_of core.types wire.ty * wire.depth

same_words_of_all : (core : Core) (wires : List WireC) → map (wire_words (bare_of core)) wires ≡ map (wire_words core) wires
same_words_of_all core [] = refl
same_words_of_all core (wire ∷ wires) = λ i. same_words core wire i ∷ same_words_of_all core wires i

bare_limits : (core : Core) → IsWithinLimits core → IsWithinLimits (bare_of core)
bare_limits core limits =
    let many : length (map bare_node core.nodes) ≡ length core.nodes = length-map core.nodes bare_node in
    let nodes = limits.nodes in
    record {
      functions = omega arith;
      exceptions = limits.exceptions;
      nodes = omega (arith, nodes, many);
      wires = limits.wires;
      words = subst (λ n. n ≤ MAX_WIRE_WORDS) (sym (ap sum (same_words_of_all core core.wires))) limits.words;
      each_data_type = λ n sum_type found.
          let small = limits.each_data_type n sum_type found in
          record {
            name = small.name;
            some_constructors = small.some_constructors;
            constructors = small.constructors;
            each_constructor = small.each_constructor;
            words = small.words;
          };
      each_exception = limits.each_exception;
      each_function = All-nil (IsSmallFunction core.types);
      each_node = All-map (IsSmallNode core.types) bare_node core.nodes
          (All-weaker (IsSmallNode core.types) (λ node. IsSmallNode core.types (bare_node node)) (bare_small core.types) core.nodes limits.each_node);
    }

pub bare_frame : (core : Core) → HasSoundFrame core → HasSoundFrame (bare_of core)
bare_frame core frame = record {
  holds = frame.holds;
  sizes = frame.sizes;
  exceptions = frame.exceptions;
  boxes = λ n b found. by n b (was_there bare_node core.nodes n (Rules b) found);
  wires = λ w wire found. bare_ends core wire (frame.wires w wire found);
  limits = bare_limits core frame.limits;
}
  where
    by : (n : ℕ) (b : BoxC) → (node : NodeC) × (slice_get core.nodes n ≡ Some node) × (bare_node node ≡ Rules b) → BoxHasFrame (bare_of core) b
    by n b (Rules whole, at, same) =
        let is : bare_box whole ≡ b = cc in
        subst (BoxHasFrame (bare_of core)) is (bare_box_frame core whole (frame.boxes n whole at))
    by n b (From stream, at, same) = cc
    by n b (To stream, at, same) = cc
