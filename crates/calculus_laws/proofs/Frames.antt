-- A core in which nodes have the same ports as before, and which may have more functions.
use Rattle.std.proofs.Common.{◌≡◌, inl, inr, ℕ, ◌<◌, ◌≤◌, ◌*◌, ◌&&◌, if◌then◌else◌, All, List, [], ◌∷◌, length, map, sum, Option, Some, None, slice_get, refl, ap, sym, ◌∙◌, subst, arith}
use Rattle.hume_base.specs.declared.finding.Finding.{Finding}
use Rattle.hume_base.specs.declared.limits.TheConstants.{MAX_FUNCTIONS, MAX_WIRE_WORDS}
use Rattle.hume_base.specs.Sizes.{size_of}
use Rattle.hume_model.specs.declared.core_tree.BoxC.{BoxC}
use Rattle.hume_model.specs.declared.core_tree.FunC.{FunC}
use Rattle.hume_model.specs.declared.core_tree.NodeC.{NodeC}
use Rattle.hume_model.specs.declared.core_tree.NodeC.TheVariants.{Rules}
use Rattle.hume_model.specs.declared.core_tree.WireC.{WireC}
use Rattle.hume_model.specs.declared.core_tree.Core.{Core}
use Rattle.hume_model.specs.BoxTyping.{BoxHasFrame, BoxIsTyped}
use Rattle.hume_model.specs.Calls.{CallsGoDown}
use Rattle.hume_model.specs.Limits.{IsWithinLimits, IsSmallNode, IsSmallFunction, is_stream_there, wire_words}
use Rattle.hume_model.specs.Typing.{FunctionsAreTyped}
use Rattle.hume_model.specs.WellFormed.{IsWellFormed}
use Rattle.hume_model.specs.WireEnds.{HasEnds, is_stream, output_type, input_type, type_of_ends}
use Rattle.hume_model.specs.WireRules.{BreaksWires, LacksInput, LacksOutput, RepeatsInput, RepeatsOutput, JoinsOthers, Differ}
use Rattle.hume_model.specs.Wiring.{inputs_of, outputs_of}
use Rattle.hume_model.specs.Declarations.{declaration_of}
use Rattle.calculus_laws.proofs.ChangedBox.{BothAt}

-- the two nodes have the same ports and stand at the same place of the source
pub record SamePorts (node other : NodeC) : Type 0 where
  pub inputs : inputs_of other ≡ inputs_of node
  pub outputs : outputs_of other ≡ outputs_of node
  pub input : (place : ℕ) → input_type other place ≡ input_type node place
  pub output : (place : ℕ) → output_type other place ≡ output_type node place
  pub stream : is_stream other ≡ is_stream node
  pub declaration : declaration_of other ≡ declaration_of node

pub same_ports : (node : NodeC) → SamePorts node node
same_ports node = record { inputs = refl; outputs = refl; input = λ place. refl; output = λ place. refl; stream = refl; declaration = refl }

module _ (core : Core) (funs : List FunC) (nodes : List NodeC) (count : length nodes ≡ length core.nodes)
    (ports : (n : ℕ) → BothAt SamePorts (slice_get core.nodes n) (slice_get nodes n)) where
  abbrev new : Core
  new = record core { funs = funs; nodes = nodes }

  node_kept_at : (o p : Option NodeC) → BothAt SamePorts o p → (node : NodeC) → o ≡ Some node → (other : NodeC) × (p ≡ Some other) × SamePorts node other
  node_kept_at None p both node is = cc
  node_kept_at (Some x) None both node is = absurd both
  node_kept_at (Some x) (Some y) both node is = (let same : x ≡ node = cc in (y, refl, subst (λ z. SamePorts z y) same both))

  node_kept : (n : ℕ) (node : NodeC) → slice_get core.nodes n ≡ Some node → (other : NodeC) × (slice_get nodes n ≡ Some other) × SamePorts node other
  node_kept n node is = node_kept_at (slice_get core.nodes n) (slice_get nodes n) (ports n) node is

  node_was_at : (o p : Option NodeC) → BothAt SamePorts o p → (other : NodeC) → p ≡ Some other → (node : NodeC) × (o ≡ Some node) × SamePorts node other
  node_was_at o None both other is = cc
  node_was_at None (Some y) both other is = absurd both
  node_was_at (Some x) (Some y) both other is = (let same : y ≡ other = cc in (x, refl, subst (λ z. SamePorts x z) same both))

  node_was : (n : ℕ) (other : NodeC) → slice_get nodes n ≡ Some other → (node : NodeC) × (slice_get core.nodes n ≡ Some node) × SamePorts node other
  node_was n other is = node_was_at (slice_get core.nodes n) (slice_get nodes n) (ports n) other is

  ends_kept : (wire : WireC) → HasEnds core wire → HasEnds new wire
  ends_kept wire ends =
      let from = node_kept wire.from ends.producer ends.from in
      let to = node_kept wire.to ends.consumer ends.to in
      record {
        producer = from.0;
        consumer = to.0;
        from = from.1;
        from_port = subst (λ n. wire.from_port < n) (sym from.2.outputs) ends.from_port;
        to = to.1;
        to_port = subst (λ n. wire.to_port < n) (sym to.2.inputs) ends.to_port;
        ty = ends.ty ∙ sym (λ i. type_of_ends (from.2.output wire.from_port i) (to.2.input wire.to_port i));
        some_depth = ends.some_depth;
        depth = ends.depth;
        initial = ends.initial;
        no_initial = λ first second. ends.no_initial (sym from.2.stream ∙ first) (sym to.2.stream ∙ second);
        written = ends.written;
      }

  kind_at : (o p : Option NodeC) → BothAt SamePorts o p → is_stream_there p ≡ is_stream_there o
  kind_at None None both = refl
  kind_at None (Some y) both = absurd both
  kind_at (Some x) None both = absurd both
  kind_at (Some x) (Some y) both = both.stream

  same_kind : (n : ℕ) → is_stream_there (slice_get nodes n) ≡ is_stream_there (slice_get core.nodes n)
  same_kind n = kind_at (slice_get core.nodes n) (slice_get nodes n) (ports n)

  same_words : (wires : List WireC) → map (wire_words new) wires ≡ map (wire_words core) wires
  same_words [] = refl
  same_words (wire ∷ wires) = λ i.
      (if same_kind wire.from i && same_kind wire.to i then 0 else size_of core.types wire.ty * wire.depth) ∷ same_words wires i

  limits_kept : IsWithinLimits core → length funs ≤ MAX_FUNCTIONS → All (IsSmallFunction core.types) funs → All (IsSmallNode core.types) nodes
      → IsWithinLimits new
  limits_kept limits few small_functions small_nodes =
      let many = limits.nodes in
      record {
        functions = few;
        exceptions = limits.exceptions;
        nodes = omega (arith, many, count);
        wires = limits.wires;
        words = subst (λ n. n ≤ MAX_WIRE_WORDS) (sym (ap sum (same_words core.wires))) limits.words;
        each_data_type = λ n sum_type found.
            let small = limits.each_data_type n sum_type found in
            record {
              name = small.name;
              some_constructors = small.some_constructors;
              constructors = small.constructors;
              each_constructor = small.each_constructor;
              words = small.words;
            };
        each_exception = limits.each_exception;
        each_function = small_functions;
        each_node = small_nodes;
      }

  -- what is asked of a core, if its functions and boxes have it
  pub formed_kept : IsWellFormed core → length funs ≤ MAX_FUNCTIONS → All (IsSmallFunction core.types) funs → All (IsSmallNode core.types) nodes
      → CallsGoDown new → FunctionsAreTyped new
      → ((n : ℕ) (b : BoxC) → slice_get nodes n ≡ Some (Rules b) → BoxHasFrame new b × BoxIsTyped new b) → IsWellFormed new
  formed_kept formed few small_functions small_nodes calls functions boxes = record {
    frame = record {
      holds = formed.frame.holds;
      sizes = formed.frame.sizes;
      exceptions = formed.frame.exceptions;
      boxes = λ n b at. (boxes n b at).0;
      wires = λ w wire at. ends_kept wire (formed.frame.wires w wire at);
      limits = limits_kept formed.frame.limits few small_functions small_nodes;
    };
    calls = calls;
    functions = functions;
    boxes = λ n b at. (boxes n b at).1;
  }

  -- rules on wires

  input_lacked : (declaration : ℕ) → LacksInput new declaration → LacksInput core declaration
  input_lacked declaration lacks =
      let was = node_was lacks.n lacks.node lacks.there in
      record {
        n = lacks.n;
        node = was.0;
        there = was.1;
        declared = sym was.2.declaration ∙ lacks.declared;
        input = lacks.input;
        within = subst (λ n. lacks.input < n) was.2.inputs lacks.within;
        none = lacks.none;
      }

  output_lacked : (declaration : ℕ) → LacksOutput new declaration → LacksOutput core declaration
  output_lacked declaration lacks =
      let was = node_was lacks.n lacks.node lacks.there in
      record {
        n = lacks.n;
        node = was.0;
        there = was.1;
        declared = sym was.2.declaration ∙ lacks.declared;
        output = lacks.output;
        within = subst (λ n. lacks.output < n) was.2.outputs lacks.within;
        none = lacks.none;
      }

  others_joined : (declaration : ℕ) → JoinsOthers new declaration → JoinsOthers core declaration
  others_joined declaration joins =
      let from = node_was joins.wire.from joins.producer joins.from in
      let to = node_was joins.wire.to joins.consumer joins.to in
      record {
        w = joins.w;
        wire = joins.wire;
        there = joins.there;
        declared = joins.declared;
        producer = from.0;
        from = from.1;
        consumer = to.0;
        to = to.1;
        differ = subst (λ t. Differ t (input_type to.0 joins.wire.to_port)) (from.2.output joins.wire.from_port)
            (subst (λ t. Differ (output_type joins.producer joins.wire.from_port) t) (to.2.input joins.wire.to_port) joins.differ);
      }

  input_repeated : (declaration : ℕ) → RepeatsInput new declaration → RepeatsInput core declaration
  input_repeated declaration again = record { w = again.w; wire = again.wire; there = again.there; declared = again.declared; after = again.after }

  output_repeated : (declaration : ℕ) → RepeatsOutput new declaration → RepeatsOutput core declaration
  output_repeated declaration again = record { w = again.w; wire = again.wire; there = again.there; declared = again.declared; after = again.after }

  -- what the wires of the new core break those of the old one break
  pub wires_kept : (finding : Finding) → BreaksWires new finding → BreaksWires core finding
  wires_kept finding (inl (rule, lacks)) = inl (rule, input_lacked finding.declaration lacks)
  wires_kept finding (inr (inl (rule, again))) = inr (inl (rule, input_repeated finding.declaration again))
  wires_kept finding (inr (inr (inl (rule, lacks)))) = inr (inr (inl (rule, output_lacked finding.declaration lacks)))
  wires_kept finding (inr (inr (inr (inl (rule, again))))) = inr (inr (inr (inl (rule, output_repeated finding.declaration again))))
  wires_kept finding (inr (inr (inr (inr (rule, joins))))) = inr (inr (inr (inr (rule, others_joined finding.declaration joins))))
