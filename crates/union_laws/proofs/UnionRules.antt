-- A union breaks no rule of wires that neither of its programs breaks.
use Rattle.std.proofs.Common.{◌≡◌, ◌⊎◌, inl, inr, ℕ, ◌+◌, ◌<◌, ◌==◌, ◌&&◌, Bool, true, length, map, Option, Some, None, slice_get, refl, ap, sym, ◌∙◌, subst, arith}
use Rattle.std.specs.Option.{option_map}
use Rattle.std.proofs.lemmas.Bool.{and_parts, eqb-true}
use Rattle.std.proofs.lemmas.Option.{slice_get_within}
use Rattle.hume_base.specs.declared.finding.Finding.{Finding}
use Rattle.hume_base.specs.declared.rule.Rule.{Rule}
use Rattle.hume_base.specs.declared.rule.Rule.TheVariants.{C50, C51, C52, C53, C54}
use Rattle.hume_base.specs.declared.types.Ty.{Ty}
use Rattle.hume_base.specs.Least.{OfRule}
use Rattle.hume_model.specs.declared.core_tree.NodeC.{NodeC}
use Rattle.hume_model.specs.declared.core_tree.NodeC.TheVariants.{Rules, From, To}
use Rattle.hume_model.specs.declared.core_tree.WireC.{WireC}
use Rattle.hume_model.specs.declared.core_tree.Core.{Core}
use Rattle.hume_model.specs.Declarations.{declaration_of}
use Rattle.hume_model.specs.WireEnds.{HasEnds, input_type, output_type}
use Rattle.hume_model.specs.WireRules.{BreaksWires, ComesAfter, Differ, JoinsOthers, LacksInput, LacksOutput, NoWire, RepeatsInput, RepeatsOutput}
use Rattle.hume_model.specs.Wiring.{comes_from, inputs_of, leads_to, outputs_of}
use Rattle.union_laws.specs.declared.moves.Moves.{Moves}
use Rattle.union_laws.specs.Moving.{moved_node, moved_type, moved_wire}
use Rattle.union_laws.specs.Union.{behind, united}
use Rattle.union_laws.proofs.AloneInUnions.{found_in}
use Rattle.union_laws.proofs.MovedParts.{input_type_moved, inputs_moved, output_type_moved, outputs_moved}
use Rattle.union_laws.proofs.Positions.{get_front}
use Rattle.union_laws.proofs.Unions.{in_back, same_end}

declared_same : (moves : Moves) (node : NodeC) → declaration_of (moved_node moves node) ≡ declaration_of node
declared_same moves (Rules b) = refl
declared_same moves (From stream) = refl
declared_same moves (To stream) = refl

module _ (a b : Core)
    (first : (w : ℕ) (wire : WireC) → slice_get a.wires w ≡ Some wire → HasEnds a wire) (second : (w : ℕ) (wire : WireC) → slice_get b.wires w ≡ Some wire → HasEnds b wire) where
  abbrev whole : Core
  whole = united a b

  abbrev higher : Moves
  higher = behind a

  leads_same : (n input : ℕ) (wire : WireC) → leads_to (length a.nodes + n) input (moved_wire higher wire) ≡ leads_to n input wire
  leads_same n input wire = ap (λ t. t && (wire.to_port == input)) (same_end (length a.nodes) wire.to n)

  comes_same : (n output : ℕ) (wire : WireC) → comes_from (length a.nodes + n) output (moved_wire higher wire) ≡ comes_from n output wire
  comes_same n output wire = ap (λ t. t && (wire.from_port == output)) (same_end (length a.nodes) wire.from n)

  no_front : (test : WireC → Bool) → NoWire test whole.wires → NoWire test a.wires
  no_front test none w wire found passes = none w wire (get_front a.wires (map (moved_wire higher) b.wires) w wire found) passes

  no_back : (test other : WireC → Bool) → ((wire : WireC) → test (moved_wire higher wire) ≡ other wire) → NoWire test whole.wires → NoWire other b.wires
  no_back test other same none w wire found passes =
      none (length a.wires + w) (moved_wire higher wire) (in_back (moved_wire higher) a.wires b.wires w wire found) (same wire ∙ passes)

  lacks_input : (declaration : ℕ) → LacksInput whole declaration → LacksInput a declaration ⊎ LacksInput b declaration
  lacks_input declaration lacks = elim (found_in (moved_node higher) a.nodes b.nodes lacks.n lacks.node lacks.there) [
    | inl front ↦ inl (record {
      n = lacks.n;
      node = lacks.node;
      there = front;
      declared = lacks.declared;
      input = lacks.input;
      within = lacks.within;
      none = no_front (leads_to lacks.n lacks.input) lacks.none;
    })
    | inr back ↦ inr (record {
      n = back.place;
      node = back.element;
      there = back.there;
      declared = sym (declared_same higher back.element) ∙ ap declaration_of back.same ∙ lacks.declared;
      input = lacks.input;
      within = subst (λ k. lacks.input < k) (ap inputs_of (sym back.same) ∙ inputs_moved higher back.element) lacks.within;
      none = no_back (leads_to (length a.nodes + back.place) lacks.input) (leads_to back.place lacks.input) (leads_same back.place lacks.input)
          (subst (λ k. NoWire (leads_to k lacks.input) whole.wires) back.at lacks.none);
    })
  ]

  lacks_output : (declaration : ℕ) → LacksOutput whole declaration → LacksOutput a declaration ⊎ LacksOutput b declaration
  lacks_output declaration lacks = elim (found_in (moved_node higher) a.nodes b.nodes lacks.n lacks.node lacks.there) [
    | inl front ↦ inl (record {
      n = lacks.n;
      node = lacks.node;
      there = front;
      declared = lacks.declared;
      output = lacks.output;
      within = lacks.within;
      none = no_front (comes_from lacks.n lacks.output) lacks.none;
    })
    | inr back ↦ inr (record {
      n = back.place;
      node = back.element;
      there = back.there;
      declared = sym (declared_same higher back.element) ∙ ap declaration_of back.same ∙ lacks.declared;
      output = lacks.output;
      within = subst (λ k. lacks.output < k) (ap outputs_of (sym back.same) ∙ outputs_moved higher back.element) lacks.within;
      none = no_back (comes_from (length a.nodes + back.place) lacks.output) (comes_from back.place lacks.output) (comes_same back.place lacks.output)
          (subst (λ k. NoWire (comes_from k lacks.output) whole.wires) back.at lacks.none);
    })
  ]

  -- an earlier wire of the first program, and of the second one

  front_after : (test : WireC → Bool) (w : ℕ) → w < length a.wires → ComesAfter test whole.wires w → ComesAfter test a.wires w
  front_after test w within after = elim (found_in (moved_wire higher) a.wires b.wires after.x after.earlier after.there) [
    | inl front ↦ record { x = after.x; earlier = after.earlier; there = front; before = after.before; passes = after.passes }
    | inr back ↦ (let at = back.at in let before = after.before in absurd (omega (arith, at, before, within)))
  ]

  back_after : (test other : WireC → Bool) → ((wire : WireC) → test (moved_wire higher wire) ≡ other wire) → ((w : ℕ) (wire : WireC) → slice_get a.wires w ≡ Some wire → test wire ≡ true → ⊥)
      → (w : ℕ) → ComesAfter test whole.wires (length a.wires + w) → ComesAfter other b.wires w
  back_after test other same none w after = elim (found_in (moved_wire higher) a.wires b.wires after.x after.earlier after.there) [
    | inl front ↦ absurd (none after.x after.earlier front after.passes)
    | inr back ↦
        (let at = back.at in let before = after.before in
        record {
          x = back.place;
          earlier = back.element;
          there = back.there;
          before = omega (arith, at, before);
          passes = sym (same back.element) ∙ ap test back.same ∙ after.passes;
        })
  ]

  not_to : (n input : ℕ) (w : ℕ) (wire : WireC) → slice_get a.wires w ≡ Some wire → leads_to (length a.nodes + n) input wire ≡ true → ⊥
  not_to n input w wire found passes =
      let at : wire.to ≡ length a.nodes + n = eqb-true wire.to (length a.nodes + n) (and_parts (wire.to == length a.nodes + n) (wire.to_port == input) passes).0 in
      let ends = first w wire found in
      let within = slice_get_within a.nodes wire.to ends.consumer ends.to in
      omega (arith, at, within)

  not_from : (n output : ℕ) (w : ℕ) (wire : WireC) → slice_get a.wires w ≡ Some wire → comes_from (length a.nodes + n) output wire ≡ true → ⊥
  not_from n output w wire found passes =
      let at : wire.from ≡ length a.nodes + n = eqb-true wire.from (length a.nodes + n) (and_parts (wire.from == length a.nodes + n) (wire.from_port == output) passes).0 in
      let ends = first w wire found in
      let within = slice_get_within a.nodes wire.from ends.producer ends.from in
      omega (arith, at, within)

  repeats_input : (declaration : ℕ) → RepeatsInput whole declaration → RepeatsInput a declaration ⊎ RepeatsInput b declaration
  repeats_input declaration repeats = elim (found_in (moved_wire higher) a.wires b.wires repeats.w repeats.wire repeats.there) [
    | inl front ↦ inl (record {
      w = repeats.w;
      wire = repeats.wire;
      there = front;
      declared = repeats.declared;
      after = front_after (leads_to repeats.wire.to repeats.wire.to_port) repeats.w (slice_get_within a.wires repeats.w repeats.wire front) repeats.after;
    })
    | inr back ↦ inr (record {
      w = back.place;
      wire = back.element;
      there = back.there;
      declared = ap (λ (x : WireC). x.declaration) back.same ∙ repeats.declared;
      after = back_after (leads_to (length a.nodes + back.element.to) back.element.to_port) (leads_to back.element.to back.element.to_port)
          (leads_same back.element.to back.element.to_port) (not_to back.element.to back.element.to_port) back.place
          (subst (λ k. ComesAfter (leads_to (length a.nodes + back.element.to) back.element.to_port) whole.wires k) back.at
          (subst (λ (x : WireC). ComesAfter (leads_to x.to x.to_port) whole.wires repeats.w) (sym back.same) repeats.after));
    })
  ]

  repeats_output : (declaration : ℕ) → RepeatsOutput whole declaration → RepeatsOutput a declaration ⊎ RepeatsOutput b declaration
  repeats_output declaration repeats = elim (found_in (moved_wire higher) a.wires b.wires repeats.w repeats.wire repeats.there) [
    | inl front ↦ inl (record {
      w = repeats.w;
      wire = repeats.wire;
      there = front;
      declared = repeats.declared;
      after = front_after (comes_from repeats.wire.from repeats.wire.from_port) repeats.w (slice_get_within a.wires repeats.w repeats.wire front) repeats.after;
    })
    | inr back ↦ inr (record {
      w = back.place;
      wire = back.element;
      there = back.there;
      declared = ap (λ (x : WireC). x.declaration) back.same ∙ repeats.declared;
      after = back_after (comes_from (length a.nodes + back.element.from) back.element.from_port) (comes_from back.element.from back.element.from_port)
          (comes_same back.element.from back.element.from_port) (not_from back.element.from back.element.from_port) back.place
          (subst (λ k. ComesAfter (comes_from (length a.nodes + back.element.from) back.element.from_port) whole.wires k) back.at
          (subst (λ (x : WireC). ComesAfter (comes_from x.from x.from_port) whole.wires repeats.w) (sym back.same) repeats.after));
    })
  ]

  differ_back : (x y : Option Ty) → Differ (option_map (moved_type higher) x) (option_map (moved_type higher) y) → Differ x y
  differ_back None None differ = tt
  differ_back None (Some y) differ = absurd differ
  differ_back (Some x) None differ = absurd differ
  differ_back (Some x) (Some y) differ = λ same. differ (ap (moved_type higher) same)

  one_node : (x y : NodeC) (o : Option NodeC) → o ≡ Some x → o ≡ Some y → x ≡ y
  one_node x y o p q = cc

  joins_others : (declaration : ℕ) → JoinsOthers whole declaration → JoinsOthers a declaration ⊎ JoinsOthers b declaration
  joins_others declaration joins = elim (found_in (moved_wire higher) a.wires b.wires joins.w joins.wire joins.there) [
    | inl front ↦
        (let ends = first joins.w joins.wire front in
        let from = one_node joins.producer ends.producer _ joins.from (get_front a.nodes (map (moved_node higher) b.nodes) joins.wire.from ends.producer ends.from) in
        let to = one_node joins.consumer ends.consumer _ joins.to (get_front a.nodes (map (moved_node higher) b.nodes) joins.wire.to ends.consumer ends.to) in
        inl (record {
          w = joins.w;
          wire = joins.wire;
          there = front;
          declared = joins.declared;
          producer = joins.producer;
          from = ends.from ∙ ap Some (sym from);
          consumer = joins.consumer;
          to = ends.to ∙ ap Some (sym to);
          differ = joins.differ;
        }))
    | inr back ↦
        (let ends = second back.place back.element back.there in
        let from = one_node joins.producer (moved_node higher ends.producer) (slice_get whole.nodes joins.wire.from) joins.from
        (ap (λ (x : WireC). slice_get whole.nodes x.from) (sym back.same) ∙ in_back (moved_node higher) a.nodes b.nodes back.element.from ends.producer ends.from) in
        let to = one_node joins.consumer (moved_node higher ends.consumer) (slice_get whole.nodes joins.wire.to) joins.to
        (ap (λ (x : WireC). slice_get whole.nodes x.to) (sym back.same) ∙ in_back (moved_node higher) a.nodes b.nodes back.element.to ends.consumer ends.to) in
        let out = (λ i. output_type (from i) (sym back.same i).from_port) ∙ output_type_moved higher ends.producer back.element.from_port in
        let into = (λ i. input_type (to i) (sym back.same i).to_port) ∙ input_type_moved higher ends.consumer back.element.to_port in
        inr (record {
          w = back.place;
          wire = back.element;
          there = back.there;
          declared = ap (λ (x : WireC). x.declaration) back.same ∙ joins.declared;
          producer = ends.producer;
          from = ends.from;
          consumer = ends.consumer;
          to = ends.to;
          differ = differ_back (output_type ends.producer back.element.from_port) (input_type ends.consumer back.element.to_port)
              (subst (λ y. Differ (option_map (moved_type higher) (output_type ends.producer back.element.from_port)) y) into
              (subst (λ x. Differ x (input_type joins.consumer joins.wire.to_port)) out joins.differ));
        }))
  ]

  of_both : (rule : Rule) (P Q R : ℕ → Type 0) → ((declaration : ℕ) → P declaration → Q declaration ⊎ R declaration) → (finding : Finding)
      → OfRule rule P finding → OfRule rule Q finding ⊎ OfRule rule R finding
  of_both rule P Q R split finding is = elim (split finding.declaration is.1) [
    | inl q ↦ inl (is.0, q)
    | inr r ↦ inr (is.0, r)
  ]

  -- what a union breaks, one of its programs breaks
  pub union_breaks : (finding : Finding) → BreaksWires whole finding → BreaksWires a finding ⊎ BreaksWires b finding
  union_breaks finding (inl is) = elim (of_both C50 (LacksInput whole) (LacksInput a) (LacksInput b) lacks_input finding is) [
    | inl q ↦ inl (inl q)
    | inr r ↦ inr (inl r)
  ]
  union_breaks finding (inr (inl is)) = elim (of_both C51 (RepeatsInput whole) (RepeatsInput a) (RepeatsInput b) repeats_input finding is) [
    | inl q ↦ inl (inr (inl q))
    | inr r ↦ inr (inr (inl r))
  ]
  union_breaks finding (inr (inr (inl is))) = elim (of_both C52 (LacksOutput whole) (LacksOutput a) (LacksOutput b) lacks_output finding is) [
    | inl q ↦ inl (inr (inr (inl q)))
    | inr r ↦ inr (inr (inr (inl r)))
  ]
  union_breaks finding (inr (inr (inr (inl is)))) = elim (of_both C53 (RepeatsOutput whole) (RepeatsOutput a) (RepeatsOutput b) repeats_output finding is) [
    | inl q ↦ inl (inr (inr (inr (inl q))))
    | inr r ↦ inr (inr (inr (inr (inl r))))
  ]
  union_breaks finding (inr (inr (inr (inr is)))) = elim (of_both C54 (JoinsOthers whole) (JoinsOthers a) (JoinsOthers b) joins_others finding is) [
    | inl q ↦ inl (inr (inr (inr (inr q))))
    | inr r ↦ inr (inr (inr (inr (inr r))))
  ]
