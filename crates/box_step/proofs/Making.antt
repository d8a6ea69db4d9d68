-- A box before its first step.
use Rattle.std.proofs.Common.{◌≡◌, ℕ, Bool, None, All, List, [], ◌∷◌, length, map, refl, ap, ◌∙◌, arith}
use Rattle.std.specs.List.{range_with_len}
use Rattle.std.proofs.lemmas.List.Elements.{All-head, All-tail}
use Rattle.hume_base.specs.declared.types.Types.{Types}
use Rattle.hume_base.specs.Sizes.{size_of, written_size}
use Rattle.hume_model.specs.declared.core_tree.PortC.{PortC}
use Rattle.hume_model.specs.declared.core_tree.BoxC.{BoxC}
use Rattle.hume_model.specs.declared.core_tree.Core.{Core}
use Rattle.hume_model.specs.BoxTyping.{port_types}
use Rattle.hume_model.specs.Limits.{IsSmallBoxPort}
use Rattle.box_heap.specs.Heaps.{HeapView}
use Rattle.box_heap.specs.Stacks.{StackView}
use Rattle.box_heap.specs.Outputs.{OutputView, absent}
use Rattle.box_code.specs.declared.program.BoxProgram.{BoxProgram}
use Rattle.box_code.specs.RepresentsBox.{RepresentsBox}
use Rattle.box_step.specs.Boxes.{AreBareForms, IsBoxAt, first_part}
use Rattle.box_step.specs.inner.Buffers.{sizes_in}
use Rattle.match_rules.specs.Plain.{plain_box}
use Rattle.box_step.proofs.BareForms.{bare_plain, few_bare_rules, small_box}

-- outputs of the written sizes have the sizes of the types
sizes_as_written : (types : Types) (ports : List PortC) → All (IsSmallBoxPort types) ports
    → sizes_in (map absent (map (λ ty. written_size (size_of types ty)) (port_types ports))) ≡ map (size_of types) (port_types ports)
sizes_as_written types [] small = refl
sizes_as_written types (port ∷ ports) small =
    let words = (All-head (IsSmallBoxPort types) port ports small).ty.words in
    let first : written_size (size_of types port.ty) ≡ size_of types port.ty = omega (arith, words) in
    λ i. first i ∷ sizes_as_written types ports (All-tail (IsSmallBoxPort types) port ports small) i

module _ {core : Core} {b : BoxC} {bare : Core} {bare_b : BoxC} (forms : AreBareForms core b bare bare_b)
    (program : BoxProgram) (represents : RepresentsBox core b program) where
  pub begins : (heap : HeapView) → heap ≡ record { words = []; peak = 0; room = program.heap }
      → (stack : StackView) → stack ≡ record { words = []; peak = 0; room = program.stack }
      → (order : List ℕ) → order ≡ range_with_len 0 (length bare_b.rules)
      → (outputs : List OutputView) → outputs ≡ map absent (map (λ ty. written_size (size_of bare.types ty)) (port_types bare_b.outs))
      → (plain : Bool) → plain ≡ plain_box bare_b
      → IsBoxAt core b (first_part b)
      (record { program = program; order = order; heap = heap; stack = stack; sizes = sizes_in outputs; pending = None; work = 0; plain = plain })
  begins heap heap_is stack stack_is order order_is outputs outputs_are plain plain_is =
      let room = ap (λ (s : StackView). s.room) stack_is in
      let peak = ap (λ (s : StackView). s.peak) stack_is in
      record {
        represents = represents;
        room = record {
          heap_room = ap (λ (h : HeapView). h.room) heap_is;
          stack_room = room;
          within = omega (arith, room, peak);
        };
        order = order_is ∙ ap (range_with_len 0) (few_bare_rules forms);
        sizes = ap sizes_in (outputs_are ∙ λ i. map absent (map (λ ty. written_size (size_of (forms.core_is i).types ty)) (port_types (forms.box_is i).outs)))
            ∙ sizes_as_written core.types b.outs (small_box forms.sound).each_output;
        pending = refl;
        plain = plain_is ∙ bare_plain forms;
      }
