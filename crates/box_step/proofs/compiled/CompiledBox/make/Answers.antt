use Rattle.std.proofs.Common.{map, ap, ◌∙◌, arith}
use Rattle.std.specs.List.{range_with_len}
use Rattle.std.proofs.Math.Facts.{Fits-of_lt}
use Rattle.box_heap.specs.Outputs.{absent}
use Rattle.hume_base.specs.Sizes.{size_of, written_size}
use Rattle.hume_model.specs.BoxTyping.{port_types}
use Rattle.box_step.proofs.BareForms.{few_bare_rules, few_rules}
use Rattle.box_step.proofs.Making.{begins}
use Rattle.box_step.proofs.compiled.CompiledBox.make.Goals as goal

pub overflow_cast-len : goal.overflow_cast-len
overflow_cast-len c =
    let few = few_rules c.requires.forms.2.sound in
    let many = few_bare_rules c.requires.forms.2 in
    Fits-of_lt (omega (arith, few, many, c.len.ensures))

pub make-order-requires : goal.make-order-requires
make-order-requires c =
    let few = few_rules c.requires.forms.2.sound in
    let many = few_bare_rules c.requires.forms.2 in
    omega (arith, few, many, c.len.ensures)

pub returns-clause-at : goal.returns-clause-at
returns-clause-at c = λ whole its forms represents.
    begins forms c.args.program represents c.in_ok-heap.heap c.in_ok-heap.ensures c.in_ok-stack.stack c.in_ok-stack.ensures
    c.make-order.result (c.make-order.ensures ∙ ap (range_with_len 0) c.len.ensures) c.in_ok-outputs.outputs
    (c.in_ok-outputs.ensures ∙ ap (map absent) (c.deref.ensures.value ∙ c.in_ok-sizes.ensures
    ∙ ap (λ ports. map (λ ty. written_size (size_of c.args.core.now.types ty)) (port_types ports)) c.as_slice.ensures))
    c.is_plain.result c.is_plain.ensures
