use Rattle.std.proofs.Common.{◌≡◌, ◌+◌, ◌*◌, max, drop}
use denote.Param.Weighed.{most}
use Rattle.typed_core.specs.declared.typed_tree.TypedExpr.{size-TypedExpr}
use Rattle.c_expressions.specs.Made.{nothing}
use Rattle.c_expressions.specs.Expressions.{all_arguments, arguments_made, arms_built, parts_built}
use Rattle.c_expressions.specs.inner.Parts.{arms_of, part_in, parts_of, type_at}
use Rattle.c_analysis.specs.Targets.{known, target}
use Rattle.c_expressions.specs.inner.Ways.{ways_before}
use Rattle.c_expressions.proofs.+built.Given as goal

abbrev pub decreases-building::built_object : goal.decreases-building::built_object
decreases-building::built_object l = 32 * size-TypedExpr l.e.now

abbrev pub decreases-building::built_form : goal.decreases-building::built_form
decreases-building::built_form l = 32 * size-TypedExpr l.e.now + 1

abbrev pub decreases-values::built_at : goal.decreases-values::built_at
decreases-values::built_at l = 32 * size-TypedExpr l.e.now + 2

abbrev pub decreases-values::in_variable : goal.decreases-values::in_variable
decreases-values::in_variable l = 32 * size-TypedExpr l.e.now + 3

abbrev pub decreases-values::scalar_value : goal.decreases-values::scalar_value
decreases-values::scalar_value l = 32 * size-TypedExpr l.e.now + 4

abbrev pub decreases-values::value_form : goal.decreases-values::value_form
decreases-values::value_form l = 32 * size-TypedExpr l.e.now + 5

abbrev pub decreases-values::value : goal.decreases-values::value
decreases-values::value l = 32 * size-TypedExpr l.e.now + 6

abbrev pub decreases-building::value_effects : goal.decreases-building::value_effects
decreases-building::value_effects l = 32 * size-TypedExpr l.e.now + 7

abbrev pub decreases-building::effects : goal.decreases-building::effects
decreases-building::effects l = 32 * size-TypedExpr l.e.now + 8

abbrev pub decreases-building::built : goal.decreases-building::built
decreases-building::built l = 32 * size-TypedExpr l.e.now + 9

abbrev pub decreases-values::two_values : goal.decreases-values::two_values
decreases-values::two_values l = 32 * max (size-TypedExpr l.left.now) (size-TypedExpr l.right.now) + 10

abbrev pub decreases-building::sides_built : goal.decreases-building::sides_built
decreases-building::sides_built l = 32 * max (size-TypedExpr l.yes.now) (size-TypedExpr l.no.now) + 10

abbrev pub decreases-building::built_if : goal.decreases-building::built_if
decreases-building::built_if l = 32 * max (size-TypedExpr l.test.now) (max (size-TypedExpr l.yes.now) (size-TypedExpr l.no.now)) + 11

abbrev pub decreases-values::value_choice : goal.decreases-values::value_choice
decreases-values::value_choice l = 32 * max (size-TypedExpr l.test.now) (max (size-TypedExpr l.yes.now) (size-TypedExpr l.no.now)) + 11

abbrev pub decreases-values::value_operated_with : goal.decreases-values::value_operated_with
decreases-values::value_operated_with l = 32 * max (size-TypedExpr l.left.now) (size-TypedExpr l.right.now) + 11

abbrev pub decreases-values::value_operation : goal.decreases-values::value_operation
decreases-values::value_operation l = 32 * most size-TypedExpr l.parts.now + 12

abbrev pub decreases-values::subject : goal.decreases-values::subject
decreases-values::subject l = 32 * size-TypedExpr l.part.now + 11

abbrev pub decreases-building::bind : goal.decreases-building::bind
decreases-building::bind l = 32 * size-TypedExpr l.part.now + 12

abbrev pub decreases-building::built_let : goal.decreases-building::built_let
decreases-building::built_let l = 32 * max (size-TypedExpr l.part.now) (size-TypedExpr l.body.now) + 13

abbrev pub decreases-values::value_let : goal.decreases-values::value_let
decreases-values::value_let l = 32 * max (size-TypedExpr l.part.now) (size-TypedExpr l.body.now) + 13

abbrev pub decreases-arms::arm_way : goal.decreases-arms::arm_way
decreases-arms::arm_way l = 32 * size-TypedExpr l.arm.now.1 + 10

abbrev pub decreases-arms::arms_from : goal.decreases-arms::arms_from
decreases-arms::arms_from l = 32 * most (λ arm. max 0 (max (size-TypedExpr arm.1) 0)) l.arms.now + 11

abbrev pub decreases-building::arms_behind : goal.decreases-building::arms_behind
decreases-building::arms_behind l = 32 * most (λ arm. max 0 (max (size-TypedExpr arm.1) 0)) l.arms.now + 12

abbrev pub decreases-building::built_case : goal.decreases-building::built_case
decreases-building::built_case l = 32 * max (size-TypedExpr l.part.now) (most (λ arm. max 0 (max (size-TypedExpr arm.1) 0)) l.arms.now) + 13

abbrev pub decreases-building::raised_typed : goal.decreases-building::raised_typed
decreases-building::raised_typed l = 32 * size-TypedExpr l.part.now + 10

abbrev pub decreases-building::raised_with : goal.decreases-building::raised_with
decreases-building::raised_with l = 32 * size-TypedExpr l.part.now + 11

abbrev pub decreases-parts::built_part : goal.decreases-parts::built_part
decreases-parts::built_part l = 32 * size-TypedExpr l.part.now + 10

abbrev pub decreases-parts::built_parts : goal.decreases-parts::built_parts
decreases-parts::built_parts l = 32 * most size-TypedExpr l.parts.now + 11

abbrev pub decreases-building::built_fields : goal.decreases-building::built_fields
decreases-building::built_fields l = 32 * most size-TypedExpr l.parts.now + 12

abbrev pub decreases-building::built_tuple : goal.decreases-building::built_tuple
decreases-building::built_tuple l = 32 * most size-TypedExpr l.parts.now + 12

abbrev pub decreases-building::built_vector : goal.decreases-building::built_vector
decreases-building::built_vector l = 32 * most size-TypedExpr l.parts.now + 12

abbrev pub decreases-building::built_constructor : goal.decreases-building::built_constructor
decreases-building::built_constructor l = 32 * most size-TypedExpr l.parts.now + 13

abbrev pub decreases-calls::argument : goal.decreases-calls::argument
decreases-calls::argument l = 32 * size-TypedExpr l.part.now + 11

abbrev pub decreases-calls::arguments : goal.decreases-calls::arguments
decreases-calls::arguments l = 32 * most size-TypedExpr l.parts.now + 12

abbrev pub decreases-calls::built_call : goal.decreases-calls::built_call
decreases-calls::built_call l = 32 * most size-TypedExpr l.parts.now + 13

abbrev pub decreases-calls::value_call : goal.decreases-calls::value_call
decreases-calls::value_call l = 32 * most size-TypedExpr l.parts.now + 13

abbrev pub decreases-vectors::index_of : goal.decreases-vectors::index_of
decreases-vectors::index_of l = 32 * size-TypedExpr l.place.now + 10

abbrev pub decreases-vectors::index_within : goal.decreases-vectors::index_within
decreases-vectors::index_within l = 32 * size-TypedExpr l.place.now + 11

abbrev pub decreases-vectors::index_effects : goal.decreases-vectors::index_effects
decreases-vectors::index_effects l = 32 * max (size-TypedExpr l.vector.now) (size-TypedExpr l.place.now) + 12

abbrev pub decreases-vectors::indexed : goal.decreases-vectors::indexed
decreases-vectors::indexed l = 32 * max (size-TypedExpr l.vector.now) (size-TypedExpr l.place.now) + 12

abbrev pub decreases-vectors::item_evaluated : goal.decreases-vectors::item_evaluated
decreases-vectors::item_evaluated l = 32 * size-TypedExpr l.item.now + 10

abbrev pub decreases-vectors::item_at : goal.decreases-vectors::item_at
decreases-vectors::item_at l = 32 * size-TypedExpr l.item.now + 10

abbrev pub decreases-vectors::item_inside : goal.decreases-vectors::item_inside
decreases-vectors::item_inside l = 32 * size-TypedExpr l.item.now + 11

abbrev pub decreases-vectors::item_behind_test : goal.decreases-vectors::item_behind_test
decreases-vectors::item_behind_test l = 32 * size-TypedExpr l.item.now + 10

abbrev pub decreases-vectors::item_written : goal.decreases-vectors::item_written
decreases-vectors::item_written l = 32 * size-TypedExpr l.item.now + 13

abbrev pub decreases-vectors::built_item : goal.decreases-vectors::built_item
decreases-vectors::built_item l = 32 * max (size-TypedExpr l.place.now) (size-TypedExpr l.item.now) + 14

abbrev pub decreases-vectors::built_update : goal.decreases-vectors::built_update
decreases-vectors::built_update l = 32 * max (size-TypedExpr l.vector.now) (max (size-TypedExpr l.place.now) (size-TypedExpr l.item.now)) + 15

abbrev pub invariant-parts::built_parts-loop-place : goal.invariant-parts::built_parts-loop-place
invariant-parts::built_parts-loop-place l = record {
  made : parts_built (type_at l.tys) (part_in l.tys l.to) l.initial.scope l.place (parts_of (target l.s) (drop l.place l.parts)) l.made
      ≡ parts_built (type_at l.tys) (part_in l.tys l.to) l.initial.scope 0 (parts_of (target l.s) l.parts) (nothing l.next);
  scope : l.scope ≡ l.initial.scope;
}

abbrev pub invariant-calls::arguments-loop-place : goal.invariant-calls::arguments-loop-place
invariant-calls::arguments-loop-place l = record {
  made : arguments_made (target l.s) (known l.callee) l.initial.scope l.place (parts_of (target l.s) (drop l.place l.parts)) l.passed
      ≡ all_arguments (target l.s) (known l.callee) l.initial.scope l.next (parts_of (target l.s) l.parts);
  scope : l.scope ≡ l.initial.scope;
}

abbrev pub invariant-arms::arms_from-loop-place : goal.invariant-arms::arms_from-loop-place
invariant-arms::arms_from-loop-place l = record {
  made : ways_before l.ways (arms_built (target l.s) l.initial.scope l.to l.ty l.of l.object l.complete l.next (arms_of (target l.s) (drop l.place l.arms)))
      ≡ arms_built (target l.s) l.initial.scope l.to l.ty l.of l.object l.complete l.initial.next (arms_of (target l.s) l.arms);
  scope : l.scope ≡ l.initial.scope;
}
