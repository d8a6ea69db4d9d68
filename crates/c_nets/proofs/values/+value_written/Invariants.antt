use Rattle.std.proofs.Common.{◌≡◌, ◌++◌, ◌+◌, ◌*◌, drop, map}
use denote.Param.Weighed.{most}
use Rattle.hume_base.specs.declared.types.Value.{size-Value}
use Rattle.c_types.specs.Gathered.{gathered}
use Rattle.c_nets.specs.Values.{elements_written, fields_written, writes}
use Rattle.c_nets.proofs.values.+value_written.Given as goal

abbrev pub decreases-value_written : goal.decreases-value_written
decreases-value_written l = 8 * size-Value l.value.now

abbrev pub decreases-fields_written : goal.decreases-fields_written
decreases-fields_written l = 8 * most size-Value l.parts.now + 2

abbrev pub decreases-elements_written : goal.decreases-elements_written
decreases-elements_written l = 8 * most size-Value l.parts.now + 2

abbrev pub decreases-tuple_written : goal.decreases-tuple_written
decreases-tuple_written l = 8 * most size-Value l.parts.now + 3

abbrev pub decreases-vector_written : goal.decreases-vector_written
decreases-vector_written l = 8 * most size-Value l.parts.now + 3

abbrev pub decreases-constructor_fields : goal.decreases-constructor_fields
decreases-constructor_fields l = 8 * most size-Value l.parts.now + 3

abbrev pub decreases-union_fields : goal.decreases-union_fields
decreases-union_fields l = 8 * most size-Value l.parts.now + 3

abbrev pub decreases-field_written : goal.decreases-field_written
decreases-field_written l = 8 * size-Value l.part.now + 1

abbrev pub decreases-element_written : goal.decreases-element_written
decreases-element_written l = 8 * size-Value l.part.now + 1

abbrev pub decreases-tagged_written : goal.decreases-tagged_written
decreases-tagged_written l = 8 * most size-Value l.parts.now + 4

abbrev pub decreases-constructor_written : goal.decreases-constructor_written
decreases-constructor_written l = 8 * most size-Value l.parts.now + 5

abbrev pub invariant-fields_written-loop-place : goal.invariant-fields_written-loop-place
invariant-fields_written-loop-place l =
    l.statements ++ fields_written l.object l.tys l.place (map (writes (gathered l.types)) (drop l.place l.parts))
    ≡ fields_written l.object l.tys 0 (map (writes (gathered l.types)) l.parts)

abbrev pub invariant-elements_written-loop-place : goal.invariant-elements_written-loop-place
invariant-elements_written-loop-place l =
    l.statements ++ elements_written l.object l.item l.place (map (writes (gathered l.types)) (drop l.place l.parts))
    ≡ elements_written l.object l.item 0 (map (writes (gathered l.types)) l.parts)
