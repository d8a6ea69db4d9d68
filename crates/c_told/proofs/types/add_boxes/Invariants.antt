use Rattle.std.proofs.Common.{◌≡◌, drop}
use Rattle.std.specs.List.{flat_map}
use Rattle.c_types.specs.Gathered.{gathered}
use Rattle.c_told.specs.Told.{box_tells, with_all}
use Rattle.c_told.proofs.types.add_boxes.Given as goal

abbrev pub invariant-loop-trees : goal.invariant-loop-trees
invariant-loop-trees l =
    with_all (gathered l.types) (flat_map box_tells (drop l.trees-index l.boxes)) ≡ with_all (gathered l.initial.types) (flat_map box_tells l.boxes)
