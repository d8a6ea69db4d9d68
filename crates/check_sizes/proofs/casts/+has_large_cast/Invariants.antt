use Rattle.std.proofs.Common.{◌≡◌, ◌+◌, ◌*◌, max, map, drop}
use Rattle.std.specs.List.{list_any, flat_map}
use denote.Param.Weighed.{most}
use Rattle.hume_ast.specs.declared.tree.Pat.{Pat}
use Rattle.hume_ast.specs.declared.tree.Exp.{Exp, size-Exp}
use Rattle.check_rules.specs.SizeRules.{all_of, written_in}
use Rattle.check_sizes.specs.inner.Large.{is_large}
use Rattle.check_sizes.proofs.casts.+has_large_cast.Given as goal

abbrev pub decreases-has_large_cast : goal.decreases-has_large_cast
decreases-has_large_cast l = 2 * size-Exp l.e.now

abbrev pub decreases-a_part_has : goal.decreases-a_part_has
decreases-a_part_has l = 2 * most size-Exp l.parts.now + 1

abbrev pub decreases-an_arm_has : goal.decreases-an_arm_has
decreases-an_arm_has l = 2 * most (λ arm. max 0 (max (size-Exp arm.1) 0)) l.arms.now + 1

abbrev pub invariant-a_part_has-loop-part : goal.invariant-a_part_has-loop-part
invariant-a_part_has-loop-part l =
    let some = list_any (is_large l.table.types l.sizes) in
    some (all_of (map written_in (drop l.part-index l.parts))) ≡ some (all_of (map written_in l.parts))

abbrev pub invariant-an_arm_has-loop-arm : goal.invariant-an_arm_has-loop-arm
invariant-an_arm_has-loop-arm l =
    let some = list_any (is_large l.table.types l.sizes) in
    some (flat_map (λ (arm : Pat × Exp). written_in arm.1) (drop l.arm-index l.arms)) ≡ some (flat_map (λ (arm : Pat × Exp). written_in arm.1) l.arms)
