use Rattle.std.proofs.Common.{◌≡◌, ◌+◌, ◌*◌, max, drop}
use denote.Param.Weighed.{most}
use Rattle.std.specs.List.{list_all}
use Rattle.typed_core.specs.declared.typed_tree.TypedResult.{size-TypedResult}
use Rattle.c_nets.specs.GivenOutputs.{gives_all}
use Rattle.c_nets.proofs.given.+gives_all.Given as goal

abbrev pub decreases-gives_all : goal.decreases-gives_all
decreases-gives_all l = 2 * size-TypedResult l.given.now

abbrev pub decreases-arms_give_all : goal.decreases-arms_give_all
decreases-arms_give_all l = 2 * most (λ arm. max 0 (max (size-TypedResult arm.1) 0)) l.arms.now + 1

abbrev pub invariant-arms_give_all-loop-arm : goal.invariant-arms_give_all-loop-arm
invariant-arms_give_all-loop-arm l = list_all (λ arm. gives_all arm.1) (drop l.arm-index l.arms) ≡ list_all (λ arm. gives_all arm.1) l.arms
