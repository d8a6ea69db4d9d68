use Rattle.std.proofs.Common.{arith, subst}
use Rattle.std.specs.List.{All}
use Rattle.std.proofs.lemmas.List.Elements.{All-head, All-tail}
use Rattle.hume_run.specs.inner.UnionEnds.{IsBounded}
use Rattle.hume_run.proofs.union.opening.+add_members.Goals as goal

pub overflow_cast-member : goal.overflow_cast-member
overflow_cast-member t c =
    let bounded = All-head IsBounded c.in-Some-split_first.program.now c.in-Some-split_first.later.now
    (subst (All IsBounded) c.in-Some-split_first.ensures.cases.0 c.requires.bounded) in
    let nodes = bounded.frame.limits.nodes in let is = c.len.ensures in omega (arith, nodes, is)

pub add_members-requires : goal.add_members-requires
add_members-requires t c =
    let source = c.in-Some.ensures.cases in let program = c.in-Some-split_first.ensures.cases in let few = c.requires.few in (
      omega (arith, source.1),
      (
        omega (arith, program.1, few),
        All-tail IsBounded c.in-Some-split_first.program.now c.in-Some-split_first.later.now (subst (All IsBounded) program.0 c.requires.bounded),
      ),
    )
