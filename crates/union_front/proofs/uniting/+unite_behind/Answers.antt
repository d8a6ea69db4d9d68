use Rattle.std.proofs.Common.{arith, subst, sym}
use Rattle.std.specs.List.{All}
use Rattle.std.proofs.lemmas.List.Elements.{All-head, All-tail}
use Rattle.union_front.specs.Unions.{IsSound, IsSoundProgram}
use Rattle.union_front.proofs.Sound.{last_union, last_within, none_left, some_left}
use Rattle.union_front.proofs.uniting.+unite_behind.Goals as goal

pub unite_next-requires-clause-second : goal.unite_next-requires-clause-second
unite_next-requires-clause-second t c =
    All-head IsSoundProgram c.in-Some.next.now c.in-Some.later.now (subst (All IsSoundProgram) c.in-Some.ensures.cases.0 c.requires.sound)

pub returns-then-is_empty-clause-union : goal.returns-then-is_empty-clause-union
returns-then-is_empty-clause-union t c =
    last_union c.args.core.now c.args.programs.now c.in-Some.next.now c.in-Some.later.now c.in-Ok.union c.in-Some.ensures.cases.0
    (none_left _ _ c.is_empty.ensures c.if-is_empty.true) c.in-Ok.ensures.union

pub returns-then-is_empty-clause-within : goal.returns-then-is_empty-clause-within
returns-then-is_empty-clause-within t c =
    last_within c.args.core.now c.args.programs.now c.in-Some.next.now c.in-Some.later.now c.in-Ok.union c.in-Some.ensures.cases.0
    (none_left _ _ c.is_empty.ensures c.if-is_empty.true) c.in-Ok.ensures.union

pub unite_behind-requires : goal.unite_behind-requires
unite_behind-requires t c =
    let it = c.in-Some.ensures.cases in
    let united = c.in-Ok.ensures.union in (
      omega (arith, it.1),
      (
        some_left _ _ c.is_empty.ensures c.if-is_empty.false,
        (
          omega (arith, it.1, c.requires.few),
          (
            subst IsSound (sym united.is_core) united.sound,
            All-tail IsSoundProgram c.in-Some.next.now c.in-Some.later.now (subst (All IsSoundProgram) it.0 c.requires.sound),
          ),
        ),
      ),
    )
