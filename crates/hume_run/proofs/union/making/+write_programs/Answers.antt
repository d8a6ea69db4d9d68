use Rattle.std.proofs.Common.{rules, arith, subst, ◌+◌}
use Rattle.std.specs.List.{All}
use Rattle.std.proofs.lemmas.List.Elements.{All-head, All-tail}
use Rattle.hume_calls.specs.Unions.{program_tables}
use Rattle.hume_run.specs.inner.UnionEnds.{IsBounded}
use Rattle.trace_print.proofs.LinesInTurn.{nothing_written}
use Rattle.hume_run.proofs.UnionParts.{first_fail, later_end, one_table, tables_done, tables_in_turn, tables_none}
use Rattle.hume_run.proofs.union.making.+write_programs.Goals as goal

pub returns-in_default-clause-ends : goal.returns-in_default-clause-ends
returns-in_default-clause-ends g t c sources from are =
    nothing_written _ _ _ (tables_none c.args.members.now sources c.args.programs.now from c.in_default.ensures.cases are)

pub returns-in_default-split_first-clause-ends : goal.returns-in_default-split_first-clause-ends
returns-in_default-split_first-clause-ends g t c sources from are =
    nothing_written _ _ _ (tables_done sources c.args.programs.now from c.in_default-split_first.ensures.cases)

pub write_program-requires-clause-bounded : goal.write_program-requires-clause-bounded
write_program-requires-clause-bounded g t c =
    All-head IsBounded c.in-Some-split_first.program.now c.in-Some-split_first.later.now
    (subst (All IsBounded) c.in-Some-split_first.ensures.cases.0 c.requires.bounded)

pub returns-in-Err-clause-ends : goal.returns-in-Err-clause-ends
returns-in-Err-clause-ends g t c sources from are =
    let turn = tables_in_turn c.args.members.now c.in-Some.member.now c.in-Some.others.now c.args.programs.now c.in-Some-split_first.program.now
    c.in-Some-split_first.later.now sources from c.in-Some.ensures.cases.0 c.in-Some-split_first.ensures.cases.0 are in
    first_fail _ _ (one_table c.in-Some.member.now c.in-Some-split_first.program.now) _ _ _ turn.tables c.in-Err.ensures.ends

pub write_programs-requires : goal.write_programs-requires
write_programs-requires g t c =
    let member = c.in-Some.ensures.cases in let program = c.in-Some-split_first.ensures.cases in (
      omega (arith, member.1),
      (
        All-tail IsBounded c.in-Some-split_first.program.now c.in-Some-split_first.later.now (subst (All IsBounded) program.0 c.requires.bounded),
        (
          let room = c.requires.room in let same = c.write_program.ensures.room in omega (arith, room, same),
          search rules,
        ),
      ),
    )

pub returns-clause-ends : goal.returns-clause-ends
returns-clause-ends g t c sources from are =
    let turn = tables_in_turn c.args.members.now c.in-Some.member.now c.in-Some.others.now c.args.programs.now c.in-Some-split_first.program.now
    c.in-Some-split_first.later.now sources from c.in-Some.ensures.cases.0 c.in-Some-split_first.ensures.cases.0 are in
    later_end _ _ (one_table c.in-Some.member.now c.in-Some-split_first.program.now)
    (program_tables turn.behind c.in-Some-split_first.later.now (from + 1)) _ _ _ _ turn.tables
    (record { same_names = c.in-Ok.ensures.same_names; made = c.in-Ok.ensures.ends }) c.write_programs.ensures.same_names
    (c.write_programs.ensures.ends turn.behind (from + 1) turn.members)
