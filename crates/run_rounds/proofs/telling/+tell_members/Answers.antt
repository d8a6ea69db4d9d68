use Rattle.std.proofs.Common.{◌≤◌, arith, subst, sym}
use Rattle.port_acts.specs.Places.{IsPlaceOf}
use Rattle.run_rounds.specs.Streams.{std_out}
use Rattle.run_rounds.specs.Telling.{top_there}
use Rattle.run_rounds.proofs.MemberLines.{here_within, later_within, member_failed, member_then, members_none}
use Rattle.run_rounds.proofs.telling.+tell_members.Goals as goal

pub tell_member-requires-clause-within : goal.tell_member-requires-clause-within
tell_member-requires-clause-within g t c = here_within c.args.members.now c.in-Some.member.now c.in-Some.later.now c.args.first _ c.in-Some.ensures.cases.0 c.requires.within

pub tell_members-requires : goal.tell_members-requires
tell_members-requires g t c =
    let it = c.in-Some.ensures.cases in (
      omega (arith, it.1),
      (
        c.requires.runnable,
        (
          later_within c.args.members.now c.in-Some.member.now c.in-Some.later.now c.args.first _ it.0 c.requires.within,
          (
            subst (λ ns. IsPlaceOf std_out ns c.args.out) (sym c.tell_member.ensures.same_names) c.requires.out,
            subst (λ k. 160 ≤ k) (sym c.tell_member.ensures.room) c.requires.room,
          ),
        ),
      ),
    )

pub returns-in-Err-clause-ends : goal.returns-in-Err-clause-ends
returns-in-Err-clause-ends g t c =
    member_failed (top_there c.args.engine.now) c.args.first c.args.members.now c.in-Some.member.now c.in-Some.later.now c.in-Some.ensures.cases.0
    _ _ _ c.in-Err.failed c.in-Err.is c.tell_member.ensures.ends

pub returns-clause-ends : goal.returns-clause-ends
returns-clause-ends g t c =
    member_then (top_there c.args.engine.now) c.args.first c.args.members.now c.in-Some.member.now c.in-Some.later.now c.in-Some.ensures.cases.0
    _ _ _ _ _ c.in-Ok.is c.tell_member.ensures.ends c.tell_members.ensures.ends

pub returns-in_default-clause-ends : goal.returns-in_default-clause-ends
returns-in_default-clause-ends g t c = members_none (top_there c.args.engine.now) c.args.first c.args.members.now _ c.in_default.ensures.cases
