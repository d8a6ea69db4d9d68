use Rattle.std.proofs.Common.{◌∙◌, ap, Ok, Some, None}
use Rattle.phase_workers.specs.Engines.{core_of}
use Rattle.run_rounds.specs.Members.{views}
use Rattle.run_rounds.proofs.Reports.{as_failed, as_made, member_line_as, member_line_failed, member_rounds_failed, members_failed, members_halted, members_over}
use Rattle.run_rounds.proofs.run.Running.run_union.Goals as goal

pub returns-in-Ok-clause-ends : goal.returns-in-Ok-clause-ends
returns-in-Ok-clause-ends g c =
    let core = core_of c.args.self.now.engine in
    members_over core c.args.self.now.traced c.args.steps _ _ _ c.make_rounds.new.self.engine c.make_rounds.ensures.core _
    (as_made core c.args.self.now.traced c.args.steps _ _ c.make_rounds.new.self.engine _ None (c.in-Ok-None.is ∙ ap Ok c.in-Ok-None.field-0-is) c.make_rounds.ensures.ends)
    (views c.args.members.now) c.requires.nodes c.tell_members.ensures.ends c.in-Ok.is

pub returns-in-Err-tell_members-clause-ends : goal.returns-in-Err-tell_members-clause-ends
returns-in-Err-tell_members-clause-ends g c =
    let core = core_of c.args.self.now.engine in
    members_failed core c.args.self.now.traced c.args.steps _ _ _ c.make_rounds.new.self.engine c.make_rounds.ensures.core _
    (as_made core c.args.self.now.traced c.args.steps _ _ c.make_rounds.new.self.engine _ None (c.in-Ok-None.is ∙ ap Ok c.in-Ok-None.field-0-is) c.make_rounds.ensures.ends)
    (views c.args.members.now) c.requires.nodes c.tell_members.ensures.ends c.in-Err-tell_members.failed c.in-Err-tell_members.is

pub returns-in-Ok-tell_member_bad_line-clause-ends : goal.returns-in-Ok-tell_member_bad_line-clause-ends
returns-in-Ok-tell_member_bad_line-clause-ends g c =
    let core = core_of c.args.self.now.engine in
    members_halted core c.args.self.now.traced c.args.steps _ _ _ c.make_rounds.new.self.engine c.make_rounds.ensures.core _ c.in-Ok-Some.bad
    (as_made core c.args.self.now.traced c.args.steps _ _ c.make_rounds.new.self.engine _ (Some c.in-Ok-Some.bad) (c.in-Ok-Some.is ∙ ap Ok c.in-Ok-Some.field-0-is)
    c.make_rounds.ensures.ends) (views c.args.members.now)
    (member_line_as core _ (views c.args.members.now) c.in-Ok-Some.bad _ _ _ c.make_rounds.ensures.core c.tell_member_bad_line.ensures.ends) c.in-Ok-tell_member_bad_line.is

pub returns-in-Err-tell_member_bad_line-clause-ends : goal.returns-in-Err-tell_member_bad_line-clause-ends
returns-in-Err-tell_member_bad_line-clause-ends g c =
    let core = core_of c.args.self.now.engine in
    member_line_failed core c.args.self.now.traced c.args.steps _ _ _ c.make_rounds.new.self.engine c.make_rounds.ensures.core _ c.in-Ok-Some.bad
    (as_made core c.args.self.now.traced c.args.steps _ _ c.make_rounds.new.self.engine _ (Some c.in-Ok-Some.bad) (c.in-Ok-Some.is ∙ ap Ok c.in-Ok-Some.field-0-is)
    c.make_rounds.ensures.ends) (views c.args.members.now)
    (member_line_as core _ (views c.args.members.now) c.in-Ok-Some.bad _ _ _ c.make_rounds.ensures.core c.tell_member_bad_line.ensures.ends)
    c.in-Err-tell_member_bad_line.failed c.in-Err-tell_member_bad_line.is

pub returns-in-Err-clause-ends : goal.returns-in-Err-clause-ends
returns-in-Err-clause-ends g c =
    let core = core_of c.args.self.now.engine in
    member_rounds_failed core (views c.args.members.now) c.args.self.now.traced c.args.steps _ _
    (as_failed core c.args.self.now.traced c.args.steps _ _ c.make_rounds.new.self.engine _ c.in-Err.failed c.in-Err.is c.make_rounds.ensures.ends)
