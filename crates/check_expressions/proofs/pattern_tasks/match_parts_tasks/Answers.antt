use Rattle.std.proofs.Common.{◌≡◌, ◌<◌, length, arith}
use Rattle.check_scopes.specs.types.Contexts.{top}
use Rattle.check_tasks.proofs.PatternLaws.{match_more}
use Rattle.check_expressions.proofs.Forms.{comes_to}
use Rattle.check_expressions.proofs.Found.{tuple_found}
use Rattle.check_expressions.proofs.PlanLists.{match_plan}
use Rattle.check_expressions.proofs.pattern_tasks.match_parts_tasks.Goals as goal

pub returns-else-place-count-2-clause-ok : goal.returns-else-place-count-2-clause-ok
returns-else-place-count-2-clause-ok c =
    let found = tuple_found (top c.args.at.now.0.1) c.in_ok-count.count c.in_ok-count.ensures.ok in
    let long = found.long in
    let few = c.if-place-count-2.false in
    let within : c.args.place < length found.tys = omega arith in
    comes_to c.first.result c.first.new.tasks (match_plan c.in-Some.part c.in-Some.rest c.args.place) c.args.tasks.now c.args.at.now _
    (match_more c.args.at.now c.args.parts c.in-Some.rest c.in-Some.part c.args.place found.tys found.is within c.in-Some.ensures.cases.0) c.first.ensures.ok
