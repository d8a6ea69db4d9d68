use Rattle.check_declarations.proofs.results_lemmas.FoundExceptions.{carried_found, carried_plan}
use Rattle.check_declarations.proofs.results_lemmas.ResultForms.{comes_to}
use Rattle.check_declarations.proofs.results.raises.raise_with.Goals as goal

pub returns-clause-ok : goal.returns-clause-ok
returns-clause-ok c =
    let number = c.in_ok-number.number in
    let found = carried_found c.args.at.now c.carrying.new.at c.args.name.now c.args.a number c.in_ok-number.ensures.found c.in_ok-number.ensures.keeps in
    comes_to c.first.result c.first.new.tasks (carried_plan c.args.a number) c.args.tasks.now c.carrying.new.at _ found c.first.ensures.ok
