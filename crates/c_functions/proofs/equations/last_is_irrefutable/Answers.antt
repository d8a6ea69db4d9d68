use Rattle.std.proofs.Common.{◌∙◌, ap}
use Rattle.std.specs.List.{list_all}
use Rattle.hume_model.specs.Completeness.{is_irrefutable}
use Rattle.c_functions.specs.Functions.{is_irrefutable_equation}
use Rattle.c_functions.proofs.EquationForms.{last_at, passes}
use Rattle.c_functions.proofs.equations.last_is_irrefutable.Goals as goal

pub returns-in-Some : goal.returns-in-Some
returns-in-Some c =
    c.are_irrefutable.ensures ∙ ap (list_all is_irrefutable) c.as_slice.ensures
    ∙ ap (passes is_irrefutable_equation) c.in-Some.ensures.value ∙ last_at is_irrefutable_equation c.args.equations.now
