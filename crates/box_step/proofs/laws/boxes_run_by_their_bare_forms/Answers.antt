use Rattle.box_step.proofs.AcceptedBoxes.{own_forms, forms_there}
use Rattle.box_step.proofs.laws.boxes_run_by_their_bare_forms.Goals as goal

pub returns-clause-own : goal.returns-clause-own
returns-clause-own c = own_forms

pub returns-clause-there : goal.returns-clause-there
returns-clause-there c = forms_there
