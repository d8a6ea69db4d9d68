use Rattle.std.proofs.Common.{refl}
use Rattle.std.proofs.lemmas.List.{length-set}
use Rattle.box_machine.proofs.Fronts.{first_set}
use Rattle.box_machine.proofs.calls.hand_over.Goals as goal

pub returns : goal.returns
returns c = record {
  at_place = c.handler_place.ensures;
  on_stack = first_set c.args.words.now c.args.word c.requires;
  most = refl;
  same_raised = refl;
  within = simp length-set c.requires;
}
