use Rattle.hume_check.proofs.fine_lemmas.Wires.{wire_core}
use Rattle.hume_check.proofs.fine.laws.fine_wires_have_cores.Goals as goal

pub returns : goal.returns
returns c = λ text program signatures nodes fine are each w there. wire_core program.decls fine text signatures are nodes each w there
