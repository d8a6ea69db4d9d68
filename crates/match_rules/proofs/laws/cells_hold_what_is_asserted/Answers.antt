use Rattle.match_rules.proofs.Asserting.{same_rooms, outputs_fit, asserted_held, asserted_kept}
use Rattle.match_rules.proofs.laws.cells_hold_what_is_asserted.Goals as goal

pub returns-clause-room : goal.returns-clause-room
returns-clause-room c = λ core types cells wires values outputs are words. same_rooms core outputs are values words

pub returns-clause-whole : goal.returns-clause-whole
returns-clause-whole c = λ core types cells wires values outputs are words typed. outputs_fit core outputs are values words typed

pub returns-clause-held : goal.returns-clause-held
returns-clause-held c = λ core types cells wires values outputs are words typed before next. asserted_held core outputs are values words typed before next

pub returns-clause-rest : goal.returns-clause-rest
returns-clause-rest c = asserted_kept
