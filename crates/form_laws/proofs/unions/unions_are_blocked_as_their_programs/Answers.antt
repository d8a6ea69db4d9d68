use Rattle.form_laws.proofs.FromTexts.{blocked_as_programs}
use Rattle.form_laws.proofs.unions.unions_are_blocked_as_their_programs.Goals as goal

pub returns : goal.returns
returns c = blocked_as_programs
