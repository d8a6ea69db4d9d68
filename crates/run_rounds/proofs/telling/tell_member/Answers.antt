use Rattle.run_rounds.proofs.Tellings.{first_failed, first_made, line_given, then_told}
use Rattle.run_rounds.proofs.telling.tell_member.Goals as goal

pub returns-in-Err-clause-ends : goal.returns-in-Err-clause-ends
returns-in-Err-clause-ends g c =
    first_failed _ _ _ _ _ c.in-Err.failed c.in-Err.is (line_given _ _ _ _ _ c.deref.ensures.value c.tell_line.ensures.ends)

pub returns-clause-ends : goal.returns-clause-ends
returns-clause-ends g c = then_told _ _ _ _ _ _
    (first_made _ _ _ _ c.in-Ok.is (line_given _ _ _ _ _ c.deref.ensures.value c.tell_line.ensures.ends)) c.tell_peaks_from.ensures.ends
