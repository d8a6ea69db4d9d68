use Rattle.form_laws.proofs.FromTexts.{bad_line_as_alone, peaks_as_alone}
use Rattle.form_laws.proofs.unions.unions_tell_what_their_programs_tell.Goals as goal

pub returns-clause-bad_line : goal.returns-clause-bad_line
returns-clause-bad_line c = bad_line_as_alone

pub returns-clause-peaks : goal.returns-clause-peaks
returns-clause-peaks c = λ programs runnable texts coming are members same owns each traced steps.
    peaks_as_alone programs runnable texts coming are members same traced steps owns each
