use Rattle.form_laws.proofs.UnionCalls.{all_peaks, bad_line, some_blocked, union_blocked, union_owes}
use Rattle.form_laws.proofs.union_calls.union_calls_owe_what_runs_owe.Goals as goal

pub returns-clause-bytes : goal.returns-clause-bytes
returns-clause-bytes c = λ named text names texts programs may coming are steps. union_owes named text names texts programs may coming are steps

pub returns-clause-answer : goal.returns-clause-answer
returns-clause-answer c = λ named text names texts programs may coming are steps.
    (some_blocked named text names texts programs may coming are steps, union_blocked named text names texts programs may coming are steps)

pub returns-clause-bad_line : goal.returns-clause-bad_line
returns-clause-bad_line c = λ named text names texts programs may coming are steps. bad_line named text names texts programs may coming are steps

pub returns-clause-peaks : goal.returns-clause-peaks
returns-clause-peaks c = λ named text names texts programs may coming are owns each steps.
    all_peaks named text names texts programs may coming are steps owns each
