use Rattle.trace_print.proofs.Lengths.{box_line_short, total_short, peak_short, step_short}
use Rattle.trace_print.proofs.laws.lines_are_short.Goals as goal

pub returns-clause-box_line : goal.returns-clause-box_line
returns-clause-box_line c = box_line_short

pub returns-clause-peak : goal.returns-clause-peak
returns-clause-peak c = peak_short

pub returns-clause-step : goal.returns-clause-step
returns-clause-step c = step_short

pub returns-clause-total : goal.returns-clause-total
returns-clause-total c = total_short
