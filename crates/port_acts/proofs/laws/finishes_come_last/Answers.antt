use Rattle.port_acts.proofs.Each.{all_written, finishes_write_nothing, each_is_finished, finishes_are_last, writes_finish_nothing, reads_finish_nothing}
use Rattle.port_acts.proofs.laws.finishes_come_last.Goals as goal

pub returns-clause-writes : goal.returns-clause-writes
returns-clause-writes c = all_written

pub returns-clause-silent : goal.returns-clause-silent
returns-clause-silent c = finishes_write_nothing

pub returns-clause-flushed : goal.returns-clause-flushed
returns-clause-flushed c = each_is_finished

pub returns-clause-last : goal.returns-clause-last
returns-clause-last c = finishes_are_last

pub returns-clause-writes_finish_nothing : goal.returns-clause-writes_finish_nothing
returns-clause-writes_finish_nothing c = writes_finish_nothing

pub returns-clause-reads_finish_nothing : goal.returns-clause-reads_finish_nothing
returns-clause-reads_finish_nothing c = reads_finish_nothing
