use Rattle.port_acts.proofs.Stopping.{Stops-on, Stops-more, read_each-append, reads_write_nothing}
use Rattle.port_acts.proofs.laws.early_reads_come_first.Goals as goal

pub returns-clause-stops : goal.returns-clause-stops
returns-clause-stops g c = Stops-on

pub returns-clause-stop : goal.returns-clause-stop
returns-clause-stop g c = Stops-more

pub returns-clause-in_turn : goal.returns-clause-in_turn
returns-clause-in_turn g c = read_each-append

pub returns-clause-silent : goal.returns-clause-silent
returns-clause-silent g c = reads_write_nothing
