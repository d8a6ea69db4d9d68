use Rattle.hume_run.proofs.Causes.{has_fault, has_fault_alone}
use Rattle.hume_run.proofs.laws.faults_come_from_their_ports.Goals as goal

pub returns-clause-sourced : goal.returns-clause-sourced
returns-clause-sourced c = has_fault

pub returns-clause-alone : goal.returns-clause-alone
returns-clause-alone c = has_fault_alone
