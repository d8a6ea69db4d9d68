use Rattle.hume_console.specs.Headline.{refused, session_course, session_few}
use Rattle.session_laws.proofs.Causes.{session_fault, untold_fault}
use Rattle.session_laws.proofs.OwnActs.{refused_fine, session_fine}
use Rattle.session_laws.proofs.laws.session_faults_come_from_their_ports.Goals as goal

pub returns-clause-session : goal.returns-clause-session
returns-clause-session c core supplies source text offers =
    session_fault core source (session_course core supplies source offers) (session_fine core supplies source offers) (session_few source text)

pub returns-clause-refused : goal.returns-clause-refused
returns-clause-refused c core source text refusal =
    session_fault core source (refused refusal) (refused_fine core refusal) (session_few source text)

pub returns-clause-untold : goal.returns-clause-untold
returns-clause-untold c = untold_fault
