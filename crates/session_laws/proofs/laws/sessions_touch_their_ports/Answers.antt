use Rattle.hume_console.specs.Headline.{session_course}
use Rattle.session_laws.proofs.OwnActs.{course_own, session_fine}
use Rattle.session_laws.proofs.laws.sessions_touch_their_ports.Goals as goal

pub returns : goal.returns
returns c core supplies source offers = course_own core (session_course core supplies source offers) (session_fine core supplies source offers)
