use Rattle.std.proofs.Common.{[]}
use Rattle.hume_ports.specs.Ports.{names}
use Rattle.port_acts.specs.Early.{read_each}
use Rattle.hume_calls.specs.Reading.{source_reads}
use Rattle.hume_console.specs.Courses.{first_do}
use Rattle.hume_console.specs.Headline.{session_few}
use Rattle.session_laws.proofs.OwnActs.{owed_well, well_first}
use Rattle.session_laws.proofs.WithRoom.{no_fault, room_behind, untold_room}
use Rattle.session_laws.proofs.laws.sessions_with_room_have_no_fault.Goals as goal

pub returns-clause-answers : goal.returns-clause-answers
returns-clause-answers c source old new ending answers room is =
    let well = owed_well answers.text source (names old.ports) answers.offers answers.course answers.owes in
    no_fault (session_few source answers.text) [] (first_do (read_each (source_reads source)) answers.course) old new ending
    (well_first (read_each (source_reads source)) answers.course well) (room_behind (source_reads source) answers.course old.ports room) answers.ends is

pub returns-clause-untold : goal.returns-clause-untold
returns-clause-untold c = untold_room
