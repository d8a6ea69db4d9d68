use Rattle.std.proofs.Common.{[]}
use Rattle.port_acts.specs.Early.{read_each}
use Rattle.hume_calls.specs.Reading.{source_reads}
use Rattle.hume_console.specs.Courses.{first_do}
use Rattle.hume_console.specs.Headline.{session_few}
use Rattle.hume_console.proofs.PortsServed.{none_lost, served, served_behind}
use Rattle.hume_console.proofs.laws.each_port_is_served.Goals as goal

pub returns-clause-served : goal.returns-clause-served
returns-clause-served c source old new ending answers sound at port is =
    served_behind (source_reads source) answers.course at port old new
    (served (session_few source answers.text) [] (first_do (read_each (source_reads source)) answers.course) old new ending answers.ends sound at port is)

pub returns-clause-none_lost : goal.returns-clause-none_lost
returns-clause-none_lost c source old new ending answers sound =
    none_lost (session_few source answers.text) [] (first_do (read_each (source_reads source)) answers.course) old new ending answers.ends sound
