use Rattle.hume_calls.specs.Reading.{source_reads}
use Rattle.hume_console.specs.Headline.{session_few}
use Rattle.session_laws.proofs.ServedSoFar.{served_so_far, untold_gets_nothing}
use Rattle.session_laws.proofs.laws.each_port_is_served_so_far.Goals as goal

pub returns-clause-answers : goal.returns-clause-answers
returns-clause-answers c source old new ending answers =
    served_so_far (session_few source answers.text) (source_reads source) answers.course old new ending answers.ends

pub returns-clause-untold : goal.returns-clause-untold
returns-clause-untold c = untold_gets_nothing
