use Rattle.std.proofs.Common.{◌≡◌, ℕ, List, true, false, ◌∙◌, subst}
use Rattle.hume_ports.specs.Ports.{is_among}
use Rattle.port_acts.specs.Acts.{wanted}
use Rattle.hume_calls.specs.Owed.{owed_run}
use Rattle.call_laws.proofs.OtherLines.{same_finishes, script_or_input}
use Rattle.call_laws.proofs.lines.calc_touches_its_ports.Goals as goal

pub returns-clause-reads : goal.returns-clause-reads
returns-clause-reads c core new lines made coming steps script name =
    script_or_input name script (wanted (owed_run false steps new coming).acts) new core (c.scripts_keep_streams.ensures.inputs core new lines made)
    (c.runs_touch_their_ports.ensures.reads new coming false steps name)

pub returns-clause-writes : goal.returns-clause-writes
returns-clause-writes c core new lines made coming steps script name among =
    subst (λ (names : List (List ℕ)). is_among name names ≡ true) (same_finishes new core (c.scripts_keep_streams.ensures.outputs core new lines made))
    (c.runs_touch_their_ports.ensures.writes new coming false steps name among)

pub returns-clause-finishes : goal.returns-clause-finishes
returns-clause-finishes c core new lines made coming steps script =
    c.runs_touch_their_ports.ensures.finishes new coming false steps ∙ same_finishes new core (c.scripts_keep_streams.ensures.outputs core new lines made)
