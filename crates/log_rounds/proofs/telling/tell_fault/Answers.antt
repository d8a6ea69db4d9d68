use Rattle.std.proofs.Common.{◌∙◌}
use Rattle.log_rounds.specs.VerifyActs.{fault_line}
use Rattle.log_rounds.proofs.Tellings.{put_in_turn, written_out}
use Rattle.log_rounds.proofs.telling.tell_fault.Goals as goal

pub returns-clause-ends : goal.returns-clause-ends
returns-clause-ends g c =
    written_out _ (fault_line c.args.core.now c.args.fault) c.args.out _ _ _
    (c.bytes.ensures ∙ put_in_turn _ _ _ _ _ _ c.args.core.now c.args.fault c.clear.ensures.bytes c.put.ensures.bytes c.put-2.ensures.bytes (c.as_bytes.ensures.value ∙ c.format.ensures.text) c.put_blame.ensures.blame c.put-3.ensures.bytes)
    c.requires.out c.write_act.ensures.ends
