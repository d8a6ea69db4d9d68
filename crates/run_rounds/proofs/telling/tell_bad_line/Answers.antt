use Rattle.std.proofs.Common.{◌++◌, ◌∙◌, ap}
use Rattle.hume_text.specs.Chunks.{bytes_in}
use Rattle.run_rounds.specs.Writes.{bad_value_line}
use Rattle.run_rounds.proofs.Tellings.{line_told}
use Rattle.run_rounds.proofs.telling.tell_bad_line.Goals as goal

pub returns-clause-ends : goal.returns-clause-ends
returns-clause-ends g c =
    line_told _ _ _ _ _ _ (c.put_bad_line.ensures.line ∙ ap (λ name. bytes_in c.clear.new.self ++ bad_value_line name c.args.bad.line) c.stream_name.ensures) c.clear.ensures.bytes c.tell.ensures.ends
