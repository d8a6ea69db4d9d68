use Rattle.std.proofs.Common.{arith, rules}
use Rattle.hume_streams.proofs.Newlines.{no_newline-more}
use Rattle.hume_console.proofs.command_lines.newline_in.Goals as goal

pub loop-place-preserved : goal.loop-place-preserved
loop-place-preserved c = no_newline-more c.args.bytes.now c.loop-place.place (omega arith) c.loop-place.invariant (search rules)
