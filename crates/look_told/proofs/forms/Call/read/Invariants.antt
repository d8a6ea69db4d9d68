use Rattle.std.proofs.Common.{◌≡◌}
use Rattle.look_told.proofs.forms.Call.read.Given as goal

abbrev pub invariant-loop-part : goal.invariant-loop-part
invariant-loop-part l = l.call.words.now ≡ l.words
