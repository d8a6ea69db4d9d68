use Rattle.std.proofs.Common.{◌≡◌}
use Rattle.look_told.proofs.forms.Call.read_part.Given as goal

abbrev pub invariant-loop : goal.invariant-loop
invariant-loop l = l.self.words.now ≡ l.fn.self.words.now

abbrev pub invariant--then-str_eq-2 : goal.invariant--then-str_eq-2
invariant--then-str_eq-2 l = l.self.words.now ≡ l.fn.self.words.now
