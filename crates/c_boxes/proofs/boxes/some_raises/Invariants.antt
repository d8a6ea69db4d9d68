use Rattle.std.proofs.Common.{◌≡◌, drop}
use Rattle.std.specs.List.{list_any}
use Rattle.c_boxes.proofs.boxes.some_raises.Given as goal

abbrev pub invariant-loop-raises : goal.invariant-loop-raises
invariant-loop-raises l = list_any (λ raises. raises) (drop l.raises-index l.raising) ≡ list_any (λ raises. raises) l.raising
