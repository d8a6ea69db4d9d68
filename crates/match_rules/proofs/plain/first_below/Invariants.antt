use Rattle.std.proofs.Common.{◌≡◌, nat_lt, drop}
use Rattle.std.specs.List.{find}
use Rattle.match_rules.proofs.plain.first_below.Given as goal

abbrev pub invariant-loop-i : goal.invariant-loop-i
invariant-loop-i l = find (λ number. nat_lt number l.count) (drop l.i l.order) ≡ find (λ number. nat_lt number l.count) l.order
