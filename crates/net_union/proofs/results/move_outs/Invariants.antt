use Rattle.std.proofs.Common.{◌≡◌, take, map}
use Rattle.std.specs.Option.{option_map}
use Rattle.union_laws.specs.Moving.{moved}
use Rattle.std.specs.Prelude.{IfOk}
use Rattle.net_union.proofs.results.move_outs.Given as goal

abbrev pub invariant-loop-out : goal.invariant-loop-out
invariant-loop-out l = IfOk l.higher (λ made. made ≡ map (option_map (moved l.fn.moves)) (take l.out-index l.outs))
