use Rattle.std.proofs.Common.{◌≡◌, drop}
use Rattle.std.specs.List.{flat_map}
use Rattle.c_types.specs.Gathered.{gathered}
use Rattle.c_told.specs.Told.{result_tells, with_all}
use Rattle.c_told.proofs.types.add_handlers.Given as goal

abbrev pub invariant-loop-handler : goal.invariant-loop-handler
invariant-loop-handler l =
    with_all (gathered l.types) (flat_map (λ handler. result_tells handler.result) (drop l.handler-index l.handlers))
    ≡ with_all (gathered l.initial.types) (flat_map (λ handler. result_tells handler.result) l.handlers)
