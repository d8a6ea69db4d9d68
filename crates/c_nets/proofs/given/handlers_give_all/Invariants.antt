use Rattle.std.proofs.Common.{◌≡◌, drop}
use Rattle.std.specs.List.{list_all}
use Rattle.c_nets.specs.GivenOutputs.{gives_all}
use Rattle.c_nets.proofs.given.handlers_give_all.Given as goal

abbrev pub invariant-loop-handler : goal.invariant-loop-handler
invariant-loop-handler l =
    list_all (λ handler. gives_all handler.result) (drop l.handler-index l.handlers) ≡ list_all (λ handler. gives_all handler.result) l.handlers
