use Rattle.std.proofs.Common.{◌≡◌, ◌++◌, ◌+◌, drop}
use Rattle.c_calls.specs.Exceptions.{exceptions_from}
use Rattle.c_calls.proofs.exceptions.exception_constants.Given as goal

abbrev pub invariant-loop-place : goal.invariant-loop-place
invariant-loop-place l =
    l.constants ++ exceptions_from l.names (l.place + 1) (drop l.place l.exns) ≡ exceptions_from l.names 1 l.exns
