-- Which functions of a core may raise an exception.
use Rattle.std.specs.Prelude.{ℕ, zero, suc, ◌||◌, Bool, false, List, length, map}
use Rattle.std.specs.List.{range_with_len}
use Rattle.hume_base.specs.declared.limits.TheConstants.{MAX_EXCEPTIONS}
use Rattle.hume_model.specs.declared.core_tree.Core.{Core}
use Rattle.hume_model.specs.Raising.{raises_below}

-- whether one of the numbers below a bound passes the test
abbrev pub some_below : ℕ → (ℕ → Bool) → Bool
some_below zero test = false
some_below (suc bound) test = some_below bound test || test bound

-- whether the function of a number may raise an exception
abbrev pub function_raises : Core → ℕ → Bool
function_raises core function = some_below MAX_EXCEPTIONS (λ exn. raises_below core (length core.funs) exn function)

-- which functions may, in the order of their numbers
abbrev pub functions_raise : Core → List Bool
functions_raise core = map (function_raises core) (range_with_len 0 (length core.funs))
