-- A set of exceptions has one exactly where one of those below the bound passes the test of which it is the set.
use Rattle.std.proofs.Common.{◌≡◌, ℕ, zero, suc, ◌+◌, ◌≤◌, ◌<◌, ◌||◌, Bool, List, [], ◌∷◌, map, length, refl, ap, ◌∙◌, arith, add-one}
use Rattle.std.specs.List.{range_with_len}
use Rattle.std.proofs.lemmas.Grind.{common_steps}
use Rattle.hume_base.specs.declared.limits.TheConstants.{MAX_EXCEPTIONS}
use Rattle.hume_model.specs.declared.core_tree.Core.{Core}
use Rattle.hume_exceptions.specs.declared.exn_set.ExnSet.{ExnSet}
use Rattle.hume_model.specs.Raising.{raises_below}
use Rattle.hume_exceptions.specs.Sets.{IsRaisesOf, called_by, has}
use Rattle.c_functions.specs.Raising.{function_raises, functions_raise, some_below}

same_below : (one other : ℕ → Bool) → ((exn : ℕ) → exn < MAX_EXCEPTIONS → one exn ≡ other exn) → (bound : ℕ) → bound ≤ MAX_EXCEPTIONS → some_below bound one ≡ some_below bound other
same_below one other is zero le = refl
same_below one other is (suc bound) le = λ i. same_below one other is bound (omega (arith, le)) i || is bound (omega (arith, le)) i

pub one_more : (test : ℕ → Bool) (bound : ℕ) → some_below (bound + 1) test ≡ (some_below bound test || test bound)
one_more test bound = ap (λ n. some_below n test) (add-one bound)

abbrev pub is_some : ExnSet → Bool
is_some set = some_below MAX_EXCEPTIONS (has set)

-- the sets from a place on are those of the functions from there on
from_place : (core : Core) (all : List ExnSet) → IsRaisesOf core all → (place : ℕ) (sets : List ExnSet)
    → ((n exn : ℕ) → called_by sets exn n ≡ called_by all exn (place + n))
    → map is_some sets ≡ map (function_raises core) (range_with_len place (length sets))
from_place core all is place [] behind = refl
from_place core all is place (set ∷ sets) behind =
    let here : place + 0 ≡ place = omega arith in
    λ i. same_below (has set) (λ exn. raises_below core (length core.funs) exn place)
    (λ exn below. behind 0 exn ∙ ap (λ (n : ℕ). called_by all exn n) here ∙ is.each exn place below) MAX_EXCEPTIONS (omega arith) i
    ∷ from_place core all is (place + 1) sets next_place i
  where
    next_place : (n exn : ℕ) → called_by sets exn n ≡ called_by all exn (place + 1 + n)
    next_place n exn = let one : place + suc n ≡ place + 1 + n = omega arith in behind (suc n) exn ∙ ap (λ (m : ℕ). called_by all exn m) one

pub sets_tell : (core : Core) (sets : List ExnSet) → IsRaisesOf core sets → map is_some sets ≡ functions_raise core
sets_tell core sets is = from_place core sets is 0 sets first ∙ ap (λ (n : ℕ). map (function_raises core) (range_with_len 0 n)) is.count
  where
    first : (n exn : ℕ) → called_by sets exn n ≡ called_by sets exn (0 + n)
    first n exn = let same : n ≡ 0 + n = omega arith in ap (λ (m : ℕ). called_by sets exn m) same

pub ruleset raising_steps = (common_steps, one_more)

pub ruleset function_steps = (common_steps, sets_tell)
