-- A set of exceptions has one exactly where one of those below the bound passes the test of which it is the set.
use Rattle.std.proofs.Common.{◌≡◌, ℕ, zero, suc, ◌+◌, ◌≤◌, ◌||◌, Bool, refl, ap, sym, ◌∙◌, arith}
use Rattle.std.proofs.lemmas.Grind.{common_steps}
use Rattle.hume_base.specs.declared.limits.TheConstants.{MAX_EXCEPTIONS}
use Rattle.hume_exceptions.specs.declared.exn_set.ExnSet.{ExnSet}
use Rattle.hume_exceptions.specs.Sets.{IsSetOf, has}
use Rattle.c_functions.specs.Raising.{some_below}

same_below : (set : ExnSet) (test : ℕ → Bool) → IsSetOf set test → (bound : ℕ) → bound ≤ MAX_EXCEPTIONS → some_below bound (has set) ≡ some_below bound test
same_below set test is zero le = refl
same_below set test is (suc bound) le = λ i. same_below set test is bound (omega (arith, le)) i || is.each bound (omega (arith, le)) i

pub some_in_set : (set : ExnSet) (test : ℕ → Bool) → IsSetOf set test → some_below MAX_EXCEPTIONS (has set) ≡ some_below MAX_EXCEPTIONS test
some_in_set set test is = same_below set test is MAX_EXCEPTIONS (omega arith)

pub ruleset raising_steps = (common_steps, some_in_set)
