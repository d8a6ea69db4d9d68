-- Sets of exceptions that are made of others.
use Rattle.std.proofs.Common.{◌≡◌, ℕ, ◌<◌, ◌||◌, Bool, List, drop}
use Rattle.std.specs.List.{list_any}
use Rattle.hume_base.specs.declared.limits.TheConstants.{MAX_EXCEPTIONS}
use Rattle.hume_exceptions.specs.declared.exn_set.ExnSet.{ExnSet}
use Rattle.hume_exceptions.specs.Sets.{has}

-- the set has the exceptions of the first items, so that those of the other ones are left
pub record HasFirst {X : Type 0} (test : ℕ → X → Bool) (items : List X) (set : ExnSet) (count : ℕ) : Type 0 where
  pub each : (exn : ℕ) → exn < MAX_EXCEPTIONS → (has set exn || list_any (test exn) (drop count items)) ≡ list_any (test exn) items

-- the same of both parts
pub or_two : (a b p q : Bool) → a ≡ p → b ≡ q → (a || b) ≡ (p || q)
or_two a b p q e f = λ i. e i || f i
