-- One more number of which something is said.
use Rattle.std.proofs.Common.{◌≡◌, ℕ, ◌+◌, ◌++◌, [], ◌∷◌, ap, sym, ◌∙◌, arith}
use Rattle.std.specs.List.{range_with_len}
use Rattle.std.proofs.lemmas.Grind.{common_steps}
use Rattle.std.proofs.lemmas.List.{map-id}
use Rattle.std.proofs.lemmas.List.FromFn.{map-range_with_len_more}
use Rattle.hume_net.specs.Sides.{numbered}

pub numbered-more : {X : Type 0} (bound : ℕ) (says : ℕ → X) → numbered (bound + 1) says ≡ numbered bound says ++ says bound ∷ []
numbered-more bound says = map-range_with_len_more says 0 bound bound (omega arith)

-- the numbers from 0 on
pub first-more : (count : ℕ) → range_with_len 0 (count + 1) ≡ range_with_len 0 count ++ count ∷ []
first-more count =
    sym (map-id (range_with_len 0 (count + 1)))
    ∙ numbered-more count (λ number. number)
    ∙ ap (λ numbers. numbers ++ count ∷ []) (map-id (range_with_len 0 count))

pub ruleset range_steps = (common_steps, numbered-more, first-more)
