-- The handlers of a core with a sound frame are for exceptions that it has.
use Rattle.std.proofs.Common.{◌≡◌, ℕ, suc, All, List, [], ◌∷◌, Some, slice_get, refl, arith}
use Rattle.std.proofs.lemmas.List.Elements.{All-cons}
use Rattle.std.proofs.lemmas.Option.{slice_get_within}
use Rattle.hume_model.specs.declared.core_tree.NodeC.{NodeC}
use Rattle.hume_model.specs.declared.core_tree.NodeC.TheVariants.{Rules, From, To}
use Rattle.hume_model.specs.declared.core_tree.Core.{Core}
use Rattle.hume_model.specs.WellFormed.{HasSoundFrame}
use Rattle.space_costs.specs.inner.Standing.{IsKnownHandler, HasKnownHandlers}

all_there : {X : Type 0} (P : X → Type 0) (xs : List X) → ((i : ℕ) (x : X) → slice_get xs i ≡ Some x → P x) → All P xs
all_there P [] each = λ k d h. absurd (omega (arith, h))
all_there P (x ∷ xs) each = All-cons P x xs (each 0 x refl) (all_there P xs (λ i y at. each (suc i) y at))

pub known_handlers : (core : Core) → HasSoundFrame core → (n : ℕ) (node : NodeC) → slice_get core.nodes n ≡ Some node → HasKnownHandlers node
known_handlers core frame n (From stream) at = tt
known_handlers core frame n (To stream) at = tt
known_handlers core frame n (Rules b) at = all_there IsKnownHandler b.handlers (λ i handler there.
    let known = (frame.boxes n b at).handlers i handler there in
    let low = slice_get_within core.exns handler.exn known.exn known.known in
    let few = frame.limits.exceptions in
    omega (arith, low, few))
