-- A number that names no data type has no words.
use Rattle.std.proofs.Common.{◌≡◌, ℕ, zero, suc, None, slice_get, refl, inl, inr}
use Rattle.std.proofs.lemmas.Bool.{cases_eq, eq-eqb, ne_eqb}
use Rattle.std.proofs.lemmas.Grind.{common_steps}
use Rattle.hume_base.specs.declared.types.Ty.{the_lemmas}
use Rattle.hume_base.specs.Sizes.{named_size}
use Rattle.hume_base.specs.declared.types.Types.{Types}

pub named_size-none : (types : Types) (bound number : ℕ) → slice_get types.sums number ≡ None → named_size types bound number ≡ 0
unfolding named_size
named_size-none types zero number none = refl
named_size-none types (suc bound) number none = elim (cases_eq number bound) [
  | inl same ↦ rw (eq-eqb number bound same, ← same, none) refl
  | inr other ↦ rw (ne_eqb number bound other) (named_size-none types bound number none)
]

pub ruleset size_steps = (common_steps, the_lemmas, named_size-none)
