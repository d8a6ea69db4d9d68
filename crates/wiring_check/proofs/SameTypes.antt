-- Two types are the same, or they are not.
use Rattle.std.proofs.Common.{◌≡◌, ◌≢◌, ◌⊎◌, inl, inr, List, [], ◌∷◌, map, refl, sym, ap, ◌∙◌, subst}
use Rattle.std.proofs.lemmas.Bool.{cases_eq}
use Rattle.hume_base.specs.declared.types.Ty.{Ty, roll-Ty, out-Ty, map-Ty, ind-Ty, roll-out-Ty, out-roll-Ty}
use Rattle.hume_base.specs.declared.types.Ty.TheOpen.{Ty-F}

abbrev IsKnown : Ty → Type 0
IsKnown t = (u : Ty) → (t ≡ u) ⊎ (t ≢ u)

abbrev Part : Type 0
Part = (t : Ty) × IsKnown t

abbrev of_part : Part → Ty
of_part p = p.0

abbrev layer : Ty-F Part → Ty-F Ty
layer y = map-Ty Part Ty of_part y

parts_known : (ps : List Part) (us : List Ty) → (map of_part ps ≡ us) ⊎ (map of_part ps ≢ us)
parts_known [] [] = inl refl
parts_known [] (u ∷ us) = inr (λ e. cc)
parts_known (p ∷ ps) [] = inr (λ e. cc)
parts_known (p ∷ ps) (u ∷ us) = elim (p.1 u) [
  | inl same ↦ elim (parts_known ps us) [
    | inl all ↦ inl (λ i. same i ∷ all i)
    | inr other ↦ inr (λ e. other (let h : map of_part ps ≡ us = cc in h))
  ]
  | inr other ↦ inr (λ e. other (let h : p.0 ≡ u = cc in h))
]

layer_known : (y : Ty-F Part) (z : Ty-F Ty) → (layer y ≡ z) ⊎ (layer y ≢ z)
layer_known Ty-F.Bool Ty-F.Bool = inl refl
layer_known Ty-F.Bool Ty-F.Char = inr (λ e. cc)
layer_known Ty-F.Bool (Ty-F.Int bits2) = inr (λ e. cc)
layer_known Ty-F.Bool (Ty-F.Nat bits2) = inr (λ e. cc)
layer_known Ty-F.Bool (Ty-F.Tuple parts2) = inr (λ e. cc)
layer_known Ty-F.Bool (Ty-F.Vector count2 item2) = inr (λ e. cc)
layer_known Ty-F.Bool (Ty-F.Named number2) = inr (λ e. cc)
layer_known Ty-F.Char Ty-F.Bool = inr (λ e. cc)
layer_known Ty-F.Char Ty-F.Char = inl refl
layer_known Ty-F.Char (Ty-F.Int bits2) = inr (λ e. cc)
layer_known Ty-F.Char (Ty-F.Nat bits2) = inr (λ e. cc)
layer_known Ty-F.Char (Ty-F.Tuple parts2) = inr (λ e. cc)
layer_known Ty-F.Char (Ty-F.Vector count2 item2) = inr (λ e. cc)
layer_known Ty-F.Char (Ty-F.Named number2) = inr (λ e. cc)
layer_known (Ty-F.Int bits) Ty-F.Bool = inr (λ e. cc)
layer_known (Ty-F.Int bits) Ty-F.Char = inr (λ e. cc)
layer_known (Ty-F.Int bits) (Ty-F.Int bits2) = elim (cases_eq bits bits2) [ inl same ↦ inl (ap Ty-F.Int same) | inr other ↦ inr (λ e. other (let h : bits ≡ bits2 = cc in h)) ]
layer_known (Ty-F.Int bits) (Ty-F.Nat bits2) = inr (λ e. cc)
layer_known (Ty-F.Int bits) (Ty-F.Tuple parts2) = inr (λ e. cc)
layer_known (Ty-F.Int bits) (Ty-F.Vector count2 item2) = inr (λ e. cc)
layer_known (Ty-F.Int bits) (Ty-F.Named number2) = inr (λ e. cc)
layer_known (Ty-F.Nat bits) Ty-F.Bool = inr (λ e. cc)
layer_known (Ty-F.Nat bits) Ty-F.Char = inr (λ e. cc)
layer_known (Ty-F.Nat bits) (Ty-F.Int bits2) = inr (λ e. cc)
layer_known (Ty-F.Nat bits) (Ty-F.Nat bits2) = elim (cases_eq bits bits2) [ inl same ↦ inl (ap Ty-F.Nat same) | inr other ↦ inr (λ e. other (let h : bits ≡ bits2 = cc in h)) ]
layer_known (Ty-F.Nat bits) (Ty-F.Tuple parts2) = inr (λ e. cc)
layer_known (Ty-F.Nat bits) (Ty-F.Vector count2 item2) = inr (λ e. cc)
layer_known (Ty-F.Nat bits) (Ty-F.Named number2) = inr (λ e. cc)
layer_known (Ty-F.Tuple parts) Ty-F.Bool = inr (λ e. cc)
layer_known (Ty-F.Tuple parts) Ty-F.Char = inr (λ e. cc)
layer_known (Ty-F.Tuple parts) (Ty-F.Int bits2) = inr (λ e. cc)
layer_known (Ty-F.Tuple parts) (Ty-F.Nat bits2) = inr (λ e. cc)
layer_known (Ty-F.Tuple parts) (Ty-F.Tuple parts2) = elim (parts_known parts parts2) [ inl same ↦ inl (ap Ty-F.Tuple same) | inr other ↦ inr (λ e. other (let h : map of_part parts ≡ parts2 = cc in h)) ]
layer_known (Ty-F.Tuple parts) (Ty-F.Vector count2 item2) = inr (λ e. cc)
layer_known (Ty-F.Tuple parts) (Ty-F.Named number2) = inr (λ e. cc)
layer_known (Ty-F.Vector count item) Ty-F.Bool = inr (λ e. cc)
layer_known (Ty-F.Vector count item) Ty-F.Char = inr (λ e. cc)
layer_known (Ty-F.Vector count item) (Ty-F.Int bits2) = inr (λ e. cc)
layer_known (Ty-F.Vector count item) (Ty-F.Nat bits2) = inr (λ e. cc)
layer_known (Ty-F.Vector count item) (Ty-F.Tuple parts2) = inr (λ e. cc)
layer_known (Ty-F.Vector count item) (Ty-F.Vector count2 item2) = elim (cases_eq count count2) [
  | inl same ↦ elim (item.1 item2) [
    | inl is ↦ inl (λ i. Ty-F.Vector (same i) (is i))
    | inr other ↦ inr (λ e. other (let h : item.0 ≡ item2 = cc in h))
  ]
  | inr other ↦ inr (λ e. other (let h : count ≡ count2 = cc in h))
]
layer_known (Ty-F.Vector count item) (Ty-F.Named number2) = inr (λ e. cc)
layer_known (Ty-F.Named number) Ty-F.Bool = inr (λ e. cc)
layer_known (Ty-F.Named number) Ty-F.Char = inr (λ e. cc)
layer_known (Ty-F.Named number) (Ty-F.Int bits2) = inr (λ e. cc)
layer_known (Ty-F.Named number) (Ty-F.Nat bits2) = inr (λ e. cc)
layer_known (Ty-F.Named number) (Ty-F.Tuple parts2) = inr (λ e. cc)
layer_known (Ty-F.Named number) (Ty-F.Vector count2 item2) = inr (λ e. cc)
layer_known (Ty-F.Named number) (Ty-F.Named number2) = elim (cases_eq number number2) [ inl same ↦ inl (ap Ty-F.Named same) | inr other ↦ inr (λ e. other (let h : number ≡ number2 = cc in h)) ]

rolled_known : (y : Ty-F Part) → IsKnown (roll-Ty (layer y))
rolled_known y u = elim (layer_known y (out-Ty u)) [
  | inl same ↦ inl (ap roll-Ty same ∙ roll-out-Ty u)
  | inr other ↦ inr (λ e. other (sym (out-roll-Ty (layer y)) ∙ ap out-Ty e))
]

pub type_known : (t : Ty) → IsKnown t
type_known = ind-Ty IsKnown (λ x y is. subst (λ z. IsKnown (roll-Ty z)) is (rolled_known y))
