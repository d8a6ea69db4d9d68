-- What a fold makes of a moved type, where each level makes of the moved level what it makes of the level.
use Rattle.std.proofs.Common.{◌≡◌, ℕ, ◌+◌, nat_lt, Bool, true, List, [], ◌∷◌, length, map, refl, ap, sym, ◌∙◌, subst}
use Rattle.std.specs.Bool.{⊤}
use Rattle.std.specs.List.{list_all}
use Rattle.std.proofs.lemmas.Bool.{and_parts}
use Rattle.hume_base.specs.declared.types.Ty.{Ty, fold-Ty, roll-Ty, map-Ty, fold-roll-Ty, ind-Ty}
use Rattle.hume_base.specs.declared.types.Ty.TheOpen.{Ty-F}
use Rattle.hume_base.specs.declared.types.Types.{Types}
use Rattle.hume_base.specs.Holding.{holds_below, holds_step}
use Rattle.hume_model.specs.TypeLimits.{depth_step, is_type, type_depth, type_step}
use Rattle.union_laws.specs.declared.moves.Moves.{Moves}
use Rattle.union_laws.specs.Moving.{moved_type, moved_type_layer}

-- a data type has a number below the bound
abbrev pub IsKnownName : {X : Type 0} → ℕ → Ty-F X → Type 0
IsKnownName bound (Ty-F.Named number) = nat_lt number bound ≡ true
IsKnownName bound layer = ⊤

module _ (X : Type 0) (step other : Ty-F X → X) (moves : Moves) (bound : ℕ)
    (alike : (y : Ty-F X) → IsKnownName bound y → other (moved_type_layer moves y) ≡ step y) where
  abbrev of : Ty → X
  of = fold-Ty X step

  abbrev other_of : Ty → X
  other_of = fold-Ty X other

  abbrev Same : Ty → Type 0
  Same ty = holds_below bound ty ≡ true → other_of (moved_type moves ty) ≡ of ty

  abbrev Part : Type 0
  Part = (ty : Ty) × Same ty

  abbrev of_part : Part → Ty
  of_part p = p.0

  parts_same : (ps : List Part) → list_all (λ (part : Bool). part) (map (holds_below bound) (map of_part ps)) ≡ true
      → map other_of (map (moved_type moves) (map of_part ps)) ≡ map of (map of_part ps)
  parts_same [] known = refl
  parts_same (p ∷ ps) known =
      let both = and_parts (holds_below bound p.0) (list_all (λ (part : Bool). part) (map (holds_below bound) (map of_part ps))) known in
      λ i. p.1 both.0 i ∷ parts_same ps both.1 i

  abbrev layer : Ty-F Part → Ty-F Ty
  layer y = map-Ty Part Ty of_part y

  abbrev Known : Ty-F Part → Type 0
  Known y = holds_step bound (map-Ty Ty Bool (holds_below bound) (layer y)) ≡ true

  step_same : (y : Ty-F Part) → Known y
      → map-Ty Ty X other_of (moved_type_layer moves (map-Ty Ty Ty (moved_type moves) (layer y))) ≡ moved_type_layer moves (map-Ty Ty X of (layer y))
  step_same Ty-F.Bool known = refl
  step_same Ty-F.Char known = refl
  step_same (Ty-F.Int bits) known = refl
  step_same (Ty-F.Nat bits) known = refl
  step_same (Ty-F.Tuple ps) known = ap (λ xs. Ty-F.Tuple xs) (parts_same ps known)
  step_same (Ty-F.Vector count p) known = ap (λ x. Ty-F.Vector count x) (p.1 known)
  step_same (Ty-F.Named number) known = refl

  name_known : (y : Ty-F Part) → Known y → IsKnownName bound (map-Ty Ty X of (layer y))
  name_known Ty-F.Bool known = tt
  name_known Ty-F.Char known = tt
  name_known (Ty-F.Int bits) known = tt
  name_known (Ty-F.Nat bits) known = tt
  name_known (Ty-F.Tuple ps) known = tt
  name_known (Ty-F.Vector count p) known = tt
  name_known (Ty-F.Named number) known = known

  layer_same : (y : Ty-F Part) → Same (roll-Ty (layer y))
  layer_same y holds =
      let known : Known y = sym (fold-roll-Ty Bool (holds_step bound) (layer y)) ∙ holds in
      ap other_of (fold-roll-Ty Ty (λ x. roll-Ty (moved_type_layer moves x)) (layer y))
      ∙ fold-roll-Ty X other (moved_type_layer moves (map-Ty Ty Ty (moved_type moves) (layer y)))
      ∙ ap other (step_same y known)
      ∙ alike (map-Ty Ty X of (layer y)) (name_known y known)
      ∙ sym (fold-roll-Ty X step (layer y))

  pub type_folds : (ty : Ty) → Same ty
  type_folds = ind-Ty Same (λ x y is. subst (λ z. Same (roll-Ty z)) is (layer_same y))

-- a type holds only the data types that there are
module _ (types : Types) where
  abbrev count : ℕ
  count = length types.sums

  abbrev Holds : Ty → Type 0
  Holds ty = is_type types ty ≡ true → holds_below count ty ≡ true

  abbrev HoldsPart : Type 0
  HoldsPart = (ty : Ty) × Holds ty

  abbrev of_holds : HoldsPart → Ty
  of_holds p = p.0

  parts_hold : (ps : List HoldsPart) → list_all (λ (part : Bool). part) (map (is_type types) (map of_holds ps)) ≡ true
      → list_all (λ (part : Bool). part) (map (holds_below count) (map of_holds ps)) ≡ true
  parts_hold [] are = refl
  parts_hold (p ∷ ps) are =
      let both = and_parts (is_type types p.0) (list_all (λ (part : Bool). part) (map (is_type types) (map of_holds ps))) are in
      rw (p.1 both.0) (parts_hold ps both.1)

  layer_holds : (y : Ty-F HoldsPart) → type_step count (map-Ty Ty Bool (is_type types) (map-Ty HoldsPart Ty of_holds y)) ≡ true
      → holds_step count (map-Ty Ty Bool (holds_below count) (map-Ty HoldsPart Ty of_holds y)) ≡ true
  layer_holds Ty-F.Bool is = refl
  layer_holds Ty-F.Char is = refl
  layer_holds (Ty-F.Int bits) is = refl
  layer_holds (Ty-F.Nat bits) is = refl
  layer_holds (Ty-F.Tuple ps) is = parts_hold ps (and_parts _ (list_all (λ (part : Bool). part) (map (is_type types) (map of_holds ps))) is).1
  layer_holds (Ty-F.Vector n p) is = p.1 (and_parts _ (is_type types p.0) is).1
  layer_holds (Ty-F.Named number) is = is

  pub type_holds : (ty : Ty) → Holds ty
  type_holds = ind-Ty Holds (λ x y is. subst (λ z. Holds (roll-Ty z)) is (λ written.
      fold-roll-Ty Bool (holds_step count) (map-Ty HoldsPart Ty of_holds y)
      ∙ layer_holds y (sym (fold-roll-Ty Bool (type_step count) (map-Ty HoldsPart Ty of_holds y)) ∙ written)))

-- the depth, the names and the data types of a moved type
module _ (moves : Moves) (bound higher : ℕ) (within : (n : ℕ) → nat_lt n bound ≡ true → nat_lt (moves.types + n) higher ≡ true) where
  level_type : (y : Ty-F Bool) → IsKnownName bound y → type_step higher (moved_type_layer moves y) ≡ type_step bound y
  level_type Ty-F.Bool known = refl
  level_type Ty-F.Char known = refl
  level_type (Ty-F.Int bits) known = refl
  level_type (Ty-F.Nat bits) known = refl
  level_type (Ty-F.Tuple parts) known = refl
  level_type (Ty-F.Vector elements item) known = refl
  level_type (Ty-F.Named number) known = within number known ∙ sym known

  level_depth : (y : Ty-F ℕ) → IsKnownName bound y → depth_step (moved_type_layer moves y) ≡ depth_step y
  level_depth Ty-F.Bool known = refl
  level_depth Ty-F.Char known = refl
  level_depth (Ty-F.Int bits) known = refl
  level_depth (Ty-F.Nat bits) known = refl
  level_depth (Ty-F.Tuple parts) known = refl
  level_depth (Ty-F.Vector elements item) known = refl
  level_depth (Ty-F.Named number) known = refl

  level_holds : (y : Ty-F Bool) → IsKnownName bound y → holds_step higher (moved_type_layer moves y) ≡ holds_step bound y
  level_holds Ty-F.Bool known = refl
  level_holds Ty-F.Char known = refl
  level_holds (Ty-F.Int bits) known = refl
  level_holds (Ty-F.Nat bits) known = refl
  level_holds (Ty-F.Tuple parts) known = refl
  level_holds (Ty-F.Vector elements item) known = refl
  level_holds (Ty-F.Named number) known = within number known ∙ sym known

  pub same_type : (ty : Ty) → holds_below bound ty ≡ true → fold-Ty Bool (type_step higher) (moved_type moves ty) ≡ fold-Ty Bool (type_step bound) ty
  same_type = type_folds Bool (type_step bound) (type_step higher) moves bound level_type

  pub same_depth : (ty : Ty) → holds_below bound ty ≡ true → type_depth (moved_type moves ty) ≡ type_depth ty
  same_depth = type_folds ℕ depth_step depth_step moves bound level_depth

  pub moved_holds : (ty : Ty) → holds_below bound ty ≡ true → holds_below higher (moved_type moves ty) ≡ true
  moved_holds ty holds = type_folds Bool (holds_step bound) (holds_step higher) moves bound level_holds ty holds ∙ holds
