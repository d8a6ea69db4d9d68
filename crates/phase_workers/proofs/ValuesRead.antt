-- Values that are read back from their words.
use Rattle.std.proofs.Common.{◌≡◌, ◌∙◌, ℕ, true, List, [], ◌∷◌, map, length, refl, ap, sym, append-nil}
use Rattle.std.specs.List.{list_all}
use Rattle.std.proofs.lemmas.Bool.{and_parts}
use Rattle.hume_base.specs.declared.types.Ty.{Ty}
use Rattle.hume_base.specs.declared.types.Types.{Types}
use Rattle.hume_base.specs.declared.types.Value.{Value}
use Rattle.hume_base.specs.Flat.{flat}
use Rattle.hume_base.specs.Sizes.{HaveTheirSizes}
use Rattle.hume_base.specs.Values.{is_value}
use Rattle.hume_model.specs.Reading.{HaveReadableSizes}
use Rattle.hume_model.specs.Readers.{read_with, read_named, value_from}
use Rattle.hume_model.proofs.FrontReading.{value_read}

module _ (types : Types) (sizes : HaveTheirSizes types) (readable : HaveReadableSizes types) (ty : Ty) where
  value_back : (v : Value) → is_value types ty v ≡ true → value_from types ty (flat types ty v) ≡ v
  value_back v is =
      let front : read_with (read_named types (length types.sums)) ty (flat types ty v) ≡ (v, []) =
      ap (read_with (read_named types (length types.sums)) ty) (sym (append-nil (flat types ty v))) ∙ value_read types sizes readable ty v is in
      ap (λ (p : Value × List ℕ). p.0) front

  pub values_back : (vs : List Value) → list_all (is_value types ty) vs ≡ true → map (value_from types ty) (map (flat types ty) vs) ≡ vs
  values_back [] is = refl
  values_back (v ∷ vs) is =
      let parts = and_parts (is_value types ty v) (list_all (is_value types ty) vs) is in
      ap (λ w. w ∷ map (value_from types ty) (map (flat types ty) vs)) (value_back v parts.0) ∙ ap (λ ws. v ∷ ws) (values_back vs parts.1)
