-- The words of outputs that are pending are those of the values that are.
use Rattle.std.proofs.Common.{◌≡◌, ℕ, zero, suc, true, List, [], ◌∷◌, length, Option, None, Some, slice_get, refl, ap, sym, ◌∙◌}
use Rattle.std.specs.Option.{option_and_then, option_map}
use Rattle.std.proofs.lemmas.Bool.{and_parts}
use Rattle.hume_base.specs.declared.types.Ty.{Ty}
use Rattle.hume_base.specs.declared.types.Types.{Types}
use Rattle.hume_base.specs.declared.types.Value.{Value}
use Rattle.hume_base.specs.Flat.{flat}
use Rattle.hume_base.specs.Sizes.{size_of}
use Rattle.hume_base.specs.Values.{is_value}
use Rattle.hume_base.proofs.FlatLengths.{flat_long}
use Rattle.hume_model.specs.declared.core_tree.BoxC.{BoxC}
use Rattle.hume_model.specs.declared.core_tree.Core.{Core}
use Rattle.hume_model.specs.BoxTyping.{port_types}
use Rattle.hume_model.specs.ResultTyping.{are_outputs}
use Rattle.hume_net.specs.declared.state.Part.{Part}
use Rattle.code_laws.specs.Ending.{flat_outputs}
use Rattle.match_rules.specs.Outputs.{AreWordsOfOutputs, value_at}
use Rattle.box_step.specs.Boxes.{IsBoxAt}
use Rattle.box_step.specs.Views.{CompiledView, pending_words}

abbrev words_at : List (Option (List ℕ)) → ℕ → Option (List ℕ)
words_at outputs i = option_and_then (λ words. words) (slice_get outputs i)

flat_at : (types : Types) (tys : List Ty) (values : List (Option Value)) (i : ℕ) (ty : Ty) → slice_get tys i ≡ Some ty
    → words_at (flat_outputs types tys values) i ≡ option_map (flat types ty) (value_at values i)
flat_at types [] values i ty there = cc
flat_at types (t ∷ tys) [] i ty there = refl
flat_at types (t ∷ tys) (v ∷ values) zero ty there =
    let same : t ≡ ty = cc in
    ap (λ t. option_map (flat types t) v) same
flat_at types (t ∷ tys) (v ∷ values) (suc i) ty there = flat_at types tys values i ty there

-- a value of a typed list is of the type at its place
value_typed : (types : Types) (tys : List Ty) (values : List (Option Value)) (i : ℕ) (ty : Ty) (v : Value) → are_outputs types tys values ≡ true
    → slice_get tys i ≡ Some ty → value_at values i ≡ Some v → is_value types ty v ≡ true
value_typed types [] values i ty v typed there is = cc
value_typed types (t ∷ tys) [] i ty v typed there is = cc
value_typed types (t ∷ tys) (None ∷ values) zero ty v typed there is = cc
value_typed types (t ∷ tys) (None ∷ values) (suc i) ty v typed there is = value_typed types tys values i ty v typed there is
value_typed types (t ∷ tys) (Some w ∷ values) zero ty v typed there is =
    let same : t ≡ ty = cc in
    let value : w ≡ v = cc in
    (λ i. is_value types (sym same i) (sym value i)) ∙ (and_parts (is_value types t w) (are_outputs types tys values) typed).0
value_typed types (t ∷ tys) (Some w ∷ values) (suc i) ty v typed there is =
    value_typed types tys values i ty v (and_parts (is_value types t w) (are_outputs types tys values) typed).1 there is

-- the words of a value are as many as its type's size
words_long : (types : Types) (ty : Ty) (value : Option Value) (words : List ℕ) → ((v : Value) → value ≡ Some v → is_value types ty v ≡ true)
    → option_map (flat types ty) value ≡ Some words → length words ≡ size_of types ty
words_long types ty None words typed is = cc
words_long types ty (Some v) words typed is =
    let same : flat types ty v ≡ words = cc in
    ap length (sym same) ∙ flat_long types ty v (typed v refl)

module _ {core : Core} {b : BoxC} {part : Part} {box : CompiledView} (at : IsBoxAt core b part box) where
  pub no_words : part.pending ≡ None → (i : ℕ) → pending_words box i ≡ None
  no_words none i =
      ap (option_and_then (λ outputs. words_at outputs i)) (at.pending ∙ ap (option_map (flat_outputs core.types (port_types b.outs))) none)

  module _ (values : List (Option Value)) (pending : part.pending ≡ Some values) where
    words_are : (i : ℕ) (ty : Ty) → slice_get (port_types b.outs) i ≡ Some ty → pending_words box i ≡ option_map (flat core.types ty) (value_at values i)
    words_are i ty there =
        ap (option_and_then (λ outputs. words_at outputs i)) (at.pending ∙ ap (option_map (flat_outputs core.types (port_types b.outs))) pending)
        ∙ flat_at core.types (port_types b.outs) values i ty there

    pub words_of_values : AreWordsOfOutputs core.types (port_types b.outs) values (pending_words box)
    words_of_values = record { each = words_are }

    pub size_of_words : are_outputs core.types (port_types b.outs) values ≡ true → (i : ℕ) (ty : Ty) (words : List ℕ)
        → slice_get (port_types b.outs) i ≡ Some ty → pending_words box i ≡ Some words → length words ≡ size_of core.types ty
    size_of_words typed i ty words there is =
        words_long core.types ty (value_at values i) words (λ v v_is. value_typed core.types (port_types b.outs) values i ty v typed there v_is)
        (sym (words_are i ty there) ∙ is)
