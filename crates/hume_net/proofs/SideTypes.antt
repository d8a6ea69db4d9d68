-- What the types of a box's inputs and outputs say of the values at their places.
use Rattle.std.proofs.Common.{◌≡◌, ℕ, zero, suc, ◌<◌, true, List, [], ◌∷◌, ◌++◌, map, length, Option, Some, None, slice_get, refl, ap, ◌∙◌, subst, arith}
use Rattle.std.proofs.lemmas.Bool.{and_parts}
use Rattle.std.proofs.lemmas.List.Folds.{list_all-append}
use Rattle.std.specs.List.{list_all}
use Rattle.std.specs.Option.{option_to_list}
use Rattle.hume_base.specs.declared.types.Ty.{Ty}
use Rattle.hume_base.specs.declared.types.Types.{Types}
use Rattle.hume_base.specs.declared.types.Value.{Value}
use Rattle.hume_base.specs.Values.{is_value}
use Rattle.hume_model.specs.declared.core_tree.PortC.{PortC}
use Rattle.hume_model.specs.ResultTyping.{are_outputs}
use Rattle.hume_model.specs.BoxTyping.{port_types}
use Rattle.hume_model.proofs.PatternTypes.{both_true}
use Rattle.hume_net.specs.HalfSteps.{oldest, without_oldest}
use Rattle.hume_net.proofs.SideSteps.{on_side, value_at}

pub outputs_at : (types : Types) (ts : List Ty) (outs : List (Option Value)) (i : ℕ) (t : Ty) (v : Value) → are_outputs types ts outs ≡ true
    → slice_get ts i ≡ Some t → value_at outs i ≡ Some v → is_value types t v ≡ true
outputs_at types ts [] i t v are found here = cc
outputs_at types [] (o ∷ outs) i t v are found here = cc
outputs_at types (u ∷ ts) (None ∷ outs) zero t v are found here = cc
outputs_at types (u ∷ ts) (None ∷ outs) (suc i) t v are found here = outputs_at types ts outs i t v are found here
outputs_at types (u ∷ ts) (Some x ∷ outs) zero t v are found here =
    let same_ty : u ≡ t = cc in
    let same : x ≡ v = cc in
    subst (λ y. is_value types t y ≡ true) same (subst (λ s. is_value types s x ≡ true) same_ty (and_parts _ _ are).0)
outputs_at types (u ∷ ts) (Some x ∷ outs) (suc i) t v are found here = outputs_at types ts outs i t v (and_parts _ _ are).1 found here

pub outputs_from : (types : Types) (ts : List Ty) (outs : List (Option Value))
    → ((i : ℕ) (t : Ty) (v : Value) → slice_get ts i ≡ Some t → value_at outs i ≡ Some v → is_value types t v ≡ true)
    → are_outputs types ts outs ≡ true
outputs_from types ts [] each = refl
outputs_from types [] (o ∷ outs) each = refl
outputs_from types (t ∷ ts) (None ∷ outs) each = outputs_from types ts outs (λ i. each (suc i))
outputs_from types (t ∷ ts) (Some v ∷ outs) each = both_true _ _ (each zero t v refl refl) (outputs_from types ts outs (λ i. each (suc i)))

pub input_at : (ports : List PortC) (i : ℕ) (t : Ty) → slice_get (port_types ports) i ≡ Some t → (port : PortC) × (slice_get ports i ≡ Some port) × (port.ty ≡ t)
input_at [] i t found = cc
input_at (port ∷ ports) zero t found = (port, refl, (let same : port.ty ≡ t = cc in same))
input_at (port ∷ ports) (suc i) t found = input_at ports i t found

pub type_at : (ports : List PortC) (i : ℕ) (port : PortC) → slice_get ports i ≡ Some port → slice_get (port_types ports) i ≡ Some port.ty
type_at [] i port found = cc
type_at (p ∷ ports) zero port found = let same : p ≡ port = cc in ap (λ (q : PortC). Some q.ty) same
type_at (p ∷ ports) (suc i) port found = type_at ports i port found

pub some_output : (ports : List PortC) (i : ℕ) → i < length ports → (port : PortC) × (slice_get ports i ≡ Some port)
some_output [] i within = absurd (omega arith)
some_output (port ∷ ports) zero within = (port, refl)
some_output (port ∷ ports) (suc i) within = some_output ports i (omega arith)

module _ (types : Types) (t : Ty) where
  -- all values are of the type
  abbrev pub AllAre : List Value → Type 0
  AllAre values = list_all (is_value types t) values ≡ true

  pub appended : (values more : List Value) → AllAre values → AllAre more → AllAre (values ++ more)
  appended values more all and = list_all-append (is_value types t) values more ∙ both_true _ _ all and

  pub one_is : (v : Value) → is_value types t v ≡ true → AllAre (v ∷ [])
  one_is v is = both_true _ _ is refl

  pub later_are : (values : List Value) → AllAre values → AllAre (without_oldest values)
  later_are [] all = all
  later_are (v ∷ later) all = (and_parts _ _ all).1

  pub oldest_is : (values : List Value) (v : Value) → AllAre values → oldest values ≡ Some v → is_value types t v ≡ true
  oldest_is [] v all h = cc
  oldest_is (x ∷ later) v all h = let same : x ≡ v = cc in subst (λ y. is_value types t y ≡ true) same (and_parts _ _ all).0

  pub oldest_are : (values : List Value) → AllAre values → AllAre (option_to_list (oldest values))
  oldest_are [] all = refl
  oldest_are (x ∷ later) all = one_is x (and_parts _ _ all).0

  -- what is seen at a place of a side
  pub seen_is : (side : List (List Value)) (i : ℕ) (v : Value) → AllAre (on_side side i) → value_at (map oldest side) i ≡ Some v → is_value types t v ≡ true
  seen_is [] i v all h = cc
  seen_is (wire ∷ side) zero v all h = oldest_is wire v all h
  seen_is (wire ∷ side) (suc i) v all h = seen_is side i v all h
