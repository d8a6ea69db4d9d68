-- What expressions give are numbers of their types.
use Rattle.std.proofs.Common.{◌≡◌, ◌≤◌, ℕ, Bool, true, false, not, ℤ, pos, neg_ℤ, List, [], ◌∷◌, map, Option, Some, None, if◌then◌else◌, refl, ap}
use Rattle.std.proofs.Common.{sym, ◌∙◌, subst, arith}
use Rattle.c_tree.specs.declared.tree.CExp.{CExp, roll-CExp, map-CExp, fold-roll-CExp, ind-CExp}
use Rattle.c_tree.specs.declared.tree.CExp.TheOpen.{CExp-F}
use Rattle.c_meaning.specs.Numbers.{NumberType, Signed, CNumber, and_then, holds, is_true, converted, promoted}
use Rattle.c_meaning.specs.Operators.{truth}
use Rattle.c_meaning.specs.Memories.{Place, Value, Numeric, Whole, Pointer, Named, Variable, Pointing, Constant, named, read_at, value_of, declares}
use Rattle.c_meaning.specs.Expressions.{Context, Meant, number_type, read_value, number_of, numeric, named_value}
use Rattle.c_meaning.specs.Expressions.{address, values_of, called, cast_number, all_of, any_of, one_cast}
use Rattle.c_meaning.specs.Expressions.{giving}
use Rattle.c_meaning.specs.Expressions.{standing, mean_expression, meant}
use Rattle.c_meaning.specs.Sound.{IsSoundValue, AreSoundValues, IsSoundMemory, IsSoundContext}
use Rattle.c_meaning.proofs.Options.{some_same, comes, if_first}
use Rattle.c_meaning.proofs.Ranges.{converted_is, held_number}
use Rattle.c_meaning.proofs.Operations.{truth_is, operated_is, negated_is, unsigned_held, signed_held}
use Rattle.c_meaning.proofs.SoundObjects.{read_sound, value_sound}

-- a number, if there is one, is one of its type
abbrev pub IsSoundNumber : Option CNumber → Type 0
IsSoundNumber o = (x : CNumber) → o ≡ Some x → holds x.ty x.number ≡ true

abbrev pub IsSoundOption : Option Value → Type 0
IsSoundOption o = (value : Value) → o ≡ Some value → IsSoundValue value

-- what an expression means is sound
pub record MeansSound (m : Meant) (context : Context) : Type 0 where
  pub value : IsSoundOption (m.value context)
  pub arguments : (name : List ℕ) (arguments : Context → Option (List Value)) (values : List Value) → m.call ≡ Some (name, arguments)
      → arguments context ≡ Some values → AreSoundValues values

-- ---- numbers

pub number_is : (o : Option Value) → IsSoundOption o → IsSoundNumber (number_of o)
number_is None sound x e = cc
number_is (Some (Numeric y)) sound x e = subst (λ (n : CNumber). holds n.ty n.number ≡ true) (some_same e) (sound (Numeric y) refl)
number_is (Some (Whole object)) sound x e = cc
number_is (Some (Pointer place)) sound x e = cc

some_sound : (x : CNumber) → holds x.ty x.number ≡ true → IsSoundNumber (Some x)
some_sound x sound y e = subst (λ (n : CNumber). holds n.ty n.number ≡ true) (some_same e) sound

none_sound : IsSoundNumber None
none_sound x e = cc

truth_sound : (int : ℕ) (b : Bool) → 16 ≤ int → IsSoundNumber (Some (truth int b))
truth_sound int b big = some_sound (truth int b) (held_number (truth_is int b big))

after_sound : {A : Type 0} (o : Option A) (next : A → Option CNumber) → ((x : A) → IsSoundNumber (next x)) → IsSoundNumber (and_then o next)
after_sound None next h x e = cc
after_sound (Some y) next h x e = h y x e

converted_sound : (ty : NumberType) (z : ℤ) → IsSoundNumber (converted ty z)
converted_sound ty z x e = held_number (converted_is ty z x e)

truth_chosen : (int : ℕ) (test : Bool) (x y : Option CNumber) → IsSoundNumber x → IsSoundNumber y → IsSoundNumber (if test then x else y)
truth_chosen int true x y p q = p
truth_chosen int false x y p q = q

numeric_sound : (o : Option CNumber) → IsSoundNumber o → IsSoundOption (numeric o)
numeric_sound None sound value e = cc
numeric_sound (Some x) sound value e = subst IsSoundValue (some_same e) (sound x refl)

giving_sound : (number : Context → Option CNumber) (context : Context) → IsSoundNumber (number context) → MeansSound (giving number) context
giving_sound number context sound = record { value = numeric_sound (number context) sound; arguments = λ name arguments values c e. cc }

-- ---- objects

pub read_value_sound : (context : Context) (place : Option Place) → IsSoundMemory context.memory → IsSoundOption (read_value context place)
read_value_sound context None sound value e = cc
read_value_sound context (Some place) sound value e =
    let it = comes (read_at context.memory place) value_of value e in
    value_sound it.value value (read_sound context.memory place it.value sound it.is) it.gives

standing_sound : (place : Context → Option Place) (context : Context) → IsSoundMemory context.memory → MeansSound (standing place) context
standing_sound place context sound =
    record { value = read_value_sound context (place context) sound; arguments = λ name arguments values c e. cc }

named_sound : (context : Context) (what : Option Named) → IsSoundMemory context.memory → IsSoundOption (named_value context what)
named_sound context None sound value e = cc
named_sound context (Some (Variable place)) sound value e = read_value_sound context (Some place) sound value e
named_sound context (Some (Pointing place)) sound value e = subst IsSoundValue (some_same e) tt
named_sound context (Some (Constant number)) sound value e =
    numeric_sound (converted (Signed context.int) number) (converted_sound (Signed context.int) number) value e

address_sound : (context : Context) (place : Option Place) → IsSoundOption (address context place)
address_sound context None value e = cc
address_sound context (Some place) value e = subst IsSoundValue (some_same (if_first (declares context.memory place) (Some (Pointer place)) value e)) tt

module _ (context : Context) (sound : IsSoundContext context) where
  abbrev pub Sound : CExp → Type 0
  Sound e = MeansSound (meant e) context

  abbrev pub Part : Type 0
  Part = (e : CExp) × Sound e

  abbrev of_part : Part → CExp
  of_part p = p.0

  values_sound : (ps : List Part) (values : List Value) → values_of (map meant (map of_part ps)) context ≡ Some values → AreSoundValues values
  values_sound [] values e = subst AreSoundValues (some_same e) tt
  values_sound (p ∷ ps) values e =
      let first = comes ((meant p.0).value context) (λ v. and_then (values_of (map meant (map of_part ps)) context) (λ others. Some (v ∷ others))) values e in
      let rest = comes (values_of (map meant (map of_part ps)) context) (λ others. Some (first.value ∷ others)) values first.gives in
      subst AreSoundValues (some_same rest.gives) (p.1.value first.value first.is, values_sound ps rest.value rest.is)

  called_sound : (name : List ℕ) (arguments : Option (List Value)) → ((values : List Value) → arguments ≡ Some values → AreSoundValues values)
      → IsSoundOption (called name context arguments)
  called_sound name None fine value e = cc
  called_sound name (Some values) fine value e =
      let function = comes (context.functions name) (λ f. and_then (f (Some context.memory.count) values context.memory) (λ ended. ended.value)) value e in
      let end = comes (function.value (Some context.memory.count) values context.memory) (λ ended. ended.value) value function.gives in
      let it = sound.functions name function.value function.is (Some context.memory.count) values context.memory end.value sound.memory (fine values refl)
      (λ since r. let same : context.memory.count ≡ since = some_same r in omega (arith, same)) end.is in
      it.value value end.gives

  part_number : (p : Part) → IsSoundNumber (number_of ((meant p.0).value context))
  part_number p = number_is ((meant p.0).value context) p.1.value

  all_sound : (ps : List Part) → IsSoundNumber (all_of (map meant (map of_part ps)) context)
  all_sound [] = truth_sound context.int true sound.int
  all_sound (p ∷ []) = part_number p
  all_sound (p ∷ (q ∷ ps)) =
      after_sound (number_of ((meant p.0).value context)) _ (λ x. truth_chosen context.int (is_true x.number) _ (Some (truth context.int false))
      (after_sound (all_of (map meant (map of_part (q ∷ ps))) context) _ (λ y. truth_sound context.int (is_true y.number) sound.int))
      (truth_sound context.int false sound.int))

  any_sound : (ps : List Part) → IsSoundNumber (any_of (map meant (map of_part ps)) context)
  any_sound [] = truth_sound context.int false sound.int
  any_sound (p ∷ []) = part_number p
  any_sound (p ∷ (q ∷ ps)) =
      after_sound (number_of ((meant p.0).value context)) _ (λ x. truth_chosen context.int (is_true x.number) (Some (truth context.int true)) _
      (truth_sound context.int true sound.int)
      (after_sound (any_of (map meant (map of_part (q ∷ ps))) context) _ (λ y. truth_sound context.int (is_true y.number) sound.int)))

  abbrev layer : CExp-F Part → CExp-F CExp
  layer y = map-CExp Part CExp of_part y

  step_sound : (y : CExp-F Part) → MeansSound (mean_expression (map-CExp CExp Meant meant (layer y))) context
  step_sound (CExp-F.Truth b) = giving_sound (λ c. Some (truth c.int b)) context (truth_sound context.int b sound.int)
  step_sound (CExp-F.Unsigned width amount) = giving_sound _ context (λ x e. held_number (unsigned_held context.int width amount x sound.int e))
  step_sound (CExp-F.Signed width negative amount) = giving_sound _ context
      (λ x e. held_number (signed_held context.int width (if negative then neg_ℤ (pos amount) else pos amount) x sound.int e))
  step_sound (CExp-F.Name name) =
      record { value = named_sound context (named name context.scope) sound.memory; arguments = λ n arguments values c e. cc }
  step_sound (CExp-F.Pointed name) = standing_sound _ context sound.memory
  step_sound (CExp-F.Member p name) = standing_sound _ context sound.memory
  step_sound (CExp-F.Element p q) = standing_sound _ context sound.memory
  step_sound (CExp-F.Call name ps) = record {
    value = called_sound name (values_of (map meant (map of_part ps)) context) (values_sound ps);
    arguments = λ n arguments values c e. values_sound ps values (ap (λ (f : Context → Option (List Value)). f context) (same c) ∙ e);
  } where
    same : {n m : List ℕ} {f g : Context → Option (List Value)}
        → ◌≡◌ {A = Option (List ℕ × (Context → Option (List Value)))} (Some (n, f)) (Some (m, g)) → f ≡ g
    same e = ap (λ (it : List ℕ × (Context → Option (List Value))). it.1) (some_same e)
  step_sound (CExp-F.Cast type p) = record {
    value = numeric_sound (cast_number context type (number_of ((meant p.0).value context)))
        (after_sound (number_type context.types type) _ (λ ty. after_sound (number_of ((meant p.0).value context)) _ (λ x. converted_sound ty x.number)));
    arguments = λ n arguments values c e. cc;
  }
  step_sound (CExp-F.Negate p) =
      giving_sound _ context (after_sound (number_of ((meant p.0).value context)) _ (λ x z e. held_number (negated_is context.int x z e)))
  step_sound (CExp-F.Not p) =
      giving_sound _ context (after_sound (number_of ((meant p.0).value context)) _ (λ x. truth_sound context.int (not (is_true x.number)) sound.int))
  step_sound (CExp-F.Address p) = record { value = address_sound context ((meant p.0).place context); arguments = λ n arguments values c e. cc }
  step_sound (CExp-F.Binary operator p q) =
      giving_sound _ context (after_sound (number_of ((meant p.0).value context)) _ (λ x. after_sound (number_of ((meant q.0).value context)) _
      (λ y z e. held_number (operated_is context.int operator x y z sound.int e))))
  step_sound (CExp-F.All ps) = giving_sound _ context (all_sound ps)
  step_sound (CExp-F.Any ps) = giving_sound _ context (any_sound ps)
  step_sound (CExp-F.Choice test p q) = giving_sound _ context (after_sound (number_of ((meant test.0).value context)) _
      (λ t. truth_chosen context.int (one_cast context (meant p.0).cast (meant q.0).cast) _ None
      (after_sound (number_of (if is_true t.number then (meant p.0).value context else (meant q.0).value context)) _
      (λ (x : CNumber). converted_sound (promoted context.int x.ty) x.number)) none_sound))

  layer_sound : (y : CExp-F Part) → Sound (roll-CExp (layer y))
  layer_sound y = subst (λ (m : Meant). MeansSound m context) (sym (fold-roll-CExp Meant mean_expression (layer y))) (step_sound y)

  -- each expression gives a number of its type, if it gives one
  pub meant_sound : (e : CExp) → Sound e
  meant_sound = ind-CExp Sound (λ x y is. subst (λ z. Sound (roll-CExp z)) is (layer_sound y))
