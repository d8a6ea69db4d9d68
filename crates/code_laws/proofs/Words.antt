-- Operations are on words and give words.
use Rattle.std.proofs.Common.{◌≡◌, ℕ, ◌==◌, Bool, true, false, if◌then◌else◌, List, [], ◌∷◌, map, length, None, refl, ap, sym, ◌∙◌, subst}
use Rattle.std.proofs.lemmas.Bool.{and_parts}
use Rattle.std.specs.List.{list_all}
use Rattle.hume_base.specs.declared.types.Ty.{Ty, roll-Ty, map-Ty, out-Ty, out-roll-Ty, roll-out-Ty, fold-roll-Ty}
use Rattle.hume_base.specs.declared.types.Ty.TheOpen.{Ty-F}
use Rattle.hume_base.specs.declared.types.Ty.TheVariants as shape
use Rattle.hume_base.specs.declared.types.Types.{Types}
use Rattle.hume_base.specs.declared.types.Value.{Value, out-Value, roll-Value, roll-out-Value}
use Rattle.hume_base.specs.declared.types.Value.TheOpen.{Value-F}
use Rattle.hume_base.specs.declared.types.Value.TheVariants as value
use Rattle.hume_base.specs.Flat.{word_in, word_of_value}
use Rattle.hume_base.specs.Values.{is_value, value_step, is_named_value, is_word_of}
use Rattle.hume_model.specs.declared.core_tree.Op.{Op}
use Rattle.hume_model.specs.declared.core_tree.Op.TheVariants as op
use Rattle.hume_model.specs.declared.outcome.Outcome.{Outcome}
use Rattle.hume_model.specs.declared.outcome.Outcome.TheVariants.{Gives, Raises}
use Rattle.hume_model.specs.Operations.{prim, binary, unary}
use Rattle.hume_model.specs.Typing.{AreOf, is_number_type, is_number_layer, is_ordered_layer, is_scalar_layer, is_comparison}
use Rattle.box_heap.specs.Heaps.{Object}
use Rattle.box_heap.specs.Standing.{AllStand}
use Rattle.code_laws.proofs.Heaps.{word_stands}

-- a word, or an exception that carries nothing
abbrev pub IsWordOutcome : Outcome → Type 0
IsWordOutcome (Gives v) = (u : ℕ) × (v ≡ value.Word u)
IsWordOutcome (Raises exn carried) = carried ≡ None

pick : (b : Bool) (x y : Outcome) → IsWordOutcome x → IsWordOutcome y → IsWordOutcome (if b then x else y)
pick true x y p q = p
pick false x y p q = q

binary_word : (o : Op) (l : Ty-F Ty) (a b : ℕ) → IsWordOutcome (binary o l a b)
binary_word op.Add l a b = (_, refl)
binary_word op.Sub l a b = (_, refl)
binary_word op.Mul l a b = (_, refl)
binary_word op.Div l a b = pick (b == 0) _ _ refl (_, refl)
binary_word op.Mod l a b = pick (b == 0) _ _ refl (_, refl)
binary_word op.Eq l a b = (_, refl)
binary_word op.Ne l a b = (_, refl)
binary_word op.Lt l a b = (_, refl)
binary_word op.Le l a b = (_, refl)
binary_word op.Gt l a b = (_, refl)
binary_word op.Ge l a b = (_, refl)
binary_word op.Neg l a b = (_, refl)
binary_word op.Not l a b = (_, refl)
binary_word op.Convert l a b = (_, refl)

unary_word : (o : Op) (l : Ty-F Ty) (a : ℕ) → IsWordOutcome (unary o l a)
unary_word op.Neg l a = (_, refl)
unary_word op.Not l a = (_, refl)
unary_word op.Convert l a = (_, refl)
unary_word _ l a = (_, refl)

pub prim_word : (o : Op) (t : Ty) (vs : List Value) → IsWordOutcome (prim o t vs)
prim_word o t [] = (_, refl)
prim_word o t (v ∷ []) = unary_word o (out-Ty t) (word_of_value v)
prim_word o t (v ∷ w ∷ []) = binary_word o (out-Ty t) (word_of_value v) (word_of_value w)
prim_word o t (v ∷ w ∷ u ∷ vs) = (_, refl)

in_word : (test : ℕ → Bool) (l : Value-F Value) → is_word_of test l ≡ true → l ≡ Value-F.Word (word_in l)
in_word test (Value-F.Word w) is = refl
in_word test (Value-F.Tuple vs) is = cc
in_word test (Value-F.Vector vs) is = cc
in_word test (Value-F.Con c vs) is = cc

module _ (types : Types) (v : Value) where
  abbrev is_rolled : Ty-F Ty → Bool
  is_rolled x = is_value types (roll-Ty x) v

  one_level : (x : Ty-F Ty) → is_rolled x ≡ value_step (is_named_value types (length types.sums)) (map-Ty Ty (Value → Bool) (is_value types) x) v
  one_level x = ap (λ (t : Value → Bool). t v) (fold-roll-Ty (Value → Bool) (value_step (is_named_value types (length types.sums))) x)

  rolled_word : (x : Ty-F Ty) → is_scalar_layer x ≡ true → is_rolled x ≡ true → out-Value v ≡ Value-F.Word (word_of_value v)
  rolled_word Ty-F.Bool s is = in_word _ (out-Value v) (sym (one_level Ty-F.Bool) ∙ is)
  rolled_word Ty-F.Char s is = in_word _ (out-Value v) (sym (one_level Ty-F.Char) ∙ is)
  rolled_word (Ty-F.Int bits) s is = in_word _ (out-Value v) (sym (one_level (Ty-F.Int bits)) ∙ is)
  rolled_word (Ty-F.Nat bits) s is = in_word _ (out-Value v) (sym (one_level (Ty-F.Nat bits)) ∙ is)
  rolled_word (Ty-F.Tuple ts) s is = cc
  rolled_word (Ty-F.Vector count item) s is = cc
  rolled_word (Ty-F.Named number) s is = cc

-- a value of a type of words is its word
pub scalar_word : (types : Types) (t : Ty) (v : Value) → is_scalar_layer (out-Ty t) ≡ true → is_value types t v ≡ true → out-Value v ≡ Value-F.Word (word_of_value v)
scalar_word types t v s is = rolled_word types v (out-Ty t) s (subst (λ u. is_value types u v ≡ true) (sym (roll-out-Ty t)) is)

pub word_is : (v : Value) (u : ℕ) → out-Value v ≡ Value-F.Word u → value.Word u ≡ v
word_is v u e = sym (value.rolls-Word u) ∙ ap roll-Value (sym e) ∙ roll-out-Value v

abbrev pub AreScalars : List Ty → Type 0
AreScalars ts = list_all (λ t. is_scalar_layer (out-Ty t)) ts ≡ true

pub words_are : (types : Types) (ts : List Ty) (vs : List Value) (ws : List ℕ) (heap : List Object) → AreScalars ts → AreOf types ts vs → AllStand heap vs ws → map (λ (w : ℕ). value.Word w) ws ≡ vs
words_are types [] [] [] heap s is AllStand.none = refl
words_are types [] (v ∷ vs) ws heap s is stand = cc
words_are types (t ∷ ts) [] ws heap s is stand = cc
words_are types (t ∷ ts) (v ∷ vs) (w ∷ ws) heap s is (AllStand.more first rest) =
    let ss = and_parts _ _ s in
    let ps = and_parts _ _ is in
    let e = scalar_word types t v ss.0 ps.0 in
    let same : w ≡ word_of_value v = word_stands first (word_of_value v) e in
    let one : value.Word w ≡ v = ap value.Word same ∙ word_is v (word_of_value v) e in
    (λ i. one i ∷ words_are types ts vs ws heap ss.1 ps.1 rest i)
words_are types (t ∷ ts) (v ∷ vs) [] heap s is x = elim x [ ]
words_are types [] [] (w ∷ ws) heap s is x = elim x [ ]

number_scalar_layer : (l : Ty-F Ty) → is_number_layer l ≡ true → is_scalar_layer l ≡ true
number_scalar_layer Ty-F.Bool h = cc
number_scalar_layer Ty-F.Char h = cc
number_scalar_layer (Ty-F.Int bits) h = h
number_scalar_layer (Ty-F.Nat bits) h = h
number_scalar_layer (Ty-F.Tuple ts) h = cc
number_scalar_layer (Ty-F.Vector count item) h = cc
number_scalar_layer (Ty-F.Named number) h = cc

pub number_scalar : (t : Ty) → is_number_type t ≡ true → is_scalar_layer (out-Ty t) ≡ true
number_scalar t h = number_scalar_layer (out-Ty t) h

ordered_scalar : (l : Ty-F Ty) → is_ordered_layer l ≡ true → is_scalar_layer l ≡ true
ordered_scalar Ty-F.Bool h = cc
ordered_scalar Ty-F.Char h = refl
ordered_scalar (Ty-F.Int bits) h = h
ordered_scalar (Ty-F.Nat bits) h = h
ordered_scalar (Ty-F.Tuple ts) h = cc
ordered_scalar (Ty-F.Vector count item) h = cc
ordered_scalar (Ty-F.Named number) h = cc

pub compared_scalar : (o : Op) (t : Ty) → is_comparison o t ≡ true → is_scalar_layer (out-Ty t) ≡ true
compared_scalar op.Eq t h = h
compared_scalar op.Ne t h = h
compared_scalar op.Lt t h = ordered_scalar (out-Ty t) h
compared_scalar op.Le t h = ordered_scalar (out-Ty t) h
compared_scalar op.Gt t h = ordered_scalar (out-Ty t) h
compared_scalar op.Ge t h = ordered_scalar (out-Ty t) h
compared_scalar op.Add t h = cc
compared_scalar op.Sub t h = cc
compared_scalar op.Mul t h = cc
compared_scalar op.Div t h = cc
compared_scalar op.Mod t h = cc
compared_scalar op.Neg t h = cc
compared_scalar op.Not t h = cc
compared_scalar op.Convert t h = cc

pub bool_scalar : is_scalar_layer (out-Ty shape.Bool) ≡ true
bool_scalar = ap (λ t. is_scalar_layer (out-Ty t)) (sym shape.rolls-Bool) ∙ ap is_scalar_layer (out-roll-Ty Ty-F.Bool)

pub two_scalars : (t : Ty) → is_scalar_layer (out-Ty t) ≡ true → AreScalars (t ∷ t ∷ [])
two_scalars t h = rw h refl

pub one_scalar : (t : Ty) → is_scalar_layer (out-Ty t) ≡ true → AreScalars (t ∷ [])
one_scalar t h = rw h refl
