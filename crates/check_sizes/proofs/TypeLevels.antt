-- The words of one level of a type that is written.
use Rattle.std.proofs.Common.{◌≡◌, ℕ, zero, suc, ◌+◌, ◌*◌, List, ◌∷◌, map, sum, Option, Some, None, option_map, refl, ap, sym, ◌∙◌, arith, Bool, true, false}
use Rattle.std.proofs.lemmas.List.Sums.{sum-map, sum_by-cons}
use Rattle.std.proofs.Math.Nat.{zero-mul, suc-mul}
use Rattle.hume_base.specs.declared.types.Ty.{Ty, Int, Nat, Vector, Named, Tuple, fold-roll-Ty}
use Rattle.hume_base.specs.declared.types.Ty.TheOpen.{Ty-F}
use Rattle.hume_base.specs.declared.types.Ty.TheVariants.{rolls-Int, rolls-Nat, rolls-Vector, rolls-Named, rolls-Tuple}
use Rattle.hume_base.specs.declared.types.SumDef.{SumDef}
use Rattle.hume_base.specs.Sizes.{size_step, size_with, sizes_with}
use Rattle.check_typing.specs.Partial.{given, when}
use Rattle.check_sizes.specs.inner.Capped.{capped, named_in, words_by}
use Rattle.check_sizes.specs.inner.Large.{rest_words, rest_after}

pub sum_more : {A : Type 0} (f : A → ℕ) (x : A) (xs : List A) → sum (map f (x ∷ xs)) ≡ f x + sum (map f xs)
sum_more f x xs = sum-map f (x ∷ xs) ∙ sum_by-cons f x xs ∙ ap (λ n. f x + n) (sym (sum-map f xs))

pub sum_same : (a b x y : ℕ) → capped a ≡ capped b → capped x ≡ capped y → capped (a + x) ≡ capped (b + y)
sum_same a b x y e f = omega arith

-- a product of sizes that are the same up to the limit is the same up to it
pub product_same : (count a b : ℕ) → capped a ≡ capped b → capped (count * a) ≡ capped (count * b)
product_same zero a b e = ap capped (zero-mul a ∙ sym (zero-mul b))
product_same (suc n) a b e = ap capped (suc-mul n a) ∙ sum_same (n * a) (n * b) a b (product_same n a b e) e ∙ ap capped (sym (suc-mul n b))

pub twice_capped : (a : ℕ) → capped a ≡ capped (capped a)
twice_capped a = omega arith

pub product_capped : (count a : ℕ) → capped (count * a) ≡ capped (count * capped a)
product_capped count a = product_same count a (capped a) (twice_capped a)

module _ (sizes : List ℕ) where
  abbrev named : ℕ → ℕ
  named = named_in sizes

  size_int : (bits : ℕ) → size_with named (Int bits) ≡ 1
  size_int bits = ap (size_with named) (sym (rolls-Int bits)) ∙ fold-roll-Ty ℕ (size_step named) (Ty-F.Int bits)

  size_nat : (bits : ℕ) → size_with named (Nat bits) ≡ 1
  size_nat bits = ap (size_with named) (sym (rolls-Nat bits)) ∙ fold-roll-Ty ℕ (size_step named) (Ty-F.Nat bits)

  size_vector : (count : ℕ) (item : Ty) → size_with named (Vector count item) ≡ count * size_with named item
  size_vector count item = ap (size_with named) (sym (rolls-Vector count item)) ∙ fold-roll-Ty ℕ (size_step named) (Ty-F.Vector count item)

  pub size_named : (number : ℕ) → size_with named (Named number) ≡ named number
  size_named number = ap (size_with named) (sym (rolls-Named number)) ∙ fold-roll-Ty ℕ (size_step named) (Ty-F.Named number)

  size_tuple : (tys : List Ty) → size_with named (Tuple tys) ≡ sizes_with named tys
  size_tuple tys = ap (size_with named) (sym (rolls-Tuple tys)) ∙ fold-roll-Ty ℕ (size_step named) (Ty-F.Tuple tys)

  pub int_words : (bits : ℕ) (b : Bool) → option_map (words_by sizes) (when b (Some (Int bits))) ≡ when b (Some 1)
  int_words bits true = ap (λ n. Some (capped n)) (size_int bits)
  int_words bits false = refl

  pub nat_words : (bits : ℕ) (b : Bool) → option_map (words_by sizes) (when b (Some (Nat bits))) ≡ when b (Some 1)
  nat_words bits true = ap (λ n. Some (capped n)) (size_nat bits)
  nat_words bits false = refl

  pub vector_words : (count : ℕ) (b : Bool) (item : Option Ty)
      → option_map (words_by sizes) (when b (given item (λ ty. Some (Vector count ty))))
      ≡ when b (given (option_map (words_by sizes) item) (λ words. Some (capped (count * words))))
  vector_words count false item = refl
  vector_words count true None = refl
  vector_words count true (Some ty) = ap (λ n. Some (capped n)) (size_vector count ty) ∙ ap Some (product_capped count (size_with named ty))

  pub named_words : (o : Option (ℕ × SumDef))
      → option_map (words_by sizes) (given o (λ found. Some (Named found.0)))
      ≡ given (option_map (λ (found : ℕ × SumDef). found.0) o) (λ n. Some (capped (named_in sizes n)))
  named_words None = refl
  named_words (Some found) = ap (λ n. Some (capped n)) (size_named found.0)

  pub tuple_words : (o : Option (List Ty)) → rest_words sizes 0 o ≡ option_map (words_by sizes) (given o (λ tys. Some (Tuple tys)))
  tuple_words None = refl
  tuple_words (Some tys) = ap (λ n. Some (capped n)) ((let e : 0 + sizes_with named tys ≡ sizes_with named tys = omega arith in e) ∙ sym (size_tuple tys))

  pub rest_more : (total : ℕ) (o : Option Ty) (os : Option (List Ty))
      → rest_words sizes total (given o (λ first. given os (λ others. Some (first ∷ others)))) ≡ rest_after sizes total (option_map (words_by sizes) o) os
  rest_more total None os = refl
  rest_more total (Some ty) None = refl
  rest_more total (Some ty) (Some tys) = let more = sum_more (size_with named) ty tys in ap Some (omega arith)

  pub number_named : (o : Option (ℕ × SumDef))
      → given (option_map (λ (found : ℕ × SumDef). found.0) o) (λ n. Some (capped (named_in sizes n))) ≡ given o (λ found. Some (capped (named_in sizes found.0)))
  number_named None = refl
  number_named (Some found) = refl
