-- Sizes by the table of data types are the sizes of types, up to the limit.
use Rattle.std.proofs.Common.{◌≡◌, ℕ, zero, suc, ◌+◌, max, List, [], ◌∷◌, ◌++◌, map, sum, length, Some, slice_get, refl, ap, sym, subst, ◌∙◌, arith, inl, inr, if◌then◌else◌}
use Rattle.std.proofs.lemmas.Bool.{cases_eq, eq-eqb, ne_eqb}
use Rattle.std.proofs.lemmas.List.{length-append}
use Rattle.hume_base.specs.declared.types.Ty.{Ty, roll-Ty, map-Ty, fold-roll-Ty, ind-Ty}
use Rattle.hume_base.specs.declared.types.Ty.TheOpen.{Ty-F}
use Rattle.hume_base.specs.declared.types.Types.{Types}
use Rattle.hume_base.specs.declared.types.ConDef.{ConDef}
use Rattle.hume_base.specs.declared.types.SumDef.{SumDef}
use Rattle.hume_base.specs.Sizes.{size_step, size_with, sizes_with, greatest, size_of_sum, named_size, size_of}
use Rattle.check_sizes.specs.inner.Capped.{capped, or_none, named_in, words_by, data_words, with_sizes, sizes_of}
use Rattle.check_sizes.proofs.TypeLevels.{sum_more, sum_same, product_same, twice_capped}

module _ (f g : ℕ → ℕ) (same : (number : ℕ) → capped (f number) ≡ capped (g number)) where
  abbrev Same : Ty → Type 0
  Same ty = capped (size_with f ty) ≡ capped (size_with g ty)

  abbrev Known : Type 0
  Known = (ty : Ty) × Same ty

  abbrev alone : Known → Ty
  alone known = known.0

  abbrev layer : Ty-F Known → Ty-F Ty
  layer y = map-Ty Known Ty alone y

  parts_same : (ks : List Known) → capped (sum (map (size_with f) (map alone ks))) ≡ capped (sum (map (size_with g) (map alone ks)))
  parts_same [] = refl
  parts_same (k ∷ ks) =
      ap capped (sum_more (size_with f) k.0 (map alone ks)) ∙ sum_same _ _ _ _ k.1 (parts_same ks) ∙ ap capped (sym (sum_more (size_with g) k.0 (map alone ks)))

  step_same : (y : Ty-F Known) → capped (size_step f (map-Ty Ty ℕ (size_with f) (layer y))) ≡ capped (size_step g (map-Ty Ty ℕ (size_with g) (layer y)))
  step_same Ty-F.Bool = refl
  step_same Ty-F.Char = refl
  step_same (Ty-F.Int bits) = refl
  step_same (Ty-F.Nat bits) = refl
  step_same (Ty-F.Tuple ks) = parts_same ks
  step_same (Ty-F.Vector count k) = product_same count (size_with f k.0) (size_with g k.0) k.1
  step_same (Ty-F.Named number) = same number

  layer_same : (y : Ty-F Known) → Same (roll-Ty (layer y))
  layer_same y =
      ap capped (fold-roll-Ty ℕ (size_step f) (layer y)) ∙ step_same y ∙ ap capped (sym (fold-roll-Ty ℕ (size_step g) (layer y)))

  pub same_size : (ty : Ty) → capped (size_with f ty) ≡ capped (size_with g ty)
  same_size = ind-Ty Same (λ x y is. subst (λ z. Same (roll-Ty z)) is (layer_same y))

  fields_same : (tys : List Ty) → capped (sizes_with f tys) ≡ capped (sizes_with g tys)
  fields_same [] = refl
  fields_same (ty ∷ tys) =
      ap capped (sum_more (size_with f) ty tys) ∙ sum_same _ _ _ _ (same_size ty) (fields_same tys) ∙ ap capped (sym (sum_more (size_with g) ty tys))

  most_same : (a b x y : ℕ) → capped a ≡ capped b → capped x ≡ capped y → capped (max a x) ≡ capped (max b y)
  most_same a b x y e h = omega arith

  greatest_same : (cons : List ConDef)
      → capped (greatest (map (λ (con : ConDef). sizes_with f con.fields) cons)) ≡ capped (greatest (map (λ (con : ConDef). sizes_with g con.fields) cons))
  greatest_same [] = refl
  greatest_same (con ∷ cons) = most_same _ _ _ _ (fields_same con.fields) (greatest_same cons)

  pub data_same : (data_type : SumDef) → capped (size_of_sum f (Some data_type)) ≡ capped (size_of_sum g (Some data_type))
  data_same data_type = sum_same 1 1 _ _ refl (greatest_same data_type.cons)

at_end : {A : Type 0} (xs : List A) (y : A) → slice_get (xs ++ y ∷ []) (length xs) ≡ Some y
at_end [] y = refl
at_end (x ∷ xs) y = at_end xs y

elsewhere : {A : Type 0} (xs : List A) (y : A) (i : ℕ) → (i ≡ length xs → ⊥) → slice_get (xs ++ y ∷ []) i ≡ slice_get xs i
elsewhere [] y zero other = absurd (other refl)
elsewhere [] y (suc i) other = refl
elsewhere (x ∷ xs) y zero other = refl
elsewhere (x ∷ xs) y (suc i) other = elsewhere xs y i (λ e. other (ap suc e))

newest : (types : Types) (bound : ℕ) → named_size types (suc bound) bound ≡ size_of_sum (named_size types bound) (slice_get types.sums bound)
unfolding named_size
newest types bound = ap (λ b. if b then size_of_sum (named_size types bound) (slice_get types.sums bound) else named_size types bound bound) (eq-eqb bound bound refl)

older : (types : Types) (bound number : ℕ) → (number ≡ bound → ⊥) → named_size types (suc bound) number ≡ named_size types bound number
unfolding named_size
older types bound number other = ap (λ b. if b then size_of_sum (named_size types bound) (slice_get types.sums bound) else named_size types bound number) (ne_eqb number bound other)

none_yet : (types : Types) (number : ℕ) → named_size types 0 number ≡ 0
unfolding named_size
none_yet types number = refl

module _ (types : Types) where
  -- the sizes are those of the first data types
  record AreFirst (sizes : List ℕ) : Type 0 where
    each : (number : ℕ) → capped (named_in sizes number) ≡ capped (named_size types (length sizes) number)

  -- the sizes have those of one data type more
  one_more : (sizes : List ℕ) (data_type : SumDef) → slice_get types.sums (length sizes) ≡ Some data_type → AreFirst sizes
      → AreFirst (sizes ++ data_words sizes data_type.cons ∷ [])
  one_more sizes data_type there are =
      let size = data_words sizes data_type.cons in
      let long : length (sizes ++ size ∷ []) ≡ suc (length sizes) = length-append sizes (size ∷ []) ∙ omega arith in
      record {
        each = λ number. elim (cases_eq number (length sizes)) [
          | inl here ↦
              ap (λ n. capped (named_in (sizes ++ size ∷ []) n)) here ∙ ap (λ o. capped (or_none o)) (at_end sizes size)
              ∙ sym (twice_capped (size_of_sum (named_in sizes) (Some data_type)))
              ∙ data_same (named_in sizes) (named_size types (length sizes)) are.each data_type
              ∙ ap (λ o. capped (size_of_sum (named_size types (length sizes)) o)) (sym there)
              ∙ ap capped (sym (newest types (length sizes)))
              ∙ (λ i. capped (named_size types (sym long i) (sym here i)))
          | inr other ↦
              ap (λ o. capped (or_none o)) (elsewhere sizes size number other) ∙ are.each number
              ∙ ap capped (sym (older types (length sizes) number other))
              ∙ ap (λ n. capped (named_size types n number)) (sym long)
        ];
      }

  front : {A : Type 0} (xs : List A) (y : A) (ys : List A) → slice_get (xs ++ y ∷ ys) (length xs) ≡ Some y
  front [] y ys = refl
  front (x ∷ xs) y ys = front xs y ys

  append_one : {A : Type 0} (xs : List A) (y : A) (ys : List A) → (xs ++ y ∷ []) ++ ys ≡ xs ++ y ∷ ys
  append_one [] y ys = refl
  append_one (x ∷ xs) y ys = ap (λ l. x ∷ l) (append_one xs y ys)

  append_none : {A : Type 0} (xs : List A) → xs ++ [] ≡ xs
  append_none [] = refl
  append_none (x ∷ xs) = ap (λ l. x ∷ l) (append_none xs)

  record AreAll (sizes : List ℕ) : Type 0 where
    first : AreFirst sizes
    long : length sizes ≡ length types.sums

  all_sizes : (sizes : List ℕ) (before left : List SumDef) → before ++ left ≡ types.sums → length sizes ≡ length before → AreFirst sizes
      → AreAll (with_sizes sizes left)
  all_sizes sizes before [] split long are = record { first = are; long = long ∙ ap length (sym (append_none before) ∙ split) }
  all_sizes sizes before (data_type ∷ left) split long are =
      let size = data_words sizes data_type.cons in
      let there : slice_get types.sums (length sizes) ≡ Some data_type =
      ap (slice_get types.sums) long ∙ ap (λ (sums : List SumDef). slice_get sums (length before)) (sym split) ∙ front before data_type left in
      all_sizes (sizes ++ size ∷ []) (before ++ data_type ∷ []) left (append_one before data_type left ∙ split)
      (length-append sizes (size ∷ []) ∙ ap (λ n. n + 1) long ∙ sym (length-append before (data_type ∷ [])))
      (one_more sizes data_type there are)

  abbrev the_sizes : AreAll (sizes_of types.sums)
  the_sizes = all_sizes [] [] types.sums refl refl (record { each = λ number. ap capped (sym (none_yet types number)) })

  pub words_are : (ty : Ty) → words_by (sizes_of types.sums) ty ≡ capped (size_of types ty)
  words_are ty =
      let are = the_sizes in
      same_size (named_in (sizes_of types.sums)) (named_size types (length types.sums))
      (λ number. are.first.each number ∙ ap (λ n. capped (named_size types n number)) are.long) ty
