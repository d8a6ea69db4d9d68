-- The declarations that are found are those with a type that is too large.
use Rattle.std.proofs.Common.{◌≡◌, ℕ, ◌<◌, ◌||◌, All, Bool, true, false, IsTrue, List, [], ◌∷◌, Option, Some, None, Contains, option_map, refl, ap, sym, subst, ◌∙◌, arith}
use Rattle.std.specs.List.{list_any}
use Rattle.std.proofs.lemmas.Bool.{lt-ltb, ltb-true}
use Rattle.std.proofs.lemmas.List.Elements.{All-cons, All-from_recursion, All-weaker, All-contains, Contains-append_left, Contains-append_right, Contains-push}
use Rattle.hume_base.specs.Least.{IsFirst}
use Rattle.hume_base.specs.declared.limits.TheConstants.{MAX_TYPE_WORDS}
use Rattle.hume_base.specs.declared.types.Ty.{Ty, Named}
use Rattle.hume_base.specs.declared.types.SumDef.{SumDef}
use Rattle.hume_base.specs.declared.types.Types.{Types}
use Rattle.hume_base.specs.Sizes.{size_of}
use Rattle.hume_ast.specs.declared.tree.Decl.{Decl}
use Rattle.hume_ast.specs.declared.tree.Decl.TheVariants.{Sum}
use Rattle.check_names.specs.Names.{OfDecl}
use Rattle.check_typing.specs.Partial.{given}
use Rattle.check_typing.specs.Signatures.{sum_named}
use Rattle.check_typing.specs.WrittenTypes.{written}
use Rattle.check_typing.specs.declared.signatures.Signatures.{Signatures}
use Rattle.check_rules.specs.Declared.{Decls}
use Rattle.check_rules.specs.SignaturesOf.{AreSignatures}
use Rattle.check_rules.specs.SizeRules.{types_in, own_type, IsTypeOf, HasLargeType}
use Rattle.check_sizes.specs.inner.Capped.{capped, named_in, words_by, sizes_of}
use Rattle.check_sizes.specs.inner.Large.{is_large_size, is_large, is_large_data, own_is_large, has_large_type}
use Rattle.check_sizes.proofs.SizesAre.{words_are}
use Rattle.check_sizes.proofs.TypeLevels.{size_named}

-- an element that passes the test
record Passes {A : Type 0} (p : A → Bool) (xs : List A) : Type 0 where
  item : A
  there : Contains xs item
  passes : p item ≡ true

some_passes : {A : Type 0} (p : A → Bool) (xs : List A) → list_any p xs ≡ true → Passes p xs
some_passes p [] h = cc
some_passes {A} p (x ∷ xs) h = by (p x) refl (some_passes p xs) h
  where
    by : (b : Bool) → p x ≡ b → (list_any p xs ≡ true → Passes p xs) → (b || list_any p xs) ≡ true → Passes p (x ∷ xs)
    by true q later h = record { item = x; there = Contains-append_left (x ∷ []) xs x (Contains-push [] x); passes = q }
    by false q later h = let r = later h in record { item = r.item; there = Contains-append_right (x ∷ []) xs r.item r.there; passes = r.passes }

or_yes : (b : Bool) → (b || true) ≡ true
or_yes true = refl
or_yes false = refl

each_tells : {A : Type 0} (p : A → Bool) (xs : List A) → All (λ y. p y ≡ true → list_any p xs ≡ true) xs
each_tells p [] = All-from_recursion (λ y. p y ≡ true → list_any p [] ≡ true) [] tt
each_tells p (x ∷ xs) =
    All-cons (λ y. p y ≡ true → list_any p (x ∷ xs) ≡ true) x xs (λ h. ap (λ b. b || list_any p xs) h)
    (All-weaker (λ y. p y ≡ true → list_any p xs ≡ true) (λ y. p y ≡ true → list_any p (x ∷ xs) ≡ true)
    (λ y tells h. ap (λ b. p x || b) (tells h) ∙ or_yes (p x)) xs (each_tells p xs))

tells : {A : Type 0} (p : A → Bool) (xs : List A) (x : A) → Contains xs x → p x ≡ true → list_any p xs ≡ true
tells p xs x there = All-contains (λ y. p y ≡ true → list_any p xs ≡ true) xs x (each_tells p xs) there

module _ (types : Types) where
  abbrev sizes : List ℕ
  sizes = sizes_of types.sums

  large_words : (ty : Ty) → MAX_TYPE_WORDS < size_of types ty → is_large_size (Some (words_by sizes ty)) ≡ true
  large_words ty large = let are = words_are types ty in lt-ltb MAX_TYPE_WORDS (words_by sizes ty) (omega arith)

  words_large : (ty : Ty) → is_large_size (Some (words_by sizes ty)) ≡ true → MAX_TYPE_WORDS < size_of types ty
  words_large ty h = let are = words_are types ty in let more = ltb-true MAX_TYPE_WORDS (words_by sizes ty) h in omega arith

  written_large : (o : Option Ty) → is_large_size (option_map (words_by sizes) o) ≡ true → (ty : Ty) × (o ≡ Some ty) × (MAX_TYPE_WORDS < size_of types ty)
  written_large None h = cc
  written_large (Some ty) h = (ty, refl, words_large ty h)

  -- the data type of a declaration, with its words
  own_words : (o : Option (ℕ × SumDef))
      → given o (λ found. Some (capped (named_in sizes found.0))) ≡ option_map (words_by sizes) (given o (λ found. Some (Named found.0)))
  own_words None = refl
  own_words (Some found) = ap (λ n. Some (capped n)) (sym (size_named sizes found.0))

  data_large : (name : List ℕ) → is_large_data types sizes name ≡ is_large_size (option_map (words_by sizes) (given (sum_named name types) (λ found. Some (Named found.0))))
  data_large name = ap is_large_size (own_words (sum_named name types))

  own_large : (decl : Decl) → own_is_large types sizes decl ≡ is_large_size (option_map (words_by sizes) (own_type types decl))
  own_large (Sum name cons) = data_large name
  own_large _ = refl

  record HasLarge (decl : Decl) : Type 0 where
    pub ty : Ty
    pub of : IsTypeOf types decl ty
    pub large : MAX_TYPE_WORDS < size_of types ty

  found_large : (decl : Decl) → has_large_type types sizes decl ≡ true → HasLarge decl
  found_large decl h = by (list_any (is_large types sizes) (types_in decl)) refl h
    where
      by : (b : Bool) → list_any (is_large types sizes) (types_in decl) ≡ b → (b || own_is_large types sizes decl) ≡ true → HasLarge decl
      by true q h =
          let r = some_passes (is_large types sizes) (types_in decl) q in
          let w = written_large (written types r.item) r.passes in
          record { ty = w.0; of = IsTypeOf.one_written r.item r.there w.1; large = w.2 }
      by false q h =
          let w = written_large (own_type types decl) (sym (own_large decl) ∙ h) in
          record { ty = w.0; of = IsTypeOf.its_own w.1; large = w.2 }

  large_found : (decl : Decl) (ty : Ty) → IsTypeOf types decl ty → MAX_TYPE_WORDS < size_of types ty → has_large_type types sizes decl ≡ true
  large_found decl ty (IsTypeOf.one_written e there is) large =
      ap (λ b. b || own_is_large types sizes decl)
      (tells (is_large types sizes) (types_in decl) e there (ap (λ o. is_large_size (option_map (words_by sizes) o)) is ∙ large_words ty large))
  large_found decl ty (IsTypeOf.its_own is) large =
      ap (λ b. list_any (is_large types sizes) (types_in decl) || b)
      (own_large decl ∙ ap (λ o. is_large_size (option_map (words_by sizes) o)) is ∙ large_words ty large)
      ∙ or_yes (list_any (is_large types sizes) (types_in decl))

module _ (decls : Decls) (s : Signatures) (are : AreSignatures decls s) (once : (t : Signatures) → AreSignatures decls t → t ≡ s) where
  abbrev IsFound : ℕ → Type 0
  IsFound n = OfDecl decls n (λ decl. IsTrue (has_large_type s.types (sizes_of s.types.sums) decl))

  to_found : (n : ℕ) → HasLargeType decls n → IsFound n
  to_found n h =
      let same = once h.signatures h.are in
      record {
        decl = h.decl;
        at = h.there;
        holds = large_found s.types h.decl.1 h.ty (subst (λ (t : Signatures). IsTypeOf t.types h.decl.1 h.ty) same h.of)
            (subst (λ (t : Signatures). MAX_TYPE_WORDS < size_of t.types h.ty) same h.large);
      }

  from_found : (n : ℕ) → IsFound n → HasLargeType decls n
  from_found n h =
      let r = found_large s.types h.decl.1 h.holds in
      record { signatures = s; are = are; decl = h.decl; there = h.at; ty = r.ty; of = r.of; large = r.large }

  pub first_has_large : (o : Option ℕ) → IsFirst IsFound o → IsFirst (HasLargeType decls) o
  first_has_large None h = λ i p. h i (to_found i p)
  first_has_large (Some i) h = (from_found i h.0, λ j p. h.1 j (to_found j p))
