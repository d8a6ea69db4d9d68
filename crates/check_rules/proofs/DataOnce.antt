-- A data type of a program that breaks no rule is the first of its name.
use Rattle.std.proofs.Common.{◌≡◌, ℕ, zero, suc, ◌+◌, ◌<◌, ◌≤◌, inl, inr, List, [], ◌∷◌, ◌++◌, length, take, get_or, Option, Some, slice_get, refl, ap, sym, ◌∙◌, arith, Bool, true, false, if◌then◌else◌, bytes_eq}
use Rattle.std.specs.List.{filter_map, flat_map}
use Rattle.std.proofs.lemmas.Bool.{cases_lt}
use Rattle.std.proofs.lemmas.List.Concat.{flat_map-cons}
use Rattle.std.proofs.lemmas.Slice.Eq.{bytes_eq-Decides}
use Rattle.hume_base.specs.declared.rule.Rule.TheVariants.{C30}
use Rattle.hume_base.specs.declared.types.SumDef.{SumDef}
use Rattle.hume_base.specs.declared.types.Types.{Types}
use Rattle.hume_ast.specs.declared.tree.Decl.{Decl}
use Rattle.hume_ast.specs.declared.tree.Decl.TheVariants.{Sum}
use Rattle.check_tables.specs.names.Names.{among}
use Rattle.check_names.specs.DeclaredNames.{types_of}
use Rattle.check_names.specs.Misnamed.{BreaksNames}
use Rattle.check_typing.specs.Partial.{given}
use Rattle.check_typing.specs.Signatures.{one_further, first_named, sum_named}
use Rattle.check_typing.proofs.Maybe.{some-same, given-inv}
use Rattle.check_typing.proofs.NamesFound.{first_stands}
use Rattle.check_rules.specs.Declared.{Decls, DataDecl, data_of}
use Rattle.check_rules.specs.SignaturesOf.{IsDataType, AreTypes}
use Rattle.check_rules.specs.CheckRules.{IsFine, BreaksCheck}
use Rattle.check_rules.proofs.Stands.{from_right}
use Rattle.check_rules.proofs.OrderedPlaces.{Placed, placed, first_has_name, first_before}
use Rattle.check_rules.proofs.BoxFrames.{or_left, or_right}
use Rattle.check_rules.proofs.TypesOrdered.{data_here}
use Rattle.check_rules.proofs.FunctionsWithin.{order_once}

among_behind : (x : List ℕ) (xs ys : List (List ℕ)) → among x ys ≡ true → among x (xs ++ ys) ≡ true
among_behind x [] ys h = h
among_behind x (z ∷ zs) ys h = or_right (bytes_eq x z) _ (among_behind x zs ys h)

-- a name that a declaration declares is among those before a later one
among_before : (decls : Decls) (a b : ℕ) (d : ℕ × Decl) (name : List ℕ) → a < b → slice_get decls a ≡ Some d → types_of d.1 ≡ name ∷ []
    → among name (flat_map (λ (d : ℕ × Decl). types_of d.1) (take b decls)) ≡ true
among_before [] a b d name lt e h = cc
among_before (x ∷ xs) a zero d name lt e h = absurd (omega arith)
among_before (x ∷ xs) zero (suc b) d name lt e h =
    let f : ℕ × Decl → List (List ℕ) = λ (d : ℕ × Decl). types_of d.1 in
    let first : f x ≡ name ∷ [] = ap f (some-same x d e) ∙ h in
    ap (among name) (flat_map-cons f x (take b xs) ∙ ap (λ names. names ++ flat_map f (take b xs)) first)
    ∙ or_left (bytes_eq name name) _ ((bytes_eq-Decides name name).1 refl)
among_before (x ∷ xs) (suc a) (suc b) d name lt e h =
    let f : ℕ × Decl → List (List ℕ) = λ (d : ℕ × Decl). types_of d.1 in
    ap (among name) (flat_map-cons f x (take b xs)) ∙ among_behind name (f x) (flat_map f (take b xs)) (among_before xs a b d name (omega arith) e h)

-- of a name that stands somewhere there is a first one
found_named : {A : Type 0} (name_of : A → List ℕ) (name : List ℕ) (xs : List A) (n : ℕ) (x : A) → slice_get xs n ≡ Some x → name_of x ≡ name
    → (found : ℕ × A) × (first_named name_of name xs ≡ Some found)
found_named name_of name [] n x e h = cc
found_named {A} name_of name (y ∷ ys) n x e h = by (bytes_eq (name_of y) name) refl n e (first_named name_of name ys) (λ m q. found_named name_of name ys m x q h)
  where
    by : (b : Bool) → bytes_eq (name_of y) name ≡ b → (n : ℕ) → slice_get (y ∷ ys) n ≡ Some x → (o : Option (ℕ × A))
        → ((m : ℕ) → slice_get ys m ≡ Some x → (found : ℕ × A) × (o ≡ Some found))
        → (found : ℕ × A) × ((if b then Some (0, y) else one_further o) ≡ Some found)
    by true q n e o later = ((0, y), refl)
    by false q zero e o later =
        let is : name_of y ≡ name = ap name_of (some-same y x e) ∙ h in let yes = (bytes_eq-Decides (name_of y) name).1 is in cc
    by false q (suc n) e o later = let r = later n e in ((r.0.0 + 1, r.0.1), ap one_further r.1)

module _ (decls : Decls) (fine : IsFine decls) (types : Types) (p : AreTypes decls types) where
  -- no two declarations are of a data type of one name
  declared_once : (a b : ℕ) (d e : ℕ × Decl) (x y : DataDecl) → a < b → slice_get decls a ≡ Some d → slice_get decls b ≡ Some e
      → d.1 ≡ Sum x.0 x.1 → e.1 ≡ Sum y.0 y.1 → x.0 ≡ y.0 → ⊥
  declared_once a b d e x y lt at there is other same =
      let names : types_of d.1 ≡ y.0 ∷ [] = ap types_of is ∙ ap (λ name. name ∷ []) same in
      let again = among_before decls a b d y.0 lt at names in
      let here : slice_get decls b ≡ Some (e.0, Sum y.0 y.1) = there ∙ ap (λ decl. Some (e.0, decl)) other in
      fine (record { rule = C30; declaration = b })
      (BreaksCheck.names (BreaksNames.repeats (record { rule = C30; declaration = b })
      (refl, record { decl = (e.0, Sum y.0 y.1); at = here; holds = or_left _ _ (or_left _ _ (or_left _ false again)) })))

  same_place : (j n : ℕ) (x y : DataDecl) → Placed (λ number. given (slice_get decls number) data_of) p.order j x
      → Placed (λ number. given (slice_get decls number) data_of) p.order n y
      → x.0 ≡ y.0 → j < n → ⊥
  same_place j n x y at there same lt =
      let a = get_or p.order at.place 0 in
      let b = get_or p.order there.place 0 in
      let d = given-inv (slice_get decls a) data_of x at.gives in
      let e = given-inv (slice_get decls b) data_of y there.gives in
      elim (cases_lt a b) [
        | inl less ↦ declared_once a b d.0 e.0 x y less d.1 e.1 (data_here d.0.0 d.0.1 x d.2) (data_here e.0.0 e.0.1 y e.2) same
        | inr le ↦ elim (cases_lt b a) [
          | inl less ↦ declared_once b a e.0 d.0 y x less e.1 d.1 (data_here e.0.0 e.0.1 y e.2) (data_here d.0.0 d.0.1 x d.2) (sym same)
          | inr other ↦ (let equal : a ≡ b = omega arith in apart equal)
        ]
      ]
    where
      apart : get_or p.order at.place 0 ≡ get_or p.order there.place 0 → ⊥
      apart equal = elim (cases_lt at.place there.place) [
        | inl less ↦ order_once _ p.order p.numbered at.place there.place less there.within equal
        | inr le ↦ elim (cases_lt there.place at.place) [
          | inl less ↦ order_once _ p.order p.numbered there.place at.place less at.within (sym equal)
          | inr other ↦ (
              let one : at.place ≡ there.place = omega arith in
              let e : j ≡ n = at.before ∙ ap (λ k. length (filter_map (λ number. given (slice_get decls number) data_of) (take k p.order))) one ∙ sym there.before in
              absurd (omega arith)
              )
        ]
      ]

  -- the data type of a number is the one that its name means
  pub first_of_name : (n : ℕ) (sum : SumDef) → slice_get types.sums n ≡ Some sum
      → (found : ℕ × SumDef) × (sum_named sum.name types ≡ Some found) × (found.0 ≡ n)
  first_of_name n sum there =
      let f = found_named (λ (sum : SumDef). sum.name) sum.name types.sums n sum there refl in
      let le : f.0.0 ≤ n = first_before (λ (sum : SumDef). sum.name) sum.name types.sums n sum there refl f.0.0 f.0.1 f.1 in (
        f.0,
        f.1,
        elim (cases_lt f.0.0 n) [
          | inl less ↦ absurd (
              let first = from_right (IsDataType types) _ _ p.each f.0.0 f.0.1 (first_stands (λ (sum : SumDef). sum.name) sum.name types.sums f.0.0 f.0.1 f.1) in
              let this = from_right (IsDataType types) _ _ p.each n sum there in
              same_place f.0.0 n first.0 this.0 (placed (λ number. given (slice_get decls number) data_of) p.order f.0.0 first.0 first.1)
              (placed (λ number. given (slice_get decls number) data_of) p.order n this.0 this.1)
              (sym first.2.name ∙ first_has_name (λ (sum : SumDef). sum.name) sum.name types.sums f.0.0 f.0.1 f.1 ∙ this.2.name) less)
          | inr ge ↦ (omega arith)
        ],
      )
