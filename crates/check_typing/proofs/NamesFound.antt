-- What is found by its name stands under its number.
use Rattle.std.proofs.Common.{◌≡◌, ℕ, ◌+◌, ◌<◌, List, [], ◌∷◌, length, slice_get, Option, Some, None, refl, ap, subst, ◌∙◌, Bool, true, false, if◌then◌else◌, bytes_eq, add-one}
use Rattle.std.proofs.lemmas.Option.{slice_get_within}
use Rattle.hume_base.specs.declared.types.Ty.{Ty}
use Rattle.hume_base.specs.declared.types.ConDef.{ConDef}
use Rattle.hume_base.specs.declared.types.SumDef.{SumDef}
use Rattle.hume_base.specs.Values.{fields_at, fields_of}
use Rattle.check_typing.specs.Signatures.{one_further, first_named, Constructor, first_or_further, con_among, Scope, inner_or_this, variable_named}
use Rattle.check_typing.specs.CoreSignatures.{scope_types}
use Rattle.check_typing.proofs.Maybe.{some-same}

module _ {A : Type 0} (name_of : A → List ℕ) (name : List ℕ) where
  pub first_stands : (xs : List A) (i : ℕ) (x : A) → first_named name_of name xs ≡ Some (i, x) → slice_get xs i ≡ Some x
  first_stands [] i x h = cc
  first_stands (y ∷ ys) i x h = by (bytes_eq (name_of y) name) (first_named name_of name ys) (first_stands ys) h
    where
      by : (same : Bool) (o : Option (ℕ × A)) → ((j : ℕ) (z : A) → o ≡ Some (j, z) → slice_get ys j ≡ Some z)
          → (if same then Some (0, y) else one_further o) ≡ Some (i, x) → slice_get (y ∷ ys) i ≡ Some x
      by true o rest h = let e : (0, y) ≡ (i, x) = some-same _ _ h in subst (λ r. slice_get (y ∷ ys) r.0 ≡ Some r.1) e refl
      by false None rest h = cc
      by false (Some found) rest h =
          let e : (found.0 + 1, found.1) ≡ (i, x) = some-same _ _ h in
          subst (λ r. slice_get (y ∷ ys) r.0 ≡ Some r.1) e (ap (slice_get (y ∷ ys)) (add-one found.0) ∙ rest found.0 found.1 refl)

-- a constructor of a data type under its number
pub record ConstructorIs (sums : List SumDef) (con : Constructor) : Type 0 where
  pub sum : SumDef
  pub there : slice_get sums con.sum ≡ Some sum
  pub within : con.place < length sum.cons
  pub fields : fields_at sum con.place ≡ con.fields

pub con_stands : (name : List ℕ) (sums : List SumDef) (con : Constructor) → con_among name sums ≡ Some con → ConstructorIs sums con
con_stands name [] con h = cc
con_stands name (sum ∷ sums) con h =
    by (first_named of_name name sum.cons) (first_stands of_name name sum.cons) (con_among name sums) (con_stands name sums) h
  where
    of_name : ConDef → List ℕ
    of_name con = con.name

    by : (o : Option (ℕ × ConDef)) → ((j : ℕ) (z : ConDef) → o ≡ Some (j, z) → slice_get sum.cons j ≡ Some z) → (further : Option Constructor)
        → ((c : Constructor) → further ≡ Some c → ConstructorIs sums c) → first_or_further o further ≡ Some con → ConstructorIs (sum ∷ sums) con
    by (Some found) here further rest h =
        let there = here found.0 found.1 refl in
        subst (ConstructorIs (sum ∷ sums)) (some-same (record { sum = 0; place = found.0; fields = found.1.fields }) con h)
        (record { sum = sum; there = refl; within = slice_get_within sum.cons found.0 found.1 there; fields = ap fields_of there })
    by None here None rest h = cc
    by None here (Some c) rest h =
        let is = rest c refl in
        subst (ConstructorIs (sum ∷ sums)) (some-same (record { sum = c.sum + 1; place = c.place; fields = c.fields }) con h)
        (record { sum = is.sum; there = ap (slice_get (sum ∷ sums)) (add-one c.sum) ∙ is.there; within = is.within; fields = is.fields })

pub variable_stands : (name : List ℕ) (scope : Scope) (i : ℕ) (t : Ty) → variable_named name scope ≡ Some (i, t)
    → slice_get (scope_types scope) i ≡ Some t
variable_stands name [] i t h = cc
variable_stands name (v ∷ vs) i t h = by (variable_named name vs) (variable_stands name vs) h
  where
    this : Option (ℕ × Ty)
    this = Some (0, v.1)

    here : (same : Bool) → (if same then this else None) ≡ Some (i, t) → slice_get (v.1 ∷ scope_types vs) i ≡ Some t
    here true h = let e : (0, v.1) ≡ (i, t) = some-same _ _ h in subst (λ r. slice_get (v.1 ∷ scope_types vs) r.0 ≡ Some r.1) e refl
    here false h = cc

    by : (o : Option (ℕ × Ty)) → ((j : ℕ) (u : Ty) → o ≡ Some (j, u) → slice_get (scope_types vs) j ≡ Some u) → inner_or_this name v o ≡ Some (i, t)
        → slice_get (v.1 ∷ scope_types vs) i ≡ Some t
    by (Some found) rest h =
        let e : (found.0 + 1, found.1) ≡ (i, t) = some-same _ _ h in
        subst (λ r. slice_get (v.1 ∷ scope_types vs) r.0 ≡ Some r.1) e (ap (slice_get (v.1 ∷ scope_types vs)) (add-one found.0)
        ∙ rest found.0 found.1 refl)
    by None rest h = here (bytes_eq v.0 name) h
