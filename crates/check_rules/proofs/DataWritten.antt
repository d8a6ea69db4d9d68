-- Fields of data types have types that a source may write.
use Rattle.std.proofs.Common.{◌≡◌, ℕ, zero, suc, List, [], ◌∷◌, map, Contains, Option, Some, None, slice_get, refl, ap, sym, subst, ◌∙◌, true, false}
use Rattle.std.specs.List.{list_all, flat_map}
use Rattle.std.proofs.lemmas.List.Concat.{flat_map-cons}
use Rattle.std.proofs.lemmas.List.Elements.{Contains-append_left, Contains-append_right}
use Rattle.std.proofs.lemmas.Option.{slice_get_within, get_or_from_slice_get}
use Rattle.hume_base.specs.declared.limits.TheConstants.{MAX_DEPTH}
use Rattle.hume_base.specs.declared.types.Ty.{Ty}
use Rattle.hume_base.specs.declared.types.ConDef.{ConDef}
use Rattle.hume_base.specs.declared.types.SumDef.{SumDef}
use Rattle.hume_base.specs.declared.types.Types.{Types}
use Rattle.hume_base.specs.Values.{fields_of, fields_at}
use Rattle.hume_ast.specs.declared.tree.TyExp.{TyExp}
use Rattle.hume_ast.specs.declared.tree.Decl.{Decl}
use Rattle.hume_ast.specs.declared.tree.Decl.TheVariants.{Sum}
use Rattle.hume_ast.specs.declared.tree.Program.{Program}
use Rattle.hume_ast.specs.Fits.{Each, TypeFits, DeclFits, IsFit}
use Rattle.check_counts.specs.Miscounts.{type_miscounts}
use Rattle.check_counts.specs.CountRules.{some_type_miscounts}
use Rattle.hume_model.specs.declared.core_tree.Core.{Core}
use Rattle.hume_model.specs.TypeLimits.{is_type, IsWrittenType}
use Rattle.check_typing.specs.Partial.{given}
use Rattle.check_typing.specs.WrittenTypes.{written, all_written}
use Rattle.check_typing.specs.Declarations.{InPlaces}
use Rattle.check_typing.proofs.Maybe.{some-same, given-inv}
use Rattle.check_rules.specs.Declared.{DataDecl, data_of}
use Rattle.check_rules.specs.SignaturesOf.{IsConstructor, IsDataType}
use Rattle.check_rules.specs.SizeRules.{types_in}
use Rattle.check_rules.specs.CheckRules.{IsFine}
use Rattle.check_rules.specs.CoreOf.{IsCoreOf}
use Rattle.check_rules.proofs.Stands.{from_right, declared}
use Rattle.check_rules.proofs.TypesOrdered.{data_here}
use Rattle.check_rules.proofs.TypesWritten.{both}
use Rattle.check_rules.proofs.PortsWritten.{each_at, any_at, type_written, counts}

abbrev pub IsWritten : Types → TyExp → Ty → Type 0
IsWritten types e ty = written types e ≡ Some ty

-- types that are written, each in its place
pub all_in_places : (types : Types) (es : List TyExp) (tys : List Ty) → all_written types es ≡ Some tys → InPlaces (IsWritten types) es tys
all_in_places types [] tys h = subst (InPlaces (IsWritten types) []) (some-same [] tys h) tt
all_in_places types (x ∷ es) tys h =
    let k = given-inv (written types x) (λ first. given (all_written types es) (λ others. Some (first ∷ others))) tys h in
    let m = given-inv (all_written types es) (λ others. Some (k.0 ∷ others)) tys k.2 in
    subst (InPlaces (IsWritten types) (x ∷ es)) (some-same _ _ m.2) (k.1, all_in_places types es m.0 m.1)

pub contains_at : {A : Type 0} (xs : List A) (n : ℕ) (x : A) → slice_get xs n ≡ Some x → Contains xs x
contains_at xs n x e = (n, slice_get_within xs n x e, get_or_from_slice_get xs n x x e)

pub contains_flat : {A B : Type 0} (f : A → List B) (xs : List A) (n : ℕ) (x : A) → slice_get xs n ≡ Some x → (b : B) → Contains (f x) b
    → Contains (flat_map f xs) b
contains_flat f [] n x e b c = cc
contains_flat f (y ∷ ys) zero x e b c =
    subst (λ bs. Contains bs b) (sym (flat_map-cons f y ys)) (Contains-append_left (f y) (flat_map f ys) b (subst (λ z. Contains (f z) b) (sym (some-same _ _ e)) c))
contains_flat f (y ∷ ys) (suc n) x e b c =
    subst (λ bs. Contains bs b) (sym (flat_map-cons f y ys)) (Contains-append_right (f y) (flat_map f ys) b (contains_flat f ys n x e b c))

-- each is a type that a source may write
abbrev pub EachWritten : Types → List Ty → Type 0
EachWritten types tys = (i : ℕ) (ty : Ty) → slice_get tys i ≡ Some ty → IsWrittenType types ty

pub all_types : (types : Types) (tys : List Ty) → EachWritten types tys → list_all (λ b. b) (map (is_type types) tys) ≡ true
all_types types [] all = refl
all_types types (t ∷ ts) all = both _ _ (all 0 t refl).parts (all_types types ts (λ i ty e. all (suc i) ty e))

module _ (text : List ℕ) (program : Program) (core : Core) (fine : IsFine program.decls) (fit : IsFit program) (p : IsCoreOf text program core) where
  abbrev types : Types
  types = p.signatures.types

  -- types that are written in a declaration
  pub types_written : (n : ℕ) (d : ℕ × Decl) → slice_get program.decls n ≡ Some d → (es : List TyExp)
      → ((e : TyExp) → Contains es e → Contains (types_in d.1) e)
      → Each (TypeFits MAX_DEPTH) es → some_type_miscounts es ≡ false → (tys : List Ty) → all_written types es ≡ Some tys → EachWritten types tys
  types_written n d there es has fits off tys h i ty e =
      let w = from_right (IsWritten types) es tys (all_in_places types es tys h) i ty e in
      type_written text program core fine fit p n d there w.0 (has w.0 (contains_at es i w.0 w.1)) (each_at (TypeFits MAX_DEPTH) es fits i w.0 w.1) (any_at type_miscounts es off i w.0 w.1) ty w.2

  -- the declaration of a data type
  pub record DeclaresData (k : ℕ) (sum : SumDef) : Type 0 where
    pub number : ℕ
    pub place : ℕ
    pub declares : DataDecl
    pub there : slice_get program.decls number ≡ Some (place, Sum declares.0 declares.1)
    pub is : IsDataType types declares sum

  pub data_declared : (k : ℕ) (sum : SumDef) → slice_get types.sums k ≡ Some sum → DeclaresData k sum
  data_declared k sum there =
      let c = from_right (IsDataType types) _ _ p.are.types.each k sum there in
      let d = declared data_of p.are.types.order program.decls k c.0 c.1 in
      record {
        number = d.0;
        place = d.1.0;
        declares = c.0;
        there = d.2 ∙ ap (λ decl. Some (d.1.0, decl)) (data_here d.1.0 d.1.1 c.0 d.3);
        is = c.2;
      }

  abbrev fields : List ℕ × List TyExp → List TyExp
  fields con = con.1

  pub fields_written : (k : ℕ) (sum : SumDef) → slice_get types.sums k ≡ Some sum → (place : ℕ) (con : ConDef)
      → slice_get sum.cons place ≡ Some con → EachWritten types con.fields
  fields_written k sum there place con e =
      let d = data_declared k sum there in
      let decl = Sum d.declares.0 d.declares.1 in
      let c = from_right (IsConstructor types) d.declares.1 sum.cons d.is.constructors place con e in
      let fits : DeclFits MAX_DEPTH decl = each_at (λ (d : ℕ × Decl). DeclFits MAX_DEPTH d.1) program.decls fit d.number (d.place, decl) d.there in
      types_written d.number (d.place, decl) d.there c.0.1 (contains_flat fields d.declares.1 place c.0 c.1)
      (each_at (λ (con : List ℕ × List TyExp). Each (TypeFits MAX_DEPTH) con.1) d.declares.1 fits.1 place c.0 c.1)
      (any_at (λ (con : List ℕ × List TyExp). some_type_miscounts con.1) d.declares.1 (counts text program core fine fit p d.number (d.place, decl) d.there) place c.0 c.1)
      con.fields c.2.fields

  -- the fields at any place have types
  pub fields_are_types : (k : ℕ) (sum : SumDef) → slice_get types.sums k ≡ Some sum → (place : ℕ)
      → list_all (λ b. b) (map (is_type types) (fields_at sum place)) ≡ true
  fields_are_types k sum there place = by (slice_get sum.cons place) refl
    where
      by : (o : Option ConDef) → slice_get sum.cons place ≡ o → list_all (λ b. b) (map (is_type types) (fields_of o)) ≡ true
      by None q = refl
      by (Some con) q = all_types types con.fields (fields_written k sum there place con q)
