-- Data types, exceptions, functions and nodes of a core are within their limits.
use Rattle.std.proofs.Common.{◌≡◌, ℕ, zero, suc, ◌+◌, ◌≤◌, nat_le, inl, inr, All, List, [], ◌∷◌, ◌++◌, length, take, Option, Some, None, slice_get, refl, ap, sym, subst, ◌∙◌, arith, true, false}
use Rattle.std.specs.List.{list_all}
use Rattle.std.proofs.lemmas.Bool.{or_parts, cases_lt, ltb-false, le-leb}
use Rattle.std.proofs.lemmas.List.{length-map, length-append}
use Rattle.std.proofs.lemmas.List.Elements.{All-cons, All-from_recursion, All-append, Contains-append_left}
use Rattle.hume_base.specs.declared.limits.TheConstants.{MAX_DEPTH, MAX_TYPE_WORDS, MAX_FIELDS, MAX_PARAMETERS, MAX_CONSTRUCTORS}
use Rattle.hume_base.specs.declared.rule.Rule.TheVariants.{C72, C73}
use Rattle.hume_base.specs.declared.types.Ty.{Ty, Named}
use Rattle.hume_base.specs.declared.types.ConDef.{ConDef}
use Rattle.hume_base.specs.declared.types.SumDef.{SumDef}
use Rattle.hume_base.specs.declared.types.Types.{Types}
use Rattle.hume_base.specs.Sizes.{size_of}
use Rattle.hume_ast.specs.declared.tree.TyExp.{TyExp}
use Rattle.hume_ast.specs.declared.tree.Decl.{Decl}
use Rattle.hume_ast.specs.declared.tree.Decl.TheVariants.{Sum, Exn, Fun}
use Rattle.hume_ast.specs.declared.tree.Program.{Program}
use Rattle.hume_ast.specs.Fits.{DeclFits, IsFit}
use Rattle.check_counts.specs.Miscounts.{has_many}
use Rattle.check_counts.specs.Counted.{parameters}
use Rattle.check_counts.specs.CountRules.{some_type_miscounts}
use Rattle.check_counts.specs.Limits.{tally_of, is_full_for, has_many_parts}
use Rattle.hume_model.specs.declared.core_tree.ExnDef.{ExnDef}
use Rattle.hume_model.specs.declared.core_tree.EqC.{EqC}
use Rattle.hume_model.specs.declared.core_tree.FunC.{FunC}
use Rattle.hume_model.specs.declared.core_tree.Core.{Core}
use Rattle.hume_model.specs.OwnExceptions.{own_exceptions}
use Rattle.hume_model.specs.TypeLimits.{IsWrittenType}
use Rattle.hume_model.specs.PartLimits.{is_written_equation}
use Rattle.hume_model.specs.Limits.{IsName, IsSmallConstructor, IsSmallData, IsSmallException, IsSmallFunction}
use Rattle.typed_core.specs.Erasing.{erased_equation}
use Rattle.check_typing.specs.Partial.{given}
use Rattle.check_typing.specs.Signatures.{sum_named}
use Rattle.check_typing.specs.WrittenTypes.{all_written}
use Rattle.check_typing.specs.Declarations.{CoredEquation, cores_alone, WrittenEquation, parted, signature_written, IsEquation}
use Rattle.check_typing.specs.declared.signatures.Signature.{Signature}
use Rattle.check_typing.proofs.Maybe.{some-same, not_some, given-inv, given-at}
use Rattle.check_rules.specs.Declared.{ExceptionDecl, exception_of, FunctionDecl, function_of}
use Rattle.check_rules.specs.SignaturesOf.{IsConstructor, IsException, Carries}
use Rattle.check_rules.specs.SizeRules.{IsTypeOf}
use Rattle.check_rules.specs.CheckRules.{IsFine, BreaksCheck, BreaksLimits}
use Rattle.check_rules.specs.OfTokens.{HasNames, HasConstructors, IsOfTokens}
use Rattle.check_rules.specs.CoreOf.{IsFunctionOf, IsCoreOf}
use Rattle.check_rules.proofs.OrderedPlaces.{front}
use Rattle.check_rules.proofs.Stands.{from_right, source, declared, function_is}
use Rattle.check_rules.proofs.BoxFrames.{or_right}
use Rattle.check_rules.proofs.CoreTyped.{not_so}
use Rattle.check_rules.proofs.CountsWithin.{same_long}
use Rattle.check_rules.proofs.PortsWritten.{each_at, any_at, type_written, counts}
use Rattle.check_rules.proofs.DataOnce.{first_of_name}
use Rattle.check_rules.proofs.DataWritten.{IsWritten, all_in_places, EachWritten, types_written, data_declared, fields_written}

pub every : {A : Type 0} (P : A → Type 0) (xs : List A) → ((n : ℕ) (x : A) → slice_get xs n ≡ Some x → P x) → All P xs
every P [] all = All-from_recursion P [] tt
every P (x ∷ xs) all = All-cons P x xs (all 0 x refl) (every P xs (λ n y e. all (suc n) y e))

pub few : {A : Type 0} (most : ℕ) (xs : List A) → has_many most xs ≡ false → length xs ≤ most
few most xs off = ltb-false most (length xs) off

parted-inv : (all params : List Ty) (gives : Ty) → parted all ≡ Some (params, gives) → all ≡ params ++ gives ∷ []
parted-inv [] params gives h = cc
parted-inv (t ∷ []) params gives h = ap (λ (r : List Ty × Ty). r.0 ++ r.1 ∷ []) (some-same ([], t) (params, gives) h)
parted-inv (t ∷ u ∷ ts) params gives h =
    let k = given-inv (parted (u ∷ ts)) (λ others. Some (t ∷ others.0, others.1)) (params, gives) h in
    ap (λ all. t ∷ all) (parted-inv (u ∷ ts) k.0.0 k.0.1 k.1) ∙ ap (λ (r : List Ty × Ty). r.0 ++ r.1 ∷ []) (some-same (t ∷ k.0.0, k.0.1) (params, gives) k.2)

leb_false : (most n : ℕ) → nat_le (most + 1) n ≡ false → n ≤ most
leb_false most n h = elim (cases_lt most n) [
  | inl lt ↦ absurd (let yes = le-leb (most + 1) n (omega arith) in cc)
  | inr le ↦ le
]

pub last : {A : Type 0} (xs : List A) (y : A) → slice_get (xs ++ y ∷ []) (length xs) ≡ Some y
last [] y = refl
last (x ∷ xs) y = last xs y

-- the types of a signature, by those that are written
pub record HasParts (types : Types) (tys : List TyExp) (params : List Ty) (gives : Ty) : Type 0 where
  pub all : List Ty
  pub are : all_written types tys ≡ Some all
  pub is : all ≡ params ++ gives ∷ []

pub signature_parts : (types : Types) (name : List ℕ) (tys : List TyExp) (signature : Signature)
    → signature_written types name tys ≡ Some signature → HasParts types tys signature.params signature.gives
signature_parts types name tys signature h =
    let k = given-inv (all_written types tys) (λ all. given (parted all) (λ p. Some (record { name = name; params = p.0; gives = p.1 }))) signature h in
    let m = given-inv (parted k.0) (λ p. Some (record { name = name; params = p.0; gives = p.1 })) signature k.2 in
    subst (λ (s : Signature). HasParts types tys s.params s.gives) (some-same _ _ m.2) (record { all = k.0; are = k.1; is = parted-inv k.0 m.0.0 m.0.1 m.1 })

own_small : (types : Types) → All (IsSmallException types) own_exceptions
own_small types = every (IsSmallException types) own_exceptions by
  where
    by : (n : ℕ) (x : ExnDef) → slice_get own_exceptions n ≡ Some x → IsSmallException types x
    by zero x e = subst (IsSmallException types) (some-same _ _ e) (record { name = record { some = omega arith; bytes = omega arith }; carries = λ ty h. cc })
    by (suc zero) x e = subst (IsSmallException types) (some-same _ _ e) (record { name = record { some = omega arith; bytes = omega arith }; carries = λ ty h. cc })
    by (suc (suc zero)) x e = subst (IsSmallException types) (some-same _ _ e) (record { name = record { some = omega arith; bytes = omega arith }; carries = λ ty h. cc })
    by (suc (suc (suc n))) x e = cc

exception_here : (p : ℕ) (decl : Decl) (d : ExceptionDecl) → exception_of (p, decl) ≡ Some d → decl ≡ Exn d.0 d.1
exception_here p (Exn name ty) d h = ap (λ (d : ExceptionDecl). Exn d.0 d.1) (some-same (name, ty) d h)
exception_here p _ d h = cc

module _ (text : List ℕ) (program : Program) (core : Core) (fine : IsFine program.decls) (fit : IsFit program) (tokens : IsOfTokens program) (p : IsCoreOf text program core) where
  abbrev types : Types
  types = p.signatures.types

  pub named : (n : ℕ) (d : ℕ × Decl) → slice_get program.decls n ≡ Some d → HasNames d.1
  named n d there = each_at (λ (d : ℕ × Decl). HasNames d.1) program.decls tokens.names n d there

  pub fits : (n : ℕ) (d : ℕ × Decl) → slice_get program.decls n ≡ Some d → DeclFits MAX_DEPTH d.1
  fits n d there = each_at (λ (d : ℕ × Decl). DeclFits MAX_DEPTH d.1) program.decls fit n d there

  pub few_parts : (n : ℕ) (d : ℕ × Decl) → slice_get program.decls n ≡ Some d → has_many_parts d.1 ≡ false
  few_parts n d there = not_so _ (λ many. fine (record { rule = C72; declaration = n }) (BreaksCheck.limits (BreaksLimits.passes_limits (
    refl,
    record { decl = d; at = there; holds = or_right (is_full_for (tally_of (take n program.decls)) d.1) (has_many_parts d.1) (sym many) },
  ))))

  small_constructor : (k : ℕ) (sum : SumDef) → slice_get types.sums k ≡ Some sum → (place : ℕ) (con : ConDef)
      → slice_get sum.cons place ≡ Some con → IsSmallConstructor types con
  small_constructor k sum there place con e =
      let d = data_declared text program core fine fit p k sum there in
      let decl = Sum d.declares.0 d.declares.1 in
      let c = from_right (IsConstructor types) d.declares.1 sum.cons d.is.constructors place con e in
      let names = named d.number (d.place, decl) d.there in
      let off = any_at (λ (con : List ℕ × List TyExp). has_many MAX_FIELDS con.1) d.declares.1 (few_parts d.number (d.place, decl) d.there) place c.0 c.1 in
      let long = same_long (IsWritten types) c.0.1 con.fields (all_in_places types c.0.1 con.fields c.2.fields) in
      record {
        name = subst IsName (sym c.2.name) (each_at (λ (con : List ℕ × List TyExp). IsName con.0) d.declares.1 names.1 place c.0 c.1);
        fields = subst (λ n. n ≤ MAX_FIELDS) long (few MAX_FIELDS c.0.1 off);
        each_field = every (IsWrittenType types) con.fields (fields_written text program core fine fit p k sum there place con e);
      }

  small_words : (n : ℕ) (sum : SumDef) → slice_get types.sums n ≡ Some sum → size_of types (Named n) ≤ MAX_TYPE_WORDS
  small_words n sum there =
      let d = data_declared text program core fine fit p n sum there in
      let decl = Sum d.declares.0 d.declares.1 in
      let f = first_of_name program.decls fine types p.are.types n sum there in
      let own : given (sum_named d.declares.0 types) (λ found. Some (Named found.0)) ≡ Some (Named n) =
      ap (λ name. given (sum_named name types) (λ found. Some (Named found.0))) (sym d.is.name) ∙ given-at (sum_named sum.name types) (λ found. Some (Named found.0)) f.0 f.1
      ∙ ap (λ k. Some (Named k)) f.2 in
      elim (cases_lt MAX_TYPE_WORDS (size_of types (Named n))) [
        | inl lt ↦ absurd (fine (record { rule = C73; declaration = d.number }) (BreaksCheck.limits (BreaksLimits.large_type (
          refl,
          record { signatures = p.signatures; are = p.are; decl = (d.place, decl); there = d.there; ty = Named n; of = IsTypeOf.its_own own; large = lt },
        ))))
        | inr le ↦ le
      ]

  pub small_data : (n : ℕ) (sum : SumDef) → slice_get core.types.sums n ≡ Some sum → IsSmallData core n sum
  small_data n sum there =
      let at : slice_get types.sums n ≡ Some sum = subst (λ (t : Types). slice_get t.sums n ≡ Some sum) p.types there in
      let d = data_declared text program core fine fit p n sum at in
      let decl = Sum d.declares.0 d.declares.1 in
      let names = named d.number (d.place, decl) d.there in
      let some = (fits d.number (d.place, decl) d.there).0 in
      let most = each_at (λ (d : ℕ × Decl). HasConstructors d.1) program.decls tokens.constructors d.number (d.place, decl) d.there in
      let long = same_long (IsConstructor types) d.declares.1 sum.cons d.is.constructors in
      record {
        name = subst IsName (sym d.is.name) names.0;
        some_constructors = subst (λ n. 1 ≤ n) long some;
        constructors = subst (λ n. n ≤ MAX_CONSTRUCTORS) long most;
        each_constructor = subst (λ t. All (IsSmallConstructor t) sum.cons) (sym p.types) (every (IsSmallConstructor types) sum.cons (small_constructor n sum at));
        words = subst (λ t. size_of t (Named n) ≤ MAX_TYPE_WORDS) (sym p.types) (small_words n sum at);
      }

  carried_written : (n : ℕ) (place : ℕ) (name : List ℕ) (e : Option TyExp) → slice_get program.decls n ≡ Some (place, Exn name e)
      → (carried : Option Ty) → Carries types e carried
      → (ty : Ty) → carried ≡ Some ty → IsWrittenType types ty
  carried_written n place name None there carried h ty q = absurd (not_some ty (sym h ∙ q))
  carried_written n place name (Some e) there carried h ty q =
      let d = Exn name (Some e) in
      let same : h.0 ≡ ty = some-same _ _ (sym h.2 ∙ q) in
      type_written text program core fine fit p n (place, d) there e (0, omega arith, refl) (fits n (place, d) there) (counts text program core fine fit p n (place, d) there) ty
      (h.1 ∙ ap Some same)

  small_declared : (n : ℕ) (exn : ExnDef) → slice_get p.are.exns.declared n ≡ Some exn → IsSmallException types exn
  small_declared n exn there =
      let c = from_right (IsException types) _ _ p.are.exns.each n exn there in
      let d = source exception_of program.decls n c.0 c.1 in
      let at : slice_get program.decls d.0 ≡ Some (d.1.0, Exn c.0.0 c.0.1) =
      d.2 ∙ ap (λ decl. Some (d.1.0, decl)) (exception_here d.1.0 d.1.1 c.0 d.3) in
      record {
        name = subst IsName (sym c.2.name) (named d.0 (d.1.0, Exn c.0.0 c.0.1) at);
        carries = carried_written d.0 d.1.0 c.0.0 c.0.1 at exn.carries c.2.carries;
      }

  pub small_exceptions : All (IsSmallException core.types) core.exns
  small_exceptions =
      subst (λ t. All (IsSmallException t) core.exns) (sym p.types)
      (subst (All (IsSmallException types)) (sym (p.exns ∙ p.are.exns.all))
      (All-append (IsSmallException types) own_exceptions p.are.exns.declared (own_small types) (every (IsSmallException types) p.are.exns.declared small_declared)))

  -- the declaration of a function
  pub record DeclaresFunction (k : ℕ) (function : FunC) : Type 0 where
    pub number : ℕ
    pub f : FunctionDecl
    pub place : ℕ
    pub there : slice_get program.decls number ≡ Some (place, Fun f.name f.types f.equations)
    pub is : IsFunctionOf text p.signatures f function

  pub function_declared : (k : ℕ) (function : FunC) → slice_get core.funs k ≡ Some function → DeclaresFunction k function
  function_declared k function there =
      let c = from_right (IsFunctionOf text p.signatures) _ _ p.funs k function there in
      let d = declared function_of p.are.funs.order program.decls k c.0 c.1 in
      record { number = d.0; f = c.0; place = d.1.0; there = d.2 ∙ ap (λ decl. Some (d.1.0, decl)) (function_is d.1 c.0 d.3); is = c.2 }

  pub signature_types : (number place : ℕ) (name : List ℕ) (tys : List TyExp) (equations : List WrittenEquation)
      → slice_get program.decls number ≡ Some (place, Fun name tys equations)
      → (all : List Ty) → all_written types tys ≡ Some all → EachWritten types all
  signature_types number place name tys equations there all is =
      let decl = Fun name tys equations in
      types_written text program core fine fit p number (place, decl) there tys (λ e has. Contains-append_left tys _ e has)
      (fits number (place, decl) there).1 (or_parts (some_type_miscounts tys) _ (counts text program core fine fit p number (place, decl) there)).0 all is

  small_function : (k : ℕ) (function : FunC) → slice_get core.funs k ≡ Some function
      → list_all (is_written_equation types) function.equations ≡ true → IsSmallFunction types function
  small_function k function there equations =
      let d = function_declared k function there in
      let f = d.f in
      let decl = Fun f.name f.types f.equations in
      let parts = signature_parts types f.name f.types _ d.is.signature in
      let all = signature_types d.number d.place f.name f.types f.equations d.there parts.all parts.are in
      let whole : EachWritten types (function.params ++ function.gives ∷ []) = subst (EachWritten types) parts.is all in
      let long : length f.types ≡ length function.params + 1 =
      same_long (IsWritten types) f.types parts.all (all_in_places types f.types parts.all parts.are) ∙ ap (λ (tys : List Ty). length tys) parts.is ∙ length-append function.params (function.gives ∷ []) in
      let two : 2 ≤ length f.types = (fits d.number (d.place, decl) d.there).0 in
      let most : parameters f.types ≤ MAX_PARAMETERS = leb_false MAX_PARAMETERS (parameters f.types) (few_parts d.number (d.place, decl) d.there) in
      let some : 1 ≤ length f.equations = (fits d.number (d.place, decl) d.there).2.0 in
      let cores : length f.equations ≡ length d.is.cores = same_long (IsEquation p.signatures d.is.typed.signature) f.equations d.is.cores d.is.typed.have in
      let count : length function.equations ≡ length d.is.cores =
      ap (λ (es : List EqC). length es) d.is.equations ∙ length-map (cores_alone d.is.cores) erased_equation
      ∙ length-map d.is.cores (λ (c : CoredEquation). c.0) in
      record {
        name = subst IsName (sym d.is.name) (named d.number (d.place, decl) d.there);
        some_params = omega arith;
        params = omega arith;
        each_param = every (IsWrittenType types) function.params (λ i ty e. whole i ty (front function.params (function.gives ∷ []) i ty e));
        gives = whole (length function.params) function.gives (last function.params function.gives);
        equations = omega arith;
        each_equation = equations;
      }

  pub small_functions : ((k : ℕ) (function : FunC) → slice_get core.funs k ≡ Some function → list_all (is_written_equation types) function.equations ≡ true)
      → All (IsSmallFunction core.types) core.funs
  small_functions equations =
      subst (λ t. All (IsSmallFunction t) core.funs) (sym p.types)
      (every (IsSmallFunction types) core.funs (λ k function there. small_function k function there (equations k function there)))
