-- What is written by the numbers of names is what the signatures of the program have.
use Rattle.std.proofs.Common.{◌≡◌, ℕ, ◌+◌, List, [], ◌∷◌, map, Option, Some, None, IfSome, option_map, refl, ap, sym, subst, ◌∙◌, Bool, true, false, if◌then◌else◌, bytes_eq}
use Rattle.std.specs.List.{filter_map}
use Rattle.hume_base.specs.declared.types.Ty.{Ty, Named}
use Rattle.hume_base.specs.declared.types.ConDef.{ConDef}
use Rattle.hume_base.specs.declared.types.SumDef.{SumDef}
use Rattle.hume_base.specs.declared.types.Types.{Types}
use Rattle.hume_ast.specs.declared.tree.TyExp.{TyExp, fold-TyExp}
use Rattle.hume_ast.specs.declared.tree.TyExp.TheOpen.{TyExp-F}
use Rattle.hume_model.specs.declared.core_tree.ExnDef.{ExnDef}
use Rattle.check_tables.specs.graph.Orders.{IsOrder}
use Rattle.check_tables.proofs.graph_lemmas.Orders.{same_order}
use Rattle.check_names.specs.declared.mention_list.NameKind.TheVariants as kind
use Rattle.check_names.specs.Leading.{graph_of}
use Rattle.check_typing.specs.Partial.{given}
use Rattle.check_typing.specs.Signatures.{first_named, one_further, sum_named}
use Rattle.check_typing.specs.WrittenTypes.{written, written_step, all_there, all_written}
use Rattle.check_typing.specs.Declarations.{InPlaces, signature_written}
use Rattle.check_typing.specs.declared.signatures.Signature.{Signature}
use Rattle.check_typing.specs.declared.signatures.Signatures.{Signatures}
use Rattle.check_typing.proofs.Maybe.{given-inv, some-same}
use Rattle.check_tables.specs.names.Names.{number_of}
use Rattle.check_scopes.proofs.signatures_lemmas.Lookup.{found_number}
use Rattle.check_rules.specs.Declared.{Decls, DataDecl, data_of, ExceptionDecl, exception_of, FunctionDecl, function_of, in_order}
use Rattle.check_rules.specs.SignaturesOf.{IsConstructor, IsDataType, Carries, IsException, AreSignatures}
use Rattle.check_signatures.specs.declared.ordered.Ordered.{Ordered}
use Rattle.check_signatures.specs.inner.Named as named
use Rattle.check_signatures.specs.inner.Named.{Numbers, named_step, written_by, all_by, constructor_by, DataType, data_type_by, carried_by, exception_by, function_by, data_types_in, exceptions_in, functions_in, data_type_name, numbers_in, without_size, AreWritten, IsUnwritten}

-- all there and in their places

pub in_places : {A B : Type 0} (g : A → Option B) (xs : List A) (ys : List B) → all_there (map g xs) ≡ Some ys → InPlaces (λ x y. g x ≡ Some y) xs ys
in_places g [] [] h = tt
in_places g [] (y ∷ ys) h = cc
in_places {A} {B} g (x ∷ xs) zs h =
    let first = given-inv (g x) (λ y. given (all_there (map g xs)) (λ others. Some (y ∷ others))) zs h in
    let others = given-inv (all_there (map g xs)) (λ os. Some (first.0 ∷ os)) zs first.2 in
    subst (InPlaces (λ x y. g x ≡ Some y) (x ∷ xs)) (some-same (first.0 ∷ others.0) zs others.2) (first.1, in_places g xs others.0 others.1)

pub all_in_places : {A B : Type 0} (g : A → Option B) (xs : List A) (ys : List B) → InPlaces (λ x y. g x ≡ Some y) xs ys → all_there (map g xs) ≡ Some ys
all_in_places g [] [] h = refl
all_in_places g [] (y ∷ ys) h = absurd h
all_in_places g (x ∷ xs) [] h = absurd h
all_in_places g (x ∷ xs) (y ∷ ys) h =
    ap (λ o. given o (λ first. given (all_there (map g xs)) (λ others. Some (first ∷ others)))) h.0
    ∙ ap (λ o. given o (λ others. Some (y ∷ others))) (all_in_places g xs ys h.1)

-- what belongs together in one way belongs together in another
pub in_another_way : {A B : Type 0} (R S : A → B → Type 0) → ((x : A) (y : B) → R x y → S x y) → (xs : List A) (ys : List B) → InPlaces R xs ys → InPlaces S xs ys
in_another_way R S weaker [] [] h = tt
in_another_way R S weaker [] (y ∷ ys) h = absurd h
in_another_way R S weaker (x ∷ xs) [] h = absurd h
in_another_way R S weaker (x ∷ xs) (y ∷ ys) h = (weaker x y h.0, in_another_way R S weaker xs ys h.1)

pub seen_in_places : {A B C : Type 0} (R : A → C → Type 0) (see : B → C) (xs : List A) (ys : List B) → InPlaces R xs (map see ys) → InPlaces (λ x y. R x (see y)) xs ys
seen_in_places R see [] [] h = tt
seen_in_places R see [] (y ∷ ys) h = absurd h
seen_in_places R see (x ∷ xs) [] h = absurd h
seen_in_places R see (x ∷ xs) (y ∷ ys) h = (h.0, seen_in_places R see xs ys h.1)

pub places_of_seen : {A B C : Type 0} (R : A → C → Type 0) (see : B → C) (xs : List A) (ys : List B) → InPlaces (λ x y. R x (see y)) xs ys → InPlaces R xs (map see ys)
places_of_seen R see [] [] h = tt
places_of_seen R see [] (y ∷ ys) h = absurd h
places_of_seen R see (x ∷ xs) [] h = absurd h
places_of_seen R see (x ∷ xs) (y ∷ ys) h = (h.0, places_of_seen R see xs ys h.1)

-- numbers go by names alone

abbrev sum_name : SumDef → List ℕ
sum_name sum = sum.name

number_further : {A B : Type 0} (a : Option (ℕ × A)) (b : Option (ℕ × B)) → option_map (λ f. f.0) a ≡ option_map (λ f. f.0) b
    → option_map (λ f. f.0) (one_further a) ≡ option_map (λ f. f.0) (one_further b)
number_further None None e = refl
number_further None (Some b) e = cc
number_further (Some a) None e = cc
number_further (Some a) (Some b) e = let same : a.0 ≡ b.0 = some-same _ _ e in ap (λ n. Some (n + 1)) same

same_number : (name : List ℕ) (ds : List DataDecl) (sums : List SumDef) → InPlaces (λ (d : DataDecl) (s : SumDef). s.name ≡ d.0) ds sums
    → option_map (λ (f : ℕ × DataDecl). f.0) (first_named data_type_name name ds) ≡ option_map (λ (f : ℕ × SumDef). f.0) (first_named sum_name name sums)
same_number name [] [] h = refl
same_number name [] (s ∷ sums) h = absurd h
same_number name (d ∷ ds) [] h = absurd h
same_number name (d ∷ ds) (s ∷ sums) h =
    by (bytes_eq d.0 name) (number_further _ _ (same_number name ds sums h.1))
    ∙ ap (λ title. option_map (λ (f : ℕ × SumDef). f.0) (if bytes_eq title name then Some (0, s) else one_further (first_named sum_name name sums))) (sym h.0)
  where
    by : (b : Bool) → option_map (λ (f : ℕ × DataDecl). f.0) (one_further (first_named data_type_name name ds)) ≡ option_map (λ (f : ℕ × SumDef). f.0) (one_further (first_named sum_name name sums))
        → option_map (λ (f : ℕ × DataDecl). f.0) (if b then Some (0, d) else one_further (first_named data_type_name name ds))
        ≡ option_map (λ (f : ℕ × SumDef). f.0) (if b then Some (0, s) else one_further (first_named sum_name name sums))
    by true e = refl
    by false e = e

as_type : (o : Option (ℕ × SumDef)) → given (option_map (λ (f : ℕ × SumDef). f.0) o) (λ n. Some (Named n)) ≡ given o (λ found. Some (Named found.0))
as_type None = refl
as_type (Some found) = refl

module _ (decls : Decls) (order : List ℕ) (types : Types) (names : InPlaces (λ (d : DataDecl) (s : SumDef). s.name ≡ d.0) (in_order data_of order decls) types.sums) where
  abbrev numbers : Numbers
  numbers = numbers_in decls order

  number : (name : List ℕ) → number_of name numbers ≡ option_map (λ (f : ℕ × SumDef). f.0) (sum_named name types)
  number name = found_number data_type_name name (in_order data_of order decls) ∙ same_number name (in_order data_of order decls) types.sums names

  level : (x : TyExp-F (Option Ty)) → named_step numbers x ≡ written_step types x
  level TyExp-F.Bool = refl
  level TyExp-F.Char = refl
  level (TyExp-F.Int bits) = refl
  level (TyExp-F.Nat bits) = refl
  level (TyExp-F.Vector count item) = refl
  level (TyExp-F.Named name) = ap (λ o. given o (λ n. Some (Named n))) (number name) ∙ as_type (sum_named name types)
  level (TyExp-F.Tuple parts) = refl

  same_written : (e : TyExp) → written_by numbers e ≡ written types e
  same_written e = λ i. fold-TyExp (Option Ty) (λ x. level x i) e

  same_all : (es : List TyExp) → all_by numbers es ≡ all_written types es
  same_all es = λ i. all_there (map (λ e. same_written e i) es)

  -- constructors and data types

  constructor_is : (d : List ℕ × List TyExp) (con : ConDef) → constructor_by numbers d ≡ Some con → IsConstructor types d con
  constructor_is d con h =
      let g = given-inv (all_by numbers d.1) (λ tys. Some (record { name = d.0; fields = tys })) con h in
      let is : record { name = d.0; fields = g.0 } ≡ con = some-same _ con g.2 in
      record { name = ap (λ (c : ConDef). c.name) (sym is); fields = sym (same_all d.1) ∙ g.1 ∙ ap (λ (c : ConDef). Some c.fields) is }

  constructor_of : (d : List ℕ × List TyExp) (con : ConDef) → IsConstructor types d con → constructor_by numbers d ≡ Some con
  constructor_of d con p =
      ap (λ o. given o (λ tys. Some (record { name = d.0; fields = tys }))) (same_all d.1 ∙ p.fields)
      ∙ ap (λ title. Some (record { name = title; fields = con.fields })) (sym p.name)

  data_type_is : (d : DataDecl) (sum : SumDef) → data_type_by numbers d ≡ Some (without_size sum) → IsDataType types d sum
  data_type_is d sum h =
      let g = given-inv (all_there (map (constructor_by numbers) d.1)) (λ cons. Some (d.0, cons)) (without_size sum) h in
      let is : (d.0, g.0) ≡ without_size sum = some-same _ (without_size sum) g.2 in
      let cons : all_there (map (constructor_by numbers) d.1) ≡ Some sum.cons = g.1 ∙ ap (λ (x : DataType). Some x.1) is in
      record {
        name = ap (λ (x : DataType). x.0) (sym is);
        constructors = in_another_way (λ c con. constructor_by numbers c ≡ Some con) (IsConstructor types) constructor_is d.1 sum.cons
            (in_places (constructor_by numbers) d.1 sum.cons cons);
      }

  data_type_of : (d : DataDecl) (sum : SumDef) → IsDataType types d sum → data_type_by numbers d ≡ Some (without_size sum)
  data_type_of d sum p =
      ap (λ o. given o (λ cons. Some (d.0, cons)))
      (all_in_places (constructor_by numbers) d.1 sum.cons
      (in_another_way (IsConstructor types) (λ c con. constructor_by numbers c ≡ Some con) constructor_of d.1 sum.cons p.constructors))
      ∙ ap (λ title. Some (title, sum.cons)) (sym p.name)

  -- exceptions

  carried_is : (e : Option TyExp) (carried : Option Ty) → carried_by numbers e ≡ Some carried → Carries types e carried
  carried_is None carried h = sym (some-same None carried h)
  carried_is (Some ty) carried h =
      let g = given-inv (written_by numbers ty) (λ t. Some (Some t)) carried h in
      (g.0, sym (same_written ty) ∙ g.1, sym (some-same (Some g.0) carried g.2))

  carried_of : (e : Option TyExp) (carried : Option Ty) → Carries types e carried → carried_by numbers e ≡ Some carried
  carried_of None carried h = ap Some (sym h)
  carried_of (Some ty) carried h = ap (λ o. given o (λ t. Some (Some t))) (same_written ty ∙ h.1) ∙ ap Some (sym h.2)

  exception_is : (d : ExceptionDecl) (exn : ExnDef) → exception_by numbers d ≡ Some exn → IsException types d exn
  exception_is d exn h =
      let g = given-inv (carried_by numbers d.1) (λ carried. Some (record { name = d.0; carries = carried })) exn h in
      let is : record { name = d.0; carries = g.0 } ≡ exn = some-same _ exn g.2 in
      record { name = ap (λ (e : ExnDef). e.name) (sym is); carries = subst (Carries types d.1) (ap (λ (e : ExnDef). e.carries) is) (carried_is d.1 g.0 g.1) }

  exception_has : (d : ExceptionDecl) (exn : ExnDef) → IsException types d exn → exception_by numbers d ≡ Some exn
  exception_has d exn p =
      ap (λ o. given o (λ carried. Some (record { name = d.0; carries = carried }))) (carried_of d.1 exn.carries p.carries)
      ∙ ap (λ title. Some (record { name = title; carries = exn.carries })) (sym p.name)

  -- functions

  function_same : (f : FunctionDecl) → function_by numbers f ≡ signature_written types f.name f.types
  function_same f = ap (λ o. named.with_types f.name o) (same_all f.types)

  pub data_types_there : InPlaces (IsDataType types) (in_order data_of order decls) types.sums → data_types_in numbers decls order ≡ Some (map without_size types.sums)
  data_types_there p =
      all_in_places (data_type_by numbers) (in_order data_of order decls) (map without_size types.sums)
      (places_of_seen (λ d x. data_type_by numbers d ≡ Some x) without_size (in_order data_of order decls) types.sums
      (in_another_way (IsDataType types) (λ d s. data_type_by numbers d ≡ Some (without_size s)) data_type_of (in_order data_of order decls) types.sums p))

  pub data_types_are : data_types_in numbers decls order ≡ Some (map without_size types.sums) → InPlaces (IsDataType types) (in_order data_of order decls) types.sums
  data_types_are h =
      in_another_way (λ d s. data_type_by numbers d ≡ Some (without_size s)) (IsDataType types) data_type_is (in_order data_of order decls) types.sums
      (seen_in_places (λ d x. data_type_by numbers d ≡ Some x) without_size (in_order data_of order decls) types.sums
      (in_places (data_type_by numbers) (in_order data_of order decls) (map without_size types.sums) h))

  pub exceptions_are : (exns : List ExnDef) → exceptions_in numbers decls ≡ Some exns → InPlaces (IsException types) (filter_map exception_of decls) exns
  exceptions_are exns h =
      in_another_way (λ d e. exception_by numbers d ≡ Some e) (IsException types) exception_is (filter_map exception_of decls) exns
      (in_places (exception_by numbers) (filter_map exception_of decls) exns h)

  pub exceptions_there : (exns : List ExnDef) → InPlaces (IsException types) (filter_map exception_of decls) exns → exceptions_in numbers decls ≡ Some exns
  exceptions_there exns p =
      all_in_places (exception_by numbers) (filter_map exception_of decls) exns
      (in_another_way (IsException types) (λ d e. exception_by numbers d ≡ Some e) exception_has (filter_map exception_of decls) exns p)

  abbrev HasSignature : FunctionDecl → Signature → Type 0
  HasSignature f signature = signature_written types f.name f.types ≡ Some signature

  pub functions_are : (fs : List ℕ) (funs : List Signature) → functions_in numbers decls fs ≡ Some funs → InPlaces HasSignature (in_order function_of fs decls) funs
  functions_are fs funs h =
      in_another_way (λ f s. function_by numbers f ≡ Some s) HasSignature (λ f s e. sym (function_same f) ∙ e) (in_order function_of fs decls) funs
      (in_places (function_by numbers) (in_order function_of fs decls) funs h)

  pub functions_there : (fs : List ℕ) (funs : List Signature) → InPlaces HasSignature (in_order function_of fs decls) funs → functions_in numbers decls fs ≡ Some funs
  functions_there fs funs p =
      all_in_places (function_by numbers) (in_order function_of fs decls) funs
      (in_another_way HasSignature (λ f s. function_by numbers f ≡ Some s) (λ f s e. function_same f ∙ e) (in_order function_of fs decls) funs p)

-- the names of data types that are written
names_written : (numbers : Numbers) (ds : List DataDecl) (sums : List SumDef) → all_there (map (data_type_by numbers) ds) ≡ Some (map without_size sums)
    → InPlaces (λ (d : DataDecl) (s : SumDef). s.name ≡ d.0) ds sums
names_written numbers ds sums h =
    in_another_way (λ d s. data_type_by numbers d ≡ Some (without_size s)) (λ (d : DataDecl) (s : SumDef). s.name ≡ d.0)
    (λ d s e.
    let g = given-inv (all_there (map (constructor_by numbers) d.1)) (λ cons. Some (d.0, cons)) (without_size s) e in
    ap (λ (x : DataType). x.0) (sym (some-same _ (without_size s) g.2)))
    ds sums
    (seen_in_places (λ d x. data_type_by numbers d ≡ Some x) without_size ds sums (in_places (data_type_by numbers) ds (map without_size sums) h))

-- the same where the order is told twice, and the names by the one
pub told_once : (decls : Decls) (data_order function_order : List ℕ) (names : Numbers) (a b : List ℕ) → names ≡ numbers_in decls a
    → a ≡ data_order → b ≡ data_order → IsUnwritten names decls b function_order
    → IsUnwritten (numbers_in decls data_order) decls data_order function_order
told_once decls data_order function_order names a b is first second un =
    subst (λ (x : Numbers × List ℕ). IsUnwritten x.0 decls x.1 function_order)
    (let p : (names, b) ≡ (numbers_in decls data_order, data_order) = λ i. ((is ∙ ap (numbers_in decls) first) i, second i) in p) un

module _ (decls : Decls) (data_order function_order : List ℕ) (p : IsOrder (graph_of kind.DataType decls) data_order) (q : IsOrder (graph_of kind.Function decls) function_order) where
  -- signatures that have what is written are those of the program
  pub are_signatures : (s : Signatures) → AreWritten (numbers_in decls data_order) decls data_order function_order s
      → (are : AreSignatures decls s) × (are.funs.order ≡ function_order)
  are_signatures s w =
      let names = names_written (numbers_in decls data_order) (in_order data_of data_order decls) s.types.sums w.data_types in (
        record {
          types = record { order = data_order; numbered = p; each = data_types_are decls data_order s.types names w.data_types; sizes = w.sizes };
          exns = record { declared = w.declared; each = exceptions_are decls data_order s.types names w.declared w.exceptions; all = w.all_exceptions };
          funs = record { order = function_order; numbered = q; each = functions_are decls data_order s.types names function_order s.funs w.functions };
        },
        refl,
      )

  names_of_signatures : (s : Signatures) (are : AreSignatures decls s) → InPlaces (IsDataType s.types) (in_order data_of data_order decls) s.types.sums
  names_of_signatures s are =
      subst (λ o. InPlaces (IsDataType s.types) (in_order data_of o decls) s.types.sums)
      (same_order (graph_of kind.DataType decls) are.types.order data_order are.types.numbered p) are.types.each

  -- where something that is written has no type there are no signatures
  pub no_signatures : IsUnwritten (numbers_in decls data_order) decls data_order function_order → (s : Signatures) → AreSignatures decls s → ⊥
  no_signatures un s are = by un
    where
      each : InPlaces (IsDataType s.types) (in_order data_of data_order decls) s.types.sums
      each = names_of_signatures s are

      names : InPlaces (λ (d : DataDecl) (s : SumDef). s.name ≡ d.0) (in_order data_of data_order decls) s.types.sums
      names = in_another_way (IsDataType s.types) (λ (d : DataDecl) (s : SumDef). s.name ≡ d.0) (λ d s is. is.name) (in_order data_of data_order decls) s.types.sums each

      missing : {A : Type 0} (o : Option A) (x : A) → o ≡ None → o ≡ Some x → ⊥
      missing o x n h = let e : None ≡ Some x = sym n ∙ h in cc

      functions : InPlaces (λ (f : FunctionDecl) (signature : Signature). signature_written s.types f.name f.types ≡ Some signature) (in_order function_of function_order decls) s.funs
      functions =
          subst (λ o. InPlaces (λ (f : FunctionDecl) (signature : Signature). signature_written s.types f.name f.types ≡ Some signature) (in_order function_of o decls) s.funs)
          (same_order (graph_of kind.Function decls) are.funs.order function_order are.funs.numbered q) are.funs.each

      by : IsUnwritten (numbers_in decls data_order) decls data_order function_order → ⊥
      by (IsUnwritten.no_data_types n) = missing _ _ n (data_types_there decls data_order s.types names each)
      by (IsUnwritten.no_exceptions n) = missing _ _ n (exceptions_there decls data_order s.types names are.exns.declared are.exns.each)
      by (IsUnwritten.no_functions n) = missing _ _ n (functions_there decls data_order s.types names function_order s.funs functions)

  -- the same where the order is told twice, and the names by the one
  module _ (names : Numbers) (a b : List ℕ) (is : names ≡ numbers_in decls a) (first : a ≡ data_order) (second : b ≡ data_order) where
    named_so : names ≡ numbers_in decls data_order
    named_so = is ∙ ap (numbers_in decls) first

    pub found_are : (o : Option Ordered) → IfSome o (λ ordered. AreWritten names decls b function_order ordered.signatures × (ordered.functions ≡ function_order))
        → IfSome o (λ ordered. (are : AreSignatures decls ordered.signatures) × (are.funs.order ≡ ordered.functions))
    found_are None h = tt
    found_are (Some ordered) h =
        let r = are_signatures ordered.signatures (let w : AreWritten (numbers_in decls data_order) decls data_order function_order ordered.signatures =
        subst (λ (x : Numbers × List ℕ). AreWritten x.0 decls x.1 function_order ordered.signatures)
        (let p : (names, b) ≡ (numbers_in decls data_order, data_order) = λ i. (named_so i, second i) in p) h.0 in w) in
        (r.0, r.1 ∙ sym h.1)
