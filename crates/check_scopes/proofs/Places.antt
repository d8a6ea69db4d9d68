-- The types of signatures stand at the places at which they are looked up.
use Rattle.std.proofs.Common.{◌≡◌, ℕ, zero, suc, ◌+◌, ◌<◌, List, [], ◌∷◌, ◌++◌, map, length, take, slice_get, option_map, Some, ap, sym, ◌∙◌, arith}
use Rattle.std.proofs.lemmas.List.{get_or_append_left, get_or-append-add, length-map}
use Rattle.std.proofs.lemmas.List.Sums.{sum_by-cons}
use Rattle.std.proofs.lemmas.Option.{slice_get_within, slice_get-map, get_or_from_slice_get}
use Rattle.hume_base.specs.declared.types.Ty.{Ty, Bool as BoolTy, Tuple as TupleTy}
use Rattle.hume_base.specs.declared.types.ConDef.{ConDef}
use Rattle.hume_base.specs.declared.types.SumDef.{SumDef}
use Rattle.hume_base.specs.Values.{fields_at, fields_of}
use Rattle.hume_model.specs.declared.core_tree.ExnDef.{ExnDef}
use Rattle.check_scopes.specs.types.Nodes.{type_at}
use Rattle.check_typing.specs.Signatures.{Constructor, fun_named, exn_named, con_named}
use Rattle.check_typing.specs.declared.signatures.Signature.{Signature}
use Rattle.check_typing.specs.declared.signatures.Signatures.{Signatures}
use Rattle.check_typing.proofs.NamesFound.{first_stands, con_stands}
use Rattle.check_scopes.specs.signatures.Numbered.{constructors_before}
use Rattle.check_scopes.specs.Known.{signature_type}
use Rattle.check_scopes.specs.inner.Kept.{carried_type, fields_type, constructor_types, kept_types}

in_front : (tys more : List Ty) (n : ℕ) (ty : Ty) → slice_get tys n ≡ Some ty → type_at (tys ++ more) n ≡ ty
in_front tys more n ty h = get_or_append_left tys more BoolTy n (slice_get_within tys n ty h) ∙ get_or_from_slice_get tys n ty BoolTy h

mapped : {A : Type 0} (f : A → Ty) (xs : List A) (n : ℕ) (x : A) → slice_get xs n ≡ Some x → slice_get (map f xs) n ≡ Some (f x)
mapped f xs n x h = slice_get-map f xs n ∙ ap (option_map f) h

-- behind the types of others
behind : {A : Type 0} (f : A → Ty) (xs : List A) (more : List Ty) (n : ℕ) → type_at (map f xs ++ more) (length xs + n) ≡ type_at more n
behind f xs more n = ap (λ count. type_at (map f xs ++ more) (count + n)) (sym (length-map xs f)) ∙ get_or-append-add (map f xs) more n BoolTy

pub function_at : (s : Signatures) (name : List ℕ) (n : ℕ) (function : Signature) → fun_named name s ≡ Some (n, function)
    → type_at (kept_types s) n ≡ signature_type function
function_at s name n function h =
    in_front (map signature_type s.funs) _ n (signature_type function)
    (mapped signature_type s.funs n function (first_stands (λ (function : Signature). function.name) name s.funs n function h))

pub exception_at : (s : Signatures) (name : List ℕ) (n : ℕ) (exn : ExnDef) → exn_named name s ≡ Some (n, exn)
    → type_at (kept_types s) (length s.funs + n) ≡ carried_type exn
exception_at s name n exn h =
    behind signature_type s.funs (map carried_type s.exns ++ constructor_types s.types.sums) n
    ∙ in_front (map carried_type s.exns) _ n (carried_type exn)
    (mapped carried_type s.exns n exn (first_stands (λ (exn : ExnDef). exn.name) name s.exns n exn h))

-- a constructor of a data type
of_one : (cons : List ConDef) (more : List Ty) (place : ℕ) (fields : List Ty) → place < length cons → fields_of (slice_get cons place) ≡ fields
    → type_at (map fields_type cons ++ more) place ≡ TupleTy fields
of_one [] more place fields lt is = absurd (let e : ⊥ = omega arith in e)
of_one (con ∷ cons) more zero fields lt is = ap TupleTy is
of_one (con ∷ cons) more (suc place) fields lt is = of_one cons more place fields (let e : place < length cons = omega arith in e) is

among : (sums : List SumDef) (number : ℕ) (sum : SumDef) (place : ℕ) (fields : List Ty) → slice_get sums number ≡ Some sum → place < length sum.cons
    → fields_at sum place ≡ fields → type_at (constructor_types sums) (constructors_before sums number + place) ≡ TupleTy fields
among [] number sum place fields there lt is = cc
among (one ∷ sums) zero sum place fields there lt is =
    let same : one ≡ sum = cc in
    ap (type_at (constructor_types (one ∷ sums))) (let e : 0 + place ≡ place = omega arith in e)
    ∙ of_one one.cons (constructor_types sums) place fields (let l : place < length one.cons = rw same lt in l)
    (ap (λ (s : SumDef). fields_at s place) same ∙ is)
among (one ∷ sums) (suc number) sum place fields there lt is =
    ap (type_at (constructor_types (one ∷ sums)))
    (ap (λ n. n + place) (sum_by-cons (λ (s : SumDef). length s.cons) one (take number sums))
    ∙ (let e : length one.cons + constructors_before sums number + place ≡ length one.cons + (constructors_before sums number + place) = omega arith in e))
    ∙ behind fields_type one.cons (constructor_types sums) (constructors_before sums number + place)
    ∙ among sums number sum place fields there lt is

pub constructor_at : (s : Signatures) (name : List ℕ) (con : Constructor) → con_named name s ≡ Some con
    → type_at (kept_types s) (length s.funs + length s.exns + (constructors_before s.types.sums con.sum + con.place)) ≡ TupleTy con.fields
constructor_at s name con h =
    let is = con_stands name s.types.sums con h in
    let n = constructors_before s.types.sums con.sum + con.place in
    ap (type_at (kept_types s)) (let e : length s.funs + length s.exns + n ≡ length s.funs + (length s.exns + n) = omega arith in e)
    ∙ behind signature_type s.funs (map carried_type s.exns ++ constructor_types s.types.sums) (length s.exns + n)
    ∙ behind carried_type s.exns (constructor_types s.types.sums) n
    ∙ among s.types.sums con.sum is.sum con.place con.fields is.there is.within is.fields
