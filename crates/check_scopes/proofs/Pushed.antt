-- What a name stands for, with its type on the stack.
use Rattle.std.proofs.Common.{◌≡◌, ℕ, ◌+◌, List, ◌∷◌, length, Option, Some, None, true, is_some, option_map, refl, ap, sym, subst, ◌∙◌}
use Rattle.std.proofs.lemmas.Bool.{false≢true}
use Rattle.hume_base.specs.declared.types.Ty.{Ty, Tuple as TupleTy}
use Rattle.hume_base.specs.declared.types.SumDef.{SumDef}
use Rattle.hume_model.specs.declared.core_tree.ExnDef.{ExnDef}
use Rattle.check_scopes.specs.types.Contexts.{Known as Context}
use Rattle.check_scopes.specs.types.Nodes.{type_at}
use Rattle.check_typing.specs.Signatures.{Constructor, fun_named, exn_named, con_named}
use Rattle.check_typing.specs.declared.signatures.Signature.{Signature}
use Rattle.check_typing.specs.declared.signatures.Signatures.{Signatures}
use Rattle.check_typing.proofs.Maybe.{some-same}
use Rattle.check_scopes.specs.signatures.Numbered.{constructors_before, numbered_in}
use Rattle.check_scopes.specs.Known.{Known, signature_type, with_type, with_function, with_constructor, with_exception, with_carried}
use Rattle.check_scopes.specs.inner.Kept.{type_or_bool, carried_type, kept_types}
use Rattle.check_scopes.proofs.Places.{function_at, exception_at, constructor_at}

-- what is known of a context and signatures
abbrev pub known_from : Context → Signatures → Known
known_from context s = (context.0, context.1, s)

-- the type that is kept at a place
abbrev pub with_kept : ℕ → Context → Context
with_kept at context = (context.0, type_at context.2 at ∷ context.1, context.2)

pushed : (context new : Context) (s : Signatures) (at : ℕ) (ty : Ty) → context.2 ≡ kept_types s → type_at (kept_types s) at ≡ ty
    → new ≡ with_kept at context
    → known_from new s ≡ with_type ty (known_from context s)
pushed context new s at ty kept is new_is =
    ap (λ k. known_from k s) new_is
    ∙ ap (λ t. with_type t (known_from context s)) (ap (λ tys. type_at tys at) kept ∙ is)

with_something : (carries : Option Ty) (n : ℕ) (known : Known) → is_some carries ≡ true
    → with_carried n carries known ≡ (Some (n, true), with_type (type_or_bool carries) known)
with_something None n known h = absurd (false≢true h)
with_something (Some carried) n known h = refl

-- what is found with its number among all constructors
pub numbered_found : (sums : List SumDef) (o : Option Constructor) (found : Constructor × ℕ) → option_map (numbered_in sums) o ≡ Some found
    → (o ≡ Some found.0) × (found.1 ≡ constructors_before sums found.0.sum + found.0.place)
numbered_found sums None found h = cc
numbered_found sums (Some con) found h =
    let e : numbered_in sums con ≡ found = some-same _ _ h in
    (ap (λ f. Some f.0) e, subst (λ f. f.1 ≡ constructors_before sums f.0.sum + f.0.place) e refl)

module _ (context new : Context) (s : Signatures) (known : Known) (name : List ℕ) (view : known_from context s ≡ known) (kept : context.2 ≡ kept_types s) where
  pub function_pushed : (n : ℕ) (function : Signature) → fun_named name s ≡ Some (n, function) → new ≡ with_kept n context
      → (Some n, known_from new s) ≡ with_function (fun_named name known.2) known
  function_pushed n function h new_is =
      ap (λ k. (Some n, k)) (pushed context new s n (signature_type function) kept (function_at s name n function h) new_is)
      ∙ sym (ap (λ found. with_function found (known_from context s)) h) ∙ ap (λ k. with_function (fun_named name k.2) k) view

  pub exception_pushed : (n : ℕ) (exn : ExnDef) → exn_named name s ≡ Some (n, exn) → is_some exn.carries ≡ true
      → new ≡ with_kept (length s.funs + n) context
      → (Some (n, true), known_from new s) ≡ with_exception (exn_named name known.2) known
  exception_pushed n exn h carries new_is =
      ap (λ k. (Some (n, true), k)) (pushed context new s (length s.funs + n) (carried_type exn) kept (exception_at s name n exn h) new_is)
      ∙ sym (ap (λ found. with_exception found (known_from context s)) h ∙ with_something exn.carries n (known_from context s) carries)
      ∙ ap (λ k. with_exception (exn_named name k.2) k) view

  pub constructor_pushed : (con : Constructor) → con_named name s ≡ Some con
      → new ≡ with_kept (length s.funs + length s.exns + (constructors_before s.types.sums con.sum + con.place)) context
      → (Some (con.sum, con.place), known_from new s) ≡ with_constructor (con_named name known.2) known
  constructor_pushed con h new_is =
      ap (λ k. (Some (con.sum, con.place), k)) (pushed context new s _ (TupleTy con.fields) kept (constructor_at s name con h) new_is)
      ∙ sym (ap (λ found. with_constructor found (known_from context s)) h) ∙ ap (λ k. with_constructor (con_named name k.2) k) view
