-- The types that a function is written with.
use Rattle.std.proofs.Common.{◌≡◌, List, [], ◌∷◌, ◌++◌, map, Option, Some, None, refl, ap, ◌∙◌}
use Rattle.std.proofs.lemmas.List.{map-append}
use Rattle.std.proofs.lemmas.Grind.{common_steps}
use Rattle.hume_base.specs.declared.types.Ty.{Ty, Tuple as TupleTy}
use Rattle.hume_ast.specs.declared.tree.TyExp.{TyExp}
use Rattle.check_typing.specs.Partial.{given}
use Rattle.check_typing.specs.WrittenTypes.{all_there, written, all_written}
use Rattle.check_typing.specs.Declarations.{parted}
use Rattle.check_scopes.specs.Known.{Known, with_type}
use Rattle.check_scopes.specs.Written.{with_written, with_written_tuple}
use Rattle.check_tasks.specs.States.{State, with_types}
use Rattle.check_typing.proofs.Maybe.{given-inv, some-same}
use Rattle.check_declarations.specs.functions.inner.Functions.{with_signature}
use Rattle.check_declarations.proofs.functions_lemmas.EquationLaws.{nothing}

all_there_last : {A : Type 0} (os : List (Option A)) (o : Option A)
    → all_there (os ++ o ∷ []) ≡ given (all_there os) (λ xs. given o (λ x. Some (xs ++ x ∷ [])))
all_there_last [] None = refl
all_there_last [] (Some x) = refl
all_there_last (None ∷ os) o = refl
all_there_last (Some y ∷ os) o = ap (λ r. given r (λ others. Some (y ∷ others))) (all_there_last os o) ∙ moved (all_there os) o
  where
    moved : (r : Option (List _)) (o : Option _) → given (given r (λ xs. given o (λ x. Some (xs ++ x ∷ [])))) (λ others. Some (y ∷ others))
        ≡ given (given r (λ others. Some (y ∷ others))) (λ xs. given o (λ x. Some (xs ++ x ∷ [])))
    moved None o = refl
    moved (Some xs) None = refl
    moved (Some xs) (Some x) = refl

parted_last : (tys : List Ty) (ty : Ty) → parted (tys ++ ty ∷ []) ≡ Some (tys, ty)
parted_last [] ty = refl
parted_last (first ∷ []) ty = refl
parted_last (first ∷ next ∷ tys) ty = ap (λ o. given o (λ others. Some (first ∷ others.0, others.1))) (parted_last (next ∷ tys) ty)

-- the state's types, then its cores
abbrev pub state_of : Known → State → State
state_of known state = (known, state.1, state.2, state.3)

-- the parameters of a signature and what it gives, one after the other
both : (params : Option (List Ty)) (gives : Option Ty) (state : State)
    → given (given params (λ tys. given gives (λ ty. Some (tys ++ ty ∷ []))))
    (λ all. given (parted all) (λ p. Some (with_types (p.1 ∷ TupleTy p.0 ∷ state.0.1) state)))
    ≡ given params (λ tys. given gives (λ ty. Some (with_types (ty ∷ TupleTy tys ∷ state.0.1) state)))
both None gives state = refl
both (Some tys) None state = refl
both (Some tys) (Some ty) state = ap (λ o. given o (λ p. Some (with_types (p.1 ∷ TupleTy p.0 ∷ state.0.1) state))) (parted_last tys ty)

signature_is : (state : State) (types params : List TyExp) (gives : TyExp) → types ≡ params ++ gives ∷ []
    → with_signature types state
    ≡ given (all_written state.0.2.types params) (λ tys. given (written state.0.2.types gives) (λ ty. Some (with_types (ty ∷ TupleTy tys ∷ state.0.1) state)))
signature_is state types params gives h =
    ap (λ ts. with_signature ts state) h
    ∙ ap (λ os. given (all_there os) (λ all. given (parted all) (λ p. Some (with_types (p.1 ∷ TupleTy p.0 ∷ state.0.1) state))))
    (map-append (written state.0.2.types) params (gives ∷ []))
    ∙ ap (λ o. given o (λ all. given (parted all) (λ p. Some (with_types (p.1 ∷ TupleTy p.0 ∷ state.0.1) state))))
    (all_there_last (map (written state.0.2.types) params) (written state.0.2.types gives))
    ∙ both (all_written state.0.2.types params) (written state.0.2.types gives) state

module _ (state : State) (types params : List TyExp) (gives : TyExp) (split : types ≡ params ++ gives ∷ []) where
  abbrev signed : List Ty → Ty → State
  signed tys ty = with_types (ty ∷ TupleTy tys ∷ state.0.1) state

  abbrev with_tuple : List Ty → Known
  with_tuple tys = with_type (TupleTy tys) state.0

  pub signature_pushed : (mid new : Known) → with_written_tuple params state.0 ≡ Some mid → with_written gives mid ≡ Some new
      → with_signature types state ≡ Some (state_of new state)
  signature_pushed mid new p g =
      let k = given-inv (all_written state.0.2.types params) (λ tys. Some (with_tuple tys)) mid p in
      let l = given-inv (written state.0.2.types gives) (λ ty. Some (with_type ty (with_tuple k.0))) new (ap (with_written gives) (some-same _ _ k.2) ∙ g) in
      signature_is state types params gives split
      ∙ ap (λ o. given o (λ tys. given (written state.0.2.types gives) (λ ty. Some (signed tys ty)))) k.1
      ∙ ap (λ o. given o (λ ty. Some (signed k.0 ty))) l.1
      ∙ ap (λ known. Some (state_of known state)) (some-same _ _ l.2)

  pub parameters_missing : with_written_tuple params state.0 ≡ None → with_signature types state ≡ None
  parameters_missing p = signature_is state types params gives split ∙ nothing (all_written state.0.2.types params) with_tuple _ p

  pub given_type_missing : (mid : Known) → with_written_tuple params state.0 ≡ Some mid → with_written gives mid ≡ None → with_signature types state ≡ None
  given_type_missing mid p g =
      let k = given-inv (all_written state.0.2.types params) (λ tys. Some (with_tuple tys)) mid p in
      signature_is state types params gives split
      ∙ ap (λ o. given o (λ tys. given (written state.0.2.types gives) (λ ty. Some (signed tys ty)))) k.1
      ∙ nothing (written state.0.2.types gives) (λ ty. with_type ty (with_tuple k.0)) _ (ap (with_written gives) (some-same _ _ k.2) ∙ g)

pub no_types : (state : State) (types : List TyExp) → types ≡ [] → with_signature types state ≡ None
no_types state types h = ap (λ ts. with_signature ts state) h

pub ruleset signature_steps = (common_steps, no_types)
