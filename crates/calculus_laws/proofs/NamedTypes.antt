-- The new last function has its type, and the rule that calls it gives the box's output.
use Rattle.std.proofs.Common.{◌≡◌, ◌⊎◌, inl, inr, ℕ, zero, suc, ◌+◌, true, List, [], ◌∷◌, ◌++◌, length, map, replicate, Option, Some, None, slice_get, refl, ap, sym, ◌∙◌, subst, arith, append_assoc}
use Rattle.std.specs.List.{list_all, range_with_len}
use Rattle.std.proofs.lemmas.List.{length-append}
use Rattle.hume_base.specs.declared.types.Ty.{Ty}
use Rattle.hume_base.specs.declared.types.Types.{Types}
use Rattle.hume_model.specs.declared.core_tree.PatC.TheVariants as pat
use Rattle.hume_model.specs.declared.core_tree.Expr.{Expr}
use Rattle.hume_model.specs.declared.core_tree.Expr.TheVariants as expr
use Rattle.hume_model.specs.declared.core_tree.Res.{Res, out-Res, out-roll-Res}
use Rattle.hume_model.specs.declared.core_tree.Res.TheOpen.{Res-F}
use Rattle.hume_model.specs.declared.core_tree.Res.TheVariants as res
use Rattle.hume_model.specs.declared.core_tree.FunC.{FunC}
use Rattle.hume_model.specs.declared.core_tree.NodeC.{NodeC}
use Rattle.hume_model.specs.declared.core_tree.Core.{Core}
use Rattle.hume_model.specs.Calls.{CallsGoDown, equation_calls}
use Rattle.hume_model.specs.Typing.{ArePatterns, EquationsHave, FunctionsAreTyped, HasType, HaveTypes, IsPattern}
use Rattle.hume_model.specs.ResultTyping.{GivesOutputs, OutsHave}
use Rattle.calculus_laws.proofs.CallsKnown.{both, calls_known}
use Rattle.calculus_laws.proofs.NamedCalls.{still_there}
use Rattle.calculus_laws.proofs.Typed.{equations_typed, typed}

-- what the outputs of a result have that gives them at once

module _ (core : Core) (tys : List Ty) where
  outs_are : {vars : List Ty} (given outs : List (Option Expr)) → OutsHave core vars given tys → res.Outs given ≡ res.Outs outs → OutsHave core vars outs tys
  outs_are {vars} given outs have same =
      let open_given : out-Res (res.Outs given) ≡ Res-F.Outs given = ap out-Res (sym (res.rolls-Outs given)) ∙ out-roll-Res (Res-F.Outs given) in
      let open_outs : out-Res (res.Outs outs) ≡ Res-F.Outs outs = ap out-Res (sym (res.rolls-Outs outs)) ∙ out-roll-Res (Res-F.Outs outs) in
      let layers : Res-F.Outs given ≡ Res-F.Outs outs = sym open_given ∙ ap out-Res same ∙ open_outs in
      let is : given ≡ outs = cc in
      subst (λ o. OutsHave core vars o tys) is have

  other_layer : (layer : Res-F Res) (r : Res) (outs : List (Option Expr)) → out-Res r ≡ layer → r ≡ res.Outs outs → layer ≡ Res-F.Outs outs
  other_layer layer r outs is same = sym is ∙ ap out-Res same ∙ ap out-Res (sym (res.rolls-Outs outs)) ∙ out-roll-Res (Res-F.Outs outs)

  pub outputs_have : {vars : List Ty} {r : Res} → GivesOutputs core tys vars r → (outs : List (Option Expr)) → r ≡ res.Outs outs → OutsHave core vars outs tys
  outputs_have (GivesOutputs.outputs {outs = given} have) outs same = outs_are given outs have same
  outputs_have (GivesOutputs.choice {test = t} {when_true = a} {when_false = b} test first second) outs same =
      let no : Res-F.If t a b ≡ Res-F.Outs outs = other_layer _ (res.If t a b) outs (ap out-Res (sym (res.rolls-If t a b)) ∙ out-roll-Res (Res-F.If t a b)) same in cc
  outputs_have (GivesOutputs.alternatives of {part = e} {forms = forms} {arms = ways} part is_of arms) outs same =
      let no : Res-F.Case e forms ways ≡ Res-F.Outs outs = other_layer _ (res.Case e forms ways) outs (ap out-Res (sym (res.rolls-Case e forms ways)) ∙ out-roll-Res (Res-F.Case e forms ways)) same in cc
  outputs_have (GivesOutputs.binding of {part = e} {body = b} part body) outs same =
      let no : Res-F.Let e b ≡ Res-F.Outs outs = other_layer _ (res.Let e b) outs (ap out-Res (sym (res.rolls-Let e b)) ∙ out-roll-Res (Res-F.Let e b)) same in cc
  outputs_have (GivesOutputs.raise_alone number exn known nothing) outs same =
      let no : Res-F.Raise number None ≡ Res-F.Outs outs = other_layer _ (res.Raise number None) outs (ap out-Res (sym (res.rolls-Raise number None)) ∙ out-roll-Res (Res-F.Raise number None)) same in cc
  outputs_have (GivesOutputs.raise_with number exn carried {part = e} known carries part) outs same =
      let no : Res-F.Raise number (Some e) ≡ Res-F.Outs outs =
      other_layer _ (res.Raise number (Some e)) outs (ap out-Res (sym (res.rolls-Raise number (Some e))) ∙ out-roll-Res (Res-F.Raise number (Some e))) same in cc

pub only_typed : (core : Core) (vars : List Ty) (body : Expr) (ty : Ty) → OutsHave core vars (Some body ∷ []) (ty ∷ []) → HasType core vars body ty
only_typed core vars body ty (OutsHave.value has rest) = has

-- a variable of each type is a pattern for each type
pub variable_patterns : (types : Types) (tys : List Ty) → ArePatterns types tys (replicate (length tys) pat.Var) tys
variable_patterns types [] = ArePatterns.none
variable_patterns types (ty ∷ tys) = ArePatterns.one IsPattern.variable (variable_patterns types tys)

here_type : (front : List Ty) (ty : Ty) (rest : List Ty) → slice_get (front ++ ty ∷ rest) (length front) ≡ Some ty
here_type [] ty rest = refl
here_type (x ∷ front) ty rest = here_type front ty rest

variables_from : (core : Core) (front rest : List Ty) (a : ℕ) → a ≡ length front → HaveTypes core (front ++ rest) (map expr.Var (range_with_len a (length rest))) rest
variables_from core front [] a is = HaveTypes.none
variables_from core front (ty ∷ rest) a is =
    let long = length-append front (ty ∷ []) in
    HaveTypes.one (HasType.variable a (ap (slice_get (front ++ ty ∷ rest)) is ∙ here_type front ty rest))
    (subst (λ vars. HaveTypes core vars (map expr.Var (range_with_len (a + 1) (length rest))) rest) (append_assoc front (ty ∷ []) rest)
    (variables_from core (front ++ ty ∷ []) rest (a + 1) (omega (arith, is, long))))

-- the variables have their types
pub variables_have : (core : Core) (tys : List Ty) → HaveTypes core tys (map expr.Var (range_with_len 0 (length tys))) tys
variables_have core tys = variables_from core [] tys 0 refl

pub in_more : {X : Type 0} (xs : List X) (last : X) (n : ℕ) (x : X) → slice_get (xs ++ last ∷ []) n ≡ Some x
    → (slice_get xs n ≡ Some x) ⊎ ((n ≡ length xs) × (x ≡ last))
in_more [] last zero x found = inr (refl, (let same : x ≡ last = cc in same))
in_more [] last (suc n) x found = cc
in_more (y ∷ xs) last zero x found = inl found
in_more (y ∷ xs) last (suc n) x found = elim (in_more xs last n x found) [
  | inl before ↦ inl before
  | inr at ↦ inr (ap suc at.0, at.1)
]

module _ (core : Core) (nodes : List NodeC) (last : FunC) (body : Expr)
    (is : last.equations ≡ record { pats = replicate (length last.params) pat.Var; body = body } ∷ []) (has : HasType core last.params body last.gives) where
  abbrev new : Core
  new = record core { funs = core.funs ++ last ∷ []; nodes = nodes }

  last_calls : list_all (equation_calls (length core.funs)) last.equations ≡ true
  last_calls = ap (list_all (equation_calls (length core.funs))) is ∙ both _ true (calls_known core has) refl

  calls_at : (number : ℕ) (function : FunC) → (slice_get core.funs number ≡ Some function) ⊎ ((number ≡ length core.funs) × (function ≡ last)) → CallsGoDown core
      → list_all (equation_calls number) function.equations ≡ true
  calls_at number function (inl before) down = down number function before
  calls_at number function (inr at) down = (λ i. list_all (equation_calls (at.0 i)) (at.1 i).equations) ∙ last_calls

  -- functions still call only functions of smaller numbers
  pub calls_go_down : CallsGoDown core → CallsGoDown new
  calls_go_down down = λ number function found. calls_at number function (in_more core.funs last number function found) down

  last_typed : EquationsHave new last last.equations
  last_typed = subst (EquationsHave new last) (sym is)
      (EquationsHave.one last.params (variable_patterns core.types last.params) (typed core (core.funs ++ last ∷ []) nodes (still_there core.funs last) has) EquationsHave.none)

  typed_at : (number : ℕ) (function : FunC) → (slice_get core.funs number ≡ Some function) ⊎ ((number ≡ length core.funs) × (function ≡ last)) → FunctionsAreTyped core
      → EquationsHave new function function.equations
  typed_at number function (inl before) are = equations_typed core (core.funs ++ last ∷ []) nodes (still_there core.funs last) function (are number function before)
  typed_at number function (inr at) are = subst (λ (f : FunC). EquationsHave new f f.equations) (sym at.1) last_typed

  -- and have their types
  pub functions_typed : FunctionsAreTyped core → FunctionsAreTyped new
  functions_typed are = λ number function found. typed_at number function (in_more core.funs last number function found) are
