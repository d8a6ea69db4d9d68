-- A result with an unfolded call gives outputs of the types of which it gave them.
use Rattle.std.proofs.Common.{◌≡◌, ℕ, List, [], ◌∷◌, ◌++◌, length, Option, Some, None, refl, ap, sym, ◌∙◌, subst}
use Rattle.std.specs.Bool.{⊤}
use Rattle.hume_base.specs.declared.types.Ty.{Ty}
use Rattle.hume_base.specs.declared.types.Ty.TheVariants as shape
use Rattle.hume_model.specs.declared.core_tree.PatC.{PatC}
use Rattle.hume_model.specs.declared.core_tree.Expr.{Expr}
use Rattle.hume_model.specs.declared.core_tree.Res.{Res, out-Res, out-roll-Res, roll-Res}
use Rattle.hume_model.specs.declared.core_tree.Res.TheOpen.{Res-F}
use Rattle.hume_model.specs.declared.core_tree.Res.TheVariants as res
use Rattle.hume_model.specs.declared.core_tree.Core.{Core}
use Rattle.hume_model.specs.ResultTyping.{ArmsGiveOutputs, GivesOutputs, OutsHave}
use Rattle.hume_model.specs.Typing.{FunctionsAreTyped, HasType}
use Rattle.hume_model.specs.Forms.{forms_of}
use Rattle.calculus_laws.specs.Unfolding.{result_unfolded, variables_in}
use Rattle.calculus_laws.proofs.UnfoldedResults.{IsResultKept, OutChanged, result_holds}
use Rattle.calculus_laws.proofs.UnfoldedTypes.{HoldsType, more, pattern_count, types_kept}
use Rattle.calculus_laws.proofs.Unfolds.{ArmChanged, Becomes, OneChanged}

module _ (core : Core) (tys : List Ty) where
  -- what the parts of a typed result have, by its form
  record LetForm (vars : List Ty) (e : Expr) (body : Res) : Type 0 where
    of : Ty
    part : HasType core vars e of
    later : GivesOutputs core tys (vars ++ of ∷ []) body

  record RaiseForm (vars : List Ty) (number : ℕ) (e : Expr) : Type 0 where
    carried : Ty
    part : HasType core vars e carried
    again : (d : Expr) → HasType core vars d carried → GivesOutputs core tys vars (res.Raise number (Some d))

  abbrev GivesAs : List Ty → Res-F Res → Type 0
  GivesAs vars (Res-F.Outs outs) = OutsHave core vars outs tys
  GivesAs vars (Res-F.If t a b) = HasType core vars t shape.Bool × GivesOutputs core tys vars a × GivesOutputs core tys vars b
  GivesAs vars (Res-F.Case e forms arms) = (of : Ty) × HasType core vars e of × (forms ≡ forms_of of) × ArmsGiveOutputs core tys vars of arms
  GivesAs vars (Res-F.Let e b) = LetForm vars e b
  GivesAs vars (Res-F.Raise x None) = ⊤
  GivesAs vars (Res-F.Raise x (Some e)) = RaiseForm vars x e

  layer_is : (x : Res-F Res) (r : Res) → roll-Res x ≡ r → x ≡ out-Res r
  layer_is x r is = sym (out-roll-Res x) ∙ ap out-Res is

  as_out : (vars : List Ty) (x : Res-F Res) (r : Res) → roll-Res x ≡ r → GivesAs vars x → GivesAs vars (out-Res r)
  as_out vars x r is holds = subst (GivesAs vars) (layer_is x r is) holds

  gives_as : {vars : List Ty} {r : Res} → GivesOutputs core tys vars r → GivesAs vars (out-Res r)
  gives_as {vars} (GivesOutputs.outputs {outs = outs} have) = as_out vars _ _ (res.rolls-Outs outs) have
  gives_as {vars} (GivesOutputs.choice {test = t} {when_true = a} {when_false = b} test first second) = as_out vars _ _ (res.rolls-If t a b) (test, first, second)
  gives_as {vars} (GivesOutputs.alternatives of {part = e} {forms = forms} {arms = ways} part is_of arms) = as_out vars _ _ (res.rolls-Case e forms ways) (of, part, is_of, arms)
  gives_as {vars} (GivesOutputs.binding of {part = e} {body = b} part body) = as_out vars _ _ (res.rolls-Let e b) (record { of = of; part = part; later = body })
  gives_as {vars} (GivesOutputs.raise_alone number exn known nothing) = as_out vars _ _ (res.rolls-Raise number None) tt
  gives_as {vars} (GivesOutputs.raise_with number exn carried {part = e} known carries part) =
      as_out vars _ _ (res.rolls-Raise number (Some e))
      (record { carried = carried; part = part; again = λ d p. GivesOutputs.raise_with number exn carried known carries p })

  by_form : {vars : List Ty} {r : Res} (x : Res-F Res) → roll-Res x ≡ r → GivesOutputs core tys vars r → GivesAs vars x
  by_form {vars} {r} x is gives = subst (GivesAs vars) (sym (layer_is x r is)) (gives_as gives)

  abbrev pub GivesTypes : ℕ → Res → Res → Type 0
  GivesTypes scope r s = (vars : List Ty) → length vars ≡ scope → GivesOutputs core tys vars r → GivesOutputs core tys vars s

  one_out : {scope : ℕ} {outs others : List (Option Expr)} {out_types : List Ty} → OneChanged (OutChanged (HoldsType core) scope) outs others → (vars : List Ty) → length vars ≡ scope
      → OutsHave core vars outs out_types → OutsHave core vars others out_types
  one_out (OneChanged.here {y = other} r) vars is (OutsHave.star rest) = absurd r
  one_out (OneChanged.here {y = None} r) vars is (OutsHave.value first rest) = absurd r
  one_out (OneChanged.here {y = Some d} r) vars is (OutsHave.value {ty = t} first rest) = OutsHave.value (r vars t is first) rest
  one_out (OneChanged.there one) vars is (OutsHave.star rest) = OutsHave.star (one_out one vars is rest)
  one_out (OneChanged.there one) vars is (OutsHave.value first rest) = OutsHave.value first (one_out one vars is rest)

  one_arm : {scope : ℕ} {arms others : List (PatC × Res)} {of : Ty} → OneChanged (ArmChanged GivesTypes scope) arms others → (vars : List Ty) → length vars ≡ scope
      → ArmsGiveOutputs core tys vars of arms → ArmsGiveOutputs core tys vars of others
  one_arm {scope = scope} {of = of} (OneChanged.here {y = other} r) vars is (ArmsGiveOutputs.one_arm {bound = bs} {p = p} {arms = arms} pattern body rest) =
      subst (λ q. ArmsGiveOutputs core tys vars of ((q, other.1) ∷ arms)) r.0
      (ArmsGiveOutputs.one_arm pattern (r.1 (vars ++ bs) (more core vars bs scope (variables_in p) is (pattern_count pattern)) body) rest)
  one_arm (OneChanged.there one) vars is (ArmsGiveOutputs.one_arm pattern body rest) = ArmsGiveOutputs.one_arm pattern body (one_arm one vars is rest)

  results_kept : IsResultKept (HoldsType core) GivesTypes
  results_kept = record {
    outs = λ scope outs others one vars is gives. GivesOutputs.outputs (one_out one vars is (by_form (Res-F.Outs outs) (res.rolls-Outs outs) gives));
    test = λ scope e d a b r vars is gives.
        let form = by_form (Res-F.If e a b) (res.rolls-If e a b) gives in GivesOutputs.choice (r vars shape.Bool is form.0) form.1 form.2;
    when_true = λ scope e a b other r vars is gives.
        let form = by_form (Res-F.If e a b) (res.rolls-If e a b) gives in GivesOutputs.choice form.0 (r vars is form.1) form.2;
    when_false = λ scope e a b other r vars is gives.
        let form = by_form (Res-F.If e a b) (res.rolls-If e a b) gives in GivesOutputs.choice form.0 form.1 (r vars is form.2);
    of_case = λ scope e d forms arms r vars is gives.
        let form = by_form (Res-F.Case e forms arms) (res.rolls-Case e forms arms) gives in GivesOutputs.alternatives form.0 (r vars form.0 is form.1) form.2 form.3;
    arm = λ scope e forms arms others one vars is gives.
        let form = by_form (Res-F.Case e forms arms) (res.rolls-Case e forms arms) gives in GivesOutputs.alternatives form.0 form.1 form.2 (one_arm one vars is form.3);
    of_let = λ scope e d body r vars is gives.
        let form = by_form (Res-F.Let e body) (res.rolls-Let e body) gives in GivesOutputs.binding form.of (r vars form.of is form.part) form.later;
    body = λ scope e body other r vars is gives.
        let form = by_form (Res-F.Let e body) (res.rolls-Let e body) gives in
        GivesOutputs.binding form.of form.part (r (vars ++ form.of ∷ []) (more core vars (form.of ∷ []) scope 1 is refl) form.later);
    raise = λ scope x e d r vars is gives.
        let form = by_form (Res-F.Raise x (Some e)) (res.rolls-Raise x (Some e)) gives in form.again d (r vars form.carried is form.part);
  }

  -- the result of a rule with so many variables still gives outputs of these types
  pub unfolded_typed : FunctionsAreTyped core → (r : Res) (scope : ℕ) → Becomes (GivesTypes scope r) (result_unfolded core scope r)
  unfolded_typed typed r scope = result_holds core (HoldsType core) (types_kept core typed) GivesTypes results_kept r scope
