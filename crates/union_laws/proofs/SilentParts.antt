-- A typed expression or result raises no exception that isn't there.
use Rattle.std.proofs.Common.{◌≡◌, ℕ, zero, suc, ◌<◌, ◌≤◌, ◌==◌, ◌&&◌, ◌||◌, Bool, true, false, if◌then◌else◌, List, length, map, Option, Some, None, slice_get, refl, ap, sym, ◌∙◌, arith}
use Rattle.std.specs.List.{list_any}
use Rattle.std.proofs.lemmas.Bool.{ne_eqb}
use Rattle.std.proofs.lemmas.Option.{slice_get_within}
use Rattle.hume_base.specs.declared.types.Ty.{Ty}
use Rattle.hume_base.specs.declared.types.Ty.TheVariants as shape
use Rattle.hume_model.specs.declared.core_tree.Op.{Op}
use Rattle.hume_model.specs.declared.core_tree.Op.TheVariants.{Neg, Not, Convert}
use Rattle.hume_model.specs.declared.core_tree.PatC.{PatC}
use Rattle.hume_model.specs.declared.core_tree.Expr.{Expr, roll-Expr, map-Expr, fold-roll-Expr}
use Rattle.hume_model.specs.declared.core_tree.Expr.TheOpen.{Expr-F}
use Rattle.hume_model.specs.declared.core_tree.Expr.TheVariants as expr
use Rattle.hume_model.specs.declared.core_tree.Res.{Res, roll-Res, map-Res, fold-roll-Res}
use Rattle.hume_model.specs.declared.core_tree.Res.TheOpen.{Res-F}
use Rattle.hume_model.specs.declared.core_tree.Res.TheVariants as res
use Rattle.hume_model.specs.declared.core_tree.EqC.{EqC}
use Rattle.hume_model.specs.declared.core_tree.FunC.{FunC}
use Rattle.hume_model.specs.declared.core_tree.Core.{Core}
use Rattle.hume_model.specs.declared.exceptions.TheConstants.{DIV_ZERO, NO_CASE, RANGE}
use Rattle.hume_model.specs.Raising.{Seen, function_raises, may_divide_by_zero, may_be_outside, may_raise, raises_below, raises_if_there, raises_step, raises_with, result_may_raise, result_raises_step, seen_with, some_raise}
use Rattle.hume_model.specs.ResultTyping.{ArmsGiveOutputs, GivesOutputs, OutsHave}
use Rattle.hume_model.specs.Typing.{ArmsHaveType, EquationsHave, FunctionsAreTyped, HasType, HaveTypes}

pub neither : (a b : Bool) → a ≡ false → b ≡ false → (a || b) ≡ false
neither a b p q = rw (p, q) refl

choose : (b x y : Bool) → x ≡ false → y ≡ false → (if b then x else y) ≡ false
choose true x y p q = p
choose false x y p q = q

pub not_both : (a b : Bool) → a ≡ false → (a && b) ≡ false
not_both a b p = rw p refl

module _ (core : Core) (exn : ℕ) (some : 3 ≤ length core.exns) (past : length core.exns ≤ exn) where
  other_own : (own : ℕ) → own ≤ 2 → (exn == own) ≡ false
  other_own own low = ne_eqb exn own (λ same. omega arith)

  other_known : (number : ℕ) → number < length core.exns → (number == exn) ≡ false
  other_known number within = ne_eqb number exn (λ same. omega arith)

  module _ (called : ℕ → Bool) (silent_calls : (f : ℕ) (function : FunC) → slice_get core.funs f ≡ Some function → called f ≡ false) where
    abbrev see : Expr → Seen
    see = seen_with core.types called exn

    by_form : (y : Expr-F Expr) (e : Expr) → roll-Expr y ≡ e → (see e).raises ≡ (raises_step core.types called exn (map-Expr Expr Seen see y)).raises
    by_form y e is = ap (λ z. (see z).raises) (sym is) ∙ ap (λ (s : Seen). s.raises) (fold-roll-Expr Seen (raises_step core.types called exn) y)

    divides : (op : Op) (parts : List Seen) → ((exn == DIV_ZERO) && may_divide_by_zero op parts) ≡ false
    divides op parts = not_both _ _ (other_own DIV_ZERO (omega arith))

    outside : (count : ℕ) (literal : Option ℕ) → ((exn == RANGE) && may_be_outside count literal) ≡ false
    outside count literal = not_both _ _ (other_own RANGE (omega arith))

    mutual
      silent : {vars : List Ty} {e : Expr} {ty : Ty} → HasType core vars e ty → (see e).raises ≡ false
      silent (HasType.word w is) = by_form (Expr-F.Word w) _ (expr.rolls-Word w)
      silent (HasType.variable n is) = by_form (Expr-F.Var n) _ (expr.rolls-Var n)
      silent (HasType.con number place sum {parts = es} known within parts) = by_form (Expr-F.Con place es) _ (expr.rolls-Con place es) ∙ all_silent parts
      silent (HasType.tuple {parts = es} parts) = by_form (Expr-F.Tuple es) _ (expr.rolls-Tuple es) ∙ all_silent parts
      silent (HasType.vector count item {parts = es} parts) = by_form (Expr-F.Vect es) _ (expr.rolls-Vect es) ∙ all_silent parts
      silent (HasType.arithmetic op ty {parts = es} is number parts) =
          by_form (Expr-F.Prim op ty es) _ (expr.rolls-Prim op ty es) ∙ neither _ _ (all_silent parts) (divides op (map see es))
      silent (HasType.comparison op ty {parts = es} is parts) =
          by_form (Expr-F.Prim op ty es) _ (expr.rolls-Prim op ty es) ∙ neither _ _ (all_silent parts) (divides op (map see es))
      silent (HasType.negation ty {parts = es} number parts) =
          by_form (Expr-F.Prim Neg ty es) _ (expr.rolls-Prim Neg ty es) ∙ neither _ _ (all_silent parts) (divides Neg (map see es))
      silent (HasType.opposite {parts = es} parts) =
          by_form (Expr-F.Prim Not shape.Bool es) _ (expr.rolls-Prim Not shape.Bool es) ∙ neither _ _ (all_silent parts) (divides Not (map see es))
      silent (HasType.conversion from to {parts = es} is are parts) =
          by_form (Expr-F.Prim Convert to es) _ (expr.rolls-Prim Convert to es) ∙ neither _ _ (all_silent parts) (divides Convert (map see es))
      silent (HasType.index count places item {vector = v} {place = k} is vec place) =
          by_form (Expr-F.Index count v k) _ (expr.rolls-Index count v k) ∙ neither _ _ (silent vec) (neither _ _ (silent place) (outside count (see k).literal))
      silent (HasType.update count places item {vector = v} {place = k} {new_item = e} is vec place new_item) =
          by_form (Expr-F.Update count v k e) _ (expr.rolls-Update count v k e)
          ∙ neither _ _ (silent vec) (neither _ _ (silent place) (neither _ _ (silent new_item) (outside count (see k).literal)))
      silent (HasType.choice {test = t} {when_true = a} {when_false = b} test when_true when_false) =
          by_form (Expr-F.If t a b) _ (expr.rolls-If t a b) ∙ neither _ _ (silent test) (neither _ _ (silent when_true) (silent when_false))
      silent (HasType.alternatives of {part = e} {forms = forms} {arms = ways} part is_of arms) =
          by_form (Expr-F.Case e forms ways) _ (expr.rolls-Case e forms ways)
          ∙ neither _ _ (silent part) (neither _ _ (arms_silent arms) (not_both _ _ (other_own NO_CASE (omega arith))))
      silent (HasType.binding of {part = a} {body = b} part body) = by_form (Expr-F.Let a b) _ (expr.rolls-Let a b) ∙ neither _ _ (silent part) (silent body)
      silent (HasType.call number function {parts = es} known parts) =
          by_form (Expr-F.Call number es) _ (expr.rolls-Call number es) ∙ neither _ _ (all_silent parts) (silent_calls number function known)
      silent (HasType.raise_alone number other known nothing) =
          by_form (Expr-F.Raise number None) _ (expr.rolls-Raise number None) ∙ other_known number (slice_get_within core.exns number other known)
      silent (HasType.raise_with number other carried {part = e} known carries part) =
          by_form (Expr-F.Raise number (Some e)) _ (expr.rolls-Raise number (Some e)) ∙ neither _ _ (silent part) (other_known number (slice_get_within core.exns number other known))

      all_silent : {vars : List Ty} {es : List Expr} {tys : List Ty} → HaveTypes core vars es tys → some_raise (map see es) ≡ false
      all_silent HaveTypes.none = refl
      all_silent (HaveTypes.one first rest) = neither _ _ (silent first) (all_silent rest)

      arms_silent : {vars : List Ty} {of ty : Ty} {arms : List (PatC × Expr)} → ArmsHaveType core vars of arms ty
          → list_any (λ (arm : PatC × Seen). arm.1.raises) (map (λ (arm : PatC × Expr). (arm.0, see arm.1)) arms) ≡ false
      arms_silent ArmsHaveType.no_arm = refl
      arms_silent (ArmsHaveType.one_arm pattern body rest) = neither _ _ (silent body) (arms_silent rest)

    bodies_silent : {function : FunC} {equations : List EqC} → EquationsHave core function equations
        → list_any (λ (equation : EqC). raises_with core.types called exn equation.body) equations ≡ false
    bodies_silent EquationsHave.none = refl
    bodies_silent (EquationsHave.one vars patterns body rest) = neither _ _ (silent body) (bodies_silent rest)

  function_silent : (called : ℕ → Bool) → ((f : ℕ) → called f ≡ false) → FunctionsAreTyped core → (number : ℕ) (o : Option FunC) → slice_get core.funs number ≡ o
      → function_raises core.types (raises_with core.types called exn) exn o ≡ false
  function_silent called none typed number None at = other_own NO_CASE (omega arith)
  function_silent called none typed number (Some function) at =
      neither _ _ (bodies_silent called (λ f known found. none f) (typed number function at)) (not_both _ _ (other_own NO_CASE (omega arith)))

  silent_below : FunctionsAreTyped core → (k f : ℕ) → raises_below core k exn f ≡ false
  unfolding raises_below
  silent_below typed zero f = other_own NO_CASE (omega arith)
  silent_below typed (suc bound) f =
      choose (f == bound) _ _ (function_silent (raises_below core bound exn) (silent_below typed bound) typed bound (slice_get core.funs bound) refl) (silent_below typed bound f)

  module _ (typed : FunctionsAreTyped core) where
    expression_silent : {vars : List Ty} {e : Expr} {ty : Ty} → HasType core vars e ty → may_raise core exn e ≡ false
    expression_silent has = silent (raises_below core (length core.funs) exn) (λ f function found. silent_below typed (length core.funs) f) has

    outs_silent : {vars tys : List Ty} {outs : List (Option Expr)} → OutsHave core vars outs tys → list_any (raises_if_there (may_raise core exn)) outs ≡ false
    outs_silent OutsHave.none = refl
    outs_silent (OutsHave.star rest) = outs_silent rest
    outs_silent (OutsHave.value out rest) = neither _ _ (expression_silent out) (outs_silent rest)

    result_form : (y : Res-F Res) (r : Res) → roll-Res y ≡ r
        → result_may_raise core exn r ≡ result_raises_step core.types (may_raise core exn) exn (map-Res Res Bool (result_may_raise core exn) y)
    result_form y r is = ap (result_may_raise core exn) (sym is) ∙ fold-roll-Res Bool (result_raises_step core.types (may_raise core exn) exn) y

    module _ (tys : List Ty) where
      mutual
        pub result_silent : {vars : List Ty} {r : Res} → GivesOutputs core tys vars r → result_may_raise core exn r ≡ false
        result_silent (GivesOutputs.outputs {outs = outs} have) = result_form (Res-F.Outs outs) _ (res.rolls-Outs outs) ∙ outs_silent have
        result_silent (GivesOutputs.choice {test = t} {when_true = a} {when_false = b} test when_true when_false) =
            result_form (Res-F.If t a b) _ (res.rolls-If t a b) ∙ neither _ _ (expression_silent test) (neither _ _ (result_silent when_true) (result_silent when_false))
        result_silent (GivesOutputs.alternatives of {part = e} {forms = forms} {arms = ways} part is_of arms) =
            result_form (Res-F.Case e forms ways) _ (res.rolls-Case e forms ways)
            ∙ neither _ _ (expression_silent part) (neither _ _ (result_arms_silent arms) (not_both _ _ (other_own NO_CASE (omega arith))))
        result_silent (GivesOutputs.binding of {part = e} {body = b} part body) =
            result_form (Res-F.Let e b) _ (res.rolls-Let e b) ∙ neither _ _ (expression_silent part) (result_silent body)
        result_silent (GivesOutputs.raise_alone number other known nothing) =
            result_form (Res-F.Raise number None) _ (res.rolls-Raise number None) ∙ other_known number (slice_get_within core.exns number other known)
        result_silent (GivesOutputs.raise_with number other carried {part = e} known carries part) =
            result_form (Res-F.Raise number (Some e)) _ (res.rolls-Raise number (Some e))
            ∙ neither _ _ (expression_silent part) (other_known number (slice_get_within core.exns number other known))

        result_arms_silent : {vars : List Ty} {of : Ty} {arms : List (PatC × Res)} → ArmsGiveOutputs core tys vars of arms
            → list_any (λ (arm : PatC × Bool). arm.1) (map (λ (arm : PatC × Res). (arm.0, result_may_raise core exn arm.1)) arms) ≡ false
        result_arms_silent ArmsGiveOutputs.no_arm = refl
        result_arms_silent (ArmsGiveOutputs.one_arm pattern body rest) = neither _ _ (result_silent body) (result_arms_silent rest)
