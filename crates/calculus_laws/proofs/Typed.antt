-- What has its types in a core has them in one with other nodes and more functions.
use Rattle.std.proofs.Common.{◌≡◌, ℕ, List, Option, Some, slice_get}
use Rattle.hume_base.specs.declared.types.Ty.{Ty}
use Rattle.hume_model.specs.declared.core_tree.PatC.{PatC}
use Rattle.hume_model.specs.declared.core_tree.Expr.{Expr}
use Rattle.hume_model.specs.declared.core_tree.Res.{Res}
use Rattle.hume_model.specs.declared.core_tree.EqC.{EqC}
use Rattle.hume_model.specs.declared.core_tree.FunC.{FunC}
use Rattle.hume_model.specs.declared.core_tree.HandC.{HandC}
use Rattle.hume_model.specs.declared.core_tree.BoxC.{BoxC}
use Rattle.hume_model.specs.declared.core_tree.NodeC.{NodeC}
use Rattle.hume_model.specs.declared.core_tree.Core.{Core}
use Rattle.hume_model.specs.Typing.{HasType, HaveTypes, ArmsHaveType, EquationsHave}
use Rattle.hume_model.specs.ResultTyping.{OutsHave, GivesOutputs, ArmsGiveOutputs}
use Rattle.hume_model.specs.BoxTyping.{RuleIsTyped, HandlerIsKnown, HandlerIsTyped, BoxIsTyped, BoxHasFrame}

module _ (core : Core) (funs : List FunC) (nodes : List NodeC)
    (kept : (f : ℕ) (function : FunC) → slice_get core.funs f ≡ Some function → slice_get funs f ≡ Some function) where
  abbrev new : Core
  new = record core { funs = funs; nodes = nodes }

  mutual
    pub typed : {vars : List Ty} {e : Expr} {ty : Ty} → HasType core vars e ty → HasType new vars e ty
    typed (HasType.word w is) = HasType.word w is
    typed (HasType.variable number is) = HasType.variable number is
    typed (HasType.con number place sum known within parts) = HasType.con number place sum known within (all_typed parts)
    typed (HasType.tuple parts) = HasType.tuple (all_typed parts)
    typed (HasType.vector count item parts) = HasType.vector count item (all_typed parts)
    typed (HasType.arithmetic op ty is number parts) = HasType.arithmetic op ty is number (all_typed parts)
    typed (HasType.comparison op ty is parts) = HasType.comparison op ty is (all_typed parts)
    typed (HasType.negation ty number parts) = HasType.negation ty number (all_typed parts)
    typed (HasType.opposite parts) = HasType.opposite (all_typed parts)
    typed (HasType.conversion from to is are parts) = HasType.conversion from to is are (all_typed parts)
    typed (HasType.index count places item is vec place) = HasType.index count places item is (typed vec) (typed place)
    typed (HasType.update count places item is vec place new_item) =
        HasType.update count places item is (typed vec) (typed place) (typed new_item)
    typed (HasType.choice test when_true when_false) = HasType.choice (typed test) (typed when_true) (typed when_false)
    typed (HasType.alternatives of part is_of arms) = HasType.alternatives of (typed part) is_of (arms_typed arms)
    typed (HasType.binding of part body) = HasType.binding of (typed part) (typed body)
    typed (HasType.call number function known parts) = HasType.call number function (kept number function known) (all_typed parts)
    typed (HasType.raise_alone number exn known nothing) = HasType.raise_alone number exn known nothing
    typed (HasType.raise_with number exn carried known carries part) = HasType.raise_with number exn carried known carries (typed part)

    all_typed : {vars : List Ty} {es : List Expr} {tys : List Ty} → HaveTypes core vars es tys → HaveTypes new vars es tys
    all_typed HaveTypes.none = HaveTypes.none
    all_typed (HaveTypes.one first rest) = HaveTypes.one (typed first) (all_typed rest)

    arms_typed : {vars : List Ty} {of ty : Ty} {arms : List (PatC × Expr)} → ArmsHaveType core vars of arms ty → ArmsHaveType new vars of arms ty
    arms_typed ArmsHaveType.no_arm = ArmsHaveType.no_arm
    arms_typed (ArmsHaveType.one_arm pattern body rest) = ArmsHaveType.one_arm pattern (typed body) (arms_typed rest)

  outs_typed : {vars tys : List Ty} {outs : List (Option Expr)} → OutsHave core vars outs tys → OutsHave new vars outs tys
  outs_typed OutsHave.none = OutsHave.none
  outs_typed (OutsHave.star rest) = OutsHave.star (outs_typed rest)
  outs_typed (OutsHave.value out rest) = OutsHave.value (typed out) (outs_typed rest)

  module _ (tys : List Ty) where
    mutual
      pub result_typed : {vars : List Ty} {res : Res} → GivesOutputs core tys vars res → GivesOutputs new tys vars res
      result_typed (GivesOutputs.outputs outs) = GivesOutputs.outputs (outs_typed outs)
      result_typed (GivesOutputs.choice test when_true when_false) = GivesOutputs.choice (typed test) (result_typed when_true) (result_typed when_false)
      result_typed (GivesOutputs.alternatives of part is_of arms) = GivesOutputs.alternatives of (typed part) is_of (result_arms_typed arms)
      result_typed (GivesOutputs.binding of part body) = GivesOutputs.binding of (typed part) (result_typed body)
      result_typed (GivesOutputs.raise_alone number exn known nothing) = GivesOutputs.raise_alone number exn known nothing
      result_typed (GivesOutputs.raise_with number exn carried known carries part) = GivesOutputs.raise_with number exn carried known carries (typed part)

      result_arms_typed : {vars : List Ty} {of : Ty} {arms : List (PatC × Res)} → ArmsGiveOutputs core tys vars of arms → ArmsGiveOutputs new tys vars of arms
      result_arms_typed ArmsGiveOutputs.no_arm = ArmsGiveOutputs.no_arm
      result_arms_typed (ArmsGiveOutputs.one_arm pattern body rest) = ArmsGiveOutputs.one_arm pattern (result_typed body) (result_arms_typed rest)

  pub equations_typed : (function : FunC) {equations : List EqC} → EquationsHave core function equations → EquationsHave new function equations
  equations_typed function EquationsHave.none = EquationsHave.none
  equations_typed function (EquationsHave.one vars pats body rest) = EquationsHave.one vars pats (typed body) (equations_typed function rest)

  abbrev known : (handler : HandC) → HandlerIsKnown core handler → HandlerIsKnown new handler
  known handler is = record { exn = is.exn; known = is.known; carries = is.carries }

  pub box_frame : (b : BoxC) → BoxHasFrame core b → BoxHasFrame new b
  box_frame b frame = record {
    positions = frame.positions;
    handlers = λ number handler at. known handler (frame.handlers number handler at);
    apart = frame.apart;
  }

  pub box_typed : (b : BoxC) → BoxIsTyped core b → BoxIsTyped new b
  box_typed b is = record {
    rules = λ number rule at.
        let ruled : RuleIsTyped core b rule = is.rules number rule at in
        record { positions = ruled.positions; outputs = result_typed _ ruled.outputs };
    handlers = λ number handler at.
        let handled : HandlerIsTyped core b handler = is.handlers number handler at in
        record { is = known handler handled.is; outputs = result_typed _ handled.outputs };
  }
