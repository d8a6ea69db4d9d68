-- The results of a well-formed program call only its own functions, so that it runs alone.
use Rattle.std.proofs.Common.{◌≡◌, ℕ, Bool, true, List, length, map, Option, Some, None, refl, ap, sym, ◌∙◌}
use Rattle.std.specs.List.{list_all}
use Rattle.std.proofs.lemmas.Option.{slice_get_within}
use Rattle.hume_base.specs.declared.types.Ty.{Ty}
use Rattle.hume_model.specs.declared.core_tree.PatC.{PatC}
use Rattle.hume_model.specs.declared.core_tree.Expr.{Expr}
use Rattle.hume_model.specs.declared.core_tree.Res.{Res, roll-Res, map-Res, fold-roll-Res}
use Rattle.hume_model.specs.declared.core_tree.Res.TheOpen.{Res-F}
use Rattle.hume_model.specs.declared.core_tree.Res.TheVariants as res
use Rattle.hume_model.specs.declared.core_tree.BoxC.{BoxC}
use Rattle.hume_model.specs.declared.core_tree.Core.{Core}
use Rattle.hume_model.specs.BoxTyping.{BoxIsTyped, port_types}
use Rattle.hume_model.specs.ResultTyping.{ArmsGiveOutputs, GivesOutputs, OutsHave}
use Rattle.hume_model.specs.WellFormed.{IsWellFormed}
use Rattle.calculus_laws.proofs.CallsKnown.{both, calls_known}
use Rattle.union_laws.specs.inner.ResultCalls.{out_calls, result_calls, result_calls_step}
use Rattle.union_laws.proofs.MovedFiring.{BoxCalls}
use Rattle.union_laws.proofs.SharedNets.{RunsAlone}

module _ (core : Core) (tys : List Ty) where
  abbrev bound : ℕ
  bound = length core.funs

  by_form : (x : Res-F Res) (r : Res) → roll-Res x ≡ r → result_calls bound r ≡ result_calls_step bound (map-Res Res Bool (result_calls bound) x)
  by_form x r is = ap (result_calls bound) (sym is) ∙ fold-roll-Res Bool (result_calls_step bound) x

  outs_known : {vars : List Ty} {outs : List (Option Expr)} {given : List Ty} → OutsHave core vars outs given → list_all (out_calls bound) outs ≡ true
  outs_known OutsHave.none = refl
  outs_known (OutsHave.star rest) = outs_known rest
  outs_known (OutsHave.value out rest) = both _ _ (calls_known core out) (outs_known rest)

  abbrev arm_calls : PatC × Res → PatC × Bool
  arm_calls arm = (arm.0, result_calls bound arm.1)

  mutual
    pub results_known : {vars : List Ty} {r : Res} → GivesOutputs core tys vars r → result_calls bound r ≡ true
    results_known (GivesOutputs.outputs {outs = outs} have) = by_form (Res-F.Outs outs) _ (res.rolls-Outs outs) ∙ both _ _ (outs_known have) refl
    results_known (GivesOutputs.choice {test = t} {when_true = a} {when_false = b} test when_true when_false) =
        by_form (Res-F.If t a b) _ (res.rolls-If t a b) ∙ both _ _ (calls_known core test) (both _ _ (results_known when_true) (results_known when_false))
    results_known (GivesOutputs.alternatives of {part = e} {forms = forms} {arms = ways} part is_of arms) =
        by_form (Res-F.Case e forms ways) _ (res.rolls-Case e forms ways) ∙ both _ _ (calls_known core part) (arms_known arms)
    results_known (GivesOutputs.binding of {part = e} {body = b} part body) =
        by_form (Res-F.Let e b) _ (res.rolls-Let e b) ∙ both _ _ (calls_known core part) (results_known body)
    results_known (GivesOutputs.raise_alone number exn known nothing) = by_form (Res-F.Raise number None) _ (res.rolls-Raise number None)
    results_known (GivesOutputs.raise_with number exn carried {part = e} known carries part) =
        by_form (Res-F.Raise number (Some e)) _ (res.rolls-Raise number (Some e)) ∙ both _ _ (calls_known core part) refl

    arms_known : {vars : List Ty} {of : Ty} {arms : List (PatC × Res)} → ArmsGiveOutputs core tys vars of arms
        → list_all (λ (arm : PatC × Bool). arm.1) (map arm_calls arms) ≡ true
    arms_known ArmsGiveOutputs.no_arm = refl
    arms_known (ArmsGiveOutputs.one_arm pattern body rest) = both _ _ (results_known body) (arms_known rest)

pub box_known : (core : Core) (b : BoxC) → BoxIsTyped core b → BoxCalls (length core.funs) b
box_known core b typed = record {
  rules = λ n rule found. results_known core (port_types b.outs) (typed.rules n rule found).outputs;
  handlers = λ n handler found. results_known core (port_types b.outs) (typed.handlers n handler found).outputs;
}

pub runs_alone : (core : Core) → IsWellFormed core → RunsAlone core
runs_alone core formed = record {
  calls = formed.calls;
  boxes = λ n b found. box_known core b (formed.boxes n b found);
  ends = λ w wire found.
      let ends = formed.frame.wires w wire found in
      (slice_get_within core.nodes wire.from ends.producer ends.from, slice_get_within core.nodes wire.to ends.consumer ends.to);
}
