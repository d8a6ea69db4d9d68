-- What stands there for one level of a result, and what it spends.
use Rattle.std.proofs.Common.{◌≡◌, ℕ, ◌+◌, List, [], ◌∷◌, ◌++◌, Option, Some, None, ap, sym, ◌∙◌, subst, false, true}
use Rattle.hume_base.specs.declared.types.Value.{Value}
use Rattle.hume_model.specs.declared.core_tree.Expr.{Expr}
use Rattle.hume_model.specs.declared.core_tree.Res.{Res, roll-Res, map-Res, out-Res, out-roll-Res, fold-roll-Res}
use Rattle.hume_model.specs.declared.core_tree.Res.TheOpen.{Res-F}
use Rattle.hume_model.specs.declared.core_tree.Res.TheVariants as res
use Rattle.hume_model.specs.declared.core_tree.Core.{Core}
use Rattle.box_costs.specs.Bounds.{given_outs}
use Rattle.box_costs.specs.ResultSpending.{ResultSpending, result_spent_step, spending_in, result_spent}
use Rattle.box_code.specs.declared.instr.Instr.TheVariants.{Push, JumpFalse, Raise, Finish}
use Rattle.box_code.specs.Words.{StandsAt}
use Rattle.box_code.specs.Represents.{Represents, AllRepresent, mask_of, ResultStands, ResultArmsStand}

module _ (code : List ℕ) (entry : ℕ → Option ℕ) (places : List ℕ) (high from to : ℕ) where
  abbrev Part : ℕ → ℕ → Expr → Type 0
  Part = Represents code entry places high

  abbrev Result : ℕ → ℕ → Res → Type 0
  Result = ResultStands code entry places high

  abbrev pub Layer : Res-F Res → Type 0
  Layer (Res-F.Outs outs) = (mid : ℕ) × AllRepresent code entry places high from mid (given_outs outs) × StandsAt code mid (Finish (mask_of outs)) to
  Layer (Res-F.If test a b) = (tested : ℕ) × (first : ℕ) × (second : ℕ) × Part from tested test × StandsAt code tested (JumpFalse second) first × Result first second a × Result second to b
  Layer (Res-F.Case e forms arms) = (mid : ℕ) × Part from mid e × ResultArmsStand code entry places high mid to arms
  Layer (Res-F.Let e body) = (mid : ℕ) × Part from mid e × ResultStands code entry (places ++ high ∷ []) (high + 1) mid to body
  Layer (Res-F.Raise exn None) = (mid : ℕ) × StandsAt code from (Push 0) mid × StandsAt code mid (Raise exn false) to
  Layer (Res-F.Raise exn (Some e)) = (mid : ℕ) × Part from mid e × StandsAt code mid (Raise exn true) to

  opened : (r : Res) (x : Res-F Res) → roll-Res x ≡ r → Layer x → Layer (out-Res r)
  opened r x is l = subst (λ y. Layer y) (sym (ap out-Res (sym is) ∙ out-roll-Res x)) l

module _ (code : List ℕ) (entry : ℕ → Option ℕ) where
  layer_of : {places : List ℕ} {high from to : ℕ} {r : Res} → ResultStands code entry places high from to r → Layer code entry places high from to (out-Res r)
  layer_of (ResultStands.outputs {places = p} {high = h} {from = f} {to = t} mid {outs = outs} parts found) =
      opened code entry p h f t (res.Outs outs) (Res-F.Outs outs) (res.rolls-Outs outs) (mid, parts, found)
  layer_of (ResultStands.choice {places = p} {high = h} {from = f} {to = t} tested first second {test = e} {when_true = a} {when_false = b} re jf ra rb) =
      opened code entry p h f t (res.If e a b) (Res-F.If e a b) (res.rolls-If e a b) (tested, first, second, re, jf, ra, rb)
  layer_of (ResultStands.alternatives {places = p} {high = h} {from = f} {to = t} forms mid {part = e} {arms = ways} part arms) =
      opened code entry p h f t (res.Case e forms ways) (Res-F.Case e forms ways) (res.rolls-Case e forms ways) (mid, part, arms)
  layer_of (ResultStands.binding {places = p} {high = h} {from = f} {to = t} mid {part = e} {body = b} part body) =
      opened code entry p h f t (res.Let e b) (Res-F.Let e b) (res.rolls-Let e b) (mid, part, body)
  layer_of (ResultStands.raise_alone {places = p} {high = h} {from = f} {to = t} exn mid push found) =
      opened code entry p h f t (res.Raise exn None) (Res-F.Raise exn None) (res.rolls-Raise exn None) (mid, push, found)
  layer_of (ResultStands.raise_with {places = p} {high = h} {from = f} {to = t} exn mid {part = e} part found) =
      opened code entry p h f t (res.Raise exn (Some e)) (Res-F.Raise exn (Some e)) (res.rolls-Raise exn (Some e)) (mid, part, found)

  -- the same at a form that is known
  pub stands_there : {places : List ℕ} {high from to : ℕ} {r : Res} → ResultStands code entry places high from to r → (x : Res-F Res) → roll-Res x ≡ r → Layer code entry places high from to x
  stands_there {places = p} {high = h} {from = f} {to = t} {r = r} rep x is = subst (λ y. Layer code entry p h f t y) (ap out-Res (sym is) ∙ out-roll-Res x) (layer_of rep)

abbrev pub spends_result : Core → Res → ResultSpending
spends_result core r env = result_spent core env r

-- what a form spends
pub spent_form : (core : Core) (env : List Value) (r : Res) (x : Res-F Res) → roll-Res x ≡ r
    → result_spent core env r ≡ result_spent_step (spending_in core) (map-Res Res ResultSpending (spends_result core) x) env
spent_form core env r x is =
    ap (λ r. result_spent core env r) (sym is) ∙ ap (λ (m : ResultSpending). m env) (fold-roll-Res ResultSpending (result_spent_step (spending_in core)) x)
