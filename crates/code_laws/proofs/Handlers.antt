-- Variables are found at spots, and then comes a result: of a rule, or of a handler.
use Rattle.std.proofs.Common.{◌≡◌, ℕ, ◌+◌, ◌≤◌, Bool, true, false, if◌then◌else◌, List, [], ◌∷◌, ◌++◌, length, Option, Some, None, slice_get, refl, ap, sym, ◌∙◌, subst, arith}
use Rattle.std.specs.Option.{option_to_list, option_and_then}
use Rattle.hume_base.specs.declared.types.Ty.{Ty}
use Rattle.hume_base.specs.declared.types.Types.{Types}
use Rattle.hume_base.specs.declared.types.Value.{Value}
use Rattle.hume_model.specs.declared.core_tree.Res.{Res}
use Rattle.hume_model.specs.declared.core_tree.HandC.{HandC}
use Rattle.hume_model.specs.declared.core_tree.BoxC.{BoxC}
use Rattle.hume_model.specs.declared.core_tree.Core.{Core}
use Rattle.hume_model.specs.Firing.{handler_env}
use Rattle.hume_model.specs.Typing.{AreOf, is_carried, is_raised}
use Rattle.hume_model.specs.ResultTyping.{GivesOutputs}
use Rattle.hume_model.specs.BoxTyping.{BoxIsTyped, HandlerIsTyped, handler_types, port_types}
use Rattle.hume_model.specs.WellFormed.{HasSoundParts}
use Rattle.hume_model.proofs.FiringTypes.{env_typed}
use Rattle.box_costs.specs.Costs.{instructions}
use Rattle.box_costs.specs.Bounds.{handler_variables}
use Rattle.box_costs.specs.Spending.{after, over}
use Rattle.box_costs.specs.ResultSpending.{result_taken, result_spent, handler_spent}
use Rattle.box_heap.specs.Heaps.{Object}
use Rattle.box_code.specs.Paths.{Spot, root}
use Rattle.box_code.specs.Machine.{Setting, Machine, at_path}
use Rattle.box_code.specs.Represents.{FunctionsStand, BoundResultStands, handler_spots, HandlerStands}
use Rattle.code_laws.specs.Running.{later, StandsFor}
use Rattle.code_laws.specs.Variables.{Hold, Fits}
use Rattle.code_laws.specs.Ending.{ResultRunsSpent}
use Rattle.code_laws.proofs.Trying.{AllAt}
use Rattle.code_laws.proofs.Binding.{bind_runs}
use Rattle.code_laws.proofs.Results.{result_runs}
use Rattle.code_laws.proofs.ResultSteps.{after_outputs_run, over_outputs_run}

module _ (core : Core) (sound : HasSoundParts core) (s : Setting) (entry : ℕ → Option ℕ) (stand : FunctionsStand s.code entry core) (same_types : s.types ≡ core.types) where
  pub bound_result_runs : {vars : List Ty} {r : Res} → GivesOutputs core s.outs vars r → (m : Machine) (high tall : ℕ) (spots : List Spot) (vs : List Value) → tall ≡ length m.stack → length m.stack ≡ high
      → length m.stack ≤ m.peak → BoundResultStands s.code entry high spots r m.at → AllAt m.objects 0 m.stack spots vs → AreOf core.types vars vs
      → ResultRunsSpent s m tall (result_taken (λ values. result_spent core values r) vs)
  bound_result_runs {r = r} has m high tall spots vs l long low rep at are =
      let start : Fits 0 [] [] high m = record { low = low; long = omega (arith, long); hold = Hold.none } in
      let b = bind_runs s 0 [] [] high rep.bound spots m tall l start rep.fields vs at in
      let y = result_spent core vs r in
      let z = after (instructions (length vs)) y in
      let n = later m rep.bound (m.stack ++ b.words) [] (tall + length vs + 0) in
      let height = b.height in
      over_outputs_run s m tall (length vs) z.outcome z.cost
      (after_outputs_run s m (tall + length vs) rep.bound (m.stack ++ b.words) [] (instructions (length vs)) y.outcome y.cost b.comes refl
      (result_runs core sound s entry stand same_types has vs are _ _ n rep.to 0 (tall + length vs) (sym height) rep.result_stands b.fits))

  -- what a bound handler binds is there
  carried_there : (carries carried : Option Ty) (types : Types) (value : Option Value) → is_carried types carries value ≡ true → (carries ≡ None → ⊥) → (v : Value) × (value ≡ Some v)
  carried_there None carried types value is never = absurd (never refl)
  carried_there (Some t) carried types None is never = cc
  carried_there (Some t) carried types (Some v) is never = (v, refl)

  variables_many : (b : Bool) (carried : Option Value) → (b ≡ true → (v : Value) × (carried ≡ Some v)) → (if b then 1 else 0) ≡ length (if b then option_to_list carried else [])
  variables_many false carried some = refl
  variables_many true None some = let k = some refl in let e = k.1 in cc
  variables_many true (Some v) some = refl

  variables_at : (objects : List Object) (word : ℕ) (stack : List ℕ) → stack ≡ word ∷ [] → (b : Bool) (carried : Option Value) → (b ≡ true → (v : Value) × (carried ≡ Some v)) → StandsFor objects carried word
      → AllAt objects 0 stack (if b then root 0 ∷ [] else []) (if b then option_to_list carried else [])
  variables_at objects word stack e false carried some stands = AllAt.no_spot
  variables_at objects word stack e true None some stands = let k = some refl in let e = k.1 in cc
  variables_at objects word stack e true (Some v) some stands =
      AllAt.at_spot word (ap (λ k. option_and_then (at_path objects []) (slice_get k 0)) e) stands AllAt.no_spot

  module _ (b : BoxC) (typed : BoxIsTyped core b) (same_outs : s.outs ≡ port_types b.outs) where
    pub handler_runs : (handler : HandC) → HandlerIsTyped core b handler → (carried : Option Value) → is_raised core.types (slice_get core.exns handler.exn) carried ≡ true
        → (m : Machine) (word : ℕ) → m.stack ≡ word ∷ [] → 1 ≤ m.peak → StandsFor m.objects carried word → HandlerStands s.code entry handler m.at
        → ResultRunsSpent s m 0 (handler_spent core carried handler)
    handler_runs handler has carried is m word stack low stands rep =
        let known = has.is in
        let carries : is_carried core.types known.exn.carries carried ≡ true = sym (ap (λ o. is_raised core.types o carried) known.known) ∙ is in
        let some : handler.bound ≡ true → (v : Value) × (carried ≡ Some v) = (λ h. carried_there known.exn.carries known.exn.carries core.types carried carries (known.carries h)) in
        let vs = handler_env handler carried in
        let one : length m.stack ≡ 1 = ap length stack in
        let y = result_taken (λ values. result_spent core values handler.result) vs in
        let many : length vs ≡ handler_variables handler = sym (variables_many handler.bound carried some) in
        subst (λ n. ResultRunsSpent s m 0 (over 1 (over n (after (instructions n) (result_spent core vs handler.result))))) many
        (over_outputs_run s m 0 1 y.outcome y.cost
        (bound_result_runs (subst (λ tys. GivesOutputs core tys (handler_types handler known.exn) handler.result) (sym same_outs) has.outputs) m 1 (0 + 1) (handler_spots handler) vs (omega (arith, one)) one (omega (arith, one, low)) rep
        (variables_at m.objects word m.stack stack handler.bound carried some stands) (env_typed core sound b typed handler known carried is handler.bound)))
