-- What a box gives when it fires is of its outputs' types.
use Rattle.std.proofs.Common.{◌≡◌, ℕ, suc, ◌==◌, Bool, true, false, if◌then◌else◌, List, [], ◌∷◌, Option, Some, None, slice_get, refl, ap, sym, ◌∙◌, subst, inl, inr}
use Rattle.std.proofs.lemmas.Bool.{and_parts, eqb-true}
use Rattle.std.proofs.lemmas.Option.{same_Some}
use Rattle.std.specs.List.{find}
use Rattle.std.specs.Option.{is_some, option_map, option_and_then, option_to_list, unwrap_or}
use Rattle.hume_base.proofs.Tables.{chosen}
use Rattle.hume_base.specs.declared.types.Ty.{Ty}
use Rattle.hume_base.specs.declared.types.Types.{Types}
use Rattle.hume_base.specs.declared.types.Value.{Value}
use Rattle.hume_base.specs.Holding.{HoldSmaller}
use Rattle.hume_model.specs.declared.core_tree.InPat.{InPat}
use Rattle.hume_model.specs.declared.core_tree.PatC.{PatC}
use Rattle.hume_model.specs.declared.core_tree.RuleC.{RuleC}
use Rattle.hume_model.specs.declared.core_tree.HandC.{HandC}
use Rattle.hume_model.specs.declared.core_tree.BoxC.{BoxC}
use Rattle.hume_model.specs.declared.core_tree.ExnDef.{ExnDef}
use Rattle.hume_model.specs.declared.core_tree.Core.{Core}
use Rattle.hume_model.specs.declared.outcome.Outputs.{Outputs}
use Rattle.hume_model.specs.declared.outcome.Outputs.TheVariants.{Asserts, Throws}
use Rattle.hume_model.specs.declared.outcome.Firing.{Firing}
use Rattle.hume_model.specs.Patterns.{matches}
use Rattle.hume_model.specs.Matching.{fits, bound}
use Rattle.hume_model.specs.Results.{result_of}
use Rattle.hume_model.specs.Firing.{fire, firing_of, rule_fits, handled, handled_by, handler_env, outputs_or_none}
use Rattle.hume_model.specs.Typing.{AreOf, is_raised, is_carried}
use Rattle.hume_model.specs.ResultTyping.{are_outputs, is_result}
use Rattle.hume_model.specs.BoxTyping.{PositionsHave, HandlerIsKnown, BoxIsTyped, port_types, carried_types}
use Rattle.hume_model.specs.WellFormed.{HasSoundParts}
use Rattle.hume_model.proofs.PatternTypes.{of_both, one_of, pattern_typed}
use Rattle.hume_model.proofs.ResultTypes.{result_typed}

matched_values : (types : Types) → HoldSmaller types → (t : Ty) (p : PatC) (vars : List Ty) (m : Option (List Value)) → is_some m ≡ true
    → ((vs : List Value) → m ≡ Some vs → AreOf types vars vs) → AreOf types vars (unwrap_or m [])
matched_values types down t p vars None some is = cc
matched_values types down t p vars (Some vs) some is = is vs refl

-- a rule's variables have values of their types
pub bound_typed : (types : Types) → HoldSmaller types → {ts vars : List Ty} {pats : List InPat} → PositionsHave types ts pats vars → (ins : List (Option Value))
    → are_outputs types ts ins ≡ true → fits pats ins ≡ true → AreOf types vars (bound pats ins)
bound_typed types down PositionsHave.none ins is fit = refl
bound_typed types down (PositionsHave.star rest) [] is fit = cc
bound_typed types down (PositionsHave.star rest) (None ∷ ins) is fit = bound_typed types down rest ins is fit
bound_typed types down (PositionsHave.star rest) (Some v ∷ ins) is fit = bound_typed types down rest ins (and_parts _ _ is).1 fit
bound_typed types down (PositionsHave.any_star rest) [] is fit = cc
bound_typed types down (PositionsHave.any_star rest) (None ∷ ins) is fit = bound_typed types down rest ins is fit
bound_typed types down (PositionsHave.any_star rest) (Some v ∷ ins) is fit = bound_typed types down rest ins (and_parts _ _ is).1 fit
bound_typed types down (PositionsHave.any rest) [] is fit = cc
bound_typed types down (PositionsHave.any rest) (None ∷ ins) is fit = cc
bound_typed types down (PositionsHave.any rest) (Some v ∷ ins) is fit = bound_typed types down rest ins (and_parts _ _ is).1 fit
bound_typed types down (PositionsHave.built pattern rest) [] is fit = cc
bound_typed types down (PositionsHave.built pattern rest) (None ∷ ins) is fit = cc
bound_typed types down (PositionsHave.built {ty = t} {vars = xs} {more = ys} {p = p} pattern rest) (Some v ∷ ins) is fit =
    let fs = and_parts _ _ fit in
    let ps = and_parts _ _ is in
    of_both types xs ys _ _
    (matched_values types down t p xs (matches p v) fs.0 (λ vs found. pattern_typed types down pattern v vs ps.0 found))
    (bound_typed types down rest ins ps.1 fs.1)

pub found_in : {X : Type 0} (test : X → Bool) (xs : List X) (x : X) → find test xs ≡ Some x → (i : ℕ) × (slice_get xs i ≡ Some x) × (test x ≡ true)
found_in test [] x h = cc
found_in test (y ∷ ys) x h = elim (chosen (test y) (Some y) (find test ys) (Some x) h) [
  | inl first ↦ (0, first.1, (let same : y ≡ x = (let f = first.1 in cc) in ap test (sym same) ∙ first.0))
  | inr later ↦ (let r = found_in test ys x later.1 in (suc r.0, r.1, r.2))
]

carried_values : (types : Types) (carries : Option Ty) (carried : Option Value) → is_carried types carries carried ≡ true → AreOf types (carried_types carries) (option_to_list carried)
carried_values types None None is = refl
carried_values types None (Some v) is = cc
carried_values types (Some t) None is = cc
carried_values types (Some t) (Some v) is = one_of types t v is

module _ (core : Core) (sound : HasSoundParts core) (b : BoxC) (typed : BoxIsTyped core b) where
  abbrev AreOutputs : List (Option Value) → Type 0
  AreOutputs outs = are_outputs core.types (port_types b.outs) outs ≡ true

  or_none_typed : (o : Outputs) → is_result core (port_types b.outs) o ≡ true → AreOutputs (outputs_or_none o)
  or_none_typed (Asserts outs) is = is
  or_none_typed (Throws exn carried) is = refl

  bound_env : (handler : HandC) (known : HandlerIsKnown core handler) (o : Option ExnDef) (carried : Option Value) → slice_get core.exns handler.exn ≡ o
      → is_raised core.types o carried ≡ true → AreOf core.types (carried_types known.exn.carries) (option_to_list carried)
  bound_env handler known None carried found is = cc
  bound_env handler known (Some exn) carried found is =
      let same : known.exn ≡ exn = same_Some known.exn exn (sym known.known ∙ found) in
      subst (λ (x : ExnDef). AreOf core.types (carried_types x.carries) (option_to_list carried)) (sym same) (carried_values core.types exn.carries carried is)

  pub env_typed : (handler : HandC) (known : HandlerIsKnown core handler) (carried : Option Value) → is_raised core.types (slice_get core.exns handler.exn) carried ≡ true
      → (bound : Bool) → AreOf core.types (if bound then carried_types known.exn.carries else []) (if bound then option_to_list carried else [])
  env_typed handler known carried is true = bound_env handler known (slice_get core.exns handler.exn) carried refl is
  env_typed handler known carried is false = refl

  handler_typed : (exn : ℕ) (carried : Option Value) → is_raised core.types (slice_get core.exns exn) carried ≡ true → (h : Option HandC)
      → find (λ (handler : HandC). handler.exn == exn) b.handlers ≡ h → AreOutputs (handled_by core carried h)
  handler_typed exn carried is None found = refl
  handler_typed exn carried is (Some handler) found =
      let at = found_in (λ (handler : HandC). handler.exn == exn) b.handlers handler found in
      let has = typed.handlers at.0 handler at.1 in
      let raised_here = subst (λ k. is_raised core.types (slice_get core.exns k) carried ≡ true) (sym (eqb-true handler.exn exn at.2)) is in
      or_none_typed (result_of core (handler_env handler carried) handler.result)
      (result_typed core sound (port_types b.outs) has.outputs (handler_env handler carried) (env_typed handler has.is carried raised_here handler.bound))

  handled_typed : (o : Outputs) → is_result core (port_types b.outs) o ≡ true → AreOutputs (handled core b.handlers o)
  handled_typed (Asserts outs) is = is
  handled_typed (Throws exn carried) is = handler_typed exn carried is (find (λ (handler : HandC). handler.exn == exn) b.handlers) refl

  module _ (ins : List (Option Value)) (are : are_outputs core.types (port_types b.ins) ins ≡ true) where
    by_rule : (number : ℕ) (r : Option RuleC) → slice_get b.rules number ≡ r → rule_fits ins r ≡ true → (firing : Firing)
        → option_map (firing_of core b number ins) r ≡ Some firing → AreOutputs firing.outs
    by_rule number None found fit firing h = cc
    by_rule number (Some rule) found fit firing h =
        let has = typed.rules number rule found in
        let same : firing_of core b number ins rule ≡ firing = cc in
        subst (λ (f : Firing). AreOutputs f.outs) same
        (handled_typed (result_of core (bound rule.pats ins) rule.result)
        (result_typed core sound (port_types b.outs) has.outputs (bound rule.pats ins) (bound_typed core.types sound.holds has.positions.have ins are fit)))

    by_number : (order : List ℕ) (n : Option ℕ) → find (λ number. rule_fits ins (slice_get b.rules number)) order ≡ n → (firing : Firing)
        → option_and_then (λ number. option_map (firing_of core b number ins) (slice_get b.rules number)) n ≡ Some firing → AreOutputs firing.outs
    by_number order None found firing h = cc
    by_number order (Some number) found firing h =
        by_rule number (slice_get b.rules number) refl (found_in (λ number. rule_fits ins (slice_get b.rules number)) order number found).2 firing h

    pub fire_typed : (order : List ℕ) (firing : Firing) → fire core b order ins ≡ Some firing → AreOutputs firing.outs
    fire_typed order firing h = by_number order (find (λ number. rule_fits ins (slice_get b.rules number)) order) refl firing h
