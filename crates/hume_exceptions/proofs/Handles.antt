-- A box that breaks no rule on handlers handles all that its rules raise.
use Rattle.std.proofs.Common.{◌≡◌, ℕ, ◌<◌, ◌==◌, ◌||◌, Bool, true, false, List, [], ◌∷◌, length, Option, Some, None, slice_get, refl, ap, sym, ◌∙◌, subst, inl, inr}
use Rattle.std.proofs.lemmas.Bool.{eqb-true}
use Rattle.std.proofs.lemmas.Option.{slice_get_within}
use Rattle.std.specs.List.{find}
use Rattle.hume_base.specs.declared.types.Value.{Value}
use Rattle.hume_base.specs.declared.rule.Rule.TheVariants.{C60, C61}
use Rattle.hume_base.specs.Least.{IsLeast}
use Rattle.hume_model.specs.declared.core_tree.HandC.{HandC}
use Rattle.hume_model.specs.declared.core_tree.BoxC.{BoxC}
use Rattle.hume_model.specs.declared.core_tree.ExnDef.{ExnDef}
use Rattle.hume_model.specs.declared.core_tree.NodeC.TheVariants.{Rules}
use Rattle.hume_model.specs.declared.core_tree.Core.{Core}
use Rattle.hume_model.specs.declared.outcome.Outputs.{Outputs}
use Rattle.hume_model.specs.declared.outcome.Outputs.TheVariants.{Asserts, Throws}
use Rattle.hume_model.specs.Matching.{bound}
use Rattle.hume_model.specs.Results.{result_of}
use Rattle.hume_model.specs.Firing.{handler_env}
use Rattle.hume_model.specs.Typing.{is_raised}
use Rattle.hume_model.specs.ResultTyping.{is_result}
use Rattle.hume_model.specs.BoxTyping.{BoxIsTyped, port_types}
use Rattle.hume_model.specs.Handling.{IsHandled, HandlesAll}
use Rattle.hume_model.specs.WellFormed.{HasSoundParts, IsWellFormed}
use Rattle.hume_model.specs.HandlerRules.{BreaksHandlers, LeavesUnhandled, RaisesAgain, has_handler}
use Rattle.hume_model.proofs.FiringTypes.{bound_typed, env_typed, found_in}
use Rattle.hume_model.proofs.ResultTypes.{result_typed}
use Rattle.hume_model.proofs.WellFormedCores.{sound_parts}
use Rattle.hume_exceptions.proofs.ResultsCover.{result_covers}

-- the handler for an exception that has one
first_handler : (exn : ℕ) (handlers : List HandC) → has_handler handlers exn ≡ true → (handler : HandC) × (find (λ (handler : HandC). handler.exn == exn) handlers ≡ Some handler)
first_handler exn [] has = cc
first_handler exn (handler ∷ handlers) has = by (handler.exn == exn) refl has (first_handler exn handlers)
  where
    by : (b : Bool) → (handler.exn == exn) ≡ b → (b || has_handler handlers exn) ≡ true
        → (has_handler handlers exn ≡ true → (later : HandC) × (find (λ (handler : HandC). handler.exn == exn) handlers ≡ Some later))
        → (found : HandC) × (find (λ (handler : HandC). handler.exn == exn) (handler ∷ handlers) ≡ Some found)
    by true is has go = (handler, rw is refl)
    by false is has go = let later = go has in (later.0, rw is later.1)

-- what is raised is an exception of the core
known_exception : (core : Core) (exn : ℕ) (carried : Option Value) (o : Option ExnDef) → slice_get core.exns exn ≡ o → is_raised core.types o carried ≡ true → exn < length core.exns
known_exception core exn carried None found is = cc
known_exception core exn carried (Some def) found is = slice_get_within core.exns exn def found

module _ (core : Core) (formed : IsWellFormed core) (fine : IsLeast (BreaksHandlers core) None) (n : ℕ) (b : BoxC) (at : slice_get core.nodes n ≡ Some (Rules b)) where
  sound : HasSoundParts core
  sound = sound_parts core formed

  has : BoxIsTyped core b
  has = formed.boxes n b at

  no_unhandled : LeavesUnhandled core b → ⊥
  no_unhandled broken = fine (record { rule = C60; declaration = b.declaration }) (inl (refl, record { n = n; b = b; there = at; declared = refl; holds = broken }))

  no_raise : RaisesAgain core b → ⊥
  no_raise broken = fine (record { rule = C61; declaration = b.declaration }) (inr (refl, record { n = n; b = b; there = at; declared = refl; holds = broken }))

  -- a handler's result raises nothing
  gives_outputs : (number : ℕ) (handler : HandC) → slice_get b.handlers number ≡ Some handler → (carried : Option Value) → is_raised core.types (slice_get core.exns handler.exn) carried ≡ true
      → (o : Outputs) → result_of core (handler_env handler carried) handler.result ≡ o → (outs : List (Option Value)) × (result_of core (handler_env handler carried) handler.result ≡ Asserts outs)
  gives_outputs number handler there carried is (Asserts outs) gives = (outs, gives)
  gives_outputs number handler there carried is (Throws exn inner) throws =
      let typed = has.handlers number handler there in
      let env = env_typed core sound b has handler typed.is carried is handler.bound in
      let may = (result_covers core sound exn (port_types b.outs) typed.outputs (handler_env handler carried) env).by inner throws in
      let again : is_raised core.types (slice_get core.exns exn) inner ≡ true =
      ap (is_result core (port_types b.outs)) (sym throws) ∙ result_typed core sound (port_types b.outs) typed.outputs (handler_env handler carried) env in
      absurd (no_raise (record { number = number; handler = handler; there = there; exn = exn; known = known_exception core exn inner _ refl again; raises = may }))

  handled : (exn : ℕ) (carried : Option Value) → is_raised core.types (slice_get core.exns exn) carried ≡ true → has_handler b.handlers exn ≡ true → IsHandled core b exn carried
  handled exn carried is there =
      let first = first_handler exn b.handlers there in
      let place = found_in (λ (handler : HandC). handler.exn == exn) b.handlers first.0 first.1 in
      let own : is_raised core.types (slice_get core.exns first.0.exn) carried ≡ true =
      subst (λ k. is_raised core.types (slice_get core.exns k) carried ≡ true) (sym (eqb-true first.0.exn exn place.2)) is in
      let outs = gives_outputs place.0 first.0 place.1 carried own _ refl in
      record { handler = first.0; found = first.1; outs = outs.0; gives = outs.1 }

  by_handler : (exn : ℕ) (carried : Option Value) → is_raised core.types (slice_get core.exns exn) carried ≡ true → (t : Bool) → has_handler b.handlers exn ≡ t
      → (has_handler b.handlers exn ≡ false → ⊥) → IsHandled core b exn carried
  by_handler exn carried is true there none = handled exn carried is there
  by_handler exn carried is false there none = absurd (none there)

  pub handles_all : HandlesAll core b
  handles_all number rule there ins are fit exn carried throws =
      let typed = has.rules number rule there in
      let env = bound_typed core.types sound.holds typed.positions.have ins are fit in
      let may = (result_covers core sound exn (port_types b.outs) typed.outputs (bound rule.pats ins) env).by carried throws in
      let is : is_raised core.types (slice_get core.exns exn) carried ≡ true =
      ap (is_result core (port_types b.outs)) (sym throws) ∙ result_typed core sound (port_types b.outs) typed.outputs (bound rule.pats ins) env in
      by_handler exn carried is _ refl
      (λ none. no_unhandled (record { number = number; rule = rule; there = there; exn = exn; known = known_exception core exn carried _ refl is; raises = may; unhandled = none }))
