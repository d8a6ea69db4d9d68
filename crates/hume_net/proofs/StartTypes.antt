-- A net begins with values of the right types, and goes on with such.
use Rattle.std.proofs.Common.{◌≡◌, ℕ, zero, suc, List, [], length, map, Option, Some, None, slice_get, refl, true, ap, sym, ◌∙◌, subst}
use Rattle.std.proofs.lemmas.Option.{slice_get-map}
use Rattle.std.specs.List.{range_with_len}
use Rattle.std.specs.Option.{option_flatten, option_map, option_to_list, unwrap_or}
use Rattle.hume_base.specs.declared.types.Ty.{Ty}
use Rattle.hume_base.specs.declared.types.Value.{Value}
use Rattle.hume_base.specs.Values.{is_value}
use Rattle.hume_model.specs.declared.core_tree.WireC.{WireC}
use Rattle.hume_model.specs.declared.core_tree.Core.{Core}
use Rattle.hume_net.specs.Lockstep.{lockstep}
use Rattle.hume_net.specs.Start.{start}
use Rattle.hume_net.specs.StateTyping.{IsTypedNet, IsTypedState, InitialsAreTyped, ComingAreTyped}
use Rattle.hume_net.proofs.Gathered.{mapped_at}
use Rattle.hume_net.proofs.SideTypes.{AllAre, one_is}
use Rattle.hume_net.proofs.StateTypes.{superstep_typed}

pub nothing_pending : {A X : Type 0} (f : A → Option X) → ((a : A) → f a ≡ None) → (o : Option A) → option_flatten (option_map f o) ≡ None
nothing_pending f none None = refl
nothing_pending f none (Some a) = none a

nothing_taken : {A X : Type 0} (f : A → List X) → ((a : A) → f a ≡ []) → (o : Option A) → unwrap_or (option_map f o) [] ≡ []
nothing_taken f none None = refl
nothing_taken f none (Some a) = none a

initial_is : (core : Core) (t : Ty) (initial : Option Value) → ((v : Value) → initial ≡ Some v → is_value core.types t v ≡ true) → AllAre core.types t (option_to_list initial)
initial_is core t None is = refl
initial_is core t (Some v) is = one_is core.types t v (is v refl)

pub start_typed : (core : Core) → InitialsAreTyped core → (coming : List (List Value)) → ComingAreTyped core coming → IsTypedState core (start core coming)
start_typed core initials coming typed = record {
  wires = λ w wire found.
      subst (AllAre core.types wire.ty) (sym (mapped_at (λ (x : WireC). option_to_list x.initial) core.wires w wire found))
      (initial_is core wire.ty wire.initial (λ v initial. initials w wire v found initial));
  pending = λ n b outs is_box h.
      let f : ℕ → Option (List (Option Value)) = λ number. None in
      let numbers = range_with_len 0 (length core.nodes) in
      let none : None ≡ Some outs = sym (ap option_flatten (slice_get-map f numbers n) ∙ nothing_pending f (λ number. refl) (slice_get numbers n)) ∙ h in
      cc;
  coming = typed;
  taken = λ n stream w wire is found to place.
      let f : ℕ → List Value = λ number. [] in
      let numbers = range_with_len 0 (length core.nodes) in
      let none : unwrap_or (slice_get (map f numbers) n) [] ≡ [] =
      ap (λ o. unwrap_or o []) (slice_get-map f numbers n) ∙ nothing_taken f (λ number. refl) (slice_get numbers n) in
      subst (AllAre core.types wire.ty) (sym none) refl;
}

pub lockstep_typed : (core : Core) → IsTypedNet core → InitialsAreTyped core → (coming : List (List Value)) → ComingAreTyped core coming → (k : ℕ)
    → IsTypedState core (lockstep core (start core coming) k)
unfolding lockstep
lockstep_typed core net initials coming typed zero = start_typed core initials coming typed
lockstep_typed core net initials coming typed (suc k) = superstep_typed core net (lockstep core (start core coming) k) (lockstep_typed core net initials coming typed k)
