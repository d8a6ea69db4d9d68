-- Where boxes handle what their rules raise, pending outputs have an entry for each output.
use Rattle.std.proofs.Common.{◌≡◌, ℕ, zero, suc, List, map, length, Option, Some, None, slice_get, refl, ap, sym, ◌∙◌}
use Rattle.std.proofs.lemmas.Option.{slice_get-map}
use Rattle.std.specs.List.{range_with_len}
use Rattle.std.specs.Option.{option_flatten}
use Rattle.hume_base.specs.declared.types.Value.{Value}
use Rattle.hume_model.specs.declared.core_tree.BoxC.{BoxC}
use Rattle.hume_model.specs.declared.core_tree.NodeC.TheVariants.{Rules}
use Rattle.hume_model.specs.declared.core_tree.Core.{Core}
use Rattle.hume_model.proofs.AllOutputs.{all_outputs}
use Rattle.hume_net.specs.declared.state.State.{State}
use Rattle.hume_net.specs.HalfSteps.{oldest}
use Rattle.hume_net.specs.Sides.{part_of, inputs}
use Rattle.hume_net.specs.Lockstep.{mid, superstep, lockstep}
use Rattle.hume_net.specs.Start.{start}
use Rattle.hume_net.specs.StatePlaces.{HaveAllOutputs, BoxesHandleAll}
use Rattle.hume_net.specs.StateTyping.{IsTypedNet, IsTypedState, InitialsAreTyped, ComingAreTyped}
use Rattle.hume_net.proofs.Pending.{FiringsAre, mid_pending, up_pending}
use Rattle.hume_net.proofs.StartTypes.{nothing_pending, lockstep_typed}
use Rattle.hume_net.proofs.StateTypes.{inputs_typed}

module _ (core : Core) (net : IsTypedNet core) (handles : BoxesHandleAll core) where
  abbrev HasAll : BoxC → List (Option Value) → Type 0
  HasAll b outs = length outs ≡ length b.outs

  module _ (s : State) (typed : IsTypedState core s) (all : HaveAllOutputs core s) where
    firings_all : FiringsAre core s HasAll
    firings_all n b is_box firing fires =
        all_outputs core b (net.boxes n b is_box) (handles n b is_box) (map oldest (inputs core s n (Rules b))) (inputs_typed core net s typed n b is_box)
        (part_of s n).order firing fires

    pub mid_all : HaveAllOutputs core (mid core s)
    mid_all = mid_pending core s HasAll all firings_all

    pub superstep_all : HaveAllOutputs core (superstep core s)
    unfolding superstep
    superstep_all = up_pending core (mid core s) HasAll mid_all

  start_all : (coming : List (List Value)) → HaveAllOutputs core (start core coming)
  start_all coming n b outs is_box h =
      let f : ℕ → Option (List (Option Value)) = λ number. None in
      let numbers = range_with_len 0 (length core.nodes) in
      let none : None ≡ Some outs = sym (ap option_flatten (slice_get-map f numbers n) ∙ nothing_pending f (λ number. refl) (slice_get numbers n)) ∙ h in
      cc

  module _ (initials : InitialsAreTyped core) (coming : List (List Value)) (typed : ComingAreTyped core coming) where
    pub lockstep_all : (k : ℕ) → HaveAllOutputs core (lockstep core (start core coming) k)
    unfolding lockstep
    lockstep_all zero = start_all coming
    lockstep_all (suc k) = superstep_all (lockstep core (start core coming) k) (lockstep_typed core net initials coming typed k) (lockstep_all k)

    pub middle_all : (k : ℕ) → HaveAllOutputs core (mid core (lockstep core (start core coming) k))
    middle_all k = mid_all (lockstep core (start core coming) k) (lockstep_typed core net initials coming typed k) (lockstep_all k)
