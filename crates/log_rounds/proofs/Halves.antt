-- A logged run that makes a half of a superstep: where it stands then.
use Rattle.std.proofs.Common.{◌≡◌, ◌⊎◌, ℕ, zero, suc, ◌+◌, ◌-◌, ◌≤◌, List, [], map, length, None, Some, slice_get, refl, ap, sym, ◌∙◌, subst, inl, inr, arith}
use Rattle.std.proofs.lemmas.List.{length-map}
use Rattle.std.proofs.lemmas.List.FromFn.{length-map-range_with_len}
use Rattle.std.proofs.lemmas.Option.{slice_get_within}
use Rattle.hume_base.specs.declared.types.Value.{Value}
use Rattle.hume_model.specs.declared.core_tree.NodeC.{NodeC}
use Rattle.hume_model.specs.declared.core_tree.NodeC.TheVariants.{From}
use Rattle.hume_model.specs.declared.core_tree.StreamC.{StreamC}
use Rattle.hume_model.specs.declared.core_tree.WireC.{WireC}
use Rattle.hume_model.specs.declared.core_tree.Core.{Core}
use Rattle.hume_net.specs.declared.state.HalfStep.{HalfStep}
use Rattle.hume_net.specs.declared.state.State.{State}
use Rattle.hume_net.specs.Lockstep.{lockstep, mid, superstep as superstep_of, up}
use Rattle.hume_net.specs.Parts.{IsStateOf}
use Rattle.hume_net.specs.Sides.{each_node, executed, gathered, left_on, part_of, stepped}
use Rattle.hume_net.specs.Start.{start}
use Rattle.hume_net.specs.rounds.Blocked.{blocking}
use Rattle.hume_net.specs.rounds.Pieces.{IsFilled, IsPieceOf}
use Rattle.hume_net.proofs.rounds_lemmas.Blocking.{nothing_blocks}
use Rattle.hume_net.proofs.rounds_lemmas.Completing.{mid_piece, up_piece}
use Rattle.hume_net.proofs.rounds_lemmas.PieceSteps.{is_node}
use Rattle.hume_net.proofs.rounds_lemmas.Streaming.{mid_coming}
use Rattle.hume_ports.specs.Port.{PortView}
use Rattle.hume_ports.specs.Delivery.{bytes_for}
use Rattle.hume_streams.specs.Queues.{QueueView}
use Rattle.phase_workers.specs.Engines.{core_of, queue_at}
use Rattle.phase_workers.specs.Runnable.{IsRunnable}
use Rattle.run_log.specs.declared.half.Half.{Half}
use Rattle.run_log.specs.declared.half.Half.TheVariants.{Mid, End}
use Rattle.run_log.specs.declared.log_run.LogRun.{LogRun}
use Rattle.run_log.specs.Moments.{Moment, after_half, core_in, engine_of, forgotten, moment_of, next_half}
use Rattle.run_log.proofs.Pieces.{forgotten_piece}
use Rattle.run_rounds.specs.Inputs.{Inputs, is_bad}
use Rattle.run_rounds.specs.inner.Beginning.{MayBegin}
use Rattle.run_rounds.specs.inner.Reading.{HasRead, MayCome, later_of}
use Rattle.run_rounds.specs.inner.Standing.{AreUnblocked, EndsAreTold}
use Rattle.run_rounds.proofs.Filled.{is_filled}
use Rattle.log_rounds.specs.Opened.{IsApart}
use Rattle.log_rounds.specs.inner.Standing.{Deeds, IsFilledThere, IsPieceThere, StandsAt}
use Rattle.log_rounds.specs.inner.Steps.{StandsFilling, filling}
use Rattle.log_rounds.proofs.Standings.{goes_on}

-- what is gathered from a half step of each node has a place for each
gathered_length : {X : Type 0} (core : Core) (says : ℕ → HalfStep) (f : HalfStep → X) → length (map f (each_node core says)) ≡ length core.nodes
gathered_length core says f = length-map (each_node core says) f ∙ length-map-range_with_len says 0 (length core.nodes)

gathered_state : (core : Core) (says : ℕ → HalfStep) (values : WireC → List Value) → IsStateOf core (gathered (each_node core says) (map values core.wires))
gathered_state core says values = record {
  wires = length-map core.wires values;
  pending = gathered_length core says (λ (half : HalfStep). half.part.pending);
  orders = gathered_length core says (λ (half : HalfStep). half.part.order);
  coming = gathered_length core says (λ (half : HalfStep). half.part.coming);
  taken = gathered_length core says (λ (half : HalfStep). half.part.taken);
}

mid_state : (core : Core) (s : State) → IsStateOf core (mid core s)
mid_state core s = gathered_state core (executed core s) (λ (wire : WireC). left_on (each_node core (executed core s)) wire.to wire.to_port)

up_state : (core : Core) (s : State) → IsStateOf core (up core s)
up_state core s = gathered_state core (stepped core s) (λ (wire : WireC). left_on (each_node core (stepped core s)) wire.from wire.from_port)

lockstep_next : (core : Core) (first : State) (k : ℕ) → lockstep core first (suc k) ≡ up core (mid core (lockstep core first k))
unfolding lockstep superstep_of
lockstep_next core first k = refl

-- an execute step leaves what comes to a stream
mid_enough : (core : Core) (later : ℕ → List Value) (n : ℕ) (s : State) (node : NodeC) → slice_get core.nodes n ≡ Some node
    → (later n ≡ []) ⊎ (1 ≤ length (part_of s n).coming) → (later n ≡ []) ⊎ (1 ≤ length (part_of (mid core s) n).coming)
mid_enough core later n s node is (inl none) = inl none
mid_enough core later n s node is (inr some) = inr (let e = ap length (mid_coming core s n node is) in omega (arith, e, some))

mid_filled : (core : Core) (later : ℕ → List Value) (s : State) → IsFilled core 1 later s → IsFilled core 1 later (mid core s)
mid_filled core later s filled n input = let node = is_node _ input in mid_enough core later n s node.0 node.1 (filled n input)

-- a run that has moved to another half, when nothing was read
module _ (core : Core) (steps : ℕ) (half : Half) (superstep : ℕ) (deeds : Deeds) (olds news : List PortView) (old new : LogRun)
    (stands : StandsAt core steps half superstep deeds olds news old) (new_core : core_in new ≡ core)
    (queues : (n : ℕ) → queue_at (engine_of new) n ≡ queue_at (engine_of old) n) where
  qs : queue_at (engine_of old) ≡ queue_at (engine_of new)
  qs i n = sym (queues n) i

  pub moved : (next : Half) (number : ℕ) → (moment_of new).half ≡ next → (moment_of new).superstep ≡ number → IsStateOf core (moment_of new).state
      → IsPieceThere core (queue_at (engine_of old)) (moment_of new).state stands.taken stands.fed next number
      → IsFilledThere core (queue_at (engine_of old)) (moment_of new).state stands.taken stands.fed next
      → AreUnblocked core 1 steps (queue_at (engine_of old)) stands.taken number
      → StandsAt core steps next number deeds olds news new
  moved next number is_half is_superstep parts piece filled unblocked = record {
    acts = stands.acts;
    taken = stands.taken;
    fed = stands.fed;
    is_core = new_core;
    is_half = is_half;
    is_superstep = is_superstep;
    parts = parts;
    made = stands.made;
    told = subst (λ q. EndsAreTold core q stands.taken olds) qs stands.told;
    read = subst (λ q. HasRead core q stands.taken stands.fed) qs stands.read;
    piece = subst (λ q. IsPieceThere core q (moment_of new).state stands.taken stands.fed next number) qs piece;
    filled = subst (λ q. IsFilledThere core q (moment_of new).state stands.taken stands.fed next) qs filled;
    unblocked = subst (λ q. AreUnblocked core 1 steps q stands.taken number) qs unblocked;
    did = subst (λ q. (inputs : Inputs) → MayCome core q stands.taken inputs → stands.acts ≡ deeds.acts inputs.good) qs stands.did;
    logged = subst (λ (q : ℕ → QueueView). IsApart core deeds.log → (inputs : Inputs) → MayCome core q stands.taken inputs
        → bytes_for deeds.log stands.taken ≡ deeds.bytes inputs.good) qs stands.logged;
  }

-- a run that is where it was
pub rerun : (core : Core) (steps : ℕ) (half : Half) (superstep : ℕ) (deeds : Deeds) (olds news : List PortView) (old new : LogRun)
    → engine_of new ≡ engine_of old → moment_of new ≡ moment_of old
    → StandsAt core steps half superstep deeds olds news old → StandsAt core steps half superstep deeds olds news new
rerun core steps half superstep deeds olds news old new engine moment stands =
    moved core steps half superstep deeds olds news old new stands (ap core_of engine ∙ stands.is_core) (λ n. ap (λ e. queue_at e n) engine) half superstep
    (ap (λ (m : Moment). m.half) moment ∙ stands.is_half) (ap (λ (m : Moment). m.superstep) moment ∙ stands.is_superstep)
    (subst (λ (m : Moment). IsStateOf core m.state) (sym moment) stands.parts)
    (subst (λ (m : Moment). IsPieceThere core (queue_at (engine_of old)) m.state stands.taken stands.fed half superstep) (sym moment) stands.piece)
    (subst (λ (m : Moment). IsFilledThere core (queue_at (engine_of old)) m.state stands.taken stands.fed half) (sym moment) stands.filled)
    stands.unblocked

-- an earlier superstep, or the one that is made
earlier_or_now : (number done : ℕ) → number ≤ suc done → (number ≤ done) ⊎ (number ≡ suc done)
earlier_or_now zero done most = inl (omega arith)
earlier_or_now (suc number) zero most = inr (omega (arith, most))
earlier_or_now (suc number) (suc done) most = elim (earlier_or_now number done (omega (arith, most))) [
  | inl less ↦ inl (omega (arith, less))
  | inr same ↦ inr (ap suc same)
]

-- all streams are filled, and all nodes make their execute steps
module _ (core : Core) (run : IsRunnable core) (steps done : ℕ) (deeds : Deeds) (olds news : List PortView) (old new : LogRun)
    (so_far : StandsFilling core steps done (length core.nodes) deeds olds news old) where
  abbrev did : Deeds
  did = filling core steps done (length core.nodes) deeds

  abbrev stood : StandsAt core steps End done did olds news old
  stood = so_far.stands

  abbrev before : State
  before = forgotten core (moment_of old).state

  abbrev Whole : Inputs → State
  Whole inputs = lockstep core (start core inputs.good) done

  module _ (inputs : Inputs) (can : MayCome core (queue_at (engine_of old)) stood.taken inputs) where
    -- no stream blocks the superstep
    now_unblocked : blocking core inputs.good (is_bad inputs) 1 steps (suc done) ≡ None
    now_unblocked = nothing_blocks core inputs.good (is_bad inputs) 1 steps (suc done)
        (λ n within. goes_on core run steps done did olds news old stood inputs can so_far.is n within (λ stream there. so_far.begun n stream within there))

    filled : IsFilled core 1 (later_of inputs stood.fed) (moment_of old).state
    filled =
        let p = stood.piece inputs can in
        let begin : (n : ℕ) (stream : StreamC) → slice_get core.nodes n ≡ Some (From stream) → MayBegin core (queue_at (engine_of old)) 1 (moment_of old).state n =
        λ n stream there. so_far.begun n stream (slice_get_within core.nodes n (From stream) there) there in
        is_filled core run.names (queue_at (engine_of old)) stood.taken stood.fed stood.read inputs can 1 done (moment_of old).state p.0 p.1 begin

    piece_forgotten : (gone : ℕ → List Value) × IsPieceOf core gone (later_of inputs stood.fed) before (Whole inputs)
    piece_forgotten =
        let p = stood.piece inputs can in
        forgotten_piece core p.0 (later_of inputs stood.fed) (moment_of old).state (Whole inputs) p.1

  all_unblocked : AreUnblocked core 1 steps (queue_at (engine_of old)) stood.taken (suc done)
  all_unblocked inputs can number least most = elim (earlier_or_now number done most) [
    | inl less ↦ stood.unblocked inputs can number least less
    | inr same ↦ ap (λ k. blocking core inputs.good (is_bad inputs) 1 steps k) same ∙ now_unblocked inputs can
  ]

  piece_mid : IsPieceThere core (queue_at (engine_of old)) (mid core before) stood.taken stood.fed Mid (suc done)
  piece_mid inputs can =
      let f = piece_forgotten inputs can in
      let at : done ≡ suc done - 1 = omega arith in (
        f.0,
        subst (λ k. IsPieceOf core f.0 (later_of inputs stood.fed) (mid core before) (mid core (lockstep core (start core inputs.good) k))) at
            (mid_piece core f.0 (later_of inputs stood.fed) before (Whole inputs) f.1),
      )

  module _ (new_core : core_in new ≡ core) (queues : (n : ℕ) → queue_at (engine_of new) n ≡ queue_at (engine_of old) n)
      (next : moment_of new ≡ next_half core (moment_of old)) where
    after : moment_of new ≡ after_half core (moment_of old).superstep (moment_of old).state End
    after = next ∙ ap (after_half core (moment_of old).superstep (moment_of old).state) stood.is_half

    pub half_begun : StandsAt core steps Mid (suc done) did olds news new
    half_begun =
        let state : (moment_of new).state ≡ mid core before = ap (λ (m : Moment). m.state) after in
        let one : done + 1 ≡ suc done = omega arith in
        moved core steps End done did olds news old new stood new_core queues Mid (suc done)
        (ap (λ (m : Moment). m.half) after) (ap (λ (m : Moment). m.superstep) after ∙ ap (λ k. k + 1) stood.is_superstep ∙ one)
        (subst (IsStateOf core) (sym state) (mid_state core before))
        (subst (λ s. IsPieceThere core (queue_at (engine_of old)) s stood.taken stood.fed Mid (suc done)) (sym state) piece_mid)
        (subst (λ s. IsFilledThere core (queue_at (engine_of old)) s stood.taken stood.fed Mid) (sym state)
        (λ inputs can. mid_filled core (later_of inputs stood.fed) before (filled inputs can)))
        all_unblocked

-- all nodes make their super steps
module _ (core : Core) (steps done : ℕ) (deeds : Deeds) (olds news : List PortView) (old new : LogRun)
    (stands : StandsAt core steps Mid (suc done) deeds olds news old) (new_core : core_in new ≡ core)
    (queues : (n : ℕ) → queue_at (engine_of new) n ≡ queue_at (engine_of old) n) (next : moment_of new ≡ next_half core (moment_of old)) where
  ended : moment_of new ≡ after_half core (moment_of old).superstep (moment_of old).state Mid
  ended = next ∙ ap (after_half core (moment_of old).superstep (moment_of old).state) stands.is_half

  piece_end : IsPieceThere core (queue_at (engine_of old)) (up core (moment_of old).state) stands.taken stands.fed End (suc done)
  piece_end inputs can =
      let p = stands.piece inputs can in
      let at : suc done - 1 ≡ done = omega arith in
      let first : State = start core inputs.good in (
        p.0,
        subst (IsPieceOf core p.0 (later_of inputs stands.fed) (up core (moment_of old).state))
            (ap (λ k. up core (mid core (lockstep core first k))) at ∙ sym (lockstep_next core first done))
            (up_piece core p.0 (later_of inputs stands.fed) (moment_of old).state (mid core (lockstep core first (suc done - 1))) p.1 (stands.filled inputs can)),
      )

  pub half_ended : StandsAt core steps End (suc done) deeds olds news new
  half_ended =
      let state : (moment_of new).state ≡ up core (moment_of old).state = ap (λ (m : Moment). m.state) ended in
      moved core steps Mid (suc done) deeds olds news old new stands new_core queues End (suc done)
      (ap (λ (m : Moment). m.half) ended) (ap (λ (m : Moment). m.superstep) ended ∙ stands.is_superstep)
      (subst (IsStateOf core) (sym state) (up_state core (moment_of old).state))
      (subst (λ s. IsPieceThere core (queue_at (engine_of old)) s stands.taken stands.fed End (suc done)) (sym state) piece_end)
      tt stands.unblocked
