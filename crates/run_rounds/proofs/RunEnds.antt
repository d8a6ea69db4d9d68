-- How the rounds of a run end: all are made, or a bad line halts them.
use Rattle.std.proofs.Common.{◌≡◌, ℕ, suc, ◌+◌, ◌-◌, ◌*◌, ◌<◌, ◌≤◌, ◌^◌, min, Bool, true, false, List, [], ◌++◌, length, Option, None, Some, slice_get, Result, Ok, Err, ap, sym, ◌∙◌, subst, arith, append-nil, length-append}
use Rattle.std.proofs.lemmas.Option.{slice_get_within}
use Rattle.std.proofs.Math.Nat.{min-eq_left}
use Rattle.hume_base.specs.declared.types.Value.{Value}
use Rattle.hume_model.specs.declared.core_tree.NodeC.{NodeC}
use Rattle.hume_model.specs.declared.core_tree.NodeC.TheVariants.{From}
use Rattle.hume_model.specs.declared.core_tree.Core.{Core}
use Rattle.hume_net.specs.declared.state.Part.{Part}
use Rattle.hume_net.specs.declared.state.State.{State}
use Rattle.hume_net.specs.Lockstep.{lockstep}
use Rattle.hume_net.specs.Sides.{part_of}
use Rattle.hume_net.specs.Start.{start}
use Rattle.hume_net.specs.rounds.Blocked.{blocks, blocking}
use Rattle.hume_net.specs.rounds.Pieces.{listed}
use Rattle.hume_net.specs.rounds.Rounds.{length_of, made as after_rounds, rounds_of}
use Rattle.hume_net.specs.rounds.Streams.{asserted_between}
use Rattle.hume_net.proofs.rounds_lemmas.AheadOfStreams.{all_asserted, few_asserted}
use Rattle.hume_net.proofs.rounds_lemmas.Blocking.{blocking_is, first_is, none_is_blocked}
use Rattle.hume_net.proofs.rounds_lemmas.RoundCounts.{all_made}
use Rattle.hume_ports.specs.declared.port.Failed.{Failed}
use Rattle.hume_ports.specs.Port.{PortView, last_count}
use Rattle.hume_ports.specs.Delivery.{bytes_for}
use Rattle.hume_streams.proofs.FewLines.{small_number}
use Rattle.hume_streams.specs.Good.{IsGoodUntil}
use Rattle.net_costs.specs.Steps.{peaks}
use Rattle.port_acts.specs.Acts.{Act}
use Rattle.port_acts.specs.Ends.{Made}
use Rattle.run_rounds.specs.declared.bad_line.BadLine.{BadLine}
use Rattle.phase_workers.specs.Engines.{EngineView as Engine}
use Rattle.phase_workers.specs.Engines.{coming_at, queue_at, state_of}
use Rattle.phase_workers.specs.Runnable.{IsRunnable}
use Rattle.phase_workers.specs.StreamTypes.{type_at}
use Rattle.run_rounds.specs.Inputs.{Inputs, is_bad}
use Rattle.run_rounds.specs.RunActs.{blocked_wants, made_acts, made_until, rounds_acts}
use Rattle.run_rounds.specs.Runs.{Comes}
use Rattle.run_rounds.specs.MadeRounds.{IsPeak, MakesRounds, RoundsEnd}
use Rattle.run_rounds.specs.Writes.{blocked_by, blocked_round, span_of}
use Rattle.run_rounds.specs.inner.Reading.{MayCome, later_of}
use Rattle.run_rounds.specs.inner.Steps.{EndsRounds, HaltsBefore, LacksAt, Stands, StandsAfter, StandsBlocked, filling_acts}
use Rattle.run_rounds.proofs.ActSteps.{some_span}
use Rattle.run_rounds.proofs.Filled.{bad_comes, stream_blocks}
use Rattle.run_rounds.proofs.Standings.{comes, goes_on, may, piece_now, shares}

module _ (core : Core) (run : IsRunnable core) (traced : Bool) (steps : ℕ) (olds mids : List PortView) (engine : Engine) where
  -- all rounds were made
  module _ (stands : StandsAfter core traced steps (rounds_of (span_of traced) steps) olds mids engine) where
    abbrev acts_made : List (List Value) → List Act
    acts_made good = rounds_acts core good traced steps (rounds_of (span_of traced) steps)

    abbrev coming : Comes core olds
    coming = comes core run traced steps (rounds_of (span_of traced) steps) acts_made olds mids engine stands

    can : MayCome core (queue_at engine) stands.taken coming.inputs
    can = may core run traced steps (rounds_of (span_of traced) steps) acts_made olds mids engine stands

    none : blocked_round core coming.inputs (span_of traced) steps ≡ None
    none = none_is_blocked core coming.inputs.good (is_bad coming.inputs) (span_of traced) steps (λ round least most. stands.after.unblocked coming.inputs can round least most)

    peak_is : (n : ℕ) (node : NodeC) → slice_get core.nodes n ≡ Some node → IsPeak core coming.inputs.good steps engine n
    peak_is n node is =
        let all = all_made (span_of traced) steps (some_span traced) in
        let its = stands.peaks coming.inputs can n node is in
        record {
          heap = its.heap ∙ ap (λ k. (peaks core (start core coming.inputs.good) k n).heap) all;
          stack = its.stack ∙ ap (λ k. (peaks core (start core coming.inputs.good) k n).stack) all;
        }

    all_acts : stands.acts ≡ made_acts core coming.inputs traced steps
    all_acts = stands.are coming.inputs can ∙ sym (ap (made_until core coming.inputs traced steps) none)

    pub all_rounds : MakesRounds core traced steps olds mids engine None
    all_rounds = record {
      comes = coming;
      taken = stands.taken;
      made = subst (λ (acts : List Act). Made acts stands.taken olds mids) all_acts stands.made;
      leaves = record { none = none; peaks = peak_is };
    }

  -- a bad line halts it
  module _ (bad : BadLine) (halts : HaltsBefore core traced steps olds mids engine bad) (short : (steps + span_of traced + 1) * 65537 ≤ last_count) where
    abbrev done : ℕ
    done = halts.done

    abbrev span : ℕ
    span = span_of traced

    abbrev blocked : StandsBlocked core traced steps done halts.want olds mids engine bad
    blocked = halts.blocked

    abbrev acts_read : List (List Value) → List Act
    acts_read = filling_acts core traced steps done (bad.node + 1)

    abbrev halted : Stands core traced steps done acts_read olds mids engine
    halted = blocked.stands

    abbrev lacks : LacksAt core halts.want engine bad.node bad.line
    lacks = blocked.lacks

    abbrev came : Comes core olds
    came = comes core run traced steps done acts_read olds mids engine halted

    abbrev inputs : Inputs
    inputs = came.inputs

    may_come : MayCome core (queue_at engine) halted.taken inputs
    may_come = may core run traced steps done acts_read olds mids engine halted

    abbrev Told : ℕ → Type 0
    Told number = bad.line ≡ min number last_count

    tells : (number : ℕ) × Told number × (later_of inputs halted.fed bad.node ≡ []) × (inputs.bad bad.node ≡ Some number)
    tells = bad_comes core run.names (queue_at engine) halted.taken halted.fed halted.after.read inputs may_come bad.node lacks.stream lacks.is (state_of engine)
        (_, shares core run traced steps done acts_read olds mids engine halted inputs may_come bad.node lacks.stream lacks.is) Told lacks.before

    -- few lines stand before the bad one
    few_came : length (listed inputs.good bad.node) ≤ steps + span
    few_came =
        let k : ℕ = after_rounds span steps done in
        let node : NodeC = From lacks.stream in
        let whole : State = lockstep core (start core inputs.good) k in
        let p = halted.after.piece inputs may_come in
        let coming_now : (part_of whole bad.node).coming ≡ coming_at engine bad.node ++ later_of inputs halted.fed bad.node =
        ap (λ (part : Part). part.coming) (p.1.parts bad.node node lacks.is) in
        let left : length (part_of whole bad.node).coming ≡ length (coming_at engine bad.node) =
        ap length (coming_now ∙ ap (λ later. coming_at engine bad.node ++ later) tells.2 ∙ append-nil (coming_at engine bad.node)) in
        let all = ap length (all_asserted core (start core inputs.good) k bad.node node lacks.is)
        ∙ length-append (asserted_between (start core inputs.good) whole bad.node) (part_of whole bad.node).coming in
        let asserted = few_asserted core (start core inputs.good) k bad.node node lacks.is in
        let few = lacks.few in
        let wanted = blocked.wanted in
        let most : length_of span steps (suc done) ≤ span = omega arith in
        let within : after_rounds span steps done ≤ steps = omega arith in
        omega (arith, left, all, asserted, few, wanted, most, within)

    line_is : bad.line ≡ tells.0
    line_is =
        let text = may_come.each bad.node lacks.stream lacks.is in
        let good : IsGoodUntil core.types (type_at core bad.node) (bytes_for lacks.stream.port halted.taken ++ text.0) (listed inputs.good bad.node) (Some tells.0) =
        subst (λ line. IsGoodUntil core.types (type_at core bad.node) (bytes_for lacks.stream.port halted.taken ++ text.0) (listed inputs.good bad.node) line) tells.3 text.2 in
        let small = small_number core.types (type_at core bad.node) (bytes_for lacks.stream.port halted.taken ++ text.0) (listed inputs.good bad.node) tells.0 good in
        let few = few_came in
        tells.1 ∙ min-eq_left (omega (arith, small, few, short))

    within : bad.node < length core.nodes
    within = slice_get_within core.nodes bad.node (From lacks.stream) lacks.is

    this_blocks : blocks core inputs.good (is_bad inputs) span steps (suc done) bad.node ≡ true
    this_blocks =
        let wanted = blocked.wanted in
        stream_blocks core run.names (queue_at engine) halted.taken halted.fed halted.after.read inputs may_come span steps (suc done) (state_of engine)
        (halted.after.piece inputs may_come).0 (piece_now core run traced steps done acts_read olds mids engine halted inputs may_come blocked.is)
        bad.node lacks.stream lacks.is tells.2 tells.0 tells.3 (subst (λ k. length (coming_at engine bad.node) < k) wanted lacks.few)

    blocks_now : blocking core inputs.good (is_bad inputs) span steps (suc done) ≡ Some bad.node
    blocks_now = blocking_is core inputs.good (is_bad inputs) span steps (suc done) bad.node within this_blocks
        (λ n less. goes_on core run traced steps done acts_read olds mids engine halted inputs may_come blocked.is n halts.want (let w = within in omega (arith, less, w)) blocked.wanted
        (λ stream there. blocked.begun n stream less there))

    blocked_now : blocked_round core inputs span steps ≡ Some (suc done)
    blocked_now = first_is core inputs.good (is_bad inputs) span steps (suc done) bad.node (some_span traced) blocked.is blocks_now
        (λ other least most. halted.after.unblocked inputs may_come other least (omega (arith, most)))

    read_acts : halted.acts ≡ made_acts core inputs traced steps
    read_acts =
        let before : suc done - 1 ≡ done = omega arith in
        halted.are inputs may_come
        ∙ ap (λ o. rounds_acts core inputs.good traced steps done ++ blocked_wants core inputs traced steps (suc done) o) (sym blocks_now)
        ∙ ap (λ k. rounds_acts core inputs.good traced steps k ++ blocked_wants core inputs traced steps (suc done) (blocked_by core inputs traced steps (suc done))) (sym before)
        ∙ sym (ap (made_until core inputs traced steps) blocked_now)

    pub rounds_before : MakesRounds core traced steps olds mids engine (Some bad)
    rounds_before = record {
      comes = came;
      taken = halted.taken;
      made = subst (λ (acts : List Act). Made acts halted.taken olds mids) read_acts halted.made;
      leaves = record { round = suc done; first = blocked_now; by = blocks_now; line = tells.3 ∙ ap Some (sym line_is) };
    }

pub few_lines : (traced : Bool) (steps : ℕ) → steps < 2 ^ 32 → (steps + span_of traced + 1) * 65537 ≤ last_count
few_lines true steps less = omega (arith, less)
few_lines false steps less = omega (arith, less)

-- how the rounds ended, for who has no engine in hand
pub rounds_end : (core : Core) → IsRunnable core → (traced : Bool) (steps : ℕ) (olds mids : List PortView) (engine : Engine) → steps < 2 ^ 32
    → (result : Result (Option BadLine) Failed) → EndsRounds core traced steps olds mids engine result → RoundsEnd core traced steps olds mids engine result
rounds_end core run traced steps olds mids engine small (Ok None) ends = all_rounds core run traced steps olds mids engine ends
rounds_end core run traced steps olds mids engine small (Ok (Some bad)) ends =
    rounds_before core run traced steps olds mids engine bad ends (few_lines traced steps small)
rounds_end core run traced steps olds mids engine small (Err failed) ends = ends
