-- A bad line of a stream halts a logged run: which superstep it blocks, and which line it is.
use Rattle.std.proofs.Common.{◌≡◌, ℕ, suc, ◌+◌, ◌<◌, ◌≤◌, ◌^◌, min, true, List, [], ◌++◌, length, Some, ap, sym, ◌∙◌, subst, arith, append-nil, length-append}
use Rattle.std.proofs.lemmas.Option.{slice_get_within}
use Rattle.std.proofs.Math.Nat.{min-eq_left}
use Rattle.hume_model.specs.declared.core_tree.NodeC.{NodeC}
use Rattle.hume_model.specs.declared.core_tree.NodeC.TheVariants.{From}
use Rattle.hume_model.specs.declared.core_tree.Core.{Core}
use Rattle.hume_net.specs.declared.state.Part.{Part}
use Rattle.hume_net.specs.declared.state.State.{State}
use Rattle.hume_net.specs.Lockstep.{lockstep}
use Rattle.hume_net.specs.Sides.{part_of}
use Rattle.hume_net.specs.Start.{start}
use Rattle.hume_net.specs.rounds.Blocked.{blocks}
use Rattle.hume_net.specs.rounds.Pieces.{listed}
use Rattle.hume_net.specs.rounds.Streams.{asserted_between}
use Rattle.hume_net.proofs.rounds_lemmas.AheadOfStreams.{all_asserted, few_asserted}
use Rattle.hume_net.proofs.rounds_lemmas.Blocking.{blocking_is, first_is}
use Rattle.hume_ports.specs.Port.{PortView, last_count}
use Rattle.hume_ports.specs.Delivery.{bytes_for}
use Rattle.hume_streams.proofs.FewLines.{small_number}
use Rattle.hume_streams.specs.Good.{IsGoodUntil}
use Rattle.phase_workers.specs.Engines.{coming_at, queue_at}
use Rattle.phase_workers.specs.Runnable.{IsRunnable}
use Rattle.phase_workers.specs.StreamTypes.{type_at}
use Rattle.run_log.specs.declared.half.Half.TheVariants.{End}
use Rattle.run_log.specs.declared.log_run.LogRun.{LogRun}
use Rattle.run_log.specs.Moments.{engine_of, moment_of}
use Rattle.run_rounds.specs.declared.bad_line.BadLine.{BadLine}
use Rattle.run_rounds.specs.Inputs.{Inputs, is_bad}
use Rattle.run_rounds.specs.Runs.{Comes}
use Rattle.run_rounds.specs.Writes.{blocked_by}
use Rattle.run_rounds.specs.inner.Reading.{MayCome, later_of}
use Rattle.run_rounds.specs.inner.Steps.{LacksAt}
use Rattle.run_rounds.proofs.Filled.{bad_comes, stream_blocks}
use Rattle.run_rounds.proofs.RunEnds.{few_lines}
use Rattle.log_rounds.specs.Supersteps.{blocked_superstep}
use Rattle.log_rounds.specs.inner.Standing.{Deeds, StandsAt}
use Rattle.log_rounds.specs.inner.Steps.{StandsBlocked, filling}
use Rattle.log_rounds.proofs.Standings.{comes, goes_on, length_one, may, piece_now, shares}
use Rattle.log_rounds.proofs.Supersteps.{is_superstep}

module _ (core : Core) (run : IsRunnable core) (steps done : ℕ) (small : steps < 2 ^ 32) (deeds : Deeds) (olds news : List PortView) (logs : LogRun) (bad : BadLine)
    (blocked : StandsBlocked core steps done deeds olds news logs bad) where
  abbrev did : Deeds
  did = filling core steps done (bad.node + 1) deeds

  abbrev halted : StandsAt core steps End done did olds news logs
  halted = blocked.stands

  abbrev lacks : LacksAt core 1 (engine_of logs) bad.node bad.line
  lacks = blocked.lacks

  abbrev pub came : Comes core olds
  came = comes core run steps End done did olds news logs halted

  abbrev inputs : Inputs
  inputs = came.inputs

  pub may_come : MayCome core (queue_at (engine_of logs)) halted.taken inputs
  may_come = may core run steps End done did olds news logs halted

  abbrev Told : ℕ → Type 0
  Told number = bad.line ≡ min number last_count

  tells : (number : ℕ) × Told number × (later_of inputs halted.fed bad.node ≡ []) × (inputs.bad bad.node ≡ Some number)
  tells = bad_comes core run.names (queue_at (engine_of logs)) halted.taken halted.fed halted.read inputs may_come bad.node lacks.stream lacks.is (moment_of logs).state
      (_, shares core run steps done did olds news logs halted inputs may_come bad.node lacks.stream lacks.is) Told lacks.before

  -- few lines stand before the bad one
  few_came : length (listed inputs.good bad.node) ≤ steps + 1
  few_came =
      let node : NodeC = From lacks.stream in
      let whole : State = lockstep core (start core inputs.good) done in
      let p = halted.piece inputs may_come in
      let coming_now : (part_of whole bad.node).coming ≡ coming_at (engine_of logs) bad.node ++ later_of inputs halted.fed bad.node =
      ap (λ (part : Part). part.coming) (p.1.parts bad.node node lacks.is) in
      let left : length (part_of whole bad.node).coming ≡ length (coming_at (engine_of logs) bad.node) =
      ap length (coming_now ∙ ap (λ later. coming_at (engine_of logs) bad.node ++ later) tells.2 ∙ append-nil (coming_at (engine_of logs) bad.node)) in
      let all = ap length (all_asserted core (start core inputs.good) done bad.node node lacks.is)
      ∙ length-append (asserted_between (start core inputs.good) whole bad.node) (part_of whole bad.node).coming in
      let asserted = few_asserted core (start core inputs.good) done bad.node node lacks.is in
      let few = lacks.few in
      let less = blocked.is in
      omega (arith, left, all, asserted, few, less)

  line_is : bad.line ≡ tells.0
  line_is =
      let text = may_come.each bad.node lacks.stream lacks.is in
      let good : IsGoodUntil core.types (type_at core bad.node) (bytes_for lacks.stream.port halted.taken ++ text.0) (listed inputs.good bad.node) (Some tells.0) =
      subst (λ line. IsGoodUntil core.types (type_at core bad.node) (bytes_for lacks.stream.port halted.taken ++ text.0) (listed inputs.good bad.node) line) tells.3 text.2 in
      let number = small_number core.types (type_at core bad.node) (bytes_for lacks.stream.port halted.taken ++ text.0) (listed inputs.good bad.node) tells.0 good in
      let few = few_came in
      let short = few_lines true steps small in
      tells.1 ∙ min-eq_left (omega (arith, number, few, short))

  within : bad.node < length core.nodes
  within = slice_get_within core.nodes bad.node (From lacks.stream) lacks.is

  this_blocks : blocks core inputs.good (is_bad inputs) 1 steps (suc done) bad.node ≡ true
  this_blocks =
      stream_blocks core run.names (queue_at (engine_of logs)) halted.taken halted.fed halted.read inputs may_come 1 steps (suc done) (moment_of logs).state
      (halted.piece inputs may_come).0 (piece_now core run steps done did olds news logs halted inputs may_come)
      bad.node lacks.stream lacks.is tells.2 tells.0 tells.3 (subst (λ k. length (coming_at (engine_of logs) bad.node) < k) (sym (length_one steps done blocked.is)) lacks.few)

  -- the stream blocks the next superstep
  pub blocks_now : blocked_by core inputs true steps (suc done) ≡ Some bad.node
  blocks_now = blocking_is core inputs.good (is_bad inputs) 1 steps (suc done) bad.node within this_blocks
      (λ n less. goes_on core run steps done did olds news logs halted inputs may_come blocked.is n (let w = within in omega (arith, less, w))
      (λ stream there. blocked.begun n stream less there))

  -- which is the first that is blocked
  pub blocked_now : blocked_superstep core inputs steps ≡ Some (suc done)
  blocked_now = first_is core inputs.good (is_bad inputs) 1 steps (suc done) bad.node (omega arith) (is_superstep steps done blocked.is) blocks_now
      (λ other least most. halted.unblocked inputs may_come other least (omega (arith, most)))

  -- by this line
  pub bad_line : inputs.bad bad.node ≡ Some bad.line
  bad_line = tells.3 ∙ ap Some (sym line_is)
