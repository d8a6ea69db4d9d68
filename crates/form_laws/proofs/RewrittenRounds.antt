-- Cores of one net that run alike make the same rounds.
use Rattle.std.proofs.Common.{◌≡◌, ℕ, ◌+◌, ◌-◌, nat_lt, Bool, true, false, ◌&&◌, List, [], ◌∷◌, ◌++◌, length, Option, Some, None, slice_get, codes, refl, ap, ◌∙◌}
use Rattle.std.specs.List.{find, flat_map, range_with_len}
use Rattle.std.specs.Option.{is_some, unwrap_or}
use Rattle.hume_base.specs.declared.types.Value.{Value}
use Rattle.hume_model.specs.declared.core_tree.BoxC.{BoxC}
use Rattle.hume_model.specs.declared.core_tree.NodeC.{NodeC}
use Rattle.hume_model.specs.declared.core_tree.NodeC.TheVariants.{Rules, From, To}
use Rattle.hume_model.specs.declared.core_tree.PortC.{PortC}
use Rattle.hume_model.specs.declared.core_tree.WireC.{WireC}
use Rattle.hume_model.specs.declared.core_tree.Core.{Core}
use Rattle.hume_net.specs.Lockstep.{lockstep}
use Rattle.hume_net.specs.Sides.{on_wire, part_of}
use Rattle.hume_net.specs.Start.{start}
use Rattle.hume_net.specs.declared.state.State.{State}
use Rattle.hume_net.specs.rounds.Blocked.{blocking, blocks}
use Rattle.hume_net.specs.rounds.Rounds.{begins, ends, length_of, rounds_of}
use Rattle.hume_net.specs.rounds.Streams.{asserted_between, gained}
use Rattle.hume_streams.specs.places.LineWrites.{line_writes}
use Rattle.port_acts.specs.Acts.{wants, write_each}
use Rattle.port_acts.specs.Rounds.{round_acts}
use Rattle.trace_print.specs.TraceLines.{end_name, first_end, line_there, port_name, second_end, step_line, values_text, wire_line, wire_lines}
use Rattle.run_rounds.specs.Inputs.{Inputs, is_bad}
use Rattle.run_rounds.specs.Writes.{bad_value_line, bad_value_writes, blocked_by, blocked_round, gained_writes, name_of, round_writes, rounds_writes, span_of, superstep_lines, told, trace_writes, writes_of_node, writes_of_nodes}
use Rattle.run_rounds.specs.RunActs.{blocked_acts, blocked_wants, made_acts, made_until, needed, reading, round_wants, rounds_acts, wants_of_node, writing}
use Rattle.run_rounds.specs.Streams.{std_out}
use Rattle.form_laws.proofs.RewrittenStarts.{same_count}
use Rattle.form_laws.proofs.RewrittenNodes.{IsBlindAt, RunsAlike, same_at, same_type}

-- what rules don't enter

writes_blind : (core : Core) (n : ℕ) (values : List Value) → IsBlindAt (λ o. writes_of_node core n o values)
writes_blind core n values None = refl
writes_blind core n values (Some (Rules b)) = refl
writes_blind core n values (Some (From stream)) = refl
writes_blind core n values (Some (To stream)) = refl

wants_blind : (core : Core) (good : List (List Value)) (span steps round n : ℕ) → IsBlindAt (λ o. wants_of_node core good span steps round n o)
wants_blind core good span steps round n None = refl
wants_blind core good span steps round n (Some (Rules b)) = refl
wants_blind core good span steps round n (Some (From stream)) = refl
wants_blind core good span steps round n (Some (To stream)) = refl

name_blind : IsBlindAt name_of
name_blind None = refl
name_blind (Some (Rules b)) = refl
name_blind (Some (From stream)) = refl
name_blind (Some (To stream)) = refl

end_blind : (ports : BoxC → List PortC) → ((b : BoxC) → ports (record b { rules = [] }) ≡ ports b) → (place : ℕ) → IsBlindAt (end_name ports place)
end_blind ports blind place None = refl
end_blind ports blind place (Some (Rules b)) = ap (λ list. b.name ++ codes "." ++ port_name (slice_get list place)) (blind b)
end_blind ports blind place (Some (From stream)) = refl
end_blind ports blind place (Some (To stream)) = refl

module _ (core new : Core) (alike : RunsAlike core new) where
  same_length : length new.nodes ≡ length core.nodes
  same_length = same_count core new alike.net

  -- lines of streams

  node_writes : (n : ℕ) (o : Option NodeC) (values : List Value) → writes_of_node new n o values ≡ writes_of_node core n o values
  node_writes n None values = refl
  node_writes n (Some (Rules b)) values = refl
  node_writes n (Some (From stream)) values = refl
  node_writes n (Some (To stream)) values = λ i. line_writes stream.port (alike.net.types i) (same_type core new alike.net n i) values

  writes_at : (n : ℕ) (values : List Value) → writes_of_node new n (slice_get new.nodes n) values ≡ writes_of_node core n (slice_get core.nodes n) values
  writes_at n values =
      node_writes n (slice_get new.nodes n) values ∙ same_at core new alike.net (λ o. writes_of_node core n o values) (writes_blind core n values) n

  all_writes : (taken : ℕ → List Value) → writes_of_nodes new taken ≡ writes_of_nodes core taken
  all_writes taken = λ i. flat_map (λ n. writes_at n (taken n) i) (range_with_len 0 (same_length i))

  -- lines of wires

  first_same : (wire : WireC) → first_end new wire ≡ first_end core wire
  first_same wire = same_at core new alike.net (end_name (λ b. b.outs) wire.from_port) (end_blind (λ b. b.outs) (λ b. refl) wire.from_port) wire.from

  second_same : (wire : WireC) → second_end new wire ≡ second_end core wire
  second_same wire = same_at core new alike.net (end_name (λ b. b.ins) wire.to_port) (end_blind (λ b. b.ins) (λ b. refl) wire.to_port) wire.to

  wire_same : (wire : WireC) (held : List Value) → wire_line new wire held ≡ wire_line core wire held
  wire_same wire held = λ i.
      codes "wire " ++ first_same wire i ++ codes " to " ++ second_same wire i ++ codes " " ++ values_text (alike.net.types i) wire.ty held ++ 10 ∷ []

  there_same : (held : List Value) (o : Option WireC) → line_there new held o ≡ line_there core held o
  there_same held None = refl
  there_same held (Some wire) = ap (λ line. line ∷ []) (wire_same wire held)

  wires_same : (held : ℕ → List Value) → wire_lines new held ≡ wire_lines core held
  wires_same held = λ i. flat_map (λ w. there_same (held w) (slice_get (alike.net.wires i) w) i) (range_with_len 0 (length (alike.net.wires i)))

  module _ (good : List (List Value)) where
    run_same : (k : ℕ) → lockstep new (start new good) k ≡ lockstep core (start core good) k
    run_same k = alike.runs good k

    -- what rounds write

    gained_same : (span steps round : ℕ) → gained_writes new good span steps round ≡ gained_writes core good span steps round
    gained_same span steps round =
        all_writes (gained (lockstep new (start new good) (begins span round)) (lockstep new (start new good) (ends span steps round)))
        ∙ (λ i. writes_of_nodes core (gained (run_same (begins span round) i) (run_same (ends span steps round) i)))

    trace_same : (traced : Bool) (steps round : ℕ) → trace_writes new good traced steps round ≡ trace_writes core good traced steps round
    trace_same false steps round = refl
    trace_same true steps round =
        ap (λ lines. told (step_line round ∷ lines)) (wires_same (on_wire (lockstep new (start new good) (ends (span_of true) steps round))))
        ∙ ap (λ (state : State). told (superstep_lines core round (on_wire state))) (run_same (ends (span_of true) steps round))

    pub round_same : (traced : Bool) (steps round : ℕ) → round_writes new good traced steps round ≡ round_writes core good traced steps round
    round_same traced steps round = λ i. gained_same (span_of traced) steps round i ++ trace_same traced steps round i

    pub rounds_same : (traced : Bool) (steps rounds : ℕ) → rounds_writes new good traced steps rounds ≡ rounds_writes core good traced steps rounds
    rounds_same traced steps rounds = λ i. flat_map (λ round. round_same traced steps round i) (range_with_len 1 rounds)

    -- what they read

    needed_same : (span steps round node : ℕ) → needed new good span steps round node ≡ needed core good span steps round node
    needed_same span steps round node = λ i.
        length (asserted_between (alike.starts good i) (run_same (begins span round) i) node) + length_of span steps round

    node_wants : (span steps round n : ℕ) (o : Option NodeC) → wants_of_node new good span steps round n o ≡ wants_of_node core good span steps round n o
    node_wants span steps round n None = refl
    node_wants span steps round n (Some (Rules b)) = refl
    node_wants span steps round n (Some (From stream)) = ap (λ count. wants stream.port count ∷ []) (needed_same span steps round n)
    node_wants span steps round n (Some (To stream)) = refl

    wants_at : (span steps round n : ℕ)
        → wants_of_node new good span steps round n (slice_get new.nodes n) ≡ wants_of_node core good span steps round n (slice_get core.nodes n)
    wants_at span steps round n =
        node_wants span steps round n (slice_get new.nodes n)
        ∙ same_at core new alike.net (λ o. wants_of_node core good span steps round n o) (wants_blind core good span steps round n) n

    wants_same : (span steps round count : ℕ) → round_wants new good span steps round count ≡ round_wants core good span steps round count
    wants_same span steps round count = λ i. flat_map (λ n. wants_at span steps round n i) (range_with_len 0 count)

    reading_same : (traced : Bool) (steps round : ℕ) → reading new good traced steps round ≡ reading core good traced steps round
    reading_same traced steps round =
        wants_same (span_of traced) steps round (length new.nodes) ∙ ap (round_wants core good (span_of traced) steps round) same_length

    writing_same : (traced : Bool) (steps round : ℕ) → writing new good traced steps round ≡ writing core good traced steps round
    writing_same traced steps round = ap write_each (round_same traced steps round)

    pub acts_same : (traced : Bool) (steps count : ℕ) → rounds_acts new good traced steps count ≡ rounds_acts core good traced steps count
    acts_same traced steps count = λ i.
        round_acts (λ round. reading_same traced steps round i) (λ round. writing_same traced steps round i) (range_with_len 1 count)

    -- which round is blocked, and by which stream

    blocks_same : (bad : ℕ → Bool) (span steps round node : ℕ) → blocks new good bad span steps round node ≡ blocks core good bad span steps round node
    blocks_same bad span steps round node = λ i.
        bad node
        && nat_lt (length (part_of (alike.starts good i) node).coming)
        (length (asserted_between (alike.starts good i) (run_same (begins span round) i) node) + length_of span steps round)

    blocking_same : (bad : ℕ → Bool) (span steps round : ℕ) → blocking new good bad span steps round ≡ blocking core good bad span steps round
    blocking_same bad span steps round = λ i. find (λ node. blocks_same bad span steps round node i) (range_with_len 0 (same_length i))

  module _ (coming : Inputs) where
    pub same_round : (span steps : ℕ) → blocked_round new coming span steps ≡ blocked_round core coming span steps
    same_round span steps = λ i.
        find (λ round. is_some (blocking_same coming.good (is_bad coming) span steps round i)) (range_with_len 1 (rounds_of span steps))

    pub same_blocking : (traced : Bool) (steps round : ℕ) → blocked_by new coming traced steps round ≡ blocked_by core coming traced steps round
    same_blocking traced steps round = blocking_same coming.good (is_bad coming) (span_of traced) steps round

    bad_same : (o : Option ℕ) → bad_value_writes new coming o ≡ bad_value_writes core coming o
    bad_same None = refl
    bad_same (Some n) =
        ap (λ name. (std_out, bad_value_line name (unwrap_or (coming.bad n) 0)) ∷ []) (same_at core new alike.net name_of name_blind n)

    pub same_line : (traced : Bool) (steps round : ℕ)
        → bad_value_writes new coming (blocked_by new coming traced steps round) ≡ bad_value_writes core coming (blocked_by core coming traced steps round)
    same_line traced steps round =
        bad_same (blocked_by new coming traced steps round) ∙ ap (bad_value_writes core coming) (same_blocking traced steps round)

    stops_same : (traced : Bool) (steps round : ℕ) (o : Option ℕ)
        → blocked_wants new coming traced steps round o ≡ blocked_wants core coming traced steps round o
    stops_same traced steps round None = refl
    stops_same traced steps round (Some n) = wants_same coming.good (span_of traced) steps round (n + 1)

    pub ends_same : (traced : Bool) (steps round : ℕ) (o : Option ℕ)
        → blocked_acts new coming traced steps round o ≡ blocked_acts core coming traced steps round o
    ends_same traced steps round None = refl
    ends_same traced steps round (Some n) = λ i. wants_same coming.good (span_of traced) steps round (n + 1) i ++ write_each (bad_same (Some n) i)

    until_same : (traced : Bool) (steps : ℕ) (o : Option ℕ) → made_until new coming traced steps o ≡ made_until core coming traced steps o
    until_same traced steps None = acts_same coming.good traced steps (rounds_of (span_of traced) steps)
    until_same traced steps (Some round) = λ i.
        acts_same coming.good traced steps (round - 1) i
        ++ (stops_same traced steps round (blocked_by new coming traced steps round)
        ∙ ap (blocked_wants core coming traced steps round) (same_blocking traced steps round)) i

    pub same_made : (traced : Bool) (steps : ℕ) → made_acts new coming traced steps ≡ made_acts core coming traced steps
    same_made traced steps =
        until_same traced steps (blocked_round new coming (span_of traced) steps)
        ∙ ap (made_until core coming traced steps) (same_round (span_of traced) steps)
