-- What the acts of a run write and finish, and where its wants stand.
use Rattle.std.proofs.Common.{◌≡◌, ℕ, ◌+◌, ◌-◌, Bool, List, [], ◌∷◌, ◌++◌, Option, None, Some, refl, ap, ◌∙◌}
use Rattle.std.specs.List.{flat_map, range_with_len}
use Rattle.std.proofs.lemmas.Grind.{flat_map-append}
use Rattle.hume_base.specs.declared.types.Value.{Value}
use Rattle.hume_model.specs.declared.core_tree.NodeC.{NodeC}
use Rattle.hume_model.specs.declared.core_tree.NodeC.TheVariants.{Rules, From, To}
use Rattle.hume_model.specs.declared.core_tree.Core.{Core}
use Rattle.hume_net.specs.rounds.Rounds.{rounds_of}
use Rattle.hume_ports.specs.Delivery.{Pairs}
use Rattle.port_acts.specs.Acts.{Act, finished, finished_by, written, write_each}
use Rattle.port_acts.proofs.ActLists.{written-append}
use Rattle.port_acts.proofs.Each.{all_written, writes_finish_nothing}
use Rattle.run_rounds.specs.Inputs.{Inputs}
use Rattle.run_rounds.specs.Writes.{bad_value_writes, blocked_by, blocked_round, peak_writes, round_writes, rounds_writes, span_of, writes, writes_until}
use Rattle.run_rounds.specs.RunActs.{acts_until, blocked_acts, reading, round_wants, rounds_acts, run_acts, wants_of_node, writing}

finished-append : (ps qs : List Act) → finished (ps ++ qs) ≡ finished ps ++ finished qs
finished-append ps qs = flat_map-append finished_by ps qs

module _ (core : Core) (good : List (List Value)) where
  node_quiet : (span steps round n : ℕ) (o : Option NodeC)
      → (written (wants_of_node core good span steps round n o) ≡ []) × (finished (wants_of_node core good span steps round n o) ≡ [])
  node_quiet span steps round n None = (refl, refl)
  node_quiet span steps round n (Some (Rules b)) = (refl, refl)
  node_quiet span steps round n (Some (From stream)) = (refl, refl)
  node_quiet span steps round n (Some (To stream)) = (refl, refl)

  -- reads write and finish nothing
  quiet : (f : ℕ → List Act) → ((n : ℕ) → (written (f n) ≡ []) × (finished (f n) ≡ [])) → (numbers : List ℕ)
      → (written (flat_map f numbers) ≡ []) × (finished (flat_map f numbers) ≡ [])
  quiet f each [] = (refl, refl)
  quiet f each (n ∷ numbers) = (
    written-append (f n) (flat_map f numbers) ∙ rw ((each n).0, (quiet f each numbers).0) refl,
    finished-append (f n) (flat_map f numbers) ∙ rw ((each n).1, (quiet f each numbers).1) refl,
  )

  pub wants_quiet : (span steps round count : ℕ)
      → (written (round_wants core good span steps round count) ≡ []) × (finished (round_wants core good span steps round count) ≡ [])
  wants_quiet span steps round count =
      quiet (λ n. wants_of_node core good span steps round n _) (λ n. node_quiet span steps round n _) (range_with_len 0 count)

  -- the acts of these rounds write their lines
  pub rounds_write : (traced : Bool) (steps : ℕ) (rounds : List ℕ)
      → written (flat_map (λ round. reading core good traced steps round ++ writing core good traced steps round) rounds) ≡ flat_map (round_writes core good traced steps) rounds
  rounds_write traced steps [] = refl
  rounds_write traced steps (round ∷ rounds) =
      let read : List Act = reading core good traced steps round in
      let wrote : List Act = writing core good traced steps round in
      written-append (read ++ wrote) (flat_map (λ r. reading core good traced steps r ++ writing core good traced steps r) rounds)
      ∙ ap (λ (pairs : Pairs). pairs ++ written (flat_map (λ r. reading core good traced steps r ++ writing core good traced steps r) rounds))
      (written-append read wrote ∙ ap (λ (pairs : Pairs). pairs ++ written wrote) (wants_quiet (span_of traced) steps round _).0 ∙ all_written (round_writes core good traced steps round))
      ∙ ap (λ (pairs : Pairs). round_writes core good traced steps round ++ pairs) (rounds_write traced steps rounds)

  rounds_finish : (traced : Bool) (steps : ℕ) (rounds : List ℕ)
      → finished (flat_map (λ round. reading core good traced steps round ++ writing core good traced steps round) rounds) ≡ []
  rounds_finish traced steps [] = refl
  rounds_finish traced steps (round ∷ rounds) =
      let read : List Act = reading core good traced steps round in
      let wrote : List Act = writing core good traced steps round in
      finished-append (read ++ wrote) (flat_map (λ r. reading core good traced steps r ++ writing core good traced steps r) rounds)
      ∙ rw (finished-append read wrote, (wants_quiet (span_of traced) steps round _).1, writes_finish_nothing (round_writes core good traced steps round), rounds_finish traced steps rounds) refl

module _ (core : Core) (inputs : Inputs) (traced : Bool) (steps : ℕ) where
  blocked_write : (round : ℕ) (o : Option ℕ) → written (blocked_acts core inputs traced steps round o) ≡ bad_value_writes core inputs o
  blocked_write round None = refl
  blocked_write round (Some n) =
      written-append (round_wants core inputs.good (span_of traced) steps round (n + 1)) (write_each (bad_value_writes core inputs (Some n)))
      ∙ rw ((wants_quiet core inputs.good (span_of traced) steps round (n + 1)).0) (all_written (bad_value_writes core inputs (Some n)))

  blocked_finish : (round : ℕ) (o : Option ℕ) → finished (blocked_acts core inputs traced steps round o) ≡ []
  blocked_finish round None = refl
  blocked_finish round (Some n) =
      finished-append (round_wants core inputs.good (span_of traced) steps round (n + 1)) (write_each (bad_value_writes core inputs (Some n)))
      ∙ rw ((wants_quiet core inputs.good (span_of traced) steps round (n + 1)).1) (writes_finish_nothing (bad_value_writes core inputs (Some n)))

  until_write : (o : Option ℕ) → written (acts_until core inputs traced steps o) ≡ writes_until core inputs traced steps o
  until_write None =
      written-append (rounds_acts core inputs.good traced steps (rounds_of (span_of traced) steps)) (write_each (peak_writes core inputs.good steps))
      ∙ ap (λ (pairs : Pairs). pairs ++ written (write_each (peak_writes core inputs.good steps))) (rounds_write core inputs.good traced steps (range_with_len 1 (rounds_of (span_of traced) steps)))
      ∙ ap (λ (pairs : Pairs). rounds_writes core inputs.good traced steps (rounds_of (span_of traced) steps) ++ pairs) (all_written (peak_writes core inputs.good steps))
  until_write (Some round) =
      let blocked : List Act = blocked_acts core inputs traced steps round (blocked_by core inputs traced steps round) in
      written-append (rounds_acts core inputs.good traced steps (round - 1)) blocked
      ∙ ap (λ (pairs : Pairs). pairs ++ written blocked) (rounds_write core inputs.good traced steps (range_with_len 1 (round - 1)))
      ∙ ap (λ (pairs : Pairs). rounds_writes core inputs.good traced steps (round - 1) ++ pairs) (blocked_write round (blocked_by core inputs traced steps round))

  until_finish : (o : Option ℕ) → finished (acts_until core inputs traced steps o) ≡ []
  until_finish None =
      finished-append (rounds_acts core inputs.good traced steps (rounds_of (span_of traced) steps)) (write_each (peak_writes core inputs.good steps))
      ∙ rw (rounds_finish core inputs.good traced steps (range_with_len 1 (rounds_of (span_of traced) steps)), writes_finish_nothing (peak_writes core inputs.good steps)) refl
  until_finish (Some round) =
      finished-append (rounds_acts core inputs.good traced steps (round - 1)) (blocked_acts core inputs traced steps round (blocked_by core inputs traced steps round))
      ∙ rw (rounds_finish core inputs.good traced steps (range_with_len 1 (round - 1)), blocked_finish round (blocked_by core inputs traced steps round)) refl

  pub run_writes : written (run_acts core inputs traced steps) ≡ writes core inputs traced steps
  run_writes = until_write (blocked_round core inputs (span_of traced) steps)

  pub run_finishes : finished (run_acts core inputs traced steps) ≡ []
  run_finishes = until_finish (blocked_round core inputs (span_of traced) steps)
