-- Which ports a run that is logged reads and writes.
use Rattle.std.proofs.Common.{◌≡◌, ◌⊎◌, ℕ, ◌+◌, ◌-◌, true, ◌||◌, List, [], ◌∷◌, ◌++◌, length, Option, None, Some, slice_get, refl, ap, sym, ◌∙◌, subst, inl, inr}
use Rattle.std.specs.Prelude.{⊤}
use Rattle.std.proofs.lemmas.Bool.{cases_Bool}
use Rattle.std.specs.List.{flat_map, range_with_len}
use Rattle.std.specs.Str.{bytes_eq}
use Rattle.hume_base.specs.declared.types.Value.{Value}
use Rattle.hume_model.specs.declared.core_tree.NodeC.{NodeC}
use Rattle.hume_model.specs.declared.core_tree.NodeC.TheVariants.{Rules, From, To}
use Rattle.hume_model.specs.declared.core_tree.StreamC.{StreamC}
use Rattle.hume_model.specs.declared.core_tree.Core.{Core}
use Rattle.hume_net.specs.Start.{start}
use Rattle.hume_ports.specs.Delivery.{Pairs, names_in}
use Rattle.hume_ports.specs.Ports.{is_among}
use Rattle.hume_ports.proofs.Names.{bytes_eq-self, same_name}
use Rattle.port_acts.specs.Acts.{Act, wants, writes, finishes, written, write_each}
use Rattle.run_log.specs.declared.half.Half.{Half}
use Rattle.run_log.specs.declared.half.Half.TheVariants.{Mid, End}
use Rattle.run_log.specs.Logs.{block, log_lines, superstep_blocks}
use Rattle.run_rounds.specs.Inputs.{Inputs}
use Rattle.run_rounds.specs.RunActs.{blocked_acts, blocked_wants, reading, round_wants, wants_of_node}
use Rattle.run_rounds.specs.Streams.{std_out}
use Rattle.run_rounds.specs.Writes.{bad_value_writes, blocked_by}
use Rattle.log_rounds.specs.Outcomes as found
use Rattle.log_rounds.specs.Outcomes.{Outcome}
use Rattle.log_rounds.specs.RecordActs.{logged, logged_acts, logging, record_acts, start_acts}
use Rattle.log_rounds.specs.Supersteps.{blocked_end, blocked_superstep, supersteps_made}
use Rattle.log_rounds.specs.VerifyActs.{acts_through, acts_to_end, agreeing, agreeing_acts, compared, outcome_line, verify_acts, verify_reads}
use Rattle.log_rounds.proofs.LawsOfLogs.{end_writes, record_written}

-- Each name that the acts want has the property.
abbrev WantsHave : (List ℕ → Type 0) → List Act → Type 0
WantsHave P [] = ⊤
WantsHave P (wants name count ∷ acts) = P name × WantsHave P acts
WantsHave P (writes name bytes ∷ acts) = WantsHave P acts
WantsHave P (finishes name ∷ acts) = WantsHave P acts

-- It is the name of an input stream's port.
abbrev pub IsOfStream : Core → List ℕ → Type 0
IsOfStream core name = (n : ℕ) × (stream : StreamC) × (slice_get core.nodes n ≡ Some (From stream)) × (name ≡ stream.port)

module _ (P : List ℕ → Type 0) where
  have_append : (ps qs : List Act) → WantsHave P ps → WantsHave P qs → WantsHave P (ps ++ qs)
  have_append [] qs all more = more
  have_append (wants name count ∷ ps) qs all more = (all.0, have_append ps qs all.1 more)
  have_append (writes name bytes ∷ ps) qs all more = have_append ps qs all more
  have_append (finishes name ∷ ps) qs all more = have_append ps qs all more

  have_flat : (f : ℕ → List Act) → ((n : ℕ) → WantsHave P (f n)) → (numbers : List ℕ) → WantsHave P (flat_map f numbers)
  have_flat f all [] = tt
  have_flat f all (n ∷ numbers) = have_append (f n) (flat_map f numbers) (all n) (have_flat f all numbers)

  have_written : (pairs : Pairs) → WantsHave P (write_each pairs)
  have_written [] = tt
  have_written (pair ∷ pairs) = have_written pairs

  have_at : (before later : List Act) (name : List ℕ) (count : ℕ) → WantsHave P (before ++ wants name count ∷ later) → P name
  have_at [] later name count all = all.0
  have_at (wants other number ∷ before) later name count all = have_at before later name count all.1
  have_at (writes other bytes ∷ before) later name count all = have_at before later name count all
  have_at (finishes other ∷ before) later name count all = have_at before later name count all

  -- a want among them
  want_has : (acts before later : List Act) (name : List ℕ) (count : ℕ) → WantsHave P acts → acts ≡ before ++ wants name count ∷ later → P name
  want_has acts before later name count all is = have_at before later name count (subst (WantsHave P) is all)

  module _ (core : Core) (streams : (name : List ℕ) → IsOfStream core name → P name) where
    node_has : (good : List (List Value)) (span steps round n : ℕ) (o : Option NodeC) → slice_get core.nodes n ≡ o
        → WantsHave P (wants_of_node core good span steps round n o)
    node_has good span steps round n None is = tt
    node_has good span steps round n (Some (Rules b)) is = tt
    node_has good span steps round n (Some (From stream)) is = (streams stream.port (n, stream, is, refl), tt)
    node_has good span steps round n (Some (To stream)) is = tt

    round_has : (good : List (List Value)) (span steps round count : ℕ) → WantsHave P (round_wants core good span steps round count)
    round_has good span steps round count =
        have_flat (λ n. wants_of_node core good span steps round n (slice_get core.nodes n)) (λ n. node_has good span steps round n (slice_get core.nodes n) refl)
        (range_with_len 0 count)

-- a recorded run

module _ (core : Core) (inputs : Inputs) (log : List ℕ) (steps : ℕ) where
  abbrev Streams : List ℕ → Type 0
  Streams name = IsOfStream core name

  blocked_has : (superstep : ℕ) (o : Option ℕ) → WantsHave Streams (blocked_acts core inputs true steps superstep o)
  blocked_has superstep None = tt
  blocked_has superstep (Some n) =
      have_append Streams (round_wants core inputs.good 1 steps superstep (n + 1)) (write_each (bad_value_writes core inputs (Some n)))
      (round_has Streams core (λ name is. is) inputs.good 1 steps superstep (n + 1)) (have_written Streams (bad_value_writes core inputs (Some n)))

  end_has : (o : Option ℕ) → WantsHave Streams (blocked_end core inputs steps o)
  end_has None = tt
  end_has (Some superstep) = blocked_has superstep (blocked_by core inputs true steps superstep)

  superstep_has : (superstep : ℕ) → WantsHave Streams (reading core inputs.good true steps superstep ++ logging core inputs.good log superstep)
  superstep_has superstep =
      have_append Streams (reading core inputs.good true steps superstep) (logging core inputs.good log superstep)
      (round_has Streams core (λ name is. is) inputs.good 1 steps superstep (length core.nodes))
      (have_written Streams (logged log (superstep_blocks core (start core inputs.good) superstep)))

  made_has : (count : ℕ) → WantsHave Streams (logged_acts core inputs.good log steps count)
  made_has count =
      have_append Streams (start_acts core inputs.good log)
      (flat_map (λ superstep. reading core inputs.good true steps superstep ++ logging core inputs.good log superstep) (range_with_len 1 count))
      (have_written Streams (logged log (block core End 0 (start core inputs.good))))
      (have_flat Streams (λ superstep. reading core inputs.good true steps superstep ++ logging core inputs.good log superstep) superstep_has (range_with_len 1 count))

  pub record_reads : (before later : List Act) (name : List ℕ) (count : ℕ) → record_acts core inputs log steps ≡ before ++ wants name count ∷ later → IsOfStream core name
  record_reads before later name count is =
      want_has Streams (record_acts core inputs log steps) before later name count
      (have_append Streams (logged_acts core inputs.good log steps (supersteps_made core inputs steps)) (blocked_end core inputs steps (blocked_superstep core inputs steps))
      (made_has (supersteps_made core inputs steps)) (end_has (blocked_superstep core inputs steps))) is

  -- a run by which a log is verified

  abbrev Its : List ℕ → Type 0
  Its name = (name ≡ log) ⊎ IsOfStream core name

  abbrev Good : List (List Value)
  Good = inputs.good

  reading_has : (superstep count : ℕ) → WantsHave Its (round_wants core Good 1 steps superstep count)
  reading_has superstep count = round_has Its core (λ name is. inr is) Good 1 steps superstep count

  agreeing_has : (superstep : ℕ) → WantsHave Its (agreeing core Good log steps superstep)
  agreeing_has superstep =
      have_append Its (reading core Good true steps superstep) (compared core Good log Mid superstep ∷ compared core Good log End superstep ∷ [])
      (reading_has superstep (length core.nodes)) (inl refl, (inl refl, tt))

  supersteps_have : (count : ℕ) → WantsHave Its (agreeing_acts core Good log steps count)
  supersteps_have count = (inl refl, have_flat Its (agreeing core Good log steps) agreeing_has (range_with_len 1 count))

  through_has : (half : Half) (superstep : ℕ) → WantsHave Its (acts_through core Good log steps half superstep)
  through_has End superstep = supersteps_have superstep
  through_has Mid superstep =
      have_append Its (agreeing_acts core Good log steps (superstep - 1) ++ reading core Good true steps superstep) (compared core Good log Mid superstep ∷ [])
      (have_append Its (agreeing_acts core Good log steps (superstep - 1)) (reading core Good true steps superstep) (supersteps_have (superstep - 1))
      (reading_has superstep (length core.nodes))) (inl refl, tt)

  to_end_has : WantsHave Its (acts_to_end core Good log steps)
  to_end_has = have_append Its (agreeing_acts core Good log steps steps) _ (supersteps_have steps) (inl refl, tt)

  reads_have : (outcome : Outcome) → WantsHave Its (verify_reads core inputs log steps outcome)
  reads_have found.holds = to_end_has
  reads_have (found.fails half superstep fault) = through_has half superstep
  reads_have found.goes_on = to_end_has
  reads_have (found.blocked superstep node) =
      have_append Its (agreeing_acts core Good log steps (superstep - 1)) (blocked_wants core inputs true steps superstep (Some node))
      (supersteps_have (superstep - 1)) (reading_has superstep (node + 1))

  pub verify_reads_from : (outcome : Outcome) (before later : List Act) (name : List ℕ) (count : ℕ)
      → verify_acts core inputs log steps outcome ≡ before ++ wants name count ∷ later → (name ≡ log) ⊎ IsOfStream core name
  verify_reads_from outcome before later name count is =
      want_has Its (verify_acts core inputs log steps outcome) before later name count
      (have_append Its (verify_reads core inputs log steps outcome) (writes std_out (outcome_line core inputs steps outcome) ∷ []) (reads_have outcome) tt) is

-- where a recorded run writes

-- each name of the pairs is one of the names
abbrev AreAmong : List (List ℕ) → Pairs → Type 0
AreAmong names [] = ⊤
AreAmong names (pair ∷ pairs) = (is_among pair.0 names ≡ true) × AreAmong names pairs

among_append : (names : List (List ℕ)) (ps qs : Pairs) → AreAmong names ps → AreAmong names qs → AreAmong names (ps ++ qs)
among_append names [] qs all more = more
among_append names (pair ∷ ps) qs all more = (all.0, among_append names ps qs all.1 more)

among_all : (names : List (List ℕ)) (pairs : Pairs) → AreAmong names pairs → (name : List ℕ) → is_among name (names_in pairs) ≡ true → is_among name names ≡ true
among_all names [] all name among = cc
among_all names (pair ∷ pairs) all name among = elim (cases_Bool (bytes_eq name pair.0)) [
  | inl same ↦ subst (λ other. is_among other names ≡ true) (sym (same_name name pair.0 same)) all.0
  | inr differs ↦ among_all names pairs all.1 name (sym (ap (λ b. b || is_among name (names_in pairs)) differs) ∙ among)
]

module _ (core : Core) (inputs : Inputs) (log : List ℕ) (steps : ℕ) where
  abbrev Names : List (List ℕ)
  Names = log ∷ std_out ∷ []

  log_among : is_among log Names ≡ true
  log_among = ap (λ b. b || is_among log (std_out ∷ [])) (bytes_eq-self log)

  out_among : is_among std_out Names ≡ true
  out_among = elim (cases_Bool (bytes_eq std_out log)) [
    | inl same ↦ ap (λ b. b || is_among std_out (std_out ∷ [])) same
    | inr differs ↦ ap (λ b. b || is_among std_out (std_out ∷ [])) differs
  ]

  logged_among : (lines : List (List ℕ)) → AreAmong Names (logged log lines)
  logged_among [] = tt
  logged_among (line ∷ lines) = (log_among, logged_among lines)

  bad_among : (o : Option ℕ) → AreAmong Names (bad_value_writes core inputs o)
  bad_among None = tt
  bad_among (Some n) = (out_among, tt)

  end_among : (o : Option ℕ) → AreAmong Names (end_writes core log steps inputs o)
  end_among None = tt
  end_among (Some superstep) = bad_among (blocked_by core inputs true steps superstep)

  pub record_writes : (name : List ℕ) → is_among name (names_in (written (record_acts core inputs log steps))) ≡ true → is_among name (log ∷ std_out ∷ []) ≡ true
  record_writes name among =
      let is = record_written core log steps inputs in
      let lines : List (List ℕ) = log_lines core (start core inputs.good) (supersteps_made core inputs steps) in
      let end : Pairs = end_writes core log steps inputs (blocked_superstep core inputs steps) in
      among_all Names (logged log lines ++ end) (among_append Names (logged log lines) end (logged_among lines) (end_among (blocked_superstep core inputs steps))) name
      (ap (λ pairs. is_among name (names_in pairs)) (sym is) ∙ among)
