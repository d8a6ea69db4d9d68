-- What runs of cores owe that run alike.
use Rattle.std.proofs.Common.{◌≡◌, ℕ, Bool, false, List, [], ◌∷◌, ◌++◌, refl, sym, ap, ◌∙◌, append-nil}
use Rattle.std.specs.Str.{bytes_eq}
use Rattle.std.proofs.lemmas.Grind.{flat_map-append}
use Rattle.hume_model.specs.declared.core_tree.Core.{Core}
use Rattle.hume_model.specs.declared.core_tree.StreamC.{StreamC}
use Rattle.hume_ports.specs.Delivery.{Pairs, bytes_for}
use Rattle.hume_ports.specs.Ports.{other_names}
use Rattle.hume_ports.proofs.Names.{bytes_for-append}
use Rattle.port_acts.specs.Acts.{Act, finished, finished_by, finish_each, wanted, wanted_by, write_each, written}
use Rattle.port_acts.proofs.ActLists.{written-append}
use Rattle.port_acts.proofs.Each.{all_written, finishes_write_nothing, writes_finish_nothing}
use Rattle.trace_print.specs.table.Table.{space_table}
use Rattle.run_rounds.specs.Inputs.{Inputs}
use Rattle.run_rounds.specs.RunActs.{run_acts}
use Rattle.run_rounds.specs.Streams.{ports_of, std_out}
use Rattle.run_rounds.specs.Writes.{span_of, writes}
use Rattle.run_rounds.proofs.LawsOfActs as run
use Rattle.hume_calls.specs.Owed.{owed_run, run_finishes, run_status, table_writes}
use Rattle.form_laws.specs.Alike.{OweAlike}
use Rattle.form_laws.proofs.RewrittenNodes.{RunsAlike, same_output_streams}
use Rattle.form_laws.proofs.RewrittenRounds.{same_round}
use Rattle.form_laws.proofs.RewrittenRuns.{none_told, same_bytes, same_reads, wants_nothing}

finishes_want_nothing : (names : List (List ℕ)) → wanted (finish_each names) ≡ []
finishes_want_nothing [] = refl
finishes_want_nothing (name ∷ names) = finishes_want_nothing names

-- what is owed by a run of a core

module _ (core : Core) (coming : Inputs) (traced : Bool) (steps : ℕ) where
  abbrev table : List Act
  table = write_each (table_writes core)

  abbrev made : List Act
  made = run_acts core coming traced steps

  abbrev ends : List Act
  ends = finish_each (run_finishes core)

  owed_writes : written (owed_run traced steps core coming).acts ≡ table_writes core ++ writes core coming traced steps
  owed_writes =
      written-append table (made ++ ends)
      ∙ (λ i. all_written (table_writes core) i ++ written-append made ends i)
      ∙ (λ i. table_writes core ++ (run.run_writes core coming traced steps i ++ finishes_write_nothing (run_finishes core) i))
      ∙ ap (λ (pairs : Pairs). table_writes core ++ pairs) (append-nil (writes core coming traced steps))

  owed_bytes : (name : List ℕ) → bytes_eq name std_out ≡ false
      → bytes_for name (written (owed_run traced steps core coming).acts) ≡ bytes_for name (writes core coming traced steps)
  owed_bytes name other =
      ap (bytes_for name) owed_writes ∙ bytes_for-append name (table_writes core) (writes core coming traced steps)
      ∙ ap (λ (bytes : List ℕ). bytes ++ bytes_for name (writes core coming traced steps)) (none_told name other (space_table core))

  owed_finishes : finished (owed_run traced steps core coming).acts ≡ finished ends
  owed_finishes =
      flat_map-append finished_by table (made ++ ends)
      ∙ (λ i. writes_finish_nothing (table_writes core) i ++ flat_map-append finished_by made ends i)
      ∙ ap (λ (names : List (List ℕ)). names ++ finished ends) (run.run_finishes core coming traced steps)

  owed_reads : wanted (owed_run traced steps core coming).acts ≡ wanted made
  owed_reads =
      flat_map-append wanted_by table (made ++ ends)
      ∙ (λ i. wants_nothing (table_writes core) i ++ flat_map-append wanted_by made ends i)
      ∙ ap (λ (names : List (List ℕ)). wanted made ++ names) (finishes_want_nothing (run_finishes core)) ∙ append-nil (wanted made)

module _ (core new : Core) (alike : RunsAlike core new) (traced : Bool) (steps : ℕ) (coming : Inputs) where
  pub runs_owe_alike : OweAlike (owed_run traced steps new coming) (owed_run traced steps core coming)
  runs_owe_alike = record {
    answer = ap run_status (same_round core new alike coming (span_of traced) steps);
    bytes = λ name other.
        owed_bytes new coming traced steps name other ∙ same_bytes core new alike coming traced steps name other
        ∙ sym (owed_bytes core coming traced steps name other);
  }

  pub runs_finish_alike : finished (owed_run traced steps new coming).acts ≡ finished (owed_run traced steps core coming).acts
  runs_finish_alike =
      owed_finishes new coming traced steps
      ∙ ap (λ (list : List StreamC). finished (finish_each (other_names std_out (ports_of list) ++ std_out ∷ []))) (same_output_streams core new alike.net)
      ∙ sym (owed_finishes core coming traced steps)

  pub runs_read_alike : wanted (owed_run traced steps new coming).acts ≡ wanted (owed_run traced steps core coming).acts
  runs_read_alike =
      owed_reads new coming traced steps ∙ same_reads core new alike coming traced steps ∙ sym (owed_reads core coming traced steps)
