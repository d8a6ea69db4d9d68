-- Runs of cores that run alike give the same bytes to each port but `std_out`.
use Rattle.std.proofs.Common.{◌≡◌, ℕ, ◌-◌, Bool, false, cond, List, [], ◌∷◌, ◌++◌, Option, Some, None, refl, sym, ap, ◌∙◌, append-nil}
use Rattle.std.specs.Str.{bytes_eq}
use Rattle.std.proofs.lemmas.Grind.{flat_map-append}
use Rattle.hume_model.specs.declared.core_tree.Core.{Core}
use Rattle.hume_net.specs.rounds.Rounds.{rounds_of}
use Rattle.hume_ports.specs.Delivery.{Pairs, bytes_for}
use Rattle.hume_ports.proofs.Names.{bytes_for-append}
use Rattle.port_acts.specs.Acts.{Act, wanted, wanted_by, write_each}
use Rattle.run_rounds.specs.Inputs.{Inputs}
use Rattle.run_rounds.specs.RunActs.{acts_until, blocked_acts, run_acts, rounds_acts}
use Rattle.run_rounds.specs.Streams.{std_out}
use Rattle.run_rounds.specs.Writes.{blocked_by, blocked_round, peak_writes, rounds_writes, span_of, told, writes, writes_until}
use Rattle.form_laws.proofs.RewrittenNodes.{RunsAlike}
use Rattle.form_laws.proofs.RewrittenRounds.{acts_same, ends_same, rounds_same, same_blocking, same_line, same_round}

-- nothing that is told goes to another port
pub none_told : (name : List ℕ) → bytes_eq name std_out ≡ false → (lines : List (List ℕ)) → bytes_for name (told lines) ≡ []
none_told name other [] = refl
none_told name other (line ∷ lines) =
    ap (λ (is : Bool). cond is (line ++ bytes_for name (told lines)) (bytes_for name (told lines))) other ∙ none_told name other lines

-- lines that are told later change nothing of it
told_after : (name : List ℕ) → bytes_eq name std_out ≡ false → (pairs : Pairs) (lines : List (List ℕ))
    → bytes_for name (pairs ++ told lines) ≡ bytes_for name pairs
told_after name other pairs lines =
    bytes_for-append name pairs (told lines) ∙ ap (λ (bytes : List ℕ). bytes_for name pairs ++ bytes) (none_told name other lines)
    ∙ append-nil (bytes_for name pairs)

pub wants_nothing : (pairs : Pairs) → wanted (write_each pairs) ≡ []
wants_nothing [] = refl
wants_nothing (pair ∷ pairs) = wants_nothing pairs

module _ (core new : Core) (alike : RunsAlike core new) (coming : Inputs) (traced : Bool) (steps : ℕ) where
  -- a run that is blocked

  until_blocked : (round : ℕ) → writes_until new coming traced steps (Some round) ≡ writes_until core coming traced steps (Some round)
  until_blocked round = λ i. rounds_same core new alike coming.good traced steps (round - 1) i ++ same_line core new alike coming traced steps round i

  pub blocked_writes : (round : ℕ) → blocked_round core coming (span_of traced) steps ≡ Some round
      → writes new coming traced steps ≡ writes core coming traced steps
  blocked_writes round is =
      ap (writes_until new coming traced steps) (same_round core new alike coming (span_of traced) steps ∙ is) ∙ until_blocked round
      ∙ ap (writes_until core coming traced steps) (sym is)

  -- any run

  abbrev rounds_in : Core → Pairs
  rounds_in c = rounds_writes c coming.good traced steps (rounds_of (span_of traced) steps)

  until_same : (name : List ℕ) → bytes_eq name std_out ≡ false → (o : Option ℕ)
      → bytes_for name (writes_until new coming traced steps o) ≡ bytes_for name (writes_until core coming traced steps o)
  until_same name other None =
      told_after name other (rounds_in new) _
      ∙ ap (bytes_for name) (rounds_same core new alike coming.good traced steps (rounds_of (span_of traced) steps))
      ∙ sym (told_after name other (rounds_in core) _)
  until_same name other (Some round) = ap (bytes_for name) (until_blocked round)

  pub same_bytes : (name : List ℕ) → bytes_eq name std_out ≡ false
      → bytes_for name (writes new coming traced steps) ≡ bytes_for name (writes core coming traced steps)
  same_bytes name other =
      until_same name other (blocked_round new coming (span_of traced) steps)
      ∙ ap (λ (o : Option ℕ). bytes_for name (writes_until core coming traced steps o)) (same_round core new alike coming (span_of traced) steps)

  -- reads

  abbrev acts_in : Core → List Act
  acts_in c = rounds_acts c coming.good traced steps (rounds_of (span_of traced) steps)

  peaks_want_nothing : (c : Core) → wanted (acts_until c coming traced steps None) ≡ wanted (acts_in c)
  peaks_want_nothing c =
      flat_map-append wanted_by (acts_in c) (write_each (peak_writes c coming.good steps))
      ∙ ap (λ (names : List (List ℕ)). wanted (acts_in c) ++ names) (wants_nothing (peak_writes c coming.good steps)) ∙ append-nil (wanted (acts_in c))

  until_reads : (o : Option ℕ) → wanted (acts_until new coming traced steps o) ≡ wanted (acts_until core coming traced steps o)
  until_reads None =
      peaks_want_nothing new ∙ ap wanted (acts_same core new alike coming.good traced steps (rounds_of (span_of traced) steps)) ∙ sym (peaks_want_nothing core)
  until_reads (Some round) = λ i. wanted (
      acts_same core new alike coming.good traced steps (round - 1) i
      ++ (ends_same core new alike coming traced steps round (blocked_by new coming traced steps round)
      ∙ ap (blocked_acts core coming traced steps round) (same_blocking core new alike coming traced steps round)) i)

  pub same_reads : wanted (run_acts new coming traced steps) ≡ wanted (run_acts core coming traced steps)
  same_reads =
      until_reads (blocked_round new coming (span_of traced) steps)
      ∙ ap (λ (o : Option ℕ). wanted (acts_until core coming traced steps o)) (same_round core new alike coming (span_of traced) steps)
