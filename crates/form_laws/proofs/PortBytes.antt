-- The bytes that an output stream's port gets from a run are the lines of what the stream has gained, round by round.
use Rattle.std.proofs.Common.{◌≡◌, ◌≢◌, ◌⊎◌, ℕ, zero, suc, ◌+◌, ◌<◌, ◌≤◌, Bool, true, false, List, [], ◌∷◌, ◌++◌, length, Option, Some, None, slice_get, refl, ap, sym, ◌∙◌, arith, inl, inr, append-nil}
use Rattle.std.specs.List.{flat_map, range_with_len}
use Rattle.std.specs.Str.{bytes_eq}
use Rattle.std.proofs.lemmas.Bool.{cases_Bool, cases_eq}
use Rattle.std.proofs.lemmas.Option.{slice_get_within}
use Rattle.hume_base.specs.declared.types.Ty.{Ty}
use Rattle.hume_base.specs.declared.types.Types.{Types}
use Rattle.hume_base.specs.declared.types.Value.{Value}
use Rattle.hume_model.specs.declared.core_tree.NodeC.{NodeC}
use Rattle.hume_model.specs.declared.core_tree.NodeC.TheVariants.{From, Rules, To}
use Rattle.hume_model.specs.declared.core_tree.StreamC.{StreamC}
use Rattle.hume_model.specs.declared.core_tree.Core.{Core}
use Rattle.hume_net.specs.Lockstep.{lockstep}
use Rattle.hume_net.specs.Sides.{on_wire}
use Rattle.hume_net.specs.Start.{start}
use Rattle.hume_net.specs.rounds.Rounds.{begins, ends}
use Rattle.hume_net.specs.rounds.Streams.{gained}
use Rattle.hume_ports.specs.Delivery.{Pairs, bytes_for}
use Rattle.hume_ports.proofs.Names.{bytes_for-append, same_name}
use Rattle.hume_streams.specs.places.LineWrites.{line_writes}
use Rattle.phase_workers.specs.StreamTypes.{type_at}
use Rattle.run_rounds.specs.Streams.{ArePortsApart, std_out}
use Rattle.run_rounds.specs.Writes.{gained_writes, round_writes, span_of, superstep_lines, told, trace_writes, writes_of_node, writes_of_nodes}

-- bytes of pairs

silent : (name other : List ℕ) (types : Types) (ty : Ty) (values : List Value) → bytes_eq name other ≡ false
    → bytes_for name (line_writes other types ty values) ≡ []
silent name other types ty [] apart = refl
silent name other types ty (value ∷ values) apart = rw apart (silent name other types ty values apart)

pub told_silent : (name : List ℕ) (lines : List (List ℕ)) → bytes_eq name std_out ≡ false → bytes_for name (told lines) ≡ []
told_silent name [] apart = refl
told_silent name (line ∷ lines) apart = rw apart (told_silent name lines apart)

none_in_range : (name : List ℕ) (f : ℕ → Pairs) (from count : ℕ) → ((k : ℕ) → from ≤ k → bytes_for name (f k) ≡ [])
    → bytes_for name (flat_map f (range_with_len from count)) ≡ []
none_in_range name f from zero none = refl
none_in_range name f from (suc count) none =
    bytes_for-append name (f from) (flat_map f (range_with_len (from + 1) count))
    ∙ (λ i. none from (omega arith) i ++ none_in_range name f (from + 1) count (λ k more. none k (omega (arith, more))) i)

one_in_range : (name : List ℕ) (f : ℕ → Pairs) (from count n : ℕ) → from ≤ n → n < from + count → ((k : ℕ) → k ≢ n → bytes_for name (f k) ≡ [])
    → bytes_for name (flat_map f (range_with_len from count)) ≡ bytes_for name (f n)
one_in_range name f from zero n low high none = absurd (omega (arith, low, high))
one_in_range name f from (suc count) n low high none =
    bytes_for-append name (f from) (flat_map f (range_with_len (from + 1) count)) ∙ by (cases_eq from n)
    (λ other. one_in_range name f (from + 1) count n (omega (arith, low, other)) (omega (arith, high)) none)
  where
    by : ((from ≡ n) ⊎ (from ≢ n)) → (from ≢ n → bytes_for name (flat_map f (range_with_len (from + 1) count)) ≡ bytes_for name (f n))
        → bytes_for name (f from) ++ bytes_for name (flat_map f (range_with_len (from + 1) count)) ≡ bytes_for name (f n)
    by (inl same) later =
        (λ i. bytes_for name (f (same i)) ++ none_in_range name f (from + 1) count (λ k more. none k (λ is. omega (arith, more, is, same))) i)
        ∙ append-nil (bytes_for name (f n))
    by (inr other) later = λ i. none from other i ++ later other i

pub same_bytes : (name : List ℕ) (f g : ℕ → Pairs) (from count : ℕ)
    → ((k : ℕ) → from ≤ k → k < from + count → bytes_for name (f k) ≡ bytes_for name (g k))
    → bytes_for name (flat_map f (range_with_len from count)) ≡ bytes_for name (flat_map g (range_with_len from count))
same_bytes name f g from zero same = refl
same_bytes name f g from (suc count) same =
    bytes_for-append name (f from) (flat_map f (range_with_len (from + 1) count))
    ∙ (λ i. same from (omega arith) (omega arith) i
    ++ same_bytes name f g (from + 1) count (λ k low high. same k (omega (arith, low)) (omega (arith, high))) i)
    ∙ sym (bytes_for-append name (g from) (flat_map g (range_with_len (from + 1) count)))

-- Nothing but the values of streams is written to the port in a round.
abbrev pub IsQuiet : Bool → List ℕ → Type 0
IsQuiet traced name = (traced ≡ false) ⊎ (bytes_eq name std_out ≡ false)

module _ (core : Core) (apart : ArePortsApart core) (n : ℕ) (stream : StreamC) (at : slice_get core.nodes n ≡ Some (To stream)) where
  other_silent : (k : ℕ) → k ≢ n → (o : Option NodeC) → slice_get core.nodes k ≡ o → (values : List Value)
      → bytes_for stream.port (writes_of_node core k o values) ≡ []
  other_silent k differs None is values = refl
  other_silent k differs (Some (Rules b)) is values = refl
  other_silent k differs (Some (From other)) is values = refl
  other_silent k differs (Some (To other)) is values = silent stream.port other.port core.types (type_at core k) values
      (elim (cases_Bool (bytes_eq stream.port other.port)) [
        | inl same ↦ absurd (differs (sym (apart n k (To stream) (To other) stream other at is refl refl (same_name stream.port other.port same))))
        | inr other_port ↦ other_port
      ])

  node_bytes : (taken : ℕ → List Value)
      → bytes_for stream.port (writes_of_nodes core taken) ≡ bytes_for stream.port (line_writes stream.port core.types (type_at core n) (taken n))
  node_bytes taken =
      one_in_range stream.port (λ k. writes_of_node core k (slice_get core.nodes k) (taken k)) 0 (length core.nodes) n (omega arith)
      (let within = slice_get_within core.nodes n (To stream) at in omega (arith, within))
      (λ k differs. other_silent k differs (slice_get core.nodes k) refl (taken k))
      ∙ ap (λ o. bytes_for stream.port (writes_of_node core n o (taken n))) at

  module _ (good : List (List Value)) where
    quiet_trace : (traced : Bool) → IsQuiet traced stream.port → (steps round : ℕ) → bytes_for stream.port (trace_writes core good traced steps round) ≡ []
    quiet_trace false quiet steps round = refl
    quiet_trace true (inl untraced) steps round = cc
    quiet_trace true (inr other) steps round =
        told_silent stream.port (superstep_lines core round (on_wire (lockstep core (start core good) (ends (span_of true) steps round)))) other

    -- the port gets the lines of what the stream has gained in the round
    pub round_bytes : (traced : Bool) → IsQuiet traced stream.port → (steps round : ℕ)
        → bytes_for stream.port (round_writes core good traced steps round)
        ≡ bytes_for stream.port (line_writes stream.port core.types (type_at core n)
        (gained (lockstep core (start core good) (begins (span_of traced) round)) (lockstep core (start core good) (ends (span_of traced) steps round)) n))
    round_bytes traced quiet steps round =
        bytes_for-append stream.port (gained_writes core good (span_of traced) steps round) (trace_writes core good traced steps round)
        ∙ ap (λ bytes. bytes_for stream.port (gained_writes core good (span_of traced) steps round) ++ bytes) (quiet_trace traced quiet steps round)
        ∙ append-nil (bytes_for stream.port (gained_writes core good (span_of traced) steps round))
        ∙ node_bytes (gained (lockstep core (start core good) (begins (span_of traced) round))
        (lockstep core (start core good) (ends (span_of traced) steps round)))
