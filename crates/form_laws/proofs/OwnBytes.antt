-- An output stream's port gets from the rounds of a union what it gets from those of its program.
use Rattle.std.proofs.Common.{◌≡◌, ℕ, ◌+◌, Bool, List, [], ◌∷◌, ◌++◌, map, drop, length, take, Some, slice_get, refl, sym, ◌∙◌, arith}
use Rattle.std.specs.List.{All}
use Rattle.std.proofs.lemmas.Option.{slice_get_within}
use Rattle.hume_base.specs.declared.types.Value.{Value}
use Rattle.hume_model.specs.declared.core_tree.NodeC.{NodeC}
use Rattle.hume_model.specs.declared.core_tree.NodeC.TheVariants.{From, Rules, To}
use Rattle.hume_model.specs.declared.core_tree.StreamC.{StreamC}
use Rattle.hume_model.specs.declared.core_tree.Core.{Core}
use Rattle.hume_model.specs.WellFormed.{IsWellFormed}
use Rattle.hume_net.specs.declared.state.Part.{Part}
use Rattle.hume_net.specs.rounds.Rounds.{begins, ends}
use Rattle.hume_ports.specs.Delivery.{bytes_for}
use Rattle.hume_text.specs.Printed.{written}
use Rattle.run_rounds.specs.Inputs.{Inputs}
use Rattle.run_rounds.specs.Streams.{ArePortsApart, stream_of}
use Rattle.run_rounds.specs.Writes.{round_writes, rounds_writes, span_of}
use Rattle.union_laws.specs.declared.moves.Moves.{Moves}
use Rattle.union_laws.specs.Moving.{moved_node}
use Rattle.union_laws.specs.Shares.{nodes_before}
use Rattle.union_laws.specs.Union.{behind, united_all}
use Rattle.form_laws.specs.Unions.{own_inputs}
use Rattle.form_laws.proofs.OwnInputs.{all_alone, program_formed, stands}
use Rattle.form_laws.proofs.OwnParts.{own_parts}
use Rattle.form_laws.proofs.PortBytes.{IsQuiet, round_bytes, same_bytes}
use Rattle.form_laws.proofs.Standing.{same_values}

-- what an output stream gains between two parts of its own
abbrev gained_parts : Part → Part → List Value
gained_parts before after = drop (length before.taken) after.taken

same_stream : (moves : Moves) (node : NodeC) → stream_of (moved_node moves node) ≡ stream_of node
same_stream moves (Rules b) = refl
same_stream moves (From stream) = refl
same_stream moves (To stream) = refl

module _ (programs : List Core) (formed : All IsWellFormed programs) (apart : ArePortsApart (united_all programs))
    (place : ℕ) (program : Core) (found : slice_get programs place ≡ Some program) (coming : Inputs) where
  abbrev union : Core
  union = united_all programs

  abbrev own : Inputs
  own = own_inputs programs place program coming

  abbrev from : ℕ
  from = nodes_before programs place

  abbrev moves : Moves
  moves = behind (united_all (take place programs))

  -- no two streams of the program name one port
  pub own_apart : ArePortsApart program
  own_apart n m node other first second at there is its same =
      let in_union = stands programs formed place program found coming in
      let together : from + n ≡ from + m = apart (from + n) (from + m) (moved_node moves node) (moved_node moves other) first second
      (in_union.nodes n node at) (in_union.nodes m other there) (same_stream moves node ∙ is) (same_stream moves other ∙ its) same in
      omega (arith, together)

  module _ (n : ℕ) (stream : StreamC) (at : slice_get program.nodes n ≡ Some (To stream)) (traced : Bool) (quiet : IsQuiet traced stream.port) where
    same_round : (steps round : ℕ) → bytes_for stream.port (round_writes union coming.good traced steps round)
        ≡ bytes_for stream.port (round_writes program own.good traced steps round)
    same_round steps round =
        let within = slice_get_within program.nodes n (To stream) at in
        let in_union = stands programs formed place program found coming in
        let values = same_values moves program union in_union (program_formed programs formed place program found coming) n within in
        let alone = all_alone programs formed in
        round_bytes union apart (from + n) stream (in_union.nodes n (To stream) at) coming.good traced quiet steps round
        ∙ (λ i. bytes_for stream.port (map (λ value. (stream.port, written (values.spelled i value) ++ 10 ∷ []))
        (gained_parts (own_parts programs alone place program found coming (begins (span_of traced) round) n within i)
        (own_parts programs alone place program found coming (ends (span_of traced) steps round) n within i))))
        ∙ sym (round_bytes program own_apart n stream at own.good traced quiet steps round)

    pub same_rounds : (steps rounds : ℕ) → bytes_for stream.port (rounds_writes union coming.good traced steps rounds)
        ≡ bytes_for stream.port (rounds_writes program own.good traced steps rounds)
    same_rounds steps rounds = same_bytes stream.port (round_writes union coming.good traced steps) (round_writes program own.good traced steps) 1 rounds
        (λ round low high. same_round steps round)
