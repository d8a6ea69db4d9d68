-- The supersteps of a round, its writes, and what is told of its wires, in turn.
use Rattle.std.proofs.Common.{◌≡◌, ℕ, suc, ◌+◌, ◌-◌, ◌*◌, ◌<◌, max, min, Bool, true, false, List, [], ◌∷◌, Option, None, Some, slice_get, Result, Ok, Err, OnOk, refl, ap, sym, ◌∙◌, subst, arith, append-nil}
use Rattle.hume_base.specs.declared.types.Value.{Value}
use Rattle.hume_model.specs.declared.core_tree.NodeC.{NodeC}
use Rattle.hume_model.specs.declared.core_tree.Core.{Core}
use Rattle.hume_net.specs.declared.state.State.{State}
use Rattle.hume_net.specs.Lockstep.{lockstep}
use Rattle.hume_net.specs.Nodes.{IsOutput, IsOutputStream}
use Rattle.hume_net.specs.Parts.{IsStateOf}
use Rattle.hume_net.specs.Sides.{part_of}
use Rattle.hume_net.specs.rounds.Pieces.{IsPieceOf, nothing}
use Rattle.hume_net.specs.rounds.Rounds.{IsRound, length_of, rounds_of}
use Rattle.hume_net.proofs.StatePlaces.{lockstep_state}
use Rattle.hume_net.proofs.rounds_lemmas.RoundCounts.{counted_round}
use Rattle.hume_ports.specs.declared.port.Failed.{Failed}
use Rattle.hume_ports.specs.Port.{PortView}
use Rattle.net_costs.specs.Steps.{peaks}
use Rattle.port_acts.specs.Acts.{Act, write_each}
use Rattle.port_acts.specs.Ends.{Ends, Fails, Made, never}
use Rattle.port_acts.proofs.Failing.{Ends-on, Fails-stop}
use Rattle.run_rounds.specs.declared.bad_line.BadLine.{BadLine}
use Rattle.phase_workers.specs.Engines.{EngineView as Engine}
use Rattle.phase_workers.specs.Engines.{core_of, heap_peak_at, stack_peak_at, state_of, ArePeaksKept}
use Rattle.trace_print.specs.TraceLines.{step_line}
use Rattle.run_rounds.specs.Writes.{span_of, told, writes_of_nodes}
use Rattle.run_rounds.specs.inner.Clearing.{Clears}
use Rattle.run_rounds.specs.inner.Rounding.{PeaksGrow, told_now, wires_now}
use Rattle.run_rounds.specs.inner.Steps.{Stands, StandsAfter, StandsFilling, EndsFills, EndsRound, EndsRounds, HaltsBefore}
use Rattle.hume_ports.specs.Ports.{names}
use Rattle.hume_text.specs.declared.chunk.Chunk.{Chunk}
use Rattle.hume_text.specs.Chunks.{room_of as in_all}
use Rattle.port_acts.proofs.Making.{Made-start}
use Rattle.run_rounds.proofs.ActSteps.{some_span}
use Rattle.run_rounds.proofs.Clearings.{each_append}
use Rattle.run_rounds.proofs.RoundSteps.{same_wires}

pub on_ok : {P : Type 0} (result : Result (Unit {0}) Failed) → P → OnOk result P
on_ok (Ok done) p = p
on_ok (Err failed) p = tt

-- a state is a piece of itself
own_piece : (core : Core) (state : State) → IsPieceOf core nothing nothing state state
own_piece core state = record {
  wires = λ w wire is. refl;
  parts = λ n node is. (λ i. record {
    pending = (part_of state n).pending;
    order = (part_of state n).order;
    coming = sym (append-nil (part_of state n).coming) i;
    taken = (part_of state n).taken;
  });
}

-- what is told of wires is the same once outputs are cleared
pub same_told : (core : Core) (traced : Bool) (round : ℕ) (before after : State) → Clears core before after
    → wires_now core traced round after ≡ wires_now core traced round before
same_told core false round before after clears = refl
same_told core true round before after clears =
    let p = clears.pieces nothing nothing before (own_piece core before) in
    ap (λ lines. told (step_line round ∷ lines)) (same_wires core p.0 nothing after before p.1)

module _ (first rounded : Engine) (steps : ℕ) (same_core : core_of rounded ≡ core_of first) (state : state_of rounded ≡ lockstep (core_of first) (state_of first) steps) where
  abbrev core : Core
  core = core_of first

  abbrev over : State
  over = lockstep core (state_of first) steps

  pub parts_over : IsStateOf core (state_of first) → IsStateOf (core_of rounded) (state_of rounded)
  parts_over parts =
      subst (λ c. IsStateOf c (state_of rounded)) (sym same_core) (subst (IsStateOf core) (sym state) (lockstep_state core (state_of first) parts steps))

  writes_over : writes_of_nodes (core_of rounded) (λ n. (part_of (state_of rounded) n).taken) ≡ writes_of_nodes core (λ n. (part_of over n).taken)
  writes_over =
      ap (λ c. writes_of_nodes c (λ n. (part_of (state_of rounded) n).taken)) same_core ∙ ap (λ s. writes_of_nodes core (λ n. (part_of s n).taken)) state

  pub clears_over : (after : State) → Clears (core_of rounded) (state_of rounded) after → Clears core over after
  clears_over after clears = subst (λ s. Clears core s after) state (subst (λ c. Clears c (state_of rounded) after) same_core clears)

  -- a write of a value failed
  pub values_failed : (traced : Bool) (round : ℕ) (olds news : List PortView)
      → Fails never [] (write_each (writes_of_nodes (core_of rounded) (λ n. (part_of (state_of rounded) n).taken))) olds news
      → Fails never [] (write_each (told_now core traced round over)) olds news
  values_failed traced round olds news fails =
      subst (λ acts. Fails never [] acts olds news) (sym (each_append (writes_of_nodes core (λ n. (part_of over n).taken)) (wires_now core traced round over)))
      (Fails-stop never [] (write_each (writes_of_nodes core (λ n. (part_of over n).taken))) (write_each (wires_now core traced round over)) olds news
      (subst (λ pairs. Fails never [] (write_each pairs) olds news) writes_over fails))

  -- all values were written, and then the wires are told
  pub round_told : (traced : Bool) (round : ℕ) (drained : Engine) (olds mids news : List PortView) (result : Result (Unit {0}) Failed)
      → Made (write_each (writes_of_nodes (core_of rounded) (λ n. (part_of (state_of rounded) n).taken))) [] olds mids
      → core_of drained ≡ core_of rounded → Clears (core_of rounded) (state_of rounded) (state_of drained)
      → Ends never [] (write_each (wires_now (core_of drained) traced round (state_of drained))) [] mids news result
      → Ends never [] (write_each (told_now core traced round over)) [] olds news result
  round_told traced round drained olds mids news result made drained_core clears ends =
      let wires : wires_now (core_of drained) traced round (state_of drained) ≡ wires_now core traced round over =
      ap (λ c. wires_now c traced round (state_of drained)) (drained_core ∙ same_core)
      ∙ same_told core traced round over (state_of drained) (clears_over (state_of drained) clears) in
      subst (λ acts. Ends never [] acts [] olds news result) (sym (each_append (writes_of_nodes core (λ n. (part_of over n).taken)) (wires_now core traced round over)))
      (Ends-on never [] [] [] (write_each (writes_of_nodes core (λ n. (part_of over n).taken))) (write_each (wires_now core traced round over)) olds mids news result
      (subst (λ pairs. Made (write_each pairs) [] olds mids) writes_over made)
      (subst (λ pairs. Ends never [] (write_each pairs) [] mids news result) wires ends))

  pub peaks_over : (drained : Engine) → ((n : ℕ) → heap_peak_at rounded n ≡ max (heap_peak_at first n) (peaks core (state_of first) steps n).heap)
      → ((n : ℕ) → stack_peak_at rounded n ≡ max (stack_peak_at first n) (peaks core (state_of first) steps n).stack) → ArePeaksKept rounded drained
      → PeaksGrow first steps drained
  peaks_over drained heap stack kept = record { heap = λ n. kept.heap n ∙ heap n; stack = λ n. kept.stack n ∙ stack n }

-- rounds

-- the first reads of a round are none
pub fill_first : (core : Core) (traced : Bool) (steps done want : ℕ) (olds mids : List PortView) (engine : Engine) → IsRound (span_of traced) steps (suc done)
    → want ≡ length_of (span_of traced) steps (suc done) → StandsAfter core traced steps done olds mids engine
    → StandsFilling core traced steps done 0 want olds mids engine
fill_first core traced steps done want olds mids engine is wanted stands = record {
  is = is;
  wanted = wanted;
  stands = record {
    acts = stands.acts;
    taken = stands.taken;
    fed = stands.fed;
    is_core = stands.is_core;
    is_span = stands.is_span;
    parts = stands.parts;
    made = stands.made;
    told = stands.told;
    after = stands.after;
    peaks = stands.peaks;
    are = λ inputs may. stands.are inputs may ∙ sym (append-nil _);
  };
  begun = λ n stream less. absurd (omega (arith, less));
}

pub next_length : (steps done span : ℕ) → min (steps - done * span) span ≡ length_of span steps (suc done)
next_length steps done span =
    let e : suc done - 1 ≡ done = omega arith in
    min_swapped (steps - done * span) span ∙ ap (λ k. min span (steps - k * span)) (sym e)
  where
    min_swapped : (a b : ℕ) → min a b ≡ min b a
    min_swapped a b = omega arith

-- outputs have taken nothing where all is cleared
pub outputs_clear : (core : Core) (traced : Bool) (steps done : ℕ) (acts_of : List (List Value) → List Act) (olds news : List PortView) (engine : Engine)
    → Stands core traced steps done acts_of olds news engine → (n : ℕ) → IsOutputStream core n → (part_of (state_of engine) n).taken ≡ []
outputs_clear core traced steps done acts_of olds news engine stands n output =
    let node = there (slice_get core.nodes n) refl output in
    stands.after.cleared n node.0 node.1
  where
    there : (o : Option NodeC) → slice_get core.nodes n ≡ o → IsOutput o → (node : NodeC) × (slice_get core.nodes n ≡ Some node)
    there (Some node) is output = (node, is)
    there None is output = absurd output

pub fills_as : (core : Core) (traced : Bool) (steps done want : ℕ) (olds news : List PortView) (engine : Engine) (result other : Result (Option BadLine) Failed) → result ≡ other
    → EndsFills core traced steps done want olds news engine result → EndsFills core traced steps done want olds news engine other
fills_as core traced steps done want olds news engine result other is ends = subst (EndsFills core traced steps done want olds news engine) is ends

pub round_as : (core : Core) (traced : Bool) (steps done : ℕ) (olds news : List PortView) (engine : Engine) (result other : Result (Option BadLine) Failed)
    → result ≡ other
    → EndsRound core traced steps done olds news engine result → EndsRound core traced steps done olds news engine other
round_as core traced steps done olds news engine result other is ends = subst (EndsRound core traced steps done olds news engine) is ends

pub next_round : (traced : Bool) (steps done : ℕ) → done < rounds_of (span_of traced) steps → IsRound (span_of traced) steps (suc done)
next_round traced steps done less = counted_round (span_of traced) steps (some_span traced) (suc done) (omega arith) (omega (arith, less))

pub not_told : (core : Core) (traced : Bool) (round : ℕ) (state : State) (ports : List PortView) → traced ≡ false
    → Made (write_each (wires_now core traced round state)) [] ports ports
not_told core false round state ports not = Made-start ports
not_told core true round state ports not = cc

-- the rounds so far
pub record Rounding (traced : Bool) (steps : ℕ) (before ports : List PortView) (first engine : Engine) (old chunk : Chunk) (done : ℕ) : Type 0 where
  pub is_core : core_of engine ≡ core_of first
  pub same_names : names ports ≡ names before
  pub room : in_all chunk ≡ in_all old
  pub stands : StandsAfter (core_of first) traced steps done before ports engine

pub rounding_none : (traced : Bool) (steps : ℕ) (ports : List PortView) (engine : Engine) (chunk : Chunk)
    → StandsAfter (core_of engine) traced steps 0 ports ports engine
    → Rounding traced steps ports ports engine engine chunk chunk 0
rounding_none traced steps ports engine chunk stands = record { is_core = refl; same_names = refl; room = refl; stands = stands }

module _ (traced : Bool) (steps : ℕ) (before mids : List PortView) (first engine : Engine) (old mid : Chunk) (done : ℕ)
    (it : Rounding traced steps before mids first engine old mid done) where
  -- where the engine's own core is spoken of
  pub stands_own : StandsAfter (core_of engine) traced steps done before mids engine
  stands_own = subst (λ c. StandsAfter c traced steps done before mids engine) (sym it.is_core) it.stands

  module _ (news : List PortView) (new : Engine) (chunk : Chunk) (result : Result (Option BadLine) Failed)
      (ends : EndsRound (core_of engine) traced steps done before news new result) where
    ended : (other : Result (Option BadLine) Failed) → result ≡ other → EndsRound (core_of first) traced steps done before news new other
    ended other is = round_as (core_of first) traced steps done before news new result other is
        (subst (λ c. EndsRound c traced steps done before news new result) it.is_core ends)

    pub rounding_next : result ≡ Ok None → core_of new ≡ core_of engine → names news ≡ names mids → in_all chunk ≡ in_all mid
        → Rounding traced steps before news first new old chunk (done + 1)
    rounding_next is same_core same room =
        let one : suc done ≡ done + 1 = omega arith in
        record {
          is_core = same_core ∙ it.is_core;
          same_names = same ∙ it.same_names;
          room = room ∙ it.room;
          stands = subst (λ k. StandsAfter (core_of first) traced steps k before news new) one (ended (Ok None) is);
        }

    pub rounds_halted : (bad : BadLine) → result ≡ Ok (Some bad) → HaltsBefore (core_of first) traced steps before news new bad
    rounds_halted bad is = ended (Ok (Some bad)) is

    pub rounds_failed : (failed : Failed) → result ≡ Err failed → EndsRounds (core_of first) traced steps before news new (Err failed)
    rounds_failed failed is = ended (Err failed) is

pub rounds_over : (traced : Bool) (steps : ℕ) (before mids : List PortView) (first engine : Engine) (old mid : Chunk) (done : ℕ)
    → done ≡ rounds_of (span_of traced) steps
    → Rounding traced steps before mids first engine old mid done
    → StandsAfter (core_of first) traced steps (rounds_of (span_of traced) steps) before mids engine
rounds_over traced steps before mids first engine old mid done all it = subst (λ k. StandsAfter (core_of first) traced steps k before mids engine) all it.stands
