-- Input streams that are filled one after another.
use Rattle.std.proofs.Common.{◌≡◌, ◌⊎◌, ℕ, zero, suc, ◌+◌, ◌<◌, ◌≤◌, min, Bool, List, [], ◌∷◌, ◌++◌, length, get_or, Option, None, Some, slice_get, Result, Ok, Err, refl, ap, sym, ◌∙◌, subst, inl, inr, arith, append-nil}
use Rattle.std.proofs.lemmas.Bool.{cases_lt}
use Rattle.std.proofs.lemmas.Option.{slice_get-get_or}
use Rattle.hume_base.specs.declared.types.Value.{Value}
use Rattle.hume_model.specs.declared.core_tree.NodeC.{NodeC}
use Rattle.hume_model.specs.declared.core_tree.NodeC.TheVariants.{Rules, From, To}
use Rattle.hume_model.specs.declared.core_tree.StreamC.{StreamC}
use Rattle.hume_model.specs.declared.core_tree.Core.{Core}
use Rattle.hume_net.specs.Nodes.{IsInput, IsInputStream}
use Rattle.hume_ports.specs.declared.port.Failed.{Failed}
use Rattle.hume_ports.specs.Port.{PortView, last_count}
use Rattle.hume_ports.specs.Ports.{names, place_of, ForNameAt, Untouched}
use Rattle.port_acts.specs.Acts.{Act}
use Rattle.port_acts.specs.Places.{IsPlaceOf}
use Rattle.hume_streams.specs.declared.queue.FillError.{FillError}
use Rattle.hume_streams.specs.declared.queue.FillError.TheVariants.{BadValue}
use Rattle.hume_streams.specs.Good.{IsGoodUntil}
use Rattle.hume_streams.specs.Queues.{IsQueueOf}
use Rattle.phase_workers.specs.Engines.{EngineView as Engine}
use Rattle.phase_workers.specs.Engines.{core_of, coming_at, queue_at, state_of, span_of as room_of, ArePeaksKept}
use Rattle.phase_workers.specs.NodeFills.{FillsNode, HasEnough, HasReadAll}
use Rattle.phase_workers.specs.Runnable.{IsRunnable}
use Rattle.phase_workers.specs.StreamTypes.{type_at}
use Rattle.run_rounds.specs.RunActs.{round_wants, rounds_acts, wants_of_node}
use Rattle.run_rounds.specs.Streams.{ArePlacesOf, ArePortsApart}
use Rattle.run_rounds.specs.Writes.{span_of}
use Rattle.run_rounds.specs.inner.Beginning.{MayBegin}
use Rattle.run_rounds.specs.inner.Steps.{StandsBlocked, StandsFilling, EndsFills, EndsNode, filling_acts}
use Rattle.run_rounds.proofs.ActSteps.{wants_more}
use Rattle.run_rounds.proofs.Comings.{inputs_are}
use Rattle.run_rounds.proofs.Wanting.{stands_wanted, still_begins}

-- an input stream has its stream
pub stream_there : (core : Core) (n : ℕ) → IsInputStream core n → (stream : StreamC) × (slice_get core.nodes n ≡ Some (From stream))
stream_there core n input = by_node (slice_get core.nodes n) refl input
  where
    by_node : (o : Option NodeC) → slice_get core.nodes n ≡ o → IsInput o → (stream : StreamC) × (slice_get core.nodes n ≡ Some (From stream))
    by_node (Some (From stream)) is input = (stream, is)
    by_node (Some (Rules b)) is input = absurd input
    by_node (Some (To stream)) is input = absurd input
    by_node None is input = absurd input

-- what holds for the name of the port at its place holds for the stream's
pub for_port : (fact : List ℕ → Type 0) (stream : StreamC) (ports : List PortView) (at : ℕ) → IsPlaceOf stream.port (names ports) at → ForNameAt at ports fact
    → fact stream.port
for_port fact stream ports at place facts = facts stream.port (subst (λ name. place_of name (names ports) ≡ Some at) place.named place.place.first)

-- a fill whose result is known
pub fill_as : (want : ℕ) (old new : Engine) (n : ℕ) (name : List ℕ) (mids news : List PortView) (result other : Result (Unit {0}) FillError) → result ≡ other
    → FillsNode want old new n name mids news result → FillsNode want old new n name mids news other
fill_as want old new n name mids news result other is fill = subst (FillsNode want old new n name mids news) is fill

pub before_or_last : (n count : ℕ) → n < count + 1 → (n < count) ⊎ (n ≡ count)
before_or_last zero zero less = inr refl
before_or_last zero (suc count) less = inl (omega arith)
before_or_last (suc n) zero less = absurd (omega (arith, less))
before_or_last (suc n) (suc count) less = elim (before_or_last n count (omega (arith, less))) [ inl l ↦ inl (omega (arith, l)) | inr e ↦ inr (ap suc e) ]

few_or_enough : (want count : ℕ) → (want ≤ count → ⊥) → count < want
few_or_enough want count never = elim (cases_lt count want) [ inl less ↦ less | inr enough ↦ absurd (never enough) ]

-- what is no input stream is not read
no_wants : (core : Core) (good : List (List Value)) (span steps round n : ℕ) (o : Option NodeC) → (IsInput o → ⊥)
    → wants_of_node core good span steps round n o ≡ []
no_wants core good span steps round n None other = refl
no_wants core good span steps round n (Some (Rules b)) other = refl
no_wants core good span steps round n (Some (To stream)) other = refl
no_wants core good span steps round n (Some (From stream)) other = absurd (other tt)

-- the node is no input stream
pub other_node : (core : Core) (traced : Bool) (steps done want : ℕ) (olds news : List PortView) (engine : Engine) (n : ℕ) → (IsInputStream core n → ⊥)
    → StandsFilling core traced steps done n want olds news engine → StandsFilling core traced steps done (n + 1) want olds news engine
other_node core traced steps done want olds news engine n other filling =
    let stands = filling.stands in
    let same : (good : List (List Value)) → filling_acts core traced steps done n good ≡ filling_acts core traced steps done (n + 1) good = λ good.
    ap (λ (acts : List Act). rounds_acts core good traced steps done ++ acts)
    (sym (wants_more core good (span_of traced) steps (suc done) n
    ∙ ap (λ (acts : List Act). round_wants core good (span_of traced) steps (suc done) n ++ acts) (no_wants core good (span_of traced) steps (suc done) n (slice_get core.nodes n) other)
    ∙ append-nil (round_wants core good (span_of traced) steps (suc done) n))) in
    record {
      is = filling.is;
      wanted = filling.wanted;
      stands = record {
        acts = stands.acts;
        taken = stands.taken;
        fed = stands.fed;
        is_core = stands.is_core;
        is_span = stands.is_span;
        parts = stands.parts;
        made = stands.made;
        told = stands.told;
        after = stands.after;
        peaks = stands.peaks;
        are = λ inputs may. stands.are inputs may ∙ same inputs.good;
      };
      begun = λ m stream less is. elim (before_or_last m n less) [
        | inl l ↦ filling.begun m stream l is
        | inr e ↦ absurd (other (subst (IsInputStream core) e (inputs_are core m stream is)))
      ];
    }

module _ (traced : Bool) (steps done want : ℕ) (olds mids news : List PortView) (old new : Engine) (n : ℕ) (stream : StreamC)
    (is : slice_get (core_of old).nodes n ≡ Some (From stream)) (run : IsRunnable (core_of old)) (apart : ArePortsApart (core_of old))
    (filling : StandsFilling (core_of old) traced steps done n want olds mids old)
    (same_core : core_of new ≡ core_of old) (same_span : room_of new ≡ room_of old) (kept : ArePeaksKept old new)
    (untouched : Untouched (stream.port ∷ []) mids news) where
  abbrev core : Core
  core = core_of old

  module _ (fill : FillsNode want old new n stream.port mids news (Ok tt)) where
    begun : HasEnough want new n ⊎ HasReadAll new n → MayBegin core (queue_at new) want (state_of new) n
    begun (inl enough) = inl enough
    begun (inr all) = inr (record {
      ended = all.ended;
      all = λ text gone. subst (λ (c : Core). IsQueueOf c.types (type_at c n) (queue_at new n) text (gone ++ coming_at new n) []
          → IsGoodUntil c.types (type_at c n) text (gone ++ coming_at new n) None) same_core (all.all text (gone ++ coming_at new n));
    })

    pub node_filled : StandsFilling core traced steps done (n + 1) want olds news new
    node_filled = record {
      is = filling.is;
      wanted = filling.wanted;
      stands = stands_wanted traced steps done want olds mids news old new n stream is run apart filling (Ok tt) fill untouched fill.reads same_core same_span kept;
      begun = λ m other less there. elim (before_or_last m n less) [
        | inl l ↦ still_begins traced steps done want olds mids news old new n stream is run apart filling (Ok tt) fill untouched m (λ same. omega (arith, l, same))
            (filling.begun m other l there)
        | inr e ↦ subst (MayBegin core (queue_at new) want (state_of new)) (sym e) (begun fill.ends)
      ];
    }

  module _ (line : ℕ) (fill : FillsNode want old new n stream.port mids news (Err (BadValue line))) where
    pub node_lacks : StandsBlocked core traced steps done want olds news new (record { node = n; line = line })
    node_lacks = record {
      is = filling.is;
      wanted = filling.wanted;
      stands = stands_wanted traced steps done want olds mids news old new n stream is run apart filling (Err (BadValue line)) fill untouched fill.reads same_core same_span kept;
      begun = λ m other less there.
          still_begins traced steps done want olds mids news old new n stream is run apart filling (Err (BadValue line)) fill untouched m (λ same. omega (arith, less, same))
          (filling.begun m other less there);
      lacks = record {
        stream = stream;
        is = is;
        few = few_or_enough want (length (coming_at new n)) fill.ends.0;
        before = λ text gone rest. subst (λ (c : Core). IsQueueOf c.types (type_at c n) (queue_at new n) text (gone ++ coming_at new n) rest
            → (number : ℕ) × (line ≡ min number last_count) × IsGoodUntil c.types (type_at c n) text (gone ++ coming_at new n) (Some number)) same_core
            (fill.ends.1 text (gone ++ coming_at new n) rest);
      };
    }

-- The input streams of numbers below the count are filled, and nothing else has changed.
pub record Filling (want : ℕ) (before ports : List PortView) (first engine : Engine) (count : ℕ) : Type 0 where
  pub is_core : core_of engine ≡ core_of first
  pub is_span : room_of engine ≡ room_of first
  pub same_names : names ports ≡ names before
  pub most : count ≤ length (core_of first).nodes
  pub stands : (traced : Bool) (steps done : ℕ) (olds : List PortView) → StandsFilling (core_of first) traced steps done 0 want olds before first
      → StandsFilling (core_of first) traced steps done count want olds ports engine

pub filling_none : (want : ℕ) (ports : List PortView) (engine : Engine) → Filling want ports ports engine engine 0
filling_none want ports engine = record { is_core = refl; is_span = refl; same_names = refl; most = omega arith; stands = λ traced steps done olds stands. stands }

-- how a fill of one node ends, from any standing
abbrev NodeEnds : Core → ℕ → List PortView → List PortView → Engine → Engine → ℕ → Result (Option ℕ) Failed → Type 0
NodeEnds core want mids news engine new n result = (traced : Bool) (steps done : ℕ) (olds : List PortView)
    → StandsFilling core traced steps done n want olds mids engine → EndsNode core traced steps done n want olds news new result

module _ (want : ℕ) (before mids news : List PortView) (first engine new : Engine) (count : ℕ) (it : Filling want before mids first engine count) where
  own : (result other : Result (Option ℕ) Failed) → result ≡ other → NodeEnds (core_of engine) want mids news engine new count result
      → NodeEnds (core_of first) want mids news engine new count other
  own result other same ends = subst (λ r. NodeEnds (core_of first) want mids news engine new count r) same
      (subst (λ c. NodeEnds c want mids news engine new count result) it.is_core ends)

  module _ (result : Result (Option ℕ) Failed) (ends : NodeEnds (core_of engine) want mids news engine new count result) where
    pub filling_next : result ≡ Ok None → core_of new ≡ core_of engine → room_of new ≡ room_of engine → names news ≡ names mids
        → count < length (core_of first).nodes → Filling want before news first new (count + 1)
    filling_next is same_core same_span same within = record {
      is_core = same_core ∙ it.is_core;
      is_span = same_span ∙ it.is_span;
      same_names = same ∙ it.same_names;
      most = omega (arith, within);
      stands = λ traced steps done olds stands. own result (Ok None) is ends traced steps done olds (it.stands traced steps done olds stands);
    }

    module _ (traced : Bool) (steps done : ℕ) (olds : List PortView) (stands : StandsFilling (core_of first) traced steps done 0 want olds before first) where
      pub filling_blocked : (line : ℕ) → result ≡ Ok (Some line)
          → StandsBlocked (core_of first) traced steps done want olds news new (record { node = count; line = line })
      filling_blocked line is = own result (Ok (Some line)) is ends traced steps done olds (it.stands traced steps done olds stands)

      pub filling_failed : (failed : Failed) → result ≡ Err failed → EndsFills (core_of first) traced steps done want olds news new (Err failed)
      filling_failed failed is = own result (Err failed) is ends traced steps done olds (it.stands traced steps done olds stands)

pub filling_over : (want : ℕ) (before mids : List PortView) (first engine : Engine) (count : ℕ) → Filling want before mids first engine count
    → length (core_of first).nodes ≤ count
    → (traced : Bool) (steps done : ℕ) (olds : List PortView) → StandsFilling (core_of first) traced steps done 0 want olds before first
    → StandsFilling (core_of first) traced steps done (length (core_of first).nodes) want olds mids engine
filling_over want before mids first engine count it past traced steps done olds stands =
    let most = it.most in
    let all : count ≡ length (core_of first).nodes = omega (arith, past, most) in
    subst (λ k. StandsFilling (core_of first) traced steps done k want olds mids engine) all (it.stands traced steps done olds stands)

-- the place of a stream's port
pub place_of_stream : (want : ℕ) (before mids : List PortView) (first engine : Engine) (count : ℕ) → Filling want before mids first engine count
    → (places : List ℕ) → ArePlacesOf (core_of first) (names before) places → count < length places → (stream : StreamC)
    → slice_get (core_of engine).nodes count ≡ Some (From stream) → IsPlaceOf stream.port (names mids) (get_or places count 0)
place_of_stream want before mids first engine count it places are within stream is =
    let there = subst (λ (c : Core). slice_get c.nodes count ≡ Some (From stream)) it.is_core is in
    subst (λ ns. IsPlaceOf stream.port ns (get_or places count 0)) (sym it.same_names)
    (are.each count (get_or places count 0) (From stream) stream there refl (slice_get-get_or places count 0 within))
