-- Input streams that are filled one after another.
use Rattle.std.proofs.Common.{◌≡◌, ℕ, suc, ◌+◌, ◌<◌, ◌≤◌, min, List, [], ◌∷◌, ◌++◌, length, get_or, Option, None, Some, slice_get, Result, Ok, Err, refl, ap, sym, ◌∙◌, subst, ◌⊎◌, inl, inr, arith, append-nil}
use Rattle.std.proofs.lemmas.Bool.{cases_lt}
use Rattle.std.proofs.lemmas.Option.{slice_get-get_or}
use Rattle.hume_base.specs.declared.types.Value.{Value}
use Rattle.hume_model.specs.declared.core_tree.NodeC.{NodeC}
use Rattle.hume_model.specs.declared.core_tree.NodeC.TheVariants.{Rules, From, To}
use Rattle.hume_model.specs.declared.core_tree.StreamC.{StreamC}
use Rattle.hume_model.specs.declared.core_tree.Core.{Core}
use Rattle.hume_net.specs.Nodes.{IsInput, IsInputStream}
use Rattle.hume_ports.specs.declared.port.Failed.{Failed}
use Rattle.hume_ports.specs.Port.{PortView, last_count}
use Rattle.hume_ports.specs.Ports.{names, Untouched}
use Rattle.port_acts.specs.Acts.{Act}
use Rattle.port_acts.specs.Places.{IsPlaceOf}
use Rattle.hume_streams.specs.declared.queue.FillError.TheVariants.{BadValue}
use Rattle.hume_streams.specs.Good.{IsGoodUntil}
use Rattle.hume_streams.specs.Queues.{IsQueueOf}
use Rattle.phase_workers.specs.Engines.{coming_at, queue_at}
use Rattle.phase_workers.specs.NodeFills.{FillsNode, HasEnough, HasReadAll}
use Rattle.phase_workers.specs.Runnable.{IsRunnable}
use Rattle.phase_workers.specs.StreamTypes.{type_at}
use Rattle.run_log.specs.declared.half.Half.TheVariants.{End}
use Rattle.run_log.specs.declared.log_run.LogRun.{LogRun}
use Rattle.run_log.specs.Moments.{core_in, engine_of, moment_of}
use Rattle.run_rounds.specs.RunActs.{round_wants, wants_of_node}
use Rattle.run_rounds.specs.Streams.{ArePlacesOf, ArePortsApart}
use Rattle.run_rounds.specs.inner.Beginning.{MayBegin}
use Rattle.run_rounds.proofs.ActSteps.{wants_more}
use Rattle.run_rounds.proofs.Comings.{inputs_are}
use Rattle.run_rounds.proofs.FillingInputs.{before_or_last}
use Rattle.log_rounds.specs.inner.Standing.{Deeds}
use Rattle.log_rounds.specs.inner.Steps.{StandsBlocked, StandsFilling, EndsFills, EndsNode, filling}
use Rattle.log_rounds.proofs.Wanting.{stands_wanted, still_begins}

few_or_enough : (want count : ℕ) → (want ≤ count → ⊥) → count < want
few_or_enough want count never = elim (cases_lt count want) [ inl less ↦ less | inr enough ↦ absurd (never enough) ]

-- what is no input stream is not read
no_wants : (core : Core) (good : List (List Value)) (span steps round n : ℕ) (o : Option NodeC) → (IsInput o → ⊥)
    → wants_of_node core good span steps round n o ≡ []
no_wants core good span steps round n None other = refl
no_wants core good span steps round n (Some (Rules b)) other = refl
no_wants core good span steps round n (Some (To stream)) other = refl
no_wants core good span steps round n (Some (From stream)) other = absurd (other tt)

-- the node is no input stream
pub other_node : (core : Core) (steps done : ℕ) (deeds : Deeds) (olds news : List PortView) (run : LogRun) (n : ℕ) → (IsInputStream core n → ⊥)
    → StandsFilling core steps done n deeds olds news run → StandsFilling core steps done (n + 1) deeds olds news run
other_node core steps done deeds olds news run n other so_far =
    let stands = so_far.stands in
    let same : (good : List (List Value)) → (filling core steps done n deeds).acts good ≡ (filling core steps done (n + 1) deeds).acts good = λ good.
    ap (λ (acts : List Act). deeds.acts good ++ acts)
    (sym (wants_more core good 1 steps (suc done) n
    ∙ ap (λ (acts : List Act). round_wants core good 1 steps (suc done) n ++ acts) (no_wants core good 1 steps (suc done) n (slice_get core.nodes n) other)
    ∙ append-nil (round_wants core good 1 steps (suc done) n))) in
    record {
      is = so_far.is;
      stands = record {
        acts = stands.acts;
        taken = stands.taken;
        fed = stands.fed;
        is_core = stands.is_core;
        is_half = stands.is_half;
        is_superstep = stands.is_superstep;
        parts = stands.parts;
        made = stands.made;
        told = stands.told;
        read = stands.read;
        piece = stands.piece;
        filled = stands.filled;
        unblocked = stands.unblocked;
        did = λ inputs may. stands.did inputs may ∙ same inputs.good;
        logged = stands.logged;
      };
      begun = λ m stream less is. elim (before_or_last m n less) [
        | inl l ↦ so_far.begun m stream l is
        | inr e ↦ absurd (other (subst (IsInputStream core) e (inputs_are core m stream is)))
      ];
    }

module _ (steps done : ℕ) (deeds : Deeds) (olds mids news : List PortView) (old new : LogRun) (n : ℕ) (stream : StreamC)
    (is : slice_get (core_in old).nodes n ≡ Some (From stream)) (run : IsRunnable (core_in old)) (apart : ArePortsApart (core_in old))
    (so_far : StandsFilling (core_in old) steps done n deeds olds mids old)
    (same_core : core_in new ≡ core_in old) (half : (moment_of new).half ≡ End) (superstep : (moment_of new).superstep ≡ (moment_of old).superstep)
    (untouched : Untouched (stream.port ∷ []) mids news) where
  abbrev core : Core
  core = core_in old

  module _ (fill : FillsNode 1 (engine_of old) (engine_of new) n stream.port mids news (Ok tt)) where
    begun : HasEnough 1 (engine_of new) n ⊎ HasReadAll (engine_of new) n → MayBegin core (queue_at (engine_of new)) 1 (moment_of new).state n
    begun (inl enough) = inl enough
    begun (inr all) = inr (record {
      ended = all.ended;
      all = λ text gone. subst (λ (c : Core). IsQueueOf c.types (type_at c n) (queue_at (engine_of new) n) text (gone ++ coming_at (engine_of new) n) []
          → IsGoodUntil c.types (type_at c n) text (gone ++ coming_at (engine_of new) n) None) same_core (all.all text (gone ++ coming_at (engine_of new) n));
    })

    pub node_filled : StandsFilling core steps done (n + 1) deeds olds news new
    node_filled = record {
      is = so_far.is;
      stands = stands_wanted steps done deeds olds mids news old new n stream is run apart so_far (Ok tt) fill untouched fill.reads same_core half superstep;
      begun = λ m other less there. elim (before_or_last m n less) [
        | inl l ↦ still_begins steps done deeds olds mids news old new n stream is run apart so_far (Ok tt) fill untouched m (λ same. omega (arith, l, same))
            (so_far.begun m other l there)
        | inr e ↦ subst (MayBegin core (queue_at (engine_of new)) 1 (moment_of new).state) (sym e) (begun fill.ends)
      ];
    }

  module _ (line : ℕ) (fill : FillsNode 1 (engine_of old) (engine_of new) n stream.port mids news (Err (BadValue line))) where
    pub node_lacks : StandsBlocked core steps done deeds olds news new (record { node = n; line = line })
    node_lacks = record {
      is = so_far.is;
      stands = stands_wanted steps done deeds olds mids news old new n stream is run apart so_far (Err (BadValue line)) fill untouched fill.reads same_core half superstep;
      begun = λ m other less there.
          still_begins steps done deeds olds mids news old new n stream is run apart so_far (Err (BadValue line)) fill untouched m (λ same. omega (arith, less, same))
          (so_far.begun m other less there);
      lacks = record {
        stream = stream;
        is = is;
        few = few_or_enough 1 (length (coming_at (engine_of new) n)) fill.ends.0;
        before = λ text gone rest. subst (λ (c : Core). IsQueueOf c.types (type_at c n) (queue_at (engine_of new) n) text (gone ++ coming_at (engine_of new) n) rest
            → (number : ℕ) × (line ≡ min number last_count) × IsGoodUntil c.types (type_at c n) text (gone ++ coming_at (engine_of new) n) (Some number)) same_core
            (fill.ends.1 text (gone ++ coming_at (engine_of new) n) rest);
      };
    }

-- The input streams of numbers below the count are filled, and nothing else has changed.
pub record Filling (before ports : List PortView) (first run : LogRun) (count : ℕ) : Type 0 where
  pub is_core : core_in run ≡ core_in first
  pub is_half : (moment_of run).half ≡ End
  pub is_superstep : (moment_of run).superstep ≡ (moment_of first).superstep
  pub same_names : names ports ≡ names before
  pub most : count ≤ length (core_in first).nodes
  pub stands : (steps done : ℕ) (deeds : Deeds) (olds : List PortView) → StandsFilling (core_in first) steps done 0 deeds olds before first
      → StandsFilling (core_in first) steps done count deeds olds ports run

pub filling_none : (ports : List PortView) (run : LogRun) → (moment_of run).half ≡ End → Filling ports ports run run 0
filling_none ports run half = record {
  is_core = refl;
  is_half = half;
  is_superstep = refl;
  same_names = refl;
  most = omega arith;
  stands = λ steps done deeds olds stands. stands;
}

-- how a fill of one node ends, from any standing
abbrev NodeEnds : Core → List PortView → List PortView → LogRun → LogRun → ℕ → Result (Option ℕ) Failed → Type 0
NodeEnds core mids news run new n result = (steps done : ℕ) (deeds : Deeds) (olds : List PortView)
    → StandsFilling core steps done n deeds olds mids run → EndsNode core steps done n deeds olds news new result

module _ (before mids news : List PortView) (first run new : LogRun) (count : ℕ) (it : Filling before mids first run count) where
  own : (result other : Result (Option ℕ) Failed) → result ≡ other → NodeEnds (core_in run) mids news run new count result
      → NodeEnds (core_in first) mids news run new count other
  own result other same ends = subst (λ r. NodeEnds (core_in first) mids news run new count r) same
      (subst (λ c. NodeEnds c mids news run new count result) it.is_core ends)

  module _ (result : Result (Option ℕ) Failed) (ends : NodeEnds (core_in run) mids news run new count result) where
    pub filling_next : result ≡ Ok None → core_in new ≡ core_in run → (moment_of new).half ≡ End → (moment_of new).superstep ≡ (moment_of run).superstep
        → names news ≡ names mids → count < length (core_in first).nodes → Filling before news first new (count + 1)
    filling_next is same_core half superstep same within = record {
      is_core = same_core ∙ it.is_core;
      is_half = half;
      is_superstep = superstep ∙ it.is_superstep;
      same_names = same ∙ it.same_names;
      most = omega (arith, within);
      stands = λ steps done deeds olds stands. own result (Ok None) is ends steps done deeds olds (it.stands steps done deeds olds stands);
    }

    module _ (steps done : ℕ) (deeds : Deeds) (olds : List PortView) (stands : StandsFilling (core_in first) steps done 0 deeds olds before first) where
      pub filling_blocked : (line : ℕ) → result ≡ Ok (Some line)
          → StandsBlocked (core_in first) steps done deeds olds news new (record { node = count; line = line })
      filling_blocked line is = own result (Ok (Some line)) is ends steps done deeds olds (it.stands steps done deeds olds stands)

      pub filling_failed : (failed : Failed) → result ≡ Err failed → EndsFills (core_in first) steps done deeds olds news new (Err failed)
      filling_failed failed is = own result (Err failed) is ends steps done deeds olds (it.stands steps done deeds olds stands)

pub filling_over : (before mids : List PortView) (first run : LogRun) (count : ℕ) → Filling before mids first run count → length (core_in first).nodes ≤ count
    → (steps done : ℕ) (deeds : Deeds) (olds : List PortView) → StandsFilling (core_in first) steps done 0 deeds olds before first
    → StandsFilling (core_in first) steps done (length (core_in first).nodes) deeds olds mids run
filling_over before mids first run count it past steps done deeds olds stands =
    let most = it.most in
    let all : count ≡ length (core_in first).nodes = omega (arith, past, most) in
    subst (λ k. StandsFilling (core_in first) steps done k deeds olds mids run) all (it.stands steps done deeds olds stands)

-- the place of a stream's port
pub place_of_stream : (before mids : List PortView) (first run : LogRun) (count : ℕ) → Filling before mids first run count
    → (places : List ℕ) → ArePlacesOf (core_in first) (names before) places → count < length places → (stream : StreamC)
    → slice_get (core_in run).nodes count ≡ Some (From stream) → IsPlaceOf stream.port (names mids) (get_or places count 0)
place_of_stream before mids first run count it places are within stream is =
    let there = subst (λ (c : Core). slice_get c.nodes count ≡ Some (From stream)) it.is_core is in
    subst (λ ns. IsPlaceOf stream.port ns (get_or places count 0)) (sym it.same_names)
    (are.each count (get_or places count 0) (From stream) stream there refl (slice_get-get_or places count 0 within))
