-- The ports of a session are finished one after another.
use Rattle.std.proofs.Common.{◌≡◌, ℕ, suc, ◌+◌, ◌<◌, ◌≤◌, arith, if◌then◌else◌, List, [], ◌∷◌, ◌++◌, length, map, refl, ap, sym, ◌∙◌, subst, Option, None, Some, Result, Ok, Err}
use Rattle.std.specs.Prelude.{slice_get, slice_index_or}
use Rattle.std.proofs.lemmas.Bool.{eq-eqb}
use Rattle.std.proofs.lemmas.List.{length-map}
use Rattle.hume_model.specs.declared.core_tree.NodeC.{NodeC}
use Rattle.hume_model.specs.declared.core_tree.NodeC.TheVariants.{Rules, From, To}
use Rattle.hume_model.specs.declared.core_tree.StreamC.{StreamC}
use Rattle.hume_model.specs.declared.core_tree.Core.{Core}
use Rattle.hume_net.specs.Nodes.{IsOutput, IsOutputStream}
use Rattle.hume_ports.specs.declared.port.Failed.{Failed}
use Rattle.hume_ports.specs.Port.{PortView}
use Rattle.hume_ports.specs.Ports.{names, other_names, place_of, ForNameAt}
use Rattle.hume_calls.proofs.FitPorts.{found_place}
use Rattle.port_acts.specs.Acts.{Act, finish_each, finishes}
use Rattle.port_acts.specs.Ends.{Ends, Fails, Made, never}
use Rattle.port_acts.proofs.Making.{Made-on, Made-start}
use Rattle.port_acts.proofs.Failing.{Fails-on, Fails-stop}
use Rattle.run_rounds.proofs.Ranges.{flat_more, flat_within}
use Rattle.run_rounds.specs.Streams.{std_out}
use Rattle.hume_console.specs.Serving.{output_port}
use Rattle.hume_console.specs.Session.{Session}
use Rattle.hume_console.specs.inner.Closing.{all_finishes, node_finish, stream_finishes, AreClosable, IsClosable}
use Rattle.hume_console.proofs.Placing.{same_place}
use Rattle.hume_console.proofs.PortsLeft.{differ_eq}

module _ (core : Core) (session : Session) (names : List (List ℕ)) (node at last : ℕ) (is : IsClosable core session names node at last) where
  abbrev finish : Option NodeC → List Act
  finish found = finish_each (other_names std_out (output_port session node found))

  pub within : IsOutputStream core node → at < length names
  within is_out = by (slice_get core.nodes node) refl is_out
    where
      by : (found : Option NodeC) → slice_get core.nodes node ≡ found → IsOutput found → at < length names
      by (Some (To stream)) there out = (found_place (session.port node) names at (is.at_port stream there)).place.within
      by (Some (From stream)) there out = absurd out
      by (Some (Rules box)) there out = absurd out
      by None there out = absurd out

  none_by : (found : Option NodeC) → (IsOutput found → ⊥) → finish found ≡ []
  none_by (Some (To stream)) isnt = absurd (isnt tt)
  none_by (Some (From stream)) isnt = refl
  none_by (Some (Rules box)) isnt = refl
  none_by None isnt = refl

  out_by : (found : Option NodeC) → slice_get core.nodes node ≡ found → at ≡ last → finish found ≡ []
  out_by (Some (To stream)) there same =
      ap (λ b. finish_each (if b then [] else session.port node ∷ []))
      (sym (same_place std_out (session.port node) names last at is.at_out (is.at_port stream there)) ∙ eq-eqb last at (sym same))
  out_by (Some (From stream)) there same = refl
  out_by (Some (Rules box)) there same = refl
  out_by None there same = refl

  differs : (stream : StreamC) → slice_get core.nodes node ≡ Some (To stream) → (at ≡ last → ⊥) → std_out ≡ session.port node → ⊥
  differs stream there other same =
      let joined : Some at ≡ Some last = sym (is.at_port stream there) ∙ ap (λ name. place_of name names) (sym same) ∙ is.at_out in
      let one : at ≡ last = cc in other one

pub finished_none : (core : Core) (session : Session) (node at last : ℕ) (olds : List PortView) → IsClosable core session (names olds) node at last
    → (IsOutputStream core node → ⊥) → Made (node_finish core session node) [] olds olds
finished_none core session node at last olds is isnt =
    subst (λ (acts : List Act). Made acts [] olds olds) (sym (none_by core session (names olds) node at last is (slice_get core.nodes node) isnt)) (Made-start olds)

pub finished_out : (core : Core) (session : Session) (node at last : ℕ) (olds : List PortView) → IsClosable core session (names olds) node at last
    → at ≡ last → Made (node_finish core session node) [] olds olds
finished_out core session node at last olds is same =
    subst (λ (acts : List Act). Made acts [] olds olds) (sym (out_by core session (names olds) node at last is (slice_get core.nodes node) refl same)) (Made-start olds)

pub finished : (core : Core) (session : Session) (node at last : ℕ) (olds news : List PortView) (result : Result (Unit {0}) Failed)
    → IsClosable core session (names olds) node at last → (at ≡ last → ⊥) → IsOutputStream core node
    → ForNameAt at olds (λ name. Ends never [] (finishes name ∷ []) [] olds news result) → Ends never [] (node_finish core session node) [] olds news result
finished core session node at last olds news result is other is_out ends = by (slice_get core.nodes node) refl is_out
  where
    by : (found : Option NodeC) → slice_get core.nodes node ≡ found → IsOutput found
        → Ends never [] (finish_each (other_names std_out (output_port session node found))) [] olds news result
    by (Some (To stream)) there out =
        subst (λ b. Ends never [] (finish_each (if b then [] else session.port node ∷ [])) [] olds news result)
        (sym (differ_eq std_out (session.port node) (differs core session (names olds) node at last is stream there other)))
        (ends (session.port node) (is.at_port stream there))
    by (Some (From stream)) there out = absurd out
    by (Some (Rules box)) there out = absurd out
    by None there out = absurd out

-- the port is one of those that are there
pub within_ports : {X : Type 0} (view : X → PortView) (ports : List X) (core : Core) (session : Session) (node at last : ℕ)
    → IsClosable core session (names (map view ports)) node at last → IsOutputStream core node → at < length ports
within_ports view ports core session node at last is is_out =
    subst (λ count. at < count) (length-map (map view ports) (λ (port : PortView). port.name) ∙ length-map ports view)
    (within core session (names (map view ports)) node at last is is_out)

-- one after another

pub record Finishing (core : Core) (before ports : List PortView) (places : List ℕ) (last : ℕ) (count : ℕ) : Type 0 where
  pub same_names : names ports ≡ names before
  pub most : count ≤ length places
  pub made : (session : Session) → AreClosable core session (names before) places last → Made (stream_finishes core session count) [] before ports

pub finishing_none : (core : Core) (before : List PortView) (places : List ℕ) (last : ℕ) → Finishing core before before places last 0
finishing_none core before places last = record { same_names = refl; most = omega arith; made = λ session are. Made-start before }

module _ (core : Core) (before mids : List PortView) (places : List ℕ) (last : ℕ) (count : ℕ) (it : Finishing core before mids places last count) where
  pub closable_now : (session : Session) → AreClosable core session (names before) places last
      → IsClosable core session (names mids) count (slice_index_or places count 0) last
  closable_now session are =
      subst (λ (ns : List (List ℕ)). IsClosable core session ns count (slice_index_or places count 0) last) (sym it.same_names) (are.each count)

  more : (session : Session) → stream_finishes core session (count + 1) ≡ stream_finishes core session count ++ node_finish core session count
  more session =
      let next : count + 1 ≡ suc count = omega arith in
      let here : 0 + count ≡ count = omega arith in
      ap (stream_finishes core session) next ∙ flat_more (node_finish core session) 0 count
      ∙ ap (λ k. stream_finishes core session count ++ node_finish core session k) here

  abbrev Finishes : List PortView → Result (Unit {0}) Failed → Type 0
  Finishes news result = (session : Session) → IsClosable core session (names mids) count (slice_index_or places count 0) last
      → Ends never [] (node_finish core session count) [] mids news result

  pub finishing_next : (news : List PortView) (result : Result (Unit {0}) Failed) (done : Unit {0}) → result ≡ Ok done → count < length places
      → names news ≡ names mids → Finishes news result → Finishing core before news places last (count + 1)
  finishing_next news result done is within same ends = record {
    same_names = same ∙ it.same_names;
    most = omega (arith, within);
    made = λ session are. subst (λ (acts : List Act). Made acts [] before news) (sym (more session))
        (Made-on (stream_finishes core session count) (node_finish core session count) [] [] before mids news (it.made session are)
        (subst (λ (r : Result (Unit {0}) Failed). Ends never [] (node_finish core session count) [] mids news r) is (ends session (closable_now session are))));
  }

  pub finishing_failed : (news : List PortView) (result : Result (Unit {0}) Failed) (failed : Failed) → result ≡ Err failed → count < length places
      → Finishes news result → (session : Session) → AreClosable core session (names before) places last
      → Fails never [] (stream_finishes core session (length core.nodes)) before news
  finishing_failed news result failed is within ends session are =
      let total = are.count in
      let all = flat_within (node_finish core session) 0 (count + 1) (length core.nodes) (omega (arith, within, total)) in
      let here : Fails never [] (stream_finishes core session count ++ node_finish core session count) before news =
      Fails-on never [] [] (stream_finishes core session count) (node_finish core session count) before mids news (it.made session are)
      (subst (λ (r : Result (Unit {0}) Failed). Ends never [] (node_finish core session count) [] mids news r) is (ends session (closable_now session are))) in
      let whole : stream_finishes core session (length core.nodes) ≡ (stream_finishes core session count ++ node_finish core session count) ++ all.0 =
      all.1 ∙ ap (λ (acts : List Act). acts ++ all.0) (more session) in
      subst (λ (acts : List Act). Fails never [] acts before news) (sym whole)
      (Fails-stop never [] (stream_finishes core session count ++ node_finish core session count) all.0 before news here)

  pub finishing_made : length places ≤ count → (session : Session) → AreClosable core session (names before) places last
      → Made (stream_finishes core session (length core.nodes)) [] before mids
  finishing_made past session are =
      let most = it.most in
      let total = are.count in
      let all : count ≡ length core.nodes = omega (arith, past, most, total) in
      subst (λ k. Made (stream_finishes core session k) [] before mids) all (it.made session are)

-- and `std_out` last

module _ (core : Core) (places : List ℕ) (last : ℕ) (session : Session) (before mids : List PortView) (are : AreClosable core session (names before) places last)
    (same : names mids ≡ names before) where
  pub out_now : place_of std_out (names mids) ≡ Some last
  out_now = ap (place_of std_out) same ∙ (are.each 0).at_out

  pub all_finished : (news : List PortView) (result : Result (Unit {0}) Failed) → Made (stream_finishes core session (length core.nodes)) [] before mids
      → ForNameAt last mids (λ name. Ends never [] (finishes name ∷ []) [] mids news result)
      → Ends never [] (all_finishes core session) [] before news result
  all_finished news (Ok done) made ends =
      Made-on (stream_finishes core session (length core.nodes)) (finishes std_out ∷ []) [] [] before mids news made (ends std_out out_now)
  all_finished news (Err failed) made ends =
      Fails-on never [] [] (stream_finishes core session (length core.nodes)) (finishes std_out ∷ []) before mids news made (ends std_out out_now)

-- a stream's port could not be finished
pub not_finished : (core : Core) (session : Session) (before news : List PortView) → Fails never [] (stream_finishes core session (length core.nodes)) before news
    → Fails never [] (all_finishes core session) before news
not_finished core session before news fails = Fails-stop never [] (stream_finishes core session (length core.nodes)) (finishes std_out ∷ []) before news fails

-- over a list of places that is lent
pub places_lent : (core : Core) (session : Session) (names : List (List ℕ)) (places lent : List ℕ) (last : ℕ) → lent ≡ places
    → AreClosable core session names places last → AreClosable core session names lent last
places_lent core session names places lent last is are = subst (λ (ps : List ℕ). AreClosable core session names ps last) (sym is) are

pub out_within : {X : Type 0} (view : X → PortView) (before mids : List X) (core : Core) (session : Session) (places : List ℕ) (last : ℕ)
    → AreClosable core session (names (map view before)) places last → names (map view mids) ≡ names (map view before) → last < length mids
out_within view before mids core session places last are same =
    subst (λ count. last < count) (length-map (map view mids) (λ (port : PortView). port.name) ∙ length-map mids view)
    (found_place std_out (names (map view mids)) last (out_now core places last session (map view before) (map view mids) are same)).place.within

pub made_as : (acts : List Act) (olds news : List PortView) (result other : Result (Unit {0}) Failed) → result ≡ other → Ends never [] acts [] olds news result
    → Ends never [] acts [] olds news other
made_as acts olds news result other is ends = subst (λ (r : Result (Unit {0}) Failed). Ends never [] acts [] olds news r) is ends
