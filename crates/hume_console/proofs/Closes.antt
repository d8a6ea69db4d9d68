-- A session has come to its end, and its ports are finished.
use Rattle.std.proofs.Common.{◌≡◌, ℕ, Bool, true, false, if◌then◌else◌, List, [], ◌∷◌, ◌++◌, length, refl, ap, sym, ◌∙◌, subst, inl, inr, Result, Ok, Err}
use Rattle.std.specs.Prelude.{slice_get}
use Rattle.std.specs.List.{flat_map, range_with_len}
use Rattle.std.specs.Str.{bytes_eq}
use Rattle.std.proofs.lemmas.List.{map-append}
use Rattle.hume_model.specs.declared.core_tree.NodeC.TheVariants.{To}
use Rattle.hume_model.specs.declared.core_tree.Core.{Core}
use Rattle.hume_ports.specs.Port.{PortView}
use Rattle.hume_ports.specs.Ports.{names, other_names}
use Rattle.port_acts.specs.Acts.{Act, finish_each, finishes}
use Rattle.port_acts.specs.Ends.{Ends, Fails, Made, never}
use Rattle.port_acts.proofs.Failing.{Fails-any}
use Rattle.phase_workers.specs.Engines.{EngineView as Engine}
use Rattle.run_rounds.specs.Streams.{std_out}
use Rattle.hume_ports.specs.declared.port.Failed.{Failed}
use Rattle.hume_console.specs.declared.ending.Ending.{Ending}
use Rattle.hume_console.specs.declared.ending.Ending.TheVariants.{Fault}
use Rattle.hume_console.specs.declared.places.Places.{Places}
use Rattle.hume_console.specs.Hands.{Hands}
use Rattle.hume_console.specs.Headline.{session_few}
use Rattle.hume_console.specs.Serving.{output_port, output_ports}
use Rattle.hume_console.specs.Session.{Session}
use Rattle.hume_console.specs.declared.session.Session.{Session as Served}
use Rattle.phase_workers.specs.Engines.{core_of}
use Rattle.hume_console.specs.inner.Answering.{StandsClosed, left_closed}
use Rattle.hume_console.specs.inner.Closing.{all_finishes, node_finish, AreClosable, EndsClosed}
use Rattle.hume_console.specs.inner.Standing.{Call, Commands, EndsCall, GoesOn, session_of}
use Rattle.hume_console.proofs.Standings.{hands_with, own_offers, own_placed, own_rest}

others_append : (name : List ℕ) (xs ys : List (List ℕ)) → other_names name (xs ++ ys) ≡ other_names name xs ++ other_names name ys
others_append name [] ys = refl
others_append name (x ∷ xs) ys = by (bytes_eq name x) (others_append name xs ys)
  where
    by : (b : Bool) → other_names name (xs ++ ys) ≡ other_names name xs ++ other_names name ys
        → (if b then other_names name (xs ++ ys) else x ∷ other_names name (xs ++ ys))
        ≡ (if b then other_names name xs else x ∷ other_names name xs) ++ other_names name ys
    by true more = more
    by false more = ap (λ (rest : List (List ℕ)). x ∷ rest) more

finishes_in : (core : Core) (session : Session) (ns : List ℕ)
    → finish_each (other_names std_out (flat_map (λ n. output_port session n (slice_get core.nodes n)) ns)) ≡ flat_map (node_finish core session) ns
finishes_in core session [] = refl
finishes_in core session (n ∷ ns) =
    let first : List (List ℕ) = output_port session n (slice_get core.nodes n) in
    let rest : List (List ℕ) = flat_map (λ m. output_port session m (slice_get core.nodes m)) ns in
    ap finish_each (others_append std_out first rest)
    ∙ map-append (λ (name : List ℕ). finishes name) (other_names std_out first) (other_names std_out rest)
    ∙ ap (λ (acts : List Act). node_finish core session n ++ acts) (finishes_in core session ns)

-- the finishes are those that are owed
pub finishes_owed : (core : Core) (session : Session) → all_finishes core session ≡ finish_each (other_names std_out (output_ports core session) ++ std_out ∷ [])
finishes_owed core session =
    ap (λ (acts : List Act). acts ++ finishes std_out ∷ []) (sym (finishes_in core session (range_with_len 0 (length core.nodes))))
    ∙ sym (map-append (λ (name : List ℕ). finishes name) (other_names std_out (output_ports core session)) (std_out ∷ []))

module _ (call : Call) (limit : ℕ) (ending : Ending) (engine : Engine) (commands : Commands) (places : Places) (now : Hands)
    (goes : GoesOn call limit (left_closed call ending) engine commands places now) where
  -- the session that has come to its end
  abbrev pub last_session : Session
  last_session = session_of engine goes.bindings (own_offers call limit (left_closed call ending) engine commands places now goes.bindings goes.stands)

  pub are_closable : AreClosable call.core last_session (names now.ports) places.streams.items places.std_out
  are_closable =
      let place = own_placed call limit (left_closed call ending) engine commands places now goes.bindings goes.stands in
      record {
        count = place.count;
        each = λ node. record { at_out = place.at_std_out; at_port = λ stream there. place.streams node (To stream) stream there refl };
      }

  ends_with : (news : List PortView) (result : Result (Unit {0}) Failed) → Ends never [] (all_finishes call.core last_session) [] now.ports news result
      → Ends never [] (finish_each (other_names std_out (output_ports call.core last_session) ++ std_out ∷ [])) [] now.ports news result
  ends_with news result ends = subst (λ (acts : List Act). Ends never [] acts [] now.ports news result) (finishes_owed call.core last_session) ends

  -- all finishes were made, and the answer is given
  pub closed_call : (news : List PortView) → Made (all_finishes call.core last_session) [] now.ports news → EndsCall call (hands_with now news) ending
  closed_call news made =
      let rest = own_rest call limit (left_closed call ending) engine commands places now goes.bindings goes.stands in
      goes.stands.goes_on (own_offers call limit (left_closed call ending) engine commands places now goes.bindings goes.stands) rest.0 rest.1 (hands_with now news) ending
      (inl (refl, [], record { made = ends_with news (Ok tt) made; stay = refl }))

  -- one of them failed
  pub unclosed_call : (news : List PortView) (failed : Failed) → Fails never [] (all_finishes call.core last_session) now.ports news
      → EndsCall call (hands_with now news) Fault
  unclosed_call news failed fails =
      let rest = own_rest call limit (left_closed call ending) engine commands places now goes.bindings goes.stands in
      goes.stands.goes_on (own_offers call limit (left_closed call ending) engine commands places now goes.bindings goes.stands) rest.0 rest.1 (hands_with now news) Fault
      (inr (
        refl,
        record {
          fails = Fails-any (session_few call.source call.text goes.bindings.port) goes.bindings.taken
              (finish_each (other_names std_out (output_ports call.core last_session) ++ std_out ∷ [])) now.ports news (ends_with news (Err failed) fails);
          stay = refl;
        },
      ))

module _ (call : Call) (ending : Ending) (session : Served) (now : Hands) (at : StandsClosed call ending session now) (core : Core) (is : core ≡ core_of session.engine) where
  is_call : core ≡ call.core
  is_call = is ∙ at.closes.stands.rests.is_core

  abbrev ended : Session
  ended = last_session call at.limit ending session.engine at.commands session.places now at.closes

  closable : AreClosable core ended (names now.ports) session.places.streams.items session.places.std_out
  closable = subst (λ (c : Core). AreClosable c ended (names now.ports) session.places.streams.items session.places.std_out) (sym is_call)
      (are_closable call at.limit ending session.engine at.commands session.places now at.closes)

  pub session_closable : (s : Session) × AreClosable core s (names now.ports) session.places.streams.items session.places.std_out
  session_closable = (ended, closable)

  pub session_closed : (news : List PortView) (result : Result (Unit {0}) Failed)
      → ((s : Session) → AreClosable core s (names now.ports) session.places.streams.items session.places.std_out → Ends never [] (all_finishes core s) [] now.ports news result)
      → EndsClosed call ending (hands_with now news) result
  session_closed news (Ok done) ends =
      closed_call call at.limit ending session.engine at.commands session.places now at.closes news
      (subst (λ (c : Core). Made (all_finishes c ended) [] now.ports news) is_call (ends ended closable))
  session_closed news (Err failed) ends =
      unclosed_call call at.limit ending session.engine at.commands session.places now at.closes news failed
      (subst (λ (c : Core). Fails never [] (all_finishes c ended) now.ports news) is_call (ends ended closable))
