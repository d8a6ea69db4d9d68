-- A list of ports that was lent as a slice has as many ports as before.
use Rattle.std.proofs.Common.{◌≡◌, ℕ, List, [], ◌++◌, length, map, take, drop, ap, sym, ◌∙◌, subst, arith, append-nil, Option, Result}
use Rattle.std.proofs.lemmas.List.{drop_all, length-map, take_all}
use Rattle.hume_ports.specs.Port.{PortView}
use Rattle.hume_ports.specs.Ports.{names}
use Rattle.hume_ports.specs.declared.port.Failed.{Failed}
use Rattle.port_acts.specs.Acts.{Act}
use Rattle.port_acts.specs.Ends.{Ends, never}
use Rattle.port_acts.specs.Places.{IsPlaceOf}
use Rattle.phase_workers.specs.Engines.{EngineView as Engine}
use Rattle.run_rounds.specs.Streams.{std_out}
use Rattle.hume_console.specs.declared.answering.Turn.{Turn}
use Rattle.hume_console.specs.declared.ending.Ending.{Ending}
use Rattle.hume_console.specs.declared.places.Places.{Places}
use Rattle.hume_console.specs.Commands.{Command}
use Rattle.hume_console.specs.inner.Answering.{EndsAnswer, IsMoment, Moment, left_asked}
use Rattle.hume_console.specs.inner.Standing.{Call, Commands, EndsCall, Later}

module _ {X : Type 0} (view : X → PortView) (items lent news : List X) (len : ℕ) (long : length lent ≡ len) (is : lent ≡ items)
    (same : names (map view news) ≡ names (map view lent)) where
  pub as_many : length news ≡ length items
  as_many = sym (length-map (map view news) (λ (port : PortView). port.name) ∙ length-map news view) ∙ ap length same
      ∙ length-map (map view lent) (λ (port : PortView). port.name) ∙ length-map lent view ∙ ap length is

  -- what is written back is what the slice held
  pub written_back : take len (news ++ drop (length news) items) ≡ news
  written_back =
      ap (λ (rest : List X). take len (news ++ rest)) (drop_all (length news) items (omega (arith, as_many)))
      ∙ ap (take len) (append-nil news) ∙ take_all len news (omega (arith, as_many, long, ap length is))

  pub lent_back : map view (take len (news ++ drop (length news) items)) ≡ map view news
  lent_back = ap (map view) written_back

  -- a call that has ended
  pub ended_back : (call : Call) (gone : List PortView) (ending : Ending) → EndsCall call (record { ports = map view news; gone = gone }) ending
      → EndsCall call (record { ports = map view (take len (news ++ drop (length news) items)); gone = gone }) ending
  ended_back call gone ending ends = subst (λ (ports : List PortView). EndsCall call (record { ports = ports; gone = gone }) ending) (sym lent_back) ends

  -- a turn that is answered
  pub answered_back : (call : Call) (limit : ℕ) (later : Later) (engine : Engine) (commands : Commands) (places : Places) (gone : List PortView) (result : Result Turn Failed)
      → EndsAnswer call limit later engine commands places (record { ports = map view news; gone = gone }) result
      → EndsAnswer call limit later engine commands places (record { ports = map view (take len (news ++ drop (length news) items)); gone = gone }) result
  answered_back call limit later engine commands places gone result ends =
      subst (λ (ports : List PortView). EndsAnswer call limit later engine commands places (record { ports = ports; gone = gone }) result) (sym lent_back) ends

-- the place of `std_out` among ports that are lent
pub out_lent : {X : Type 0} (view : X → PortView) (lent items : List X) (at : ℕ) → lent ≡ items → IsPlaceOf std_out (names (map view items)) at
    → IsPlaceOf std_out (names (map view lent)) at
out_lent view lent items at is place = subst (λ xs. IsPlaceOf std_out (names (map view xs)) at) (sym is) place

-- acts on ports that are lent
pub ends_lent : {X : Type 0} (view : X → PortView) (lent items : List X) (news : List PortView) (acts : List Act) (result : Result (Unit {0}) Failed) → lent ≡ items
    → Ends never [] acts [] (map view lent) news result → Ends never [] acts [] (map view items) news result
ends_lent view lent items news acts result is ends = subst (λ xs. Ends never [] acts [] (map view xs) news result) is ends

-- a line that is to be answered over ports that are lent
pub moment_lent : {X : Type 0} (view : X → PortView) (items lent : List X) (m : Moment) (number : ℕ) (asked : Option Command) (engine : Engine) (places : Places)
    (gone : List PortView) → lent ≡ items → IsMoment m (left_asked m.call number asked m.later) engine places (record { ports = map view items; gone = gone })
    → IsMoment m (left_asked m.call number asked m.later) engine places (record { ports = map view lent; gone = gone })
moment_lent view items lent m number asked engine places gone is at =
    subst (λ xs. IsMoment m (left_asked m.call number asked m.later) engine places (record { ports = map view xs; gone = gone })) (sym is) at
