-- How a call serves a session over ports that are lent.
use Rattle.std.proofs.Common.{◌≡◌, ℕ, List, ◌++◌, length, map, take, drop, sym, subst, Result, Ok, Err}
use Rattle.hume_ports.specs.declared.port.Failed.{Failed}
use Rattle.hume_ports.specs.Port.{PortView}
use Rattle.hume_ports.specs.Ports.{names}
use Rattle.hume_console.specs.declared.ending.Ending.{Ending}
use Rattle.hume_console.specs.declared.ending.Ending.TheVariants.{Fault}
use Rattle.hume_console.specs.declared.places.Places.{Places}
use Rattle.hume_console.specs.declared.session.Session.{Session as Served}
use Rattle.hume_console.specs.inner.Answering.{EndsLines, StandsAt, StandsClosed}
use Rattle.hume_console.specs.inner.Begun.{EndsTable, HasBegun}
use Rattle.hume_console.specs.inner.Closing.{EndsClosed}
use Rattle.hume_console.specs.inner.Standing.{Call, EndsCall}
use Rattle.hume_console.proofs.Lent.{ended_back, lent_back}

pub begun_lent : {X : Type 0} (view : X → PortView) (items lent : List X) (call : Call) (places : Places) (gone : List PortView) → lent ≡ items
    → HasBegun call places (record { ports = map view items; gone = gone }) → HasBegun call places (record { ports = map view lent; gone = gone })
begun_lent view items lent call places gone is begun =
    subst (λ xs. HasBegun call places (record { ports = map view xs; gone = gone })) (sym is) begun

module _ {X : Type 0} (view : X → PortView) (items lent news : List X) (len : ℕ) (long : length lent ≡ len) (is : lent ≡ items)
    (same : names (map view news) ≡ names (map view lent)) (call : Call) (gone : List PortView) where
  abbrev there : List PortView
  there = map view (take len (news ++ drop (length news) items))

  module _ (session : Served) (places : Places) (result : Result (Unit {0}) Failed)
      (ends : HasBegun call places (record { ports = map view lent; gone = gone }) → EndsTable call session (record { ports = map view news; gone = gone }) result)
      (begun : HasBegun call places (record { ports = map view items; gone = gone })) where
    told : EndsTable call session (record { ports = map view news; gone = gone }) result
    told = ends (begun_lent view items lent call places gone is begun)

    -- the table is told, and all lines are left
    pub told_back : (done : Unit {0}) → result ≡ Ok done → StandsAt call 1 session (record { ports = there; gone = gone })
    told_back done ok =
        subst (λ (ports : List PortView). StandsAt call 1 session (record { ports = ports; gone = gone })) (sym (lent_back view items lent news len long is same))
        (subst (EndsTable call session (record { ports = map view news; gone = gone })) ok told)

    -- it could not be told
    pub untold_back : (failed : Failed) → result ≡ Err failed → EndsCall call (record { ports = there; gone = gone }) Fault
    untold_back failed err =
        ended_back view items lent news len long is same call gone Fault
        (subst (EndsTable call session (record { ports = map view news; gone = gone })) err told)

  module _ (ending : Ending) (result : Result (Unit {0}) Failed)
      (ends : EndsClosed call ending (record { ports = map view news; gone = gone }) result) where
    -- all ports are finished
    pub closed_back : (done : Unit {0}) → result ≡ Ok done → EndsCall call (record { ports = there; gone = gone }) ending
    closed_back done ok =
        ended_back view items lent news len long is same call gone ending
        (subst (EndsClosed call ending (record { ports = map view news; gone = gone })) ok ends)

    -- one of them could not be finished
    pub unclosed_back : (failed : Failed) → result ≡ Err failed → EndsCall call (record { ports = there; gone = gone }) Fault
    unclosed_back failed err =
        ended_back view items lent news len long is same call gone Fault
        (subst (EndsClosed call ending (record { ports = map view news; gone = gone })) err ends)

-- the lines have ended with an answer, and the ports are lent to be finished
pub closed_lent : {X : Type 0} (view : X → PortView) (items lent : List X) (call : Call) (session : Served) (gone : List PortView) → lent ≡ items
    → (result : Result Ending Failed) (ending : Ending) → result ≡ Ok ending → EndsLines call session (record { ports = map view items; gone = gone }) result
    → StandsClosed call ending session (record { ports = map view lent; gone = gone })
closed_lent view items lent call session gone is result ending ok ends =
    subst (λ xs. StandsClosed call ending session (record { ports = map view xs; gone = gone })) (sym is)
    (subst (EndsLines call session (record { ports = map view items; gone = gone })) ok ends)
