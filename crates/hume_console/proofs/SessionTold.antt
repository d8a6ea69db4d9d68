-- A line of a session that is bad, and what a session does over ports that are lent.
use Rattle.std.proofs.Common.{◌≡◌, ℕ, ◌+◌, ◌≤◌, List, [], ◌∷◌, ◌++◌, length, map, take, drop, refl, ap, sym, ◌∙◌, subst, arith, Result, Ok, Err}
use Rattle.hume_ports.specs.declared.port.Failed.{Failed}
use Rattle.hume_ports.specs.Port.{PortView}
use Rattle.hume_ports.specs.Ports.{names}
use Rattle.hume_text.specs.Chunks.{room_of}
use Rattle.port_acts.specs.Acts.{writes}
use Rattle.port_acts.specs.Ends.{Ends, never}
use Rattle.port_acts.specs.Places.{IsPlaceOf}
use Rattle.phase_workers.specs.Engines.{core_of}
use Rattle.run_rounds.specs.Streams.{std_out}
use Rattle.run_rounds.specs.Writes.{bad_value_line}
use Rattle.hume_console.specs.declared.ending.Ending.{Ending}
use Rattle.hume_console.specs.declared.ending.Ending.TheVariants.{BadValue}
use Rattle.hume_console.specs.declared.session.Session.{Session as Served}
use Rattle.hume_console.specs.Words.{std_in}
use Rattle.hume_console.specs.Hands.{Hands}
use Rattle.hume_console.specs.inner.Answering.{EndsLine, EndsLines, IsRoomy, StandsAt, left_bad_command, left_closed}
use Rattle.hume_console.specs.inner.Lines.{EndsNext, StandsBad}
use Rattle.hume_console.specs.declared.answering.Turn.{Turn}
use Rattle.hume_console.specs.declared.command_lines.Next.{Next}
use Rattle.hume_console.specs.declared.command_lines.Next.TheVariants.{Line}
use Rattle.hume_console.proofs.Lent.{as_many, lent_back, written_back}
use Rattle.hume_console.specs.inner.Standing.{Call, GoesOn}
use Rattle.hume_console.specs.declared.places.Places.{Places}
use Rattle.phase_workers.specs.Engines.{EngineView as Engine}
use Rattle.hume_console.proofs.LinesAnswered.{out_place, rooms_after}
use Rattle.hume_console.proofs.Standings.{hands_with, unwritten, written}

-- the answer once the bad line is told
abbrev pub bad_after : Result (Unit {0}) Failed → Result Ending Failed
bad_after (Ok done) = Ok BadValue
bad_after (Err failed) = Err failed

module _ (call : Call) (number : ℕ) (old new : Served) (now : Hands) (news : List PortView) (at : StandsBad call number old now) where
  pub bad_out : IsPlaceOf std_out (names now.ports) old.places.std_out
  bad_out = out_place call at.limit (left_bad_command call number) old.engine at.commands old.places now at.goes.bindings at.goes.stands

  pub bad_told : new.engine ≡ old.engine → new.places ≡ old.places → (result : Result (Unit {0}) Failed)
      → Ends never [] (writes std_out (bad_value_line std_in number) ∷ []) [] now.ports news result → EndsLines call new (hands_with now news) (bad_after result)
  bad_told engine places (Ok done) made = record {
    limit = at.limit;
    commands = at.commands;
    closes = subst (λ (e : Engine). GoesOn call at.limit (left_closed call BadValue) e at.commands new.places (hands_with now news)) (sym engine)
        (subst (λ (p : Places). GoesOn call at.limit (left_closed call BadValue) old.engine at.commands p (hands_with now news)) (sym places) goes);
  }
    where
      goes : GoesOn call at.limit (left_closed call BadValue) old.engine at.commands old.places (hands_with now news)
      goes = record {
        bindings = at.goes.bindings;
        stands = written call at.limit (left_bad_command call number) old.engine at.commands old.places now at.goes.bindings at.goes.stands
            (writes std_out (bad_value_line std_in number) ∷ []) news (left_closed call BadValue) (λ offers rest. refl) made (λ session rest. refl);
      }
  bad_told engine places (Err failed) fails =
      unwritten call at.limit (left_bad_command call number) old.engine at.commands old.places now at.goes.bindings at.goes.stands
      (writes std_out (bad_value_line std_in number) ∷ []) news (left_closed call BadValue) (λ offers rest. refl) fails

-- there is room as before
pub roomy_after : (old new : Served) → IsRoomy old → new.workers ≡ old.workers → new.engine ≡ old.engine → room_of new.chunk ≡ room_of old.chunk → IsRoomy new
roomy_after old new roomy workers engine room =
    let least = roomy.workers in
    record {
      workers = subst (λ k. k ≤ 65536) (sym workers) least;
      rooms = rooms_after old.engine new.engine old.chunk new.chunk roomy.rooms (ap core_of engine) room;
    }

-- where the next line is

pub next_as : (call : Call) (number : ℕ) (session : Served) (now : Hands) (result other : Result Next Failed) → result ≡ other
    → EndsNext call number session now result → EndsNext call number session now other
next_as call number session now result other is ends = subst (EndsNext call number session now) is ends

pub is_line : (result : Result Next Failed) (next : Next) (count : ℕ) → result ≡ Ok next → next ≡ Line count → result ≡ Ok (Line count)
is_line result next count is field = is ∙ ap Ok field

-- over ports that are lent

pub at_lent : {X : Type 0} (view : X → PortView) (items lent : List X) (call : Call) (number : ℕ) (session : Served) (gone : List PortView) → lent ≡ items
    → StandsAt call number session (record { ports = map view items; gone = gone }) → StandsAt call number session (record { ports = map view lent; gone = gone })
at_lent view items lent call number session gone is at =
    subst (λ xs. StandsAt call number session (record { ports = map view xs; gone = gone })) (sym is) at

module _ {X : Type 0} (view : X → PortView) (items lent news : List X) (len : ℕ) (long : length lent ≡ len) (is : lent ≡ items)
    (same : names (map view news) ≡ names (map view lent)) (call : Call) (number : ℕ) (session : Served) (gone : List PortView) where
  abbrev there : List PortView
  there = map view (take len (news ++ drop (length news) items))

  pub next_back : (result : Result Next Failed) → EndsNext call number session (record { ports = map view news; gone = gone }) result
      → EndsNext call number session (record { ports = there; gone = gone }) result
  next_back result ends = subst (λ (ports : List PortView). EndsNext call number session (record { ports = ports; gone = gone }) result)
      (sym (lent_back view items lent news len long is same)) ends

  pub lines_back : (result : Result Ending Failed) → EndsLines call session (record { ports = map view news; gone = gone }) result
      → EndsLines call session (record { ports = there; gone = gone }) result
  lines_back result ends = subst (λ (ports : List PortView). EndsLines call session (record { ports = ports; gone = gone }) result)
      (sym (lent_back view items lent news len long is same)) ends

  -- there are as many ports as before
  pub room_back : (gone_len capacity : ℕ) → gone_len + length items ≤ capacity → gone_len + length (take len (news ++ drop (length news) items)) ≤ capacity
  room_back gone_len capacity room =
      subst (λ xs. gone_len + length xs ≤ capacity) (sym (written_back view items lent news len long is same))
      (omega (arith, room, as_many view items lent news len long is same))

-- the ports of a bad line, over ports that are lent
pub bad_lent : {X : Type 0} (view : X → PortView) (items lent : List X) (call : Call) (number : ℕ) (session : Served) (gone : List PortView) → lent ≡ items
    → StandsBad call number session (record { ports = map view items; gone = gone }) → StandsBad call number session (record { ports = map view lent; gone = gone })
bad_lent view items lent call number session gone is at =
    subst (λ xs. StandsBad call number session (record { ports = map view xs; gone = gone })) (sym is) at

pub lines_as : (call : Call) (session : Served) (now : Hands) (result other : Result Ending Failed) → result ≡ other → EndsLines call session now result
    → EndsLines call session now other
lines_as call session now result other is ends = subst (EndsLines call session now) is ends

-- The lines before some number were answered: wherever a call stood at first, it has come there.
pub record Answering (first session : Served) (then now : Hands) (gone ports capacity done : ℕ) : Type 0 where
  pub roomy : IsRoomy session
  pub room : gone + ports ≤ capacity
  pub at : (call : Call) → StandsAt call 1 first then → StandsAt call (done + 1) session now

pub answered_on : (first session next : Served) (then now later : Hands) (gone ports capacity gone_later ports_later capacity_later done : ℕ)
    → Answering first session then now gone ports capacity done → ((call : Call) → StandsAt call (done + 1) session now → StandsAt call (done + 1 + 1) next later)
    → IsRoomy next → gone_later + ports_later ≤ capacity_later → Answering first next then later gone_later ports_later capacity_later (done + 1)
answered_on first session next then now later gone ports capacity gone_later ports_later capacity_later done answering step roomy room = record {
  roomy = roomy;
  room = room;
  at = λ call at. step call (answering.at call at);
}

pub line_as : (call : Call) (number : ℕ) (session : Served) (now : Hands) (result other : Result Turn Failed) → result ≡ other → EndsLine call number session now result
    → EndsLine call number session now other
line_as call number session now result other is ends = subst (EndsLine call number session now) is ends

pub number_as : (call : Call) (number other : ℕ) (session : Served) (now : Hands) → number ≡ other → StandsAt call number session now → StandsAt call other session now
number_as call number other session now is at = subst (λ k. StandsAt call k session now) is at
