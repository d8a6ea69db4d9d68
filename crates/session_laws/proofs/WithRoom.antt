-- Where each port has room for what a course writes to it, no act fails.
use Rattle.std.proofs.Common.{◌≡◌, ℕ, suc, ◌≤◌, eqb, ◌==◌, Bool, false, List, [], ◌∷◌, ◌++◌, length, Option, None, Some, refl, ap, sym, ◌∙◌, subst, arith, inl, inr, length-append}
use Rattle.std.specs.Prelude.{slice_get, if◌then◌else◌}
use Rattle.std.specs.List.{remove}
use Rattle.std.specs.Io.KnownBytes.{Appends}
use Rattle.hume_ports.specs.Delivery.{HasRoom, Pairs, Roomy, without}
use Rattle.hume_ports.specs.Port.{PortView}
use Rattle.hume_ports.specs.Ports.{names}
use Rattle.port_acts.specs.Acts.{written}
use Rattle.port_acts.specs.Early.{Reads, read_each}
use Rattle.port_acts.specs.Ends.{Fails, Few}
use Rattle.hume_calls.specs.Few.{source_few}
use Rattle.hume_calls.specs.Reading.{source_reads}
use Rattle.hume_console.specs.declared.ending.Ending.{Ending}
use Rattle.hume_console.specs.declared.ending.Ending.TheVariants.{Fault, NoMemory}
use Rattle.hume_console.specs.Courses.{Bound, Course, ends, leaves, first_do, EndsCourse}
use Rattle.hume_console.specs.EachPort.{bytes_at, written_to}
use Rattle.hume_console.specs.Hands.{Hands, place_without}
use Rattle.hume_console.specs.Headline.{EndsUntold}
use Rattle.session_laws.specs.Rooms.{HasRoomFor}
use Rattle.session_laws.proofs.OwnActs.{AnswersWell}
use Rattle.session_laws.proofs.ServedSoFar.{written_behind}
use Rattle.session_laws.proofs.Stretches.{delivered_at, left_from, names_without, none_at, not_it, same_at, same_fact, some_is}

less_room : (port : PortView) (more fewer : ℕ) → fewer ≤ more → HasRoom port more → HasRoom port fewer
less_room port more fewer less r = record {
  room = r.room;
  bytes = r.bytes;
  told_room = r.told_room;
  told_bytes = r.told_bytes;
  fits = (let fits = r.fits in omega (arith, fits, less));
}

-- each port by its place
pub roomy_each : (ports : List PortView) (pairs : Pairs)
    → ((at : ℕ) (port : PortView) → slice_get ports at ≡ Some port → HasRoom port (length (bytes_at at (names ports) pairs))) → Roomy ports pairs
roomy_each [] pairs each = tt
roomy_each (port ∷ ports) pairs each = (each 0 port refl, roomy_each ports (without port.name pairs) (λ at next is. each (suc at) next is))

grown : (a b : Option (List ℕ)) (x y : List ℕ) → a ≡ Some x → Appends a b y → b ≡ Some (x ++ y)
grown None b x y e h = cc
grown (Some a) None x y e h = absurd h
grown (Some a) (Some b) x y e h = let same : a ≡ x = cc in ap (λ (bytes : List ℕ). Some bytes) (h ∙ ap (λ (bytes : List ℕ). bytes ++ y) same)

-- room for all is room for the rest once the first are written
rest_room : (old new : PortView) (first rest : List ℕ) → new.room ≡ old.room → Appends old.bytes new.bytes first → HasRoom old (length (first ++ rest))
    → HasRoom new (length rest)
rest_room old new first rest room moved r = record {
  room = r.room;
  bytes = r.bytes ++ first;
  told_room = room ∙ r.told_room;
  told_bytes = grown old.bytes new.bytes r.bytes first r.told_bytes moved;
  fits = (let fits = r.fits in let all = length-append first rest in let had = length-append r.bytes first in omega (arith, fits, all, had));
}

module _ (few : Bound → Few) where
  pub no_fault : (earlier : Pairs) (course : Course) (old new : Hands) (ending : Ending) → AnswersWell course → HasRoomFor old.ports course
      → EndsCourse few earlier course old new ending → ending ≡ Fault → ⊥
  no_fault earlier (ends bound acts answer) old new ending fine room (inl done) is = fine (sym done.0 ∙ is)
  no_fault earlier (ends bound acts answer) old new ending fine room (inr failed) is =
      failed.1.fails.no_room (roomy_each old.ports (written acts) room)
  no_fault earlier (leaves bound acts leaving later) old new ending fine room (inr failed) is =
      failed.1.fails.no_room (roomy_each old.ports (written acts) (λ at port there.
      let more : List ℕ = if leaving == at then [] else written_to (place_without leaving at) (remove (names old.ports) leaving) later in
      let all = length-append (bytes_at at (names old.ports) (written acts)) more in
      less_room port (length (bytes_at at (names old.ports) (written acts) ++ more)) (length (bytes_at at (names old.ports) (written acts)))
      (omega (arith, all)) (room at port there)))
  no_fault earlier (leaves bound acts leaving later) old new ending fine room (inl left) is =
      no_fault (without left.1.leaves.port.name (earlier ++ left.1.taken)) later left.0 new ending fine left_room left.2 is
    where
      left_names : names left.0.ports ≡ remove (names old.ports) leaving
      left_names = names_without left.1.mid.ports left.0.ports leaving left.1.leaves.others
          ∙ ap (λ (ns : List (List ℕ)). remove ns leaving) left.1.does.made.progress.same_names

      left_room : HasRoomFor left.0.ports later
      left_room at port there =
          let from = left_from left.1.mid.ports leaving at port (sym (ap (λ (ports : List PortView). slice_get ports at) left.1.leaves.others) ∙ there) in
          let first = same_at (λ p. p.name) old.ports left.1.mid.ports left.1.does.made.progress.same_names from.before port from.was in
          let moved = delivered_at old.ports left.1.mid.ports (written acts) from.before first.0 left.1.does.made.progress.delivered first.1 in
          let same : moved.0 ≡ port = some_is (sym moved.1 ∙ from.was) in
          let bytes : List ℕ = bytes_at from.before (names old.ports) (written acts) in
          let appends : Appends first.0.bytes port.bytes bytes = subst (λ (p : PortView). Appends first.0.bytes p.bytes bytes) same moved.2 in
          let kept : port.room ≡ first.0.room = same_fact (λ p. p.room) old.ports left.1.mid.ports left.1.does.made.progress.same_rooms from.before first.0 port first.1 from.was in
          let other : eqb leaving from.before ≡ false = not_it leaving from.before from.differs (eqb leaving from.before) refl in
          let more : List ℕ = written_to (place_without leaving from.before) (remove (names old.ports) leaving) later in
          let whole : HasRoom first.0 (length (bytes ++ more)) =
          subst (λ (b : Bool). HasRoom first.0 (length (bytes ++ (if b then [] else more)))) other (room from.before first.0 first.1) in
          let here : HasRoom port (length more) = rest_room first.0 port bytes more kept appends whole in
          subst (λ (place : ℕ). HasRoom port (length (written_to place (names left.0.ports) later))) (sym from.place)
          (subst (λ (ns : List (List ℕ)). HasRoom port (length (written_to (place_without leaving from.before) ns later))) (sym left_names) here)

pub room_behind : (reads : Reads) (course : Course) (ports : List PortView) → HasRoomFor ports course → HasRoomFor ports (first_do (read_each reads) course)
room_behind reads course ports room at port there =
    subst (λ (bytes : List ℕ). HasRoom port (length bytes)) (sym (written_behind reads course at (names ports))) (room at port there)

-- a read of the source alone
unread_room : (source : List ℕ) (old new : Hands) → ((at : ℕ) (port : PortView) → slice_get old.ports at ≡ Some port → HasRoom port 0)
    → Fails (source_few source) [] (read_each (source_reads source)) old.ports new.ports → ⊥
unread_room source old new room f =
    f.no_room (roomy_each old.ports [] (λ at port there.
    subst (λ (bytes : List ℕ). HasRoom port (length bytes)) (sym (none_at at (names old.ports))) (room at port there)))

pub untold_room : (source : List ℕ) (old new : Hands) (ending : Ending) → EndsUntold source old new ending
    → ((at : ℕ) (port : PortView) → slice_get old.ports at ≡ Some port → HasRoom port 0) → ending ≡ Fault → ⊥
untold_room source old new ending (stay, inl (is, stops)) room fault = let wrong : NoMemory ≡ Fault = sym is ∙ fault in cc
untold_room source old new ending (stay, inr (is, fails)) room fault = unread_room source old new room fails.fails
