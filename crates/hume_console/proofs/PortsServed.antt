-- What a course makes of each port.
use Rattle.std.proofs.Common.{◌≡◌, ℕ, zero, suc, ◌+◌, ◌-◌, nat_lt, eqb, cond, Bool, true, false, ◌&&◌, ◌⊎◌, List, [], ◌∷◌, ◌++◌, length, Option, None, Some, refl, ap, sym, ◌∙◌, subst, arith, inl, inr, append-nil, append_assoc, length-append}
use Rattle.std.specs.Prelude.{slice_get, if◌then◌else◌, ◌==◌}
use Rattle.std.specs.List.{remove}
use Rattle.std.specs.Option.{option_map, unwrap_or}
use Rattle.std.specs.Str.{bytes_eq}
use Rattle.std.specs.Io.KnownBytes.{Appends}
use Rattle.std.proofs.KnownBytes.{Appends-trans}
use Rattle.std.proofs.lemmas.Bool.{cases_Bool, eqb-true, eq-eqb, lt-ltb, true≢false}
use Rattle.std.proofs.lemmas.List.{length-map}
use Rattle.std.proofs.lemmas.List.Edits.{length-remove}
use Rattle.std.proofs.lemmas.Option.{slice_get-map, slice_get_within}
use Rattle.hume_ports.specs.Port.{PortView}
use Rattle.hume_ports.specs.Ports.{names, of_first, place_of}
use Rattle.hume_ports.specs.Delivery.{Pairs, EachPort, bytes_for, without}
use Rattle.hume_ports.proofs.Names.{place-zero, place-suc}
use Rattle.port_acts.specs.Acts.{Act, written, is_finished, is_out_after}
use Rattle.port_acts.specs.Early.{Reads, read_each}
use Rattle.port_acts.specs.Ends.{Few, Made}
use Rattle.port_acts.proofs.ActLists.{written-append}
use Rattle.hume_console.specs.declared.ending.Ending.{Ending}
use Rattle.hume_console.specs.declared.ending.Ending.TheVariants.{Fault}
use Rattle.hume_console.specs.Hands.{Hands, place_without}
use Rattle.hume_console.specs.Courses.{Bound, Course, ends, leaves, first_do, EndsCourse}
use Rattle.hume_console.specs.EachPort.{Stand, there, gone, behind_one, stand_after, bytes_at, written_to, is_place, finish_at, finishes_last, StandsAs, IsServed}
use Rattle.hume_console.proofs.Leaving.{shifted, first_stays}

-- places

both_true : (a b : Bool) → a && b ≡ true → (a ≡ true) × (b ≡ true)
both_true true b e = (refl, e)
both_true false b e = cc

place_is : (at : ℕ) (place : Option ℕ) → is_place at place ≡ true → place ≡ Some at
place_is at None e = cc
place_is at (Some other) e = ap (λ n. Some n) (eqb-true other at e)

-- the port that stands behind one that is taken out has its place without it
stays_there : {X : Type 0} (xs : List X) (leaving at : ℕ) (x : X) → (leaving ≡ at → ⊥) → slice_get xs at ≡ Some x
    → slice_get (remove xs leaving) (place_without leaving at) ≡ Some x
stays_there [] leaving at x differ e = cc
stays_there (y ∷ xs) zero zero x differ e = absurd (differ refl)
stays_there (y ∷ xs) zero (suc at) x differ e =
    let less : nat_lt 0 (suc at) ≡ true = lt-ltb 0 (suc at) (omega arith) in
    let place : at ≡ suc at - 1 = omega arith in
    ap (slice_get xs) (sym (place ∙ sym (ap (λ b. cond b (suc at - 1) (suc at)) less))) ∙ e
stays_there (y ∷ xs) (suc leaving) zero x differ e =
    ap (slice_get (y ∷ remove xs leaving)) (sym (first_stays (nat_lt (suc leaving) 0))) ∙ e
stays_there (y ∷ xs) (suc leaving) (suc at) x differ e =
    ap (slice_get (y ∷ remove xs leaving)) (shifted leaving at) ∙ stays_there xs leaving at x (λ same. differ (ap suc same)) e

behind_all : {X : Type 0} (xs ys : List X) (at : ℕ) → slice_get (xs ++ ys) (length xs + at) ≡ slice_get ys at
behind_all [] ys at =
    let place : 0 + at ≡ at = omega arith in
    ap (slice_get ys) place
behind_all (x ∷ xs) ys at =
    let place : length (x ∷ xs) + at ≡ suc (length xs + at) = omega arith in
    ap (slice_get (x ∷ (xs ++ ys))) place ∙ behind_all xs ys at

-- a fact of the first port of a name is one of the port at its place
first_there : {X : Type 0} (default : X) (fact : PortView → X) (name : List ℕ) (ports : List PortView) (at : ℕ) (port : PortView)
    → place_of name (names ports) ≡ Some at → slice_get ports at ≡ Some port → of_first default fact name ports ≡ fact port
first_there default fact name [] at port e is = cc
first_there default fact name (first ∷ others) zero port e is =
    let here = place-zero (bytes_eq first.name name) (place_of name (names others)) e in
    let same : first ≡ port = cc in
    ap (λ b. cond b (fact first) (of_first default fact name others)) here ∙ ap fact same
first_there default fact name (first ∷ others) (suc at) port e is =
    let behind = place-suc (bytes_eq first.name name) (place_of name (names others)) at e in
    ap (λ b. cond b (fact first) (of_first default fact name others)) behind.0 ∙ first_there default fact name others at port behind.1 is

some_is : {X : Type 0} {x y : X} → Some x ≡ Some y → x ≡ y
some_is e = cc

-- one stretch

-- each port has moved by the bytes that go to it
moved_at : (moves : PortView → PortView → List ℕ → Type 0) (olds news : List PortView) (pairs : Pairs) (at : ℕ) (old : PortView)
    → EachPort moves olds news pairs → slice_get olds at ≡ Some old
    → (new : PortView) × (slice_get news at ≡ Some new) × moves old new (bytes_at at (names olds) pairs)
moved_at moves [] news pairs at old d e = cc
moved_at moves (first ∷ olds) [] pairs at old d e = absurd d
moved_at moves (first ∷ olds) (new ∷ news) pairs zero old d e =
    let same : first ≡ old = cc in
    (new, refl, subst (λ (port : PortView). moves port new (bytes_for first.name pairs)) same d.0)
moved_at moves (first ∷ olds) (new ∷ news) pairs (suc at) old d e = moved_at moves olds news (without first.name pairs) at old d.1 e

-- what acts that were made have made of a port
record Stretch (acts : List Act) (at : ℕ) (port : PortView) (olds news : List PortView) : Type 0 where
  pub last : PortView
  pub is : slice_get news at ≡ Some last
  pub same_name : last.name ≡ port.name
  pub bytes : Appends port.bytes last.bytes (bytes_at at (names olds) (written acts))
  pub flushed : finish_at at (names olds) acts ≡ true → last.flushed ≡ true

named_at : (ports : List PortView) (at : ℕ) (port : PortView) → slice_get ports at ≡ Some port → slice_get (names ports) at ≡ Some port.name
named_at ports at port is = slice_get-map (λ (p : PortView). p.name) ports at ∙ ap (option_map (λ (p : PortView). p.name)) is

stretch : (acts : List Act) (taken : Pairs) (olds news : List PortView) (at : ℕ) (port : PortView) → Made acts taken olds news → slice_get olds at ≡ Some port
    → Stretch acts at port olds news
stretch acts taken olds news at port made is =
    let moved = moved_at (λ old new bytes. Appends old.bytes new.bytes bytes) olds news (written acts) at port made.progress.delivered is in
    let old_name : slice_get (names olds) at ≡ Some port.name = named_at olds at port is in
    let new_name : slice_get (names news) at ≡ Some moved.0.name = named_at news at moved.0 moved.1 in
    let names_there : slice_get (names news) at ≡ slice_get (names olds) at = ap (λ (ns : List (List ℕ)). slice_get ns at) made.progress.same_names in
    let same : moved.0.name ≡ port.name = cc in
    record {
      last = moved.0;
      is = moved.1;
      same_name = same;
      bytes = moved.2;
      flushed = λ finished. (
          let its = ap (λ o. unwrap_or (option_map (λ name. is_place at (place_of name (names olds)) && is_finished name acts) o) false) (sym old_name) ∙ finished in
          let both = both_true (is_place at (place_of port.name (names olds))) (is_finished port.name acts) its in
          let place : place_of port.name (names news) ≡ Some at =
          ap (place_of port.name) made.progress.same_names ∙ place_is at (place_of port.name (names olds)) both.0 in
          sym (first_there false (λ p. p.flushed) port.name news at moved.0 place moved.1) ∙ made.flushed port.name both.1);
    }

-- a course

names_without : (ports mids : List PortView) (leaving : ℕ) → mids ≡ remove ports leaving → names mids ≡ remove (names ports) leaving
names_without ports mids leaving e = ap names e ∙ map-remove_names ports leaving
  where
    map-remove_names : (xs : List PortView) (i : ℕ) → names (remove xs i) ≡ remove (names xs) i
    map-remove_names [] zero = refl
    map-remove_names [] (suc i) = refl
    map-remove_names (x ∷ xs) zero = refl
    map-remove_names (x ∷ xs) (suc i) = ap (λ ns. x.name ∷ ns) (map-remove_names xs i)

one_behind : (stand : Stand) (old mid new : Hands) (port : PortView) → length mid.gone ≡ length old.gone + 1 → StandsAs stand mid new port
    → StandsAs (behind_one stand) old new port
one_behind (there at) old mid new port more is = is
one_behind (gone at) old mid new port more is =
    let place : length mid.gone + at ≡ length old.gone + (at + 1) = omega (arith, more) in
    ap (slice_get new.gone) (sym place) ∙ is

as_many : (olds news : List PortView) → names news ≡ names olds → length news ≡ length olds
as_many olds news same = sym (length-map news (λ (p : PortView). p.name)) ∙ ap length same ∙ length-map olds (λ (p : PortView). p.name)

module _ (few : Bound → Few) where
  -- what has left on the way stands behind what had left before
  gone_on : (earlier : Pairs) (course : Course) (old new : Hands) (ending : Ending) → EndsCourse few earlier course old new ending → (ending ≡ Fault → ⊥)
      → (more : List PortView) × (new.gone ≡ old.gone ++ more)
  gone_on earlier (ends bound acts answer) old new ending (inl done) sound = ([], done.2.stay ∙ sym (append-nil old.gone))
  gone_on earlier (ends bound acts answer) old new ending (inr failed) sound = absurd (sound failed.0)
  gone_on earlier (leaves bound acts leaving later) old new ending (inl left) sound =
      let rest = gone_on (without left.1.leaves.port.name (earlier ++ left.1.taken)) later left.0 new ending left.2 sound in
      let first : left.0.gone ≡ old.gone ++ left.1.leaves.port ∷ [] = left.1.leaves.gone ∙ ap (λ ports. ports ++ left.1.leaves.port ∷ []) left.1.does.stay in
      (left.1.leaves.port ∷ rest.0, rest.1 ∙ ap (λ ports. ports ++ rest.0) first ∙ append_assoc old.gone (left.1.leaves.port ∷ []) rest.0)
  gone_on earlier (leaves bound acts leaving later) old new ending (inr failed) sound = absurd (sound failed.0)

  pub served : (earlier : Pairs) (course : Course) (old new : Hands) (ending : Ending) → EndsCourse few earlier course old new ending → (ending ≡ Fault → ⊥)
      → (at : ℕ) (port : PortView) → slice_get old.ports at ≡ Some port → IsServed course at port old new
  served earlier (ends bound acts answer) old new ending (inl done) sound at port is =
      let made = stretch acts done.1 old.ports new.ports at port done.2.made is in
      record { last = made.last; stands = made.is; same_name = made.same_name; bytes = made.bytes; flushed = made.flushed }
  served earlier (ends bound acts answer) old new ending (inr failed) sound at port is = absurd (sound failed.0)
  served earlier (leaves bound acts leaving later) old new ending (inr failed) sound at port is = absurd (sound failed.0)
  served earlier (leaves bound acts leaving later) old new ending (inl left) sound at port is =
      by (cases_Bool (eqb leaving at)) (served (without left.1.leaves.port.name (earlier ++ left.1.taken)) later left.0 new ending left.2 sound)
    where
      made : Stretch acts at port old.ports left.1.mid.ports
      made = stretch acts left.1.taken old.ports left.1.mid.ports at port left.1.does.made is

      stayed : eqb leaving at ≡ false → IsServed later (place_without leaving at) made.last left.0 new → IsServed (leaves bound acts leaving later) at port old new
      stayed other rest =
          let left_names : names left.0.ports ≡ remove (names old.ports) leaving =
          names_without left.1.mid.ports left.0.ports leaving left.1.leaves.others
          ∙ ap (λ (ns : List (List ℕ)). remove ns leaving) left.1.does.made.progress.same_names in
          let more : length left.0.gone ≡ length old.gone + 1 =
          ap length (left.1.leaves.gone ∙ ap (λ ports. ports ++ left.1.leaves.port ∷ []) left.1.does.stay) ∙ length-append old.gone (left.1.leaves.port ∷ []) in
          record {
            last = rest.last;
            stands = rw other (one_behind (stand_after later (place_without leaving at)) old left.0 new rest.last more rest.stands);
            same_name = rest.same_name ∙ made.same_name;
            bytes = rw other (Appends-trans port.bytes made.last.bytes rest.last.bytes (bytes_at at (names old.ports) (written acts))
                (written_to (place_without leaving at) (remove (names old.ports) leaving) later) made.bytes
                (subst (λ ns. Appends made.last.bytes rest.last.bytes (written_to (place_without leaving at) ns later)) left_names rest.bytes));
            flushed = rw other (subst (λ ns. finishes_last (place_without leaving at) ns later ≡ true → rest.last.flushed ≡ true) left_names rest.flushed);
          }

      by : (eqb leaving at ≡ true) ⊎ (eqb leaving at ≡ false)
          → ((place : ℕ) (next : PortView) → slice_get left.0.ports place ≡ Some next → IsServed later place next left.0 new)
          → IsServed (leaves bound acts leaving later) at port old new
      by (inl it) on =
          let here : slice_get left.1.mid.ports at ≡ Some left.1.leaves.port = ap (slice_get left.1.mid.ports) (sym (eqb-true leaving at it)) ∙ left.1.leaves.was in
          let stays : slice_get left.1.mid.ports at ≡ Some made.last = made.is in
          let same : made.last ≡ left.1.leaves.port = some_is (sym stays ∙ here) in
          let rest = gone_on (without left.1.leaves.port.name (earlier ++ left.1.taken)) later left.0 new ending left.2 sound in
          let all : new.gone ≡ old.gone ++ left.1.leaves.port ∷ rest.0 =
          rest.1 ∙ ap (λ ports. ports ++ rest.0) (left.1.leaves.gone ∙ ap (λ ports. ports ++ left.1.leaves.port ∷ []) left.1.does.stay)
          ∙ append_assoc old.gone (left.1.leaves.port ∷ []) rest.0 in
          let place : slice_get new.gone (length old.gone + 0) ≡ Some made.last =
          ap (λ (ports : List PortView). slice_get ports (length old.gone + 0)) all ∙ behind_all old.gone (left.1.leaves.port ∷ rest.0) 0 ∙ ap (λ p. Some p) (sym same) in
          record {
            last = made.last;
            stands = rw it place;
            same_name = made.same_name;
            bytes = rw (it, append-nil) made.bytes;
            flushed = rw it made.flushed;
          }
      by (inr other) on =
          let differ : leaving ≡ at → ⊥ = λ same. true≢false (sym (eq-eqb leaving at same) ∙ other) in
          let next : slice_get left.0.ports (place_without leaving at) ≡ Some made.last =
          ap (λ (ports : List PortView). slice_get ports (place_without leaving at)) left.1.leaves.others
          ∙ stays_there left.1.mid.ports leaving at made.last differ made.is in
          stayed other (on (place_without leaving at) made.last next)

  -- what leaves is among the ports that have left, and nothing else is lost
  pub none_lost : (earlier : Pairs) (course : Course) (old new : Hands) (ending : Ending) → EndsCourse few earlier course old new ending → (ending ≡ Fault → ⊥)
      → length new.ports + length new.gone ≡ length old.ports + length old.gone
  none_lost earlier (ends bound acts answer) old new ending (inl done) sound =
      let ports = as_many old.ports new.ports done.2.made.progress.same_names in
      let left = ap length done.2.stay in
      omega (arith, ports, left)
  none_lost earlier (ends bound acts answer) old new ending (inr failed) sound = absurd (sound failed.0)
  none_lost earlier (leaves bound acts leaving later) old new ending (inl left) sound =
      let rest = none_lost (without left.1.leaves.port.name (earlier ++ left.1.taken)) later left.0 new ending left.2 sound in
      let ports = as_many old.ports left.1.mid.ports left.1.does.made.progress.same_names in
      let others = ap length left.1.leaves.others in
      let one_less = length-remove left.1.mid.ports leaving (slice_get_within left.1.mid.ports leaving left.1.leaves.port left.1.leaves.was) in
      let stay = ap length left.1.does.stay in
      let more = ap length left.1.leaves.gone ∙ length-append left.1.mid.gone (left.1.leaves.port ∷ []) in
      omega (arith, rest, ports, others, one_less, stay, more)
  none_lost earlier (leaves bound acts leaving later) old new ending (inr failed) sound = absurd (sound failed.0)

-- reads that come first write and finish nothing

read_nothing : (reads : Reads) → written (read_each reads) ≡ []
read_nothing [] = refl
read_nothing (read ∷ reads) = read_nothing reads

finished_behind : (name : List ℕ) (before : Bool) (reads : Reads) (acts : List Act) → is_out_after name before (read_each reads ++ acts) ≡ is_out_after name before acts
finished_behind name before [] acts = refl
finished_behind name before (read ∷ reads) acts = finished_behind name before reads acts

finish_behind : (reads : Reads) (acts : List Act) (at : ℕ) (names : List (List ℕ)) → finish_at at names (read_each reads ++ acts) ≡ finish_at at names acts
finish_behind reads acts at names = by (slice_get names at)
  where
    by : (o : Option (List ℕ)) → unwrap_or (option_map (λ name. is_place at (place_of name names) && is_finished name (read_each reads ++ acts)) o) false
        ≡ unwrap_or (option_map (λ name. is_place at (place_of name names) && is_finished name acts) o) false
    by None = refl
    by (Some name) = ap (λ b. is_place at (place_of name names) && b) (finished_behind name false reads acts)

written_behind : (reads : Reads) (acts : List Act) → written (read_each reads ++ acts) ≡ written acts
written_behind reads acts = written-append (read_each reads) acts ∙ ap (λ pairs. pairs ++ written acts) (read_nothing reads)

pub served_behind : (reads : Reads) (course : Course) (at : ℕ) (port : PortView) (old new : Hands) → IsServed (first_do (read_each reads) course) at port old new
    → IsServed course at port old new
served_behind reads (ends bound acts answer) at port old new served = record {
  last = served.last;
  stands = served.stands;
  same_name = served.same_name;
  bytes = subst (λ (pairs : Pairs). Appends port.bytes served.last.bytes (bytes_at at (names old.ports) pairs)) (written_behind reads acts) served.bytes;
  flushed = λ finished. served.flushed (finish_behind reads acts at (names old.ports) ∙ finished);
}
served_behind reads (leaves bound acts leaving later) at port old new served = record {
  last = served.last;
  stands = served.stands;
  same_name = served.same_name;
  bytes = subst (λ (pairs : Pairs). Appends port.bytes served.last.bytes (bytes_at at (names old.ports) pairs
      ++ (if leaving == at then [] else written_to (place_without leaving at) (remove (names old.ports) leaving) later))) (written_behind reads acts) served.bytes;
  flushed = λ finished. served.flushed (ap (λ b. if leaving == at then b else finishes_last (place_without leaving at) (remove (names old.ports) leaving) later)
      (finish_behind reads acts at (names old.ports)) ∙ finished);
}
