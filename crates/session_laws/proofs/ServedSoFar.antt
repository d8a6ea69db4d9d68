-- What a course has made of each port, also where an act of it failed.
use Rattle.std.proofs.Common.{◌≡◌, ◌⊎◌, ℕ, suc, ◌+◌, eqb, ◌==◌, Bool, true, false, List, [], ◌∷◌, ◌++◌, length, take, drop, Some, refl, ap, sym, ◌∙◌, subst, arith, inl, inr, append-nil, append_assoc, length-append}
use Rattle.std.specs.Prelude.{slice_get, if◌then◌else◌}
use Rattle.std.specs.List.{remove}
use Rattle.std.specs.Io.KnownBytes.{Appends}
use Rattle.std.proofs.KnownBytes.{Appends-trans}
use Rattle.std.proofs.Math.Seq.{take-append_seam}
use Rattle.std.proofs.lemmas.Bool.{eq-eqb, eqb-true, true≢false}
use Rattle.std.proofs.lemmas.List.{take-append-drop}
use Rattle.hume_ports.specs.Port.{PortView}
use Rattle.hume_ports.specs.Ports.{names}
use Rattle.hume_ports.specs.Delivery.{Pairs, without}
use Rattle.port_acts.specs.Acts.{Act, wants, writes, finishes, written}
use Rattle.port_acts.specs.Early.{Reads, read_each}
use Rattle.port_acts.specs.Ends.{Fails, Few, IsPart, Made}
use Rattle.port_acts.proofs.ActLists.{written-append}
use Rattle.port_acts.proofs.Failing.{failure_since}
use Rattle.port_acts.proofs.Stopping.{reads_write_nothing}
use Rattle.hume_calls.specs.Few.{source_few}
use Rattle.hume_calls.specs.Reading.{source_reads}
use Rattle.hume_console.specs.declared.ending.Ending.{Ending}
use Rattle.hume_console.specs.Courses.{Bound, Course, ends, leaves, first_do, EndsCourse}
use Rattle.hume_console.specs.EachPort.{Stand, there, gone, behind_one, StandsAs, bytes_at, written_to}
use Rattle.hume_console.specs.Hands.{Hands, place_without}
use Rattle.hume_console.specs.Headline.{EndsUntold}
use Rattle.session_laws.specs.Faults.{GetsNothing, IsServedSoFar, left_since, stand_behind}
use Rattle.session_laws.proofs.Stretches.{all_or_none, bytes_append, delivered_at, last_there, more_there, names_without, none_at, none_left, one_more, same_fact, some_is, stand_first, stands_on, stays_there}

-- what a port has got so far, and what is left of the bytes that go to it
record SoFar (whole : List ℕ) (stand : Stand) (port : PortView) (old new : Hands) : Type 0 where
  last : PortView
  stands : StandsAs stand old new last
  same_name : last.name ≡ port.name
  got : List ℕ
  rest : List ℕ
  whole_is : whole ≡ got ++ rest
  bytes : Appends port.bytes last.bytes got

-- one stretch

-- a port behind acts that were made, or of which one failed
record Stretch (whole : List ℕ) (at : ℕ) (port : PortView) (news : List PortView) : Type 0 where
  last : PortView
  is : slice_get news at ≡ Some last
  same_name : last.name ≡ port.name
  got : List ℕ
  rest : List ℕ
  whole_is : whole ≡ got ++ rest
  bytes : Appends port.bytes last.bytes got

made_stretch : (acts : List Act) (taken : Pairs) (olds news : List PortView) (at : ℕ) (port : PortView) → Made acts taken olds news
    → slice_get olds at ≡ Some port → Stretch (bytes_at at (names olds) (written acts)) at port news
made_stretch acts taken olds news at port made is =
    let moved = delivered_at olds news (written acts) at port made.progress.delivered is in
    record {
      last = moved.0;
      is = moved.1;
      same_name = same_fact (λ p. p.name) olds news made.progress.same_names at port moved.0 is moved.1;
      got = bytes_at at (names olds) (written acts);
      rest = [];
      whole_is = sym (append-nil (bytes_at at (names olds) (written acts)));
      bytes = moved.2;
    }

-- what an act that failed has given is a front of what it writes
given_front : (act : Act) (later : List Act) (given : Pairs) (at : ℕ) (ns : List (List ℕ)) → IsPart act given
    → (rest : List ℕ) × (bytes_at at ns (written (act ∷ later)) ≡ bytes_at at ns given ++ rest)
given_front (wants name count) later given at ns part = (
  bytes_at at ns (written later),
  sym (ap (λ pairs. bytes_at at ns pairs ++ bytes_at at ns (written later)) part
      ∙ ap (λ bytes. bytes ++ bytes_at at ns (written later)) (none_at at ns)),
)
given_front (finishes name) later given at ns part = (
  bytes_at at ns (written later),
  sym (ap (λ pairs. bytes_at at ns pairs ++ bytes_at at ns (written later)) part
      ∙ ap (λ bytes. bytes ++ bytes_at at ns (written later)) (none_at at ns)),
)
given_front (writes name bytes) later given at ns (count, is) = by (all_or_none at ns name)
  where
    split : bytes_at at ns (written (writes name bytes ∷ later)) ≡ bytes_at at ns ((name, bytes) ∷ []) ++ bytes_at at ns (written later)
    split = bytes_append at ns ((name, bytes) ∷ []) (written later)

    by : ((x : List ℕ) → bytes_at at ns ((name, x) ∷ []) ≡ x) ⊎ ((x : List ℕ) → bytes_at at ns ((name, x) ∷ []) ≡ [])
        → (rest : List ℕ) × (bytes_at at ns (written (writes name bytes ∷ later)) ≡ bytes_at at ns given ++ rest)
    by (inl own) = (
      drop count bytes ++ bytes_at at ns (written later),
      split ∙ ap (λ all. all ++ bytes_at at ns (written later)) (own bytes ∙ sym (take-append-drop count bytes)) ∙ append_assoc (take count bytes) (drop count bytes) (bytes_at at ns (written later))
          ∙ ap (λ front. front ++ (drop count bytes ++ bytes_at at ns (written later))) (sym (ap (bytes_at at ns) is ∙ own (take count bytes))),
    )
    by (inr other) = (
      bytes_at at ns (written later),
      split ∙ ap (λ all. all ++ bytes_at at ns (written later)) (other bytes) ∙ ap (λ front. front ++ bytes_at at ns (written later)) (sym (ap (bytes_at at ns) is ∙ other (take count bytes))),
    )

failed_stretch : (few : Few) (earlier : Pairs) (acts : List Act) (olds news : List PortView) (at : ℕ) (port : PortView)
    → Fails few earlier acts olds news → slice_get olds at ≡ Some port → Stretch (bytes_at at (names olds) (written acts)) at port news
failed_stretch few earlier acts olds news at port f is =
    let since = failure_since few earlier acts olds news f in
    let moved = delivered_at olds news (written f.before ++ f.given) at port since.delivered is in
    let front = given_front f.act f.later f.given at (names olds) f.part in
    let first : List ℕ = bytes_at at (names olds) (written f.before) in
    record {
      last = moved.0;
      is = moved.1;
      same_name = same_fact (λ p. p.name) olds news since.same_names at port moved.0 is moved.1;
      got = bytes_at at (names olds) (written f.before ++ f.given);
      rest = front.0;
      whole_is = ap (λ all. bytes_at at (names olds) (written all)) f.in_order
          ∙ ap (bytes_at at (names olds)) (written-append f.before (f.act ∷ f.later))
          ∙ bytes_append at (names olds) (written f.before) (written (f.act ∷ f.later))
          ∙ ap (λ bytes. first ++ bytes) front.1
          ∙ sym (append_assoc first (bytes_at at (names olds) f.given) front.0)
          ∙ ap (λ bytes. bytes ++ front.0) (sym (bytes_append at (names olds) (written f.before) f.given));
      bytes = moved.2;
    }

-- a port that stays at its place to the end of a stretch
stayed : (whole more : List ℕ) (at : ℕ) (port : PortView) (old new : Hands) → Stretch whole at port new.ports → SoFar (whole ++ more) (there at) port old new
stayed whole more at port old new s = record {
  last = s.last;
  stands = s.is;
  same_name = s.same_name;
  got = s.got;
  rest = s.rest ++ more;
  whole_is = ap (λ all. all ++ more) s.whole_is ∙ append_assoc s.got s.rest more;
  bytes = s.bytes;
}

-- a course

module _ (few : Bound → Few) where
  -- what has left before is still there
  pub gone_on : (earlier : Pairs) (course : Course) (old new : Hands) (ending : Ending) → EndsCourse few earlier course old new ending
      → (more : List PortView) × (new.gone ≡ old.gone ++ more)
  gone_on earlier (ends bound acts answer) old new ending (inl done) = ([], done.2.stay ∙ sym (append-nil old.gone))
  gone_on earlier (ends bound acts answer) old new ending (inr failed) = ([], failed.1.stay ∙ sym (append-nil old.gone))
  gone_on earlier (leaves bound acts leaving later) old new ending (inl left) =
      let rest = gone_on (without left.1.leaves.port.name (earlier ++ left.1.taken)) later left.0 new ending left.2 in
      let first : left.0.gone ≡ old.gone ++ left.1.leaves.port ∷ [] = left.1.leaves.gone ∙ ap (λ ports. ports ++ left.1.leaves.port ∷ []) left.1.does.stay in
      (left.1.leaves.port ∷ rest.0, rest.1 ∙ ap (λ ports. ports ++ rest.0) first ∙ append_assoc old.gone (left.1.leaves.port ∷ []) rest.0)
  gone_on earlier (leaves bound acts leaving later) old new ending (inr failed) = ([], failed.1.stay ∙ sym (append-nil old.gone))

  so_far : (earlier : Pairs) (course : Course) (old new : Hands) (ending : Ending) → EndsCourse few earlier course old new ending
      → (at : ℕ) (port : PortView) → slice_get old.ports at ≡ Some port
      → SoFar (written_to at (names old.ports) course) (stand_behind course (left_since old new) at) port old new
  so_far earlier (ends bound acts answer) old new ending (inl done) at port is =
      let whole : List ℕ = bytes_at at (names old.ports) (written acts) in
      subst (λ (all : List ℕ). SoFar all (there at) port old new) (append-nil whole)
      (stayed whole [] at port old new (made_stretch acts done.1 old.ports new.ports at port done.2.made is))
  so_far earlier (ends bound acts answer) old new ending (inr failed) at port is =
      let whole : List ℕ = bytes_at at (names old.ports) (written acts) in
      subst (λ (all : List ℕ). SoFar all (there at) port old new) (append-nil whole)
      (stayed whole [] at port old new (failed_stretch (few bound) earlier acts old.ports new.ports at port failed.1.fails is))
  so_far earlier (leaves bound acts leaving later) old new ending (inr failed) at port is =
      let whole : List ℕ = bytes_at at (names old.ports) (written acts) in
      let more : List ℕ = if leaving == at then [] else written_to (place_without leaving at) (remove (names old.ports) leaving) later in
      let none : left_since old new ≡ 0 = none_left old new failed.1.stay in
      subst (λ (left : ℕ). SoFar (whole ++ more) (stand_behind (leaves bound acts leaving later) left at) port old new) (sym none)
      (stayed whole more at port old new (failed_stretch (few bound) earlier acts old.ports new.ports at port failed.1.fails is))
  so_far earlier (leaves bound acts leaving later) old new ending (inl left) at port is =
      let rest = gone_on (without left.1.leaves.port.name (earlier ++ left.1.taken)) later left.0 new ending left.2 in
      let one : left_since old new ≡ suc (left_since left.0 new) =
      one_more old left.1.mid left.0 new left.1.leaves.port rest.0 left.1.does.stay left.1.leaves.gone rest.1 in
      let all : List ℕ = written_to at (names old.ports) (leaves bound acts leaving later) in
      subst (λ (many : ℕ). SoFar all (stand_behind (leaves bound acts leaving later) many at) port old new) (sym one)
      (by (eqb leaving at) refl (so_far (without left.1.leaves.port.name (earlier ++ left.1.taken)) later left.0 new ending left.2))
    where
      made : Stretch (bytes_at at (names old.ports) (written acts)) at port left.1.mid.ports
      made = made_stretch acts left.1.taken old.ports left.1.mid.ports at port left.1.does.made is

      by : (b : Bool) → eqb leaving at ≡ b
          → ((place : ℕ) (next : PortView) → slice_get left.0.ports place ≡ Some next → SoFar (written_to place (names left.0.ports) later) (stand_behind later (left_since left.0 new) place) next left.0 new)
          → SoFar (bytes_at at (names old.ports) (written acts) ++ (if b then [] else written_to (place_without leaving at) (remove (names old.ports) leaving) later))
          (if b then gone 0 else behind_one (stand_behind later (left_since left.0 new) (place_without leaving at))) port old new
      by true it on =
          let here : slice_get left.1.mid.ports at ≡ Some left.1.leaves.port = ap (slice_get left.1.mid.ports) (sym (eqb-true leaving at it)) ∙ left.1.leaves.was in
          let same : made.last ≡ left.1.leaves.port = some_is (sym made.is ∙ here) in
          let rest = gone_on (without left.1.leaves.port.name (earlier ++ left.1.taken)) later left.0 new ending left.2 in
          let place : slice_get left.0.gone (length left.1.mid.gone) ≡ Some left.1.leaves.port =
          ap (λ (ports : List PortView). slice_get ports (length left.1.mid.gone)) left.1.leaves.gone ∙ last_there left.1.mid.gone left.1.leaves.port in
          let count : length left.1.mid.gone ≡ length old.gone + 0 =
          (let same = ap (λ (ports : List PortView). length ports) left.1.does.stay in omega (arith, same)) in
          let stands : slice_get new.gone (length left.1.mid.gone) ≡ Some made.last =
          ap (λ (ports : List PortView). slice_get ports (length left.1.mid.gone)) rest.1
          ∙ more_there left.0.gone rest.0 (length left.1.mid.gone) left.1.leaves.port place ∙ ap (λ p. Some p) (sym same) in
          record {
            last = made.last;
            stands = subst (λ (k : ℕ). slice_get new.gone k ≡ Some made.last) count stands;
            same_name = made.same_name;
            got = made.got;
            rest = made.rest ++ [];
            whole_is = ap (λ all. all ++ []) made.whole_is ∙ append_assoc made.got made.rest [];
            bytes = made.bytes;
          }
      by false other on =
          let whole : List ℕ = bytes_at at (names old.ports) (written acts) in
          let differ : leaving ≡ at → ⊥ = λ same. true≢false (sym (eq-eqb leaving at same) ∙ other) in
          let next : slice_get left.0.ports (place_without leaving at) ≡ Some made.last =
          ap (λ (ports : List PortView). slice_get ports (place_without leaving at)) left.1.leaves.others
          ∙ stays_there left.1.mid.ports leaving at made.last differ made.is in
          let left_names : names left.0.ports ≡ remove (names old.ports) leaving =
          names_without left.1.mid.ports left.0.ports leaving left.1.leaves.others
          ∙ ap (λ (ns : List (List ℕ)). remove ns leaving) left.1.does.made.progress.same_names in
          let rest = on (place_without leaving at) made.last next in
          let moved = delivered_at old.ports left.1.mid.ports (written acts) at port left.1.does.made.progress.delivered is in
          let same : moved.0 ≡ made.last = some_is (sym moved.1 ∙ made.is) in
          let bytes : Appends port.bytes made.last.bytes whole = subst (λ (p : PortView). Appends port.bytes p.bytes whole) same moved.2 in
          let many : length left.0.gone ≡ length old.gone + 1 =
          (let same = ap (λ (ports : List PortView). length ports) left.1.does.stay in
          let more = ap (λ (ports : List PortView). length ports) left.1.leaves.gone ∙ length-append left.1.mid.gone (left.1.leaves.port ∷ []) in
          omega (arith, same, more)) in
          record {
            last = rest.last;
            stands = stands_on (stand_behind later (left_since left.0 new) (place_without leaving at)) old left.0 new rest.last many rest.stands;
            same_name = rest.same_name ∙ made.same_name;
            got = whole ++ rest.got;
            rest = rest.rest;
            whole_is = ap (λ ns. whole ++ written_to (place_without leaving at) ns later) (sym left_names)
                ∙ ap (λ more. whole ++ more) rest.whole_is ∙ sym (append_assoc whole rest.got rest.rest);
            bytes = Appends-trans port.bytes made.last.bytes rest.last.bytes whole rest.got bytes rest.bytes;
          }

-- reads that come first write nothing

pub written_behind : (reads : Reads) (course : Course) (at : ℕ) (ns : List (List ℕ)) → written_to at ns (first_do (read_each reads) course) ≡ written_to at ns course
written_behind reads (ends bound acts answer) at ns =
    ap (bytes_at at ns) (written-append (read_each reads) acts ∙ ap (λ pairs. pairs ++ written acts) (reads_write_nothing reads))
written_behind reads (leaves bound acts leaving later) at ns =
    ap (λ pairs. bytes_at at ns pairs ++ (if leaving == at then [] else written_to (place_without leaving at) (remove ns leaving) later))
    (written-append (read_each reads) acts ∙ ap (λ pairs. pairs ++ written acts) (reads_write_nothing reads))

pub served_so_far : (few : Bound → Few) (reads : Reads) (course : Course) (old new : Hands) (ending : Ending)
    → EndsCourse few [] (first_do (read_each reads) course) old new ending
    → (at : ℕ) (port : PortView) → slice_get old.ports at ≡ Some port → IsServedSoFar course at port old new
served_so_far few reads course old new ending through at port is =
    let has = so_far few [] (first_do (read_each reads) course) old new ending through at port is in
    let whole : written_to at (names old.ports) course ≡ has.got ++ has.rest = sym (written_behind reads course at (names old.ports)) ∙ has.whole_is in
    record {
      last = has.last;
      stands = subst (λ (stand : Stand). StandsAs stand old new has.last) (stand_first (read_each reads) course (left_since old new) at) has.stands;
      same_name = has.same_name;
      count = length has.got;
      bytes = subst (λ bytes. Appends port.bytes has.last.bytes bytes)
          (sym (ap (take (length has.got)) whole ∙ take-append_seam has.got has.rest)) has.bytes;
    }

-- a call that ends when it has only read its source

nothing_got : (got rest : List ℕ) → [] ≡ got ++ rest → got ≡ []
nothing_got [] rest is = refl
nothing_got (byte ∷ got) rest is = cc

gets_nothing : (whole : List ℕ) (at : ℕ) (port : PortView) (new : Hands) → Stretch whole at port new.ports → whole ≡ [] → GetsNothing at port new
gets_nothing whole at port new s empty =
    let none : s.got ≡ [] = nothing_got s.got s.rest (sym empty ∙ s.whole_is) in
    record {
      last = s.last;
      is = s.is;
      same_name = s.same_name;
      bytes = subst (λ (bytes : List ℕ). Appends port.bytes s.last.bytes bytes) none s.bytes;
    }

pub untold_gets_nothing : (source : List ℕ) (old new : Hands) (ending : Ending) → EndsUntold source old new ending
    → (at : ℕ) (port : PortView) → slice_get old.ports at ≡ Some port → GetsNothing at port new
untold_gets_nothing source old new ending (stay, inl (is, stops)) at port was =
    gets_nothing (bytes_at at (names old.ports) (written stops.before)) at port new
    (made_stretch stops.before stops.taken old.ports new.ports at port stops.made was)
    (ap (bytes_at at (names old.ports)) stops.unwritten ∙ none_at at (names old.ports))
untold_gets_nothing source old new ending (stay, inr (is, fails)) at port was =
    let reads : List Act = read_each (source_reads source) in
    gets_nothing (bytes_at at (names old.ports) (written reads)) at port new
    (failed_stretch (source_few source) [] reads old.ports new.ports at port fails.fails was)
    (none_at at (names old.ports))
