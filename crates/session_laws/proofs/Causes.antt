-- A fault of a session comes from one of its ports.
use Rattle.std.proofs.Common.{◌≡◌, ◌⊎◌, ℕ, suc, eqb, Bool, true, false, List, [], ◌∷◌, ◌++◌, map, Some, refl, ap, sym, ◌∙◌, subst, arith, inl, inr}
use Rattle.std.specs.Prelude.{slice_get, if◌then◌else◌}
use Rattle.std.specs.List.{AllByRecursion, remove}
use Rattle.std.specs.Str.{bytes_eq}
use Rattle.hume_model.specs.declared.core_tree.Core.{Core}
use Rattle.hume_ports.specs.Delivery.{Pairs, without}
use Rattle.hume_ports.specs.Port.{PortView, Rose}
use Rattle.hume_ports.specs.Ports.{names, of_first}
use Rattle.hume_ports.proofs.Names.{same_name}
use Rattle.port_acts.specs.Acts.{Act, wants, writes, finishes, count_of, name_of}
use Rattle.port_acts.specs.Early.{read_each}
use Rattle.port_acts.specs.Ends.{Fails, Few}
use Rattle.port_acts.proofs.Failing.{failure_since, same_counts}
use Rattle.hume_calls.specs.Few.{source_few}
use Rattle.hume_calls.specs.Reading.{source_reads}
use Rattle.hume_console.specs.declared.ending.Ending.{Ending}
use Rattle.hume_console.specs.declared.ending.Ending.TheVariants.{Fault}
use Rattle.hume_console.specs.Courses.{Bound, Course, ends, leaves, first_do, EndsCourse}
use Rattle.hume_console.specs.EachPort.{Stand, there, gone, behind_one}
use Rattle.hume_console.specs.Hands.{Hands, place_without}
use Rattle.hume_console.specs.Headline.{EndsUntold}
use Rattle.session_laws.specs.Faults.{CountRoseOf, CountRoseOn, HasSessionFault, left_since, stand_behind, of_finish, of_read, of_source, of_write}
use Rattle.session_laws.specs.OwnActs.{IsActOf, IsOneOf, IsOwnAct}
use Rattle.session_laws.proofs.OwnActs.{AnswersWell, IsFineCourse, IsOwn, well, well_first}
use Rattle.session_laws.proofs.ServedSoFar.{gone_on}
use Rattle.session_laws.proofs.Stretches.{left_from, none_left, not_it, one_more, same_at, same_fact, stand_first}

-- a count that rose is that of a port

no_rise : Rose 0 0 → ⊥
no_rise rose = omega (arith, rose)

heads : {X : Type 0} {x y : X} {xs ys : List X} → x ∷ xs ≡ y ∷ ys → x ≡ y
heads e = cc

tails : {X : Type 0} {x y : X} {xs ys : List X} → x ∷ xs ≡ y ∷ ys → xs ≡ ys
tails e = cc

record RoseAt (count : PortView → ℕ) (name : List ℕ) (olds news : List PortView) : Type 0 where
  at : ℕ
  old : PortView
  new : PortView
  was : slice_get olds at ≡ Some old
  is : slice_get news at ≡ Some new
  old_name : old.name ≡ name
  new_name : new.name ≡ name
  rose : Rose (count old) (count new)

rose_at : (count : PortView → ℕ) (name : List ℕ) (olds news : List PortView) → names news ≡ names olds
    → Rose (of_first 0 count name olds) (of_first 0 count name news) → RoseAt count name olds news
rose_at count name [] [] same rose = absurd (no_rise rose)
rose_at count name [] (new ∷ news) same rose = cc
rose_at count name (old ∷ olds) [] same rose = cc
rose_at count name (old ∷ olds) (new ∷ news) same rose = by (bytes_eq old.name name) refl (rose_at count name olds news (tails same))
  where
    by : (b : Bool) → bytes_eq old.name name ≡ b
        → (Rose (of_first 0 count name olds) (of_first 0 count name news) → RoseAt count name olds news) → RoseAt count name (old ∷ olds) (new ∷ news)
    by true is on =
        let head : new.name ≡ old.name = heads same in
        let first : of_first 0 count name (old ∷ olds) ≡ count old = rw is refl in
        let second : of_first 0 count name (new ∷ news) ≡ count new = rw (head, is) refl in
        let named : old.name ≡ name = same_name old.name name is in
        record {
          at = 0;
          old = old;
          new = new;
          was = refl;
          is = refl;
          old_name = named;
          new_name = head ∙ named;
          rose = subst (λ (k : ℕ). Rose (count old) k) second (subst (λ (k : ℕ). Rose k (of_first 0 count name (new ∷ news))) first rose);
        }
    by false isnt on =
        let head : new.name ≡ old.name = heads same in
        let first : of_first 0 count name (old ∷ olds) ≡ of_first 0 count name olds = rw isnt refl in
        let second : of_first 0 count name (new ∷ news) ≡ of_first 0 count name news = rw (head, isnt) refl in
        let rest = on (subst (λ (k : ℕ). Rose (of_first 0 count name olds) k) second (subst (λ (k : ℕ). Rose k (of_first 0 count name (new ∷ news))) first rose)) in
        record {
          at = suc rest.at;
          old = rest.old;
          new = rest.new;
          was = rest.was;
          is = rest.is;
          old_name = rest.old_name;
          new_name = rest.new_name;
          rose = rest.rose;
        }

-- in the stretch that failed
failed_count : (few : Few) (earlier : Pairs) (acts : List Act) (old new : Hands) (f : Fails few earlier acts old.ports new.ports)
    → CountRoseOf (count_of f.act) there (name_of f.act) old new
failed_count few earlier acts old new f =
    let since = failure_since few earlier acts old.ports new.ports f in
    let its = rose_at (count_of f.act) (name_of f.act) old.ports new.ports since.same_names since.rose in
    record {
      at = its.at;
      first = its.old;
      was = its.was;
      is_name = its.old_name;
      place = its.at;
      stands = refl;
      last = its.new;
      is = its.is;
      same_name = its.new_name;
      rose = its.rose;
    }

-- told by other places that are the same
restood : (count : PortView → ℕ) (stand other : ℕ → Stand) (name : List ℕ) (old new : Hands) → ((at : ℕ) → other at ≡ stand at)
    → CountRoseOf count stand name old new → CountRoseOf count other name old new
restood count stand other name old new same r = record {
  at = r.at;
  first = r.first;
  was = r.was;
  is_name = r.is_name;
  place = r.place;
  stands = same r.at ∙ r.stands;
  last = r.last;
  is = r.is;
  same_name = r.same_name;
  rose = r.rose;
}

-- a count that rose after a port had left rose from what it was before
rose_before : (count : PortView → ℕ) (name : List ℕ) (bound : Bound) (acts : List Act) (leaving : ℕ) (later : Course) (old mid left new : Hands)
    → names mid.ports ≡ names old.ports → map count mid.ports ≡ map count old.ports → left.ports ≡ remove mid.ports leaving
    → left_since old new ≡ suc (left_since left new) → CountRoseOn later count name left new → CountRoseOn (leaves bound acts leaving later) count name old new
rose_before count name bound acts leaving later old mid left new same_names same_counts others one r =
    let its = left_from mid.ports leaving r.at r.first (sym (ap (λ (ports : List PortView). slice_get ports r.at) others) ∙ r.was) in
    let first = same_at (λ p. p.name) old.ports mid.ports same_names its.before r.first its.was in
    let counted : count r.first ≡ count first.0 = same_fact count old.ports mid.ports same_counts its.before first.0 r.first first.1 its.was in
    let other : eqb leaving its.before ≡ false = not_it leaving its.before its.differs (eqb leaving its.before) refl in
    let many : ℕ = left_since left new in
    record {
      at = its.before;
      first = first.0;
      was = first.1;
      is_name = first.2 ∙ r.is_name;
      place = r.place;
      stands = ap (λ (k : ℕ). stand_behind (leaves bound acts leaving later) k its.before) one
          ∙ ap (λ (b : Bool). if b then gone 0 else behind_one (stand_behind later many (place_without leaving its.before))) other
          ∙ ap (λ (place : ℕ). behind_one (stand_behind later many place)) (sym its.place) ∙ ap behind_one r.stands;
      last = r.last;
      is = r.is;
      same_name = r.same_name;
      rose = subst (λ (k : ℕ). Rose k (count r.last)) counted r.rose;
    }

-- the act of a course that failed
record FailedAct (course : Course) (old new : Hands) : Type 0 where
  bound : Bound
  act : Act
  of_course : IsActOf course bound act
  rose : CountRoseOn course (count_of act) (name_of act) old new

module _ (few : Bound → Few) where
  failed_act : (earlier : Pairs) (course : Course) (old new : Hands) (ending : Ending) → AnswersWell course
      → EndsCourse few earlier course old new ending → ending ≡ Fault → FailedAct course old new
  failed_act earlier (ends bound acts answer) old new ending fine (inl done) is = absurd (fine (sym done.0 ∙ is))
  failed_act earlier (ends bound acts answer) old new ending fine (inr failed) is =
      let f = failed.1.fails in
      let course : Course = ends bound acts answer in
      record {
        bound = bound;
        act = f.act;
        of_course = (refl, (f.before, f.later, f.in_order));
        rose = restood (count_of f.act) there (stand_behind course (left_since old new)) (name_of f.act) old new (λ at. refl)
            (failed_count (few bound) earlier acts old new f);
      }
  failed_act earlier (leaves bound acts leaving later) old new ending fine (inr failed) is =
      let f = failed.1.fails in
      let course : Course = leaves bound acts leaving later in
      record {
        bound = bound;
        act = f.act;
        of_course = inl (refl, (f.before, f.later, f.in_order));
        rose = restood (count_of f.act) there (stand_behind course (left_since old new)) (name_of f.act) old new
            (λ at. ap (λ (k : ℕ). stand_behind course k at) (none_left old new failed.1.stay)) (failed_count (few bound) earlier acts old new f);
      }
  failed_act earlier (leaves bound acts leaving later) old new ending fine (inl left) is =
      let rest = gone_on few (without left.1.leaves.port.name (earlier ++ left.1.taken)) later left.0 new ending left.2 in
      let one : left_since old new ≡ suc (left_since left.0 new) =
      one_more old left.1.mid left.0 new left.1.leaves.port rest.0 left.1.does.stay left.1.leaves.gone rest.1 in
      let f = failed_act (without left.1.leaves.port.name (earlier ++ left.1.taken)) later left.0 new ending fine left.2 is in
      record {
        bound = f.bound;
        act = f.act;
        of_course = inr f.of_course;
        rose = rose_before (count_of f.act) (name_of f.act) bound acts leaving later old left.1.mid left.0 new left.1.does.made.progress.same_names
            (same_counts f.act old.ports left.1.mid.ports left.1.does.made.progress.same_faults) left.1.leaves.others one f.rose;
      }

-- an act of a course behind the read of its source
behind_source : (source : List ℕ) (course : Course) (bound : Bound) (act : Act) → IsActOf (first_do (read_each (source_reads source)) course) bound act
    → (wants source 262145 ≡ act) ⊎ IsActOf course bound act
behind_source source (ends meanwhile acts answer) bound act (same, ([], later, is)) = inl (heads is)
behind_source source (ends meanwhile acts answer) bound act (same, (first ∷ before, later, is)) = inr (same, (before, later, tails is))
behind_source source (leaves meanwhile acts at next) bound act (inl (same, ([], later, is))) = inl (heads is)
behind_source source (leaves meanwhile acts at next) bound act (inl (same, (first ∷ before, later, is))) = inr (inl (same, (before, later, tails is)))
behind_source source (leaves meanwhile acts at next) bound act (inr of) = inr (inr of)

module _ (core : Core) where
  in_the_midst : (bound : Bound) (before later acts : List Act) (act : Act) → acts ≡ before ++ act ∷ later → AllByRecursion (IsOwn core bound) acts
      → IsOwnAct core bound act
  in_the_midst bound before later acts act is all = at before (subst (AllByRecursion (IsOwn core bound)) is all)
    where
      at : (front : List Act) → AllByRecursion (IsOwn core bound) (front ++ act ∷ later) → IsOwnAct core bound act
      at [] each = each.0
      at (first ∷ front) each = at front each.1

  one_own : (bound meanwhile : Bound) (acts : List Act) (act : Act) → bound ≡ meanwhile → IsOneOf acts act → AllByRecursion (IsOwn core meanwhile) acts
      → IsOwnAct core bound act
  one_own bound meanwhile acts act same (before, later, is) all =
      in_the_midst bound before later acts act is (subst (λ (b : Bound). AllByRecursion (IsOwn core b) acts) (sym same) all)

  -- each act of a session is its own
  own_act : (course : Course) (bound : Bound) (act : Act) → IsFineCourse core course → IsActOf course bound act → IsOwnAct core bound act
  own_act (ends meanwhile acts answer) bound act fine (same, one) = one_own bound meanwhile acts act same one fine.0
  own_act (leaves meanwhile acts at later) bound act fine (inl (same, one)) = one_own bound meanwhile acts act same one fine.0
  own_act (leaves meanwhile acts at later) bound act fine (inr of) = own_act later bound act fine.1 of

  module _ (source : List ℕ) (course : Course) (fine : IsFineCourse core course) where
    -- by the act that failed
    fault_by : (bound : Bound) (act : Act) (old new : Hands) → IsActOf course bound act → IsOwnAct core bound act
        → CountRoseOn course (count_of act) (name_of act) old new → HasSessionFault core source course old new
    fault_by bound (wants name count) old new of own rose = of_read bound name count of own rose
    fault_by bound (writes name bytes) old new of own rose = of_write bound name bytes of own rose
    fault_by bound (finishes name) old new of own rose = of_finish bound name of own rose

    pub session_fault : (few : Bound → Few) (old new : Hands) → EndsCourse few [] (first_do (read_each (source_reads source)) course) old new Fault
        → HasSessionFault core source course old new
    session_fault few old new through =
        let whole : Course = first_do (read_each (source_reads source)) course in
        let f = failed_act few [] whole old new Fault (well_first (read_each (source_reads source)) course (well core course fine)) through refl in
        let rose : CountRoseOn course (count_of f.act) (name_of f.act) old new =
        restood (count_of f.act) (stand_behind whole (left_since old new)) (stand_behind course (left_since old new)) (name_of f.act) old new
        (λ at. sym (stand_first (read_each (source_reads source)) course (left_since old new) at)) f.rose in
        elim (behind_source source course f.bound f.act f.of_course) [
          | inl same ↦ of_source (subst (λ (a : Act). CountRoseOn course (count_of a) (name_of a) old new) (sym same) rose)
          | inr of ↦ fault_by f.bound f.act old new of (own_act course f.bound f.act fine of) rose
        ]

-- a call that ends at the read of its source
unread_source : (few : Few) (source : List ℕ) (old new : Hands) → Fails few [] (read_each (source_reads source)) old.ports new.ports
    → CountRoseOf (λ port. port.read_faults) there source old new
unread_source few source old new f = by f.before f.act f.later f.in_order (failed_count few [] (read_each (source_reads source)) old new f)
  where
    by : (before : List Act) (act : Act) (later : List Act) → read_each (source_reads source) ≡ before ++ act ∷ later
        → CountRoseOf (count_of act) there (name_of act) old new → CountRoseOf (λ port. port.read_faults) there source old new
    by [] act later e rose =
        let same : wants source 262145 ≡ act = cc in
        subst (λ (a : Act). CountRoseOf (count_of a) there (name_of a) old new) (sym same) rose
    by (first ∷ []) act later e rose = cc
    by (first ∷ second ∷ before) act later e rose = cc

pub untold_fault : (source : List ℕ) (old new : Hands) → EndsUntold source old new Fault → CountRoseOf (λ port. port.read_faults) there source old new
untold_fault source old new (stay, inl (is, stops)) = cc
untold_fault source old new (stay, inr (is, fails)) = unread_source (source_few source) source old new fails.fails
