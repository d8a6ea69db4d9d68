-- What was read of a log, line by line, and what is found of it.
use Rattle.std.proofs.Common.{◌≡◌, ℕ, suc, ◌+◌, ◌<◌, ◌≤◌, Bool, true, false, not, cond, List, [], ◌∷◌, ◌++◌, take, length, length-append, append-nil, append_assoc, Option, None, Some, slice_get, Result, Ok, Err, refl, ap, sym, ◌∙◌, subst, arith}
use Rattle.std.specs.Prelude.{IsTrue, IsFalse, IsOk, OnErr}
use Rattle.std.specs.List.{concat}
use Rattle.std.specs.Option.{option_or}
use Rattle.std.specs.Str.{bytes_eq}
use Rattle.std.proofs.lemmas.List.{take_all}
use Rattle.std.specs.Io.KnownBytes.{Consumes}
use Rattle.hume_model.specs.declared.core_tree.Core.{Core}
use Rattle.hume_ports.specs.declared.port.Failed.{Failed}
use Rattle.hume_ports.specs.Port.{PortView}
use Rattle.hume_ports.specs.Ports.{names, ForNameAt, Untouched}
use Rattle.hume_ports.specs.Delivery.{Progress, ReadFailure}
use Rattle.hume_ports.proofs.EachPort.{EachPort-same, SameBytes}
use Rattle.hume_ports.proofs.Names.{place-kept}
use Rattle.hume_ports.proofs.Progress.{Progress-start, Progress-on, Progress-same_taken, fill_failure-on}
use Rattle.hume_ports.proofs.Rooms.{Roomy-on}
use Rattle.hume_ports.proofs.Untouched.{Untouched-start, Untouched-on}
use Rattle.run_log.specs.declared.fault.LogFault.{LogFault}
use Rattle.run_log.specs.declared.line_read.LineRead.{LineRead}
use Rattle.run_log.specs.Compared.{Compares, IsVerdict}
use Rattle.run_log.specs.Faults.{EndsWithin, IsFault, IsFirstWrong, blamed, lines_before}
use Rattle.run_log.specs.Moments.{Moment, block_at}
use Rattle.run_log.specs.inner.LineReads.{IsFaultOf, IsLineRead}
use Rattle.run_log.specs.inner.LinesRead.{ReadsLine}
use Rattle.run_log.proofs.Lists.{concat_next, line_within}

-- bytes that are as many as a line has, and agree with it as far as they go, are the line
pub whole_line : (line bytes : List ℕ) → EndsWithin line bytes → length bytes ≡ length line → bytes ≡ line
whole_line line bytes within same =
    let count = ap length within.1 ∙ length-append bytes within.0 in
    sym (append-nil bytes) ∙ ap (λ more. bytes ++ more) (sym (none within.0 (omega (arith, count, same)))) ∙ sym within.1
  where
    none : (more : List ℕ) → length more ≡ 0 → more ≡ []
    none [] is = refl
    none (x ∷ xs) is = absurd (omega (arith, is))

-- nothing goes on where there is no more
pub longer_line : (line bytes later : List ℕ) → length bytes ≤ length line → bytes ≡ line ++ later → EndsWithin line bytes
longer_line line bytes later few is =
    let count = ap length is ∙ length-append line later in
    ([], sym (append-nil line) ∙ ap (λ more. line ++ more) (sym (none later (omega (arith, count, few)))) ∙ sym is ∙ sym (append-nil bytes))
  where
    none : (more : List ℕ) → length more ≡ 0 → more ≡ []
    none [] is = refl
    none (x ∷ xs) is = absurd (omega (arith, is))

-- a line that the first of some bytes are, where these are as many as the line at least
front_of : (line rest more later : List ℕ) → length line ≤ length rest → rest ++ more ≡ line ++ later → (behind : List ℕ) × (rest ≡ line ++ behind)
front_of [] rest more later long same = (rest, refl)
front_of (x ∷ xs) [] more later long same = absurd (omega (arith, long))
front_of (x ∷ xs) (y ∷ ys) more later long same =
    let head : y ≡ x = cc in
    let tail : ys ++ more ≡ xs ++ later = cc in
    let its = front_of xs ys more later (omega (arith, long)) tail in
    (its.0, ap (λ z. z ∷ ys) head ∙ ap (λ zs. x ∷ zs) its.1)

-- A fault that was told of whole lines, behind which more may be read.
pub record IsFaultBefore (core : Core) (moment : Moment) (bytes : List ℕ) (fault : LogFault) : Type 0 where
  pub is : IsFault core moment bytes fault
  pub whole : length is.first.line ≤ length is.first.rest

-- what is found of the bytes that were read in the place of the first lines
abbrev pub IsFound : Core → Moment → ℕ → List ℕ → Option LogFault → Type 0
IsFound core moment count bytes None = bytes ≡ concat (take count (block_at core moment))
IsFound core moment count bytes (Some fault) = IsFaultBefore core moment bytes fault

-- as many bytes were read as the first lines have
pub record HasComparedAs (core : Core) (moment : Moment) (count : ℕ) (name : List ℕ) (olds news : List PortView) (fault : Option LogFault) : Type 0 where
  pub bytes : List ℕ
  pub progress : Progress olds news ((name, bytes) ∷ []) []
  pub long : length bytes ≡ length (concat (take count (block_at core moment)))
  pub found : IsFound core moment count bytes fault

pub record HasCompared (core : Core) (moment : Moment) (count at : ℕ) (olds news : List PortView) (fault : Option LogFault) : Type 0 where
  pub same_names : names news ≡ names olds
  pub untouched : ForNameAt at olds (λ name. Untouched (name ∷ []) olds news)
  pub read : ForNameAt at olds (λ name. HasComparedAs core moment count name olds news fault)

-- more bytes behind a fault of whole lines
module _ (core : Core) (moment : Moment) (bytes more : List ℕ) (fault : LogFault) (it : IsFaultBefore core moment bytes fault) where
  abbrev first : IsFirstWrong (block_at core moment) bytes it.is.place
  first = it.is.first

  longer : (length (first.rest ++ more) ≡ length first.rest + length more)
  longer = length-append first.rest more

  no_end : EndsWithin first.line (first.rest ++ more) → ⊥
  no_end within =
      let count = ap length within.1 ∙ length-append (first.rest ++ more) within.0 in
      let sum = longer in
      let long = it.whole in
      first.wrong [] (whole_rest (omega (arith, count, sum, long)))
    where
      whole_rest : length (first.rest ++ more) ≡ length first.line → first.rest ≡ first.line ++ []
      whole_rest same =
          let all = whole_line first.line (first.rest ++ more) within same in
          let front = front_of first.line first.rest more [] it.whole (all ∙ sym (append-nil first.line)) in
          let sum = longer in
          let count = ap length front.1 ∙ length-append first.line front.0 in
          front.1 ∙ ap (λ behind. first.line ++ behind) (none front.0 (omega (arith, count, sum, same)))
        where
          none : (behind : List ℕ) → length behind ≡ 0 → behind ≡ []
          none [] is = refl
          none (x ∷ xs) is = absurd (omega (arith, is))

  had_none : EndsWithin first.line first.rest → ⊥
  had_none within =
      let count = ap length within.1 ∙ length-append first.rest within.0 in
      let long = it.whole in
      first.wrong [] (whole_line first.line first.rest within (omega (arith, count, long)) ∙ sym (append-nil first.line))

  pub fault_on : IsFaultBefore core moment (bytes ++ more) fault
  fault_on = record {
    is = record {
      place = it.is.place;
      first = record {
        line = first.line;
        there = first.there;
        rest = first.rest ++ more;
        before = ap (λ front. front ++ more) first.before ∙ append_assoc (concat (take it.is.place (block_at core moment))) first.rest more;
        wrong = λ later same. (let front = front_of first.line first.rest more later it.whole same in first.wrong front.0 front.1);
      };
      line = it.is.line;
      cut = λ within. absurd (no_end within);
      node = λ within. it.is.node had_none;
    };
    whole = (let sum = longer in let long = it.whole in omega (arith, sum, long));
  }

-- a line more
module _ (core : Core) (moment : Moment) (count : ℕ) (line : List ℕ) (there : slice_get (block_at core moment) count ≡ Some line) where
  abbrev lines : List (List ℕ)
  lines = block_at core moment

  -- the next line, where the lines before it were right
  abbrev new_fault : (bytes read : List ℕ) (told : LineRead) (fault : LogFault) → bytes ≡ concat (take count lines) → IsLineRead line read told
      → fault.line ≡ lines_before core moment.half moment.superstep + count + 1 → (EndsWithin line read → fault.node ≡ None)
      → ((EndsWithin line read → ⊥) → fault.node ≡ blamed core moment.half moment.superstep count)
      → ((later : List ℕ) → read ≡ line ++ later → ⊥) → IsFault core moment (bytes ++ read) fault
  new_fault bytes read told fault had is at cut node wrong = record {
    place = count;
    first = record {
      line = line;
      there = there;
      rest = read;
      before = ap (λ front. front ++ read) had;
      wrong = wrong;
    };
    line = at;
    cut = cut;
    node = node;
  }

  -- what is found of the bytes with those that were read in the place of the line, by what was told of these
  pub record IsNext (bytes read : List ℕ) (told : LineRead) (fault : Option LogFault) : Type 0 where
    pub on : IsTrue told.whole → IsFound core moment (suc count) (bytes ++ read) fault
    pub over : IsFalse told.whole → (its : LogFault) × (fault ≡ Some its) × IsFault core moment (bytes ++ read) its

  too_long : (read later : List ℕ) → length read < length line → read ≡ line ++ later → ⊥
  too_long read later short same = (let count = ap length same ∙ length-append line later in absurd (omega (arith, count, short)))

  module _ (bytes read : List ℕ) (told : LineRead) (is : IsLineRead line read told) where
    -- the lines before it were right
    module _ (had : bytes ≡ concat (take count lines)) (found : Option LogFault) (its : IsFaultOf core moment.half moment.superstep count told found) where
      abbrev Fault : Option ℕ → LogFault
      Fault node = record { line = lines_before core moment.half moment.superstep + count + 1; node = node }

      all_right : told.agrees ≡ true → told.whole ≡ true → IsNext bytes read told found
      all_right agrees whole =
          let none : found ≡ None = its.right agrees whole in
          let same : read ≡ line = whole_line line read (is.agrees agrees) (is.whole whole) in
          let all : bytes ++ read ≡ concat (take (suc count) lines) =
          ap (λ front. front ++ read) had ∙ ap (λ more. concat (take count lines) ++ more) same ∙ sym (concat_next lines count line there) in
          record {
            on = λ yes. subst (IsFound core moment (suc count) (bytes ++ read)) (sym none) all;
            over = λ no. (let both : true ≡ false = sym whole ∙ no in cc);
          }

      cut_off : told.agrees ≡ true → told.whole ≡ false → IsNext bytes read told found
      cut_off agrees short =
          let some : found ≡ Some (Fault None) = its.cut agrees short in record {
            on = λ yes. (let both : true ≡ false = sym yes ∙ short in cc);
            over = λ no. (
              Fault None,
              some,
              new_fault bytes read told (Fault None) had is refl (λ within. refl) (λ none. absurd (none (is.agrees agrees)))
                  (λ later same. too_long read later (is.short short) same),
            );
          }

      abbrev differing : told.agrees ≡ false → IsFault core moment (bytes ++ read) (Fault (blamed core moment.half moment.superstep count))
      differing differs =
          new_fault bytes read told (Fault (blamed core moment.half moment.superstep count)) had is refl (λ within. absurd (is.differs differs within)) (λ none. refl)
          (λ later same. is.differs differs (longer_line line read later is.few same))

      all_wrong : told.agrees ≡ false → IsNext bytes read told found
      all_wrong differs =
          let some : found ≡ Some (Fault (blamed core moment.half moment.superstep count)) = its.wrong differs in
          let wrong = differing differs in record {
            on = λ yes. subst (IsFound core moment (suc count) (bytes ++ read)) (sym some) (record {
              is = wrong;
              whole = (let same = is.whole yes in let le : length line ≤ length read = omega (arith, same) in le);
            });
            over = λ no. (Fault (blamed core moment.half moment.superstep count), some, wrong);
          }

      first_found : IsNext bytes read told found
      first_found = by told.agrees told.whole refl refl
        where
          by : (agrees whole : Bool) → told.agrees ≡ agrees → told.whole ≡ whole → IsNext bytes read told found
          by true true a w = all_right a w
          by true false a w = cut_off a w
          by false whole a w = all_wrong a

    -- by what was found before
    pub next_found : (fault found : Option LogFault) → IsFound core moment count bytes fault → IsFaultOf core moment.half moment.superstep count told found
        → IsNext bytes read told (option_or fault found)
    next_found None found had its = first_found had found its
    next_found (Some fault) found had its = record {
      on = λ yes. fault_on core moment bytes read fault had;
      over = λ no. (fault, refl, (fault_on core moment bytes read fault had).is);
    }

-- bytes of one port

no_bytes : (name : List ℕ) → SameBytes [] ((name, []) ∷ [])
no_bytes name other = elim (bytes_eq other name) as (λ b. ◌≡◌ {A = List ℕ} [] (cond b [] [])) [ true ↦ refl | false ↦ refl ]

joined_bytes : (name x y : List ℕ) → SameBytes ((name, x) ∷ (name, y) ∷ []) ((name, x ++ y) ∷ [])
joined_bytes name x y other =
    elim (bytes_eq other name) as (λ b. cond b (x ++ cond b (y ++ []) []) (cond b (y ++ []) []) ≡ cond b ((x ++ y) ++ []) []) [
      | true ↦ sym (append_assoc x y [])
      | false ↦ refl
    ]

module _ (name x y : List ℕ) (olds mids news : List PortView) (had : Progress olds mids ((name, x) ∷ []) []) where
  read_on : Progress mids news ((name, y) ∷ []) [] → Progress olds news ((name, x ++ y) ∷ []) []
  read_on more =
      Progress-same_taken olds news ((name, x) ∷ (name, y) ∷ []) ((name, x ++ y) ∷ []) [] (joined_bytes name x y)
      (Progress-on olds mids news ((name, x) ∷ []) ((name, y) ∷ []) [] [] had more)

  read_failed : ReadFailure name mids news ((name, y) ∷ []) [] → ReadFailure name olds news ((name, x ++ y) ∷ []) []
  read_failed failure =
      let all = fill_failure-on name olds mids news ((name, x) ∷ []) ((name, y) ∷ []) [] had failure in record {
        same_names = all.same_names;
        rose = all.rose;
        drawn = EachPort-same (λ before after bytes. Consumes before.left after.left bytes) olds news ((name, x) ∷ (name, y) ∷ []) ((name, x ++ y) ∷ []) (joined_bytes name x y) all.drawn;
        delivered = all.delivered;
      }

-- a failed read that gave nothing
pub failed_none : (name : List ℕ) (olds news : List PortView) → ReadFailure name olds news [] [] → ReadFailure name olds news ((name, []) ∷ []) []
failed_none name olds news failure = record {
  same_names = failure.same_names;
  rose = failure.rose;
  drawn = EachPort-same (λ before after bytes. Consumes before.left after.left bytes) olds news [] ((name, []) ∷ []) (no_bytes name) failure.drawn;
  delivered = failure.delivered;
}

-- what holds of a call that failed
pub failed_as : {T : Type 0} (fact : Type 0) (result : Result T Failed) (failed : Failed) → result ≡ Err failed → OnErr result fact → fact
failed_as fact (Ok value) failed is holds = cc
failed_as fact (Err other) failed is holds = holds

pub not_ok : {T : Type 0} (result : Result T Failed) (failed : Failed) → result ≡ Err failed → IsOk result → ⊥
not_ok (Ok value) failed is ok = cc
not_ok (Err other) failed is ok = cc

pub is_whole : (whole : Bool) → not whole ≡ false → whole ≡ true
is_whole true is = refl
is_whole false is = cc

pub is_short : (whole : Bool) → not whole ≡ true → whole ≡ false
is_short true is = cc
is_short false is = refl

-- nothing was compared
pub none_compared : (core : Core) (moment : Moment) (at : ℕ) (ports : List PortView) → HasCompared core moment 0 at ports ports None
none_compared core moment at ports = record {
  same_names = refl;
  untouched = λ name place. Untouched-start (name ∷ []) ports;
  read = λ name place. record {
    bytes = [];
    progress = Progress-same_taken ports ports [] ((name, []) ∷ []) [] (no_bytes name) (Progress-start ports);
    long = refl;
    found = refl;
  };
}

-- so far, while a chunk keeps its room
pub record ComparedSoFar (core : Core) (moment : Moment) (count at : ℕ) (olds news : List PortView) (fault : Option LogFault) (old_room new_room : ℕ) : Type 0 where
  pub same_names : names news ≡ names olds
  pub untouched : ForNameAt at olds (λ name. Untouched (name ∷ []) olds news)
  pub room : new_room ≡ old_room
  pub compared : HasCompared core moment count at olds news fault

module _ (core : Core) (moment : Moment) (count at : ℕ) (olds mids news : List PortView) (fault found : Option LogFault)
    (it : HasCompared core moment count at olds mids fault) (line : List ℕ) (there : slice_get (block_at core moment) count ≡ Some line)
    (same : names news ≡ names mids) (alone : ForNameAt at mids (λ name. Untouched (name ∷ []) mids news)) where
  pub untouched_on : ForNameAt at olds (λ name. Untouched (name ∷ []) olds news)
  untouched_on name place =
      Untouched-on (name ∷ []) olds mids news (it.untouched name place) it.same_names (alone name (place-kept olds mids at name it.same_names place))

  -- the line was read, in full or to the end of the log
  module _ (told : LineRead) (reads : ForNameAt at mids (λ name. ReadsLine line name mids news (Ok told)))
      (its : IsFaultOf core moment.half moment.superstep count told found) where
    pub compared_on : told.whole ≡ true → HasCompared core moment (count + 1) at olds news (option_or fault found)
    compared_on whole = record {
      same_names = same ∙ it.same_names;
      untouched = untouched_on;
      read = λ name place.
          let next : suc count ≡ count + 1 = omega arith in
          let had = it.read name place in
          let read = reads name (place-kept olds mids at name it.same_names place) in
          let long = had.long in
          let all = read.ends.0.whole whole in
          let sum = length-append had.bytes read.bytes in
          let more = ap length (concat_next (block_at core moment) count line there) ∙ length-append (concat (take count (block_at core moment))) line in
          subst (λ k. HasComparedAs core moment k name olds news (option_or fault found)) next (record {
            bytes = had.bytes ++ read.bytes;
            progress = read_on name had.bytes read.bytes olds mids news had.progress read.reads;
            long = omega (arith, long, all, sum, more);
            found = (next_found core moment count line there had.bytes read.bytes told read.ends.0 fault found had.found its).on whole;
          });
    }

    pub compared_to_end : told.whole ≡ false → ForNameAt at olds (λ name. Compares core moment name olds news (Ok (option_or fault found)))
    compared_to_end short name place =
        let had = it.read name place in
        let read = reads name (place-kept olds mids at name it.same_names place) in
        let long = had.long in
        let few = read.ends.0.few in
        let sum = length-append had.bytes read.bytes in
        let all = line_within (block_at core moment) count line there in
        let over = (next_found core moment count line there had.bytes read.bytes told read.ends.0 fault found had.found its).over short in record {
          bytes = had.bytes ++ read.bytes;
          reads = read_on name had.bytes read.bytes olds mids news had.progress read.reads;
          ends = (
            record {
              few = omega (arith, long, few, sum, all);
              end = λ less. read.ends.1 (read.ends.0.short short);
            },
            subst (IsVerdict core moment (had.bytes ++ read.bytes)) (sym over.1) over.2,
          );
          roomy = λ room. refl;
        }

    pub more_compared : (result : Option LogFault) → result ≡ option_or fault found → told.whole ≡ true → (old_room new_room : ℕ) → new_room ≡ old_room
        → ComparedSoFar core moment (count + 1) at olds news result old_room new_room
    more_compared result is whole old_room new_room room =
        let made = compared_on whole in record {
          same_names = made.same_names;
          untouched = made.untouched;
          room = room;
          compared = subst (HasCompared core moment (count + 1) at olds news) (sym is) made;
        }

    pub ended_compared : (result : Option LogFault) → result ≡ option_or fault found → told.whole ≡ false
        → ForNameAt at olds (λ name. Compares core moment name olds news (Ok result))
    ended_compared result is short =
        subst (λ (f : Option LogFault). ForNameAt at olds (λ name. Compares core moment name olds news (Ok f))) (sym is) (compared_to_end short)

  -- a read failed
  pub compared_until : (failed : Failed) → ForNameAt at mids (λ name. ReadsLine line name mids news (Err failed))
      → ForNameAt at olds (λ name. Compares core moment name olds news (Err failed))
  compared_until failed reads name place =
      let had = it.read name place in
      let read = reads name (place-kept olds mids at name it.same_names place) in
      let long = had.long in
      let few = read.ends in
      let sum = length-append had.bytes read.bytes in
      let all = line_within (block_at core moment) count line there in record {
        bytes = had.bytes ++ read.bytes;
        reads = read_failed name had.bytes read.bytes olds mids news had.progress read.reads;
        ends = omega (arith, long, few, sum, all);
        roomy = λ room. read.roomy (Roomy-on olds mids ((name, had.bytes) ∷ []) [] [] had.progress room);
      }

-- all lines were read
pub all_compared : (core : Core) (moment : Moment) (count at : ℕ) (olds news : List PortView) (fault : Option LogFault)
    → HasCompared core moment count at olds news fault → length (block_at core moment) ≤ count
    → ForNameAt at olds (λ name. Compares core moment name olds news (Ok fault))
all_compared core moment count at olds news fault it past name place =
    let had = it.read name place in
    let lines = block_at core moment in
    let whole : concat (take count lines) ≡ concat lines = ap concat (take_all count lines past) in
    let long : length had.bytes ≡ length (concat lines) = had.long ∙ ap length whole in record {
      bytes = had.bytes;
      reads = had.progress;
      ends = (record { few = omega (arith, long); end = λ less. absurd (omega (arith, long, less)) }, by fault had.found whole);
      roomy = λ room. refl;
    }
  where
    by : (fault : Option LogFault) → IsFound core moment count (it.read name place).bytes fault
        → concat (take count (block_at core moment)) ≡ concat (block_at core moment) → IsVerdict core moment (it.read name place).bytes fault
    by None found whole = found ∙ whole
    by (Some fault) found whole = found.is

-- what a read in the place of a line says, by its answer
pub read_as : (line : List ℕ) (at : ℕ) (mids news : List PortView) (result other : Result LineRead Failed) → result ≡ other
    → ForNameAt at mids (λ name. ReadsLine line name mids news result) → ForNameAt at mids (λ name. ReadsLine line name mids news other)
read_as line at mids news result other same reads = subst (λ r. ForNameAt at mids (λ name. ReadsLine line name mids news r)) same reads
