-- Lines that are told one after another.
use Rattle.std.proofs.Common.{◌≡◌, ℕ, zero, suc, ◌+◌, ◌<◌, List, [], ◌∷◌, ◌++◌, length, Some, slice_get, Result, Ok, Err, refl, ap, sym, ◌∙◌, subst, arith, append_assoc, append-nil}
use Rattle.std.proofs.lemmas.List.{map-append}
use Rattle.std.specs.List.{flat_map, range_with_len}
use Rattle.hume_base.specs.declared.types.Value.{Value}
use Rattle.hume_model.specs.declared.core_tree.WireC.{WireC}
use Rattle.hume_model.specs.declared.core_tree.Core.{Core}
use Rattle.hume_ports.specs.declared.port.Failed.{Failed}
use Rattle.hume_ports.specs.Port.{PortView}
use Rattle.hume_ports.specs.Ports.{names, place_of, ForNameAt}
use Rattle.hume_text.specs.declared.chunk.Chunk.{Chunk}
use Rattle.hume_text.specs.Chunks.{room_of}
use Rattle.port_acts.specs.Acts.{Act, write_each, writes}
use Rattle.port_acts.specs.Ends.{Ends, Fails, Made, never}
use Rattle.port_acts.specs.Places.{IsPlaceOf}
use Rattle.port_acts.proofs.Failing.{Ends-on, Fails-on, Fails-stop}
use Rattle.port_acts.proofs.Making.{Made-on, Made-start}
use Rattle.run_rounds.specs.Streams.{std_out}
use Rattle.trace_print.specs.TraceLines.{line_there, wire_line}
use Rattle.run_rounds.specs.Writes.{told}
use Rattle.run_rounds.proofs.Clearings.{each_append}
use Rattle.run_rounds.proofs.Ranges.{flat_more, flat_within}

-- what holds for the name of the port at its place holds for the name that means it
pub for_name : (fact : List ℕ → Type 0) (name : List ℕ) (ports : List PortView) (at : ℕ) → IsPlaceOf name (names ports) at → ForNameAt at ports fact → fact name
for_name fact name ports at place facts = facts name (subst (λ other. place_of other (names ports) ≡ Some at) place.named place.place.first)

pub told_append : (first second : List (List ℕ)) → write_each (told (first ++ second)) ≡ write_each (told first) ++ write_each (told second)
told_append first second = ap write_each (map-append (λ line. (std_out, line)) first second) ∙ each_append (told first) (told second)

-- After these acts the lines of the first numbers were told.
pub record Telling (before ports : List PortView) (acts : List Act) (of : ℕ → List (List ℕ)) (old chunk : Chunk) (count : ℕ) : Type 0 where
  pub same_names : names ports ≡ names before
  pub room : room_of chunk ≡ room_of old
  pub made : Made (acts ++ write_each (told (flat_map of (range_with_len 0 count)))) [] before ports

pub telling_none : (before ports : List PortView) (acts : List Act) (of : ℕ → List (List ℕ)) (old chunk : Chunk) → names ports ≡ names before
    → room_of chunk ≡ room_of old
    → Made acts [] before ports → Telling before ports acts of old chunk 0
telling_none before ports acts of old chunk same room made = record {
  same_names = same;
  room = room;
  made = subst (λ all. Made all [] before ports) (sym (append-nil acts)) made;
}

module _ (before mids news : List PortView) (acts : List Act) (of : ℕ → List (List ℕ)) (old mid chunk : Chunk) (count : ℕ) (it : Telling before mids acts of old mid count) where
  abbrev Lines : ℕ → List (List ℕ)
  Lines k = flat_map of (range_with_len 0 k)

  more : write_each (told (Lines (count + 1))) ≡ write_each (told (Lines count)) ++ write_each (told (of count))
  more =
      let next : count + 1 ≡ suc count = omega arith in
      let here : 0 + count ≡ count = omega arith in
      ap (λ k. write_each (told (Lines k))) next ∙ ap (λ lines. write_each (told lines)) (flat_more of 0 count ∙ ap (λ k. Lines count ++ of k) here)
      ∙ told_append (Lines count) (of count)

  abbrev Next : Result (Unit {0}) Failed → Type 0
  Next result = Ends never [] (write_each (told (of count))) [] mids news result

  pub telling_next : (result : Result (Unit {0}) Failed) → result ≡ Ok tt → Next result → names news ≡ names mids → room_of chunk ≡ room_of mid
      → Telling before news acts of old chunk (count + 1)
  telling_next (Ok done) is ends same room = record {
    same_names = same ∙ it.same_names;
    room = room ∙ it.room;
    made = subst (λ all. Made all [] before news)
        (append_assoc acts (write_each (told (Lines count))) (write_each (told (of count))) ∙ ap (λ (all : List Act). acts ++ all) (sym more))
        (Made-on (acts ++ write_each (told (Lines count))) (write_each (told (of count))) [] [] before mids news it.made ends);
  }
  telling_next (Err failed) is ends same room = cc

  pub telling_failed : (total : ℕ) → count < total → (result : Result (Unit {0}) Failed) (failed : Failed) → result ≡ Err failed → Next result
      → Fails never [] (acts ++ write_each (told (Lines total))) before news
  telling_failed total within (Ok done) failed is ends = cc
  telling_failed total within (Err other) failed is ends =
      let all = flat_within of 0 (count + 1) total (omega (arith, within)) in
      let first : List Act = acts ++ write_each (told (Lines count)) in
      let here : Fails never [] (first ++ write_each (told (of count))) before news =
      Fails-on never [] [] first (write_each (told (of count))) before mids news it.made ends in
      let whole : acts ++ write_each (told (Lines total)) ≡ (first ++ write_each (told (of count))) ++ write_each (told all.0) =
      ap (λ lines. acts ++ write_each (told lines)) all.1
      ∙ ap (λ (behind : List Act). acts ++ behind) (told_append (Lines (count + 1)) all.0 ∙ ap (λ (front : List Act). front ++ write_each (told all.0)) more)
      ∙ sym (append_assoc acts (write_each (told (Lines count)) ++ write_each (told (of count))) (write_each (told all.0)))
      ∙ ap (λ (front : List Act). front ++ write_each (told all.0)) (sym (append_assoc acts (write_each (told (Lines count))) (write_each (told (of count))))) in
      subst (λ every. Fails never [] every before news) (sym whole)
      (Fails-stop never [] (first ++ write_each (told (of count))) (write_each (told all.0)) before news here)

pub item_in : {X : Type 0} (xs : List X) (n : ℕ) → n < length xs → (x : X) × (slice_get xs n ≡ Some x)
item_in [] n within = absurd (omega (arith, within))
item_in (x ∷ xs) zero within = (x, refl)
item_in (x ∷ xs) (suc n) within = item_in xs n (omega (arith, within))

-- a clear chunk with a line holds the line
pub line_told : (bytes before line : List ℕ) (olds news : List PortView) (result : Result (Unit {0}) Failed) → bytes ≡ before ++ line → before ≡ []
    → Ends never [] (writes std_out bytes ∷ []) [] olds news result → Ends never [] (writes std_out line ∷ []) [] olds news result
line_told bytes before line olds news result put clear ends =
    subst (λ all. Ends never [] (writes std_out all ∷ []) [] olds news result) (put ∙ ap (λ (first : List ℕ). first ++ line) clear) ends

pub wire_told : (core : Core) (w : ℕ) (its : WireC) (held : List Value) (olds news : List PortView) (result : Result (Unit {0}) Failed)
    → slice_get core.wires w ≡ Some its
    → Ends never [] (writes std_out (wire_line core its held) ∷ []) [] olds news result
    → Ends never [] (write_each (told (line_there core held (slice_get core.wires w)))) [] olds news result
wire_told core w its held olds news result there ends =
    subst (λ o. Ends never [] (write_each (told (line_there core held o))) [] olds news result) (sym there) ends

pub untold : (lines : List (List ℕ)) (ports : List PortView) → lines ≡ [] → Made (write_each (told lines)) [] ports ports
untold lines ports none = subst (λ all. Made (write_each (told all)) [] ports ports) (sym none) (Made-start ports)

-- a step that wasn't told ends the whole so
pub first_failed : (act : Act) (lines : List (List ℕ)) (olds news : List PortView) (result : Result (Unit {0}) Failed) (failed : Failed) → result ≡ Err failed
    → Ends never [] (act ∷ []) [] olds news result → Fails never [] (act ∷ write_each (told lines)) olds news
first_failed act lines olds news (Ok done) failed is ends = cc
first_failed act lines olds news (Err other) failed is ends = Fails-stop never [] (act ∷ []) (write_each (told lines)) olds news ends

pub first_made : (act : Act) (olds news : List PortView) (result : Result (Unit {0}) Failed) → result ≡ Ok tt
    → Ends never [] (act ∷ []) [] olds news result → Made (act ∷ []) [] olds news
first_made act olds news (Ok done) is ends = ends
first_made act olds news (Err failed) is ends = cc

-- all of them were told
pub telling_over : (before ports : List PortView) (acts : List Act) (of : ℕ → List (List ℕ)) (old chunk : Chunk) (count total : ℕ)
    → Telling before ports acts of old chunk count
    → count ≡ total → Made (acts ++ write_each (told (flat_map of (range_with_len 0 total)))) [] before ports
telling_over before ports acts of old chunk count total it all =
    subst (λ k. Made (acts ++ write_each (told (flat_map of (range_with_len 0 k)))) [] before ports) all it.made

-- an act and then lines
pub then_told : (act : Act) (lines : List (List ℕ)) (olds mids news : List PortView) (result : Result (Unit {0}) Failed) → Made (act ∷ []) [] olds mids
    → Ends never [] (write_each (told lines)) [] mids news result → Ends never [] (act ∷ write_each (told lines)) [] olds news result
then_told act lines olds mids news result made ends = Ends-on never [] [] [] (act ∷ []) (write_each (told lines)) olds mids news result made ends

-- the same lines by the numbers of the nodes

shifted : (f : ℕ → List (List ℕ)) (by from count : ℕ) → flat_map (λ n. f (by + n)) (range_with_len from count) ≡ flat_map f (range_with_len (by + from) count)
shifted f by from zero = refl
shifted f by from (suc count) =
    let next : by + (from + 1) ≡ (by + from) + 1 = omega arith in
    ap (λ (later : List (List ℕ)). f (by + from) ++ later) (shifted f by (from + 1) count ∙ ap (λ k. flat_map f (range_with_len k count)) next)

shifted_lines : (first count : ℕ) (f : ℕ → List (List ℕ)) → write_each (told (flat_map (λ n. f (first + n)) (range_with_len 0 count)))
    ≡ write_each (told (flat_map f (range_with_len first count)))
shifted_lines first count f =
    let here : first + 0 ≡ first = omega arith in
    ap (λ lines. write_each (told lines)) (shifted f first 0 count ∙ ap (λ k. flat_map f (range_with_len k count)) here)

pub shifted_made : (first count : ℕ) (f : ℕ → List (List ℕ)) (olds news : List PortView)
    → Made (write_each (told (flat_map (λ n. f (first + n)) (range_with_len 0 count)))) [] olds news
    → Made (write_each (told (flat_map f (range_with_len first count)))) [] olds news
shifted_made first count f olds news made = subst (λ acts. Made acts [] olds news) (shifted_lines first count f) made

pub shifted_failed : (first count : ℕ) (f : ℕ → List (List ℕ)) (olds news : List PortView)
    → Fails never [] (write_each (told (flat_map (λ n. f (first + n)) (range_with_len 0 count)))) olds news
    → Fails never [] (write_each (told (flat_map f (range_with_len first count)))) olds news
shifted_failed first count f olds news fails = subst (λ acts. Fails never [] acts olds news) (shifted_lines first count f) fails

-- as many lines as there are
pub count_told : (f : ℕ → List (List ℕ)) (count total : ℕ) (olds news : List PortView) (result : Result (Unit {0}) Failed) → count ≡ total
    → Ends never [] (write_each (told (flat_map f (range_with_len 0 count)))) [] olds news result
    → Ends never [] (write_each (told (flat_map f (range_with_len 0 total)))) [] olds news result
count_told f count total olds news result all ends =
    subst (λ k. Ends never [] (write_each (told (flat_map f (range_with_len 0 k)))) [] olds news result) all ends

-- a line that is given as bytes
pub line_given : (bytes line : List ℕ) (olds news : List PortView) (result : Result (Unit {0}) Failed) → bytes ≡ line
    → Ends never [] (writes std_out bytes ∷ []) [] olds news result → Ends never [] (writes std_out line ∷ []) [] olds news result
line_given bytes line olds news result is ends = subst (λ all. Ends never [] (writes std_out all ∷ []) [] olds news result) is ends

-- lines and then others

pub lines_failed : (lines later : List (List ℕ)) (olds news : List PortView) (result : Result (Unit {0}) Failed) (failed : Failed) → result ≡ Err failed
    → Ends never [] (write_each (told lines)) [] olds news result → Fails never [] (write_each (told (lines ++ later))) olds news
lines_failed lines later olds news (Ok done) failed is ends = cc
lines_failed lines later olds news (Err other) failed is ends =
    subst (λ acts. Fails never [] acts olds news) (sym (told_append lines later))
    (Fails-stop never [] (write_each (told lines)) (write_each (told later)) olds news ends)

pub lines_then : (lines later : List (List ℕ)) (olds mids news : List PortView) (first result : Result (Unit {0}) Failed) → first ≡ Ok tt
    → Ends never [] (write_each (told lines)) [] olds mids first → Ends never [] (write_each (told later)) [] mids news result
    → Ends never [] (write_each (told (lines ++ later))) [] olds news result
lines_then lines later olds mids news (Ok done) result is made ends =
    subst (λ acts. Ends never [] acts [] olds news result) (sym (told_append lines later))
    (Ends-on never [] [] [] (write_each (told lines)) (write_each (told later)) olds mids news result made ends)
lines_then lines later olds mids news (Err failed) result is made ends = cc
