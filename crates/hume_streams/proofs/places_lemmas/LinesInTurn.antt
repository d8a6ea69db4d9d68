-- Lines of values that are written in turn.
use Rattle.std.proofs.Common.{◌≡◌, ◌<◌, ◌≤◌, ◌+◌, ℕ, zero, suc, List, [], ◌∷◌, ◌++◌, length, take, drop, map, slice_get, Some, None, refl, sym, ◌∙◌, ap, subst, arith}
use Rattle.std.proofs.lemmas.List.{map-append, take_all}
use Rattle.std.specs.List.{AllZip}
use Rattle.hume_base.specs.declared.types.Ty.{Ty}
use Rattle.hume_base.specs.declared.types.Types.{Types}
use Rattle.hume_base.specs.declared.types.Value.{Value}
use Rattle.hume_text.specs.Printed.{AreWordsOf}
use Rattle.hume_ports.specs.Port.{PortView}
use Rattle.hume_ports.specs.Ports.{names, place_of, ForNameAt}
use Rattle.hume_ports.specs.Delivery.{Pairs}
use Rattle.hume_ports.proofs.Names.{place-kept}
use Rattle.port_acts.specs.Acts.{Act, writes, write_each}
use Rattle.port_acts.specs.Ends.{never, Made, Fails}
use Rattle.port_acts.proofs.Making.{Made-start, Made-on}
use Rattle.port_acts.proofs.Failing.{then_fails}
use Rattle.hume_streams.specs.Logs.{line_of, IsLineOf}
use Rattle.hume_streams.specs.places.LineWrites.{line_writes}

-- the lines of the first rows were written to the port at the place
pub record HasDrained (types : Types) (ty : Ty) (rows : List (List ℕ)) (at : ℕ) (olds news : List PortView) (count : ℕ) : Type 0 where
  pub same_names : names news ≡ names olds
  pub made : (values : List Value) → AllZip (AreWordsOf types ty) rows values
      → ForNameAt at olds (λ name. Made (write_each (line_writes name types ty (take count values))) [] olds news)

pub none_drained : (types : Types) (ty : Ty) (rows : List (List ℕ)) (at : ℕ) (ports : List PortView) → HasDrained types ty rows at ports ports 0
none_drained types ty rows at ports = record { same_names = refl; made = λ values are name place. Made-start ports }

-- the value whose words are one of the rows
record ValueThere (types : Types) (ty : Ty) (values : List Value) (count : ℕ) (words : List ℕ) : Type 0 where
  value : Value
  are : AreWordsOf types ty words value
  whole : values ≡ take count values ++ value ∷ drop (suc count) values
  more : take (suc count) values ≡ take count values ++ value ∷ []

value_there : (types : Types) (ty : Ty) (rows : List (List ℕ)) (values : List Value) (count : ℕ) (words : List ℕ) → AllZip (AreWordsOf types ty) rows values
    → slice_get rows count ≡ Some words → ValueThere types ty values count words
value_there types ty [] [] count words are at = absurd (elim count as (λ n. slice_get [] n ≡ Some words → ⊥) [ zero ↦ λ e. cc | suc n ↦ λ e. cc ] at)
value_there types ty [] (value ∷ values) count words are at = absurd are
value_there types ty (row ∷ rows) [] count words are at = absurd are
value_there types ty (row ∷ rows) (value ∷ values) zero words are at =
    let same : row ≡ words = cc in
    record { value = value; are = subst (λ (w : List ℕ). AreWordsOf types ty w value) same are.0; whole = refl; more = refl }
value_there types ty (row ∷ rows) (value ∷ values) (suc count) words are at =
    let rest = value_there types ty rows values count words are.1 at in
    record {
      value = rest.value;
      are = rest.are;
      whole = ap (λ (others : List Value). value ∷ others) rest.whole;
      more = ap (λ (others : List Value). value ∷ others) rest.more;
    }

-- the lines of values as acts
abbrev lines : List ℕ → Types → Ty → List Value → List Act
lines name types ty values = write_each (line_writes name types ty values)

lines_on : (name : List ℕ) (types : Types) (ty : Ty) (some more : List Value) → lines name types ty (some ++ more) ≡ lines name types ty some ++ lines name types ty more
lines_on name types ty some more =
    ap write_each (map-append (λ (value : Value). (name, line_of types ty value)) some more)
    ∙ map-append (λ (pair : List ℕ × List ℕ). writes pair.0 pair.1) (line_writes name types ty some) (line_writes name types ty more)

pub one_drained : (types : Types) (ty : Ty) (rows : List (List ℕ)) (at : ℕ) (olds mids news : List PortView) (count : ℕ) (words line : List ℕ)
    → slice_get rows count ≡ Some words → IsLineOf types ty words line → HasDrained types ty rows at olds mids count
    → ForNameAt at mids (λ name. Made (writes name line ∷ []) [] mids news) → names news ≡ names mids
    → HasDrained types ty rows at olds news (count + 1)
one_drained types ty rows at olds mids news count words line row is done made same = record {
  same_names = same ∙ done.same_names;
  made = λ values are name place.
      let there = value_there types ty rows values count words are row in
      let told : line ≡ line_of types ty there.value = is there.value there.are in
      let acts : lines name types ty (take (suc count) values) ≡ lines name types ty (take count values) ++ writes name line ∷ [] =
      ap (lines name types ty) there.more ∙ lines_on name types ty (take count values) (there.value ∷ [])
      ∙ ap (λ (bytes : List ℕ). lines name types ty (take count values) ++ writes name bytes ∷ []) (sym told) in
      let P : List Act → Type 0 = λ list. Made list [] olds news in
      let Q : ℕ → Type 0 = λ n. Made (lines name types ty (take n values)) [] olds news in
      let next : suc count ≡ count + 1 = omega arith in
      subst Q next (subst P (sym acts) (Made-on (lines name types ty (take count values)) (writes name line ∷ []) [] [] olds mids news
      (done.made values are name place) (made name (place-kept olds mids at name done.same_names place))));
}

pub one_undrained : (types : Types) (ty : Ty) (rows : List (List ℕ)) (at : ℕ) (olds mids news : List PortView) (count : ℕ) (words line : List ℕ)
    → slice_get rows count ≡ Some words → IsLineOf types ty words line → HasDrained types ty rows at olds mids count
    → ForNameAt at mids (λ name. Fails never [] (writes name line ∷ []) mids news)
    → (values : List Value) → AllZip (AreWordsOf types ty) rows values
    → ForNameAt at olds (λ name. Fails never [] (write_each (line_writes name types ty values)) olds news)
one_undrained types ty rows at olds mids news count words line row is done fails values are name place =
    let there = value_there types ty rows values count words are row in
    let told : line ≡ line_of types ty there.value = is there.value there.are in
    let later = lines name types ty (drop (suc count) values) in
    let acts : lines name types ty values ≡ lines name types ty (take count values) ++ writes name line ∷ later =
    ap (lines name types ty) there.whole ∙ lines_on name types ty (take count values) (there.value ∷ drop (suc count) values)
    ∙ ap (λ (bytes : List ℕ). lines name types ty (take count values) ++ writes name bytes ∷ later) (sym told) in
    then_fails never [] (lines name types ty (take count values)) (writes name line) later (lines name types ty values) [] olds mids news acts
    (done.made values are name place) (fails name (place-kept olds mids at name done.same_names place))

as_many : (types : Types) (ty : Ty) (rows : List (List ℕ)) (values : List Value) → AllZip (AreWordsOf types ty) rows values → length values ≡ length rows
as_many types ty [] [] are = refl
as_many types ty [] (value ∷ values) are = absurd are
as_many types ty (row ∷ rows) [] are = absurd are
as_many types ty (row ∷ rows) (value ∷ values) are = ap suc (as_many types ty rows values are.1)

pub all_drained : (types : Types) (ty : Ty) (rows : List (List ℕ)) (at : ℕ) (olds news : List PortView) (count : ℕ) → length rows ≤ count
    → HasDrained types ty rows at olds news count
    → (values : List Value) → AllZip (AreWordsOf types ty) rows values
    → ForNameAt at olds (λ name. Made (write_each (line_writes name types ty values)) [] olds news)
all_drained types ty rows at olds news count past done values are name place =
    let long = as_many types ty rows values are in
    let all : take count values ≡ values = take_all count values (omega (arith, past, long)) in
    subst (λ (vs : List Value). Made (write_each (line_writes name types ty vs)) [] olds news) all (done.made values are name place)
