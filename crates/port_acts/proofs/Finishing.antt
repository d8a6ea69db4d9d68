-- Finishes of ports at places, in turn.
use Rattle.std.proofs.Common.{◌≡◌, ◌<◌, ◌≤◌, ◌+◌, ℕ, zero, suc, List, [], ◌∷◌, ◌++◌, length, take, drop, get_or, Some, refl, sym, ◌∙◌, ap, subst, arith}
use Rattle.std.proofs.lemmas.List.{map-append, take_all}
use Rattle.hume_ports.specs.Port.{PortView}
use Rattle.hume_ports.specs.Ports.{names, place_of, ForNameAt}
use Rattle.hume_ports.proofs.Names.{place-kept}
use Rattle.port_acts.specs.Acts.{Act, finishes, finish_each, AreNamed}
use Rattle.port_acts.specs.Ends.{never, Made, Fails}
use Rattle.port_acts.proofs.Making.{Made-start, Made-on}
use Rattle.port_acts.proofs.Failing.{then_fails}

-- the first of the places are finished
pub record HasFinished (olds news : List PortView) (places : List ℕ) (count : ℕ) : Type 0 where
  pub same_names : names news ≡ names olds
  pub made : (all : List (List ℕ)) → AreNamed (names olds) places all → Made (finish_each (take count all)) [] olds news

pub none_finished : (ports : List PortView) (places : List ℕ) → HasFinished ports ports places 0
none_finished ports places = record { same_names = refl; made = λ all named. Made-start ports }

-- the name at one of the places
record NameThere (ports : List (List ℕ)) (places : List ℕ) (all : List (List ℕ)) (count at : ℕ) : Type 0 where
  name : List ℕ
  place : place_of name ports ≡ Some at
  whole : all ≡ take count all ++ name ∷ drop (suc count) all
  more : take (suc count) all ≡ take count all ++ name ∷ []

name_there : (ports : List (List ℕ)) (places : List ℕ) (all : List (List ℕ)) (count at : ℕ) → AreNamed ports places all → count < length places
    → at ≡ get_or places count 0 → NameThere ports places all count at
name_there ports [] all count at named less is = absurd (omega (arith, less))
name_there ports (first ∷ places) [] count at named less is = absurd named
name_there ports (first ∷ places) (name ∷ all) zero at named less is = record {
  name = name;
  place = named.0 ∙ ap Some (sym is);
  whole = refl;
  more = refl;
}
name_there ports (first ∷ places) (name ∷ all) (suc count) at named less is =
    let rest = name_there ports places all count at named.1 (omega (arith, less)) is in
    record {
      name = rest.name;
      place = rest.place;
      whole = ap (λ (others : List (List ℕ)). name ∷ others) rest.whole;
      more = ap (λ (others : List (List ℕ)). name ∷ others) rest.more;
    }

pub one_finished : (olds mids news : List PortView) (places : List ℕ) (count at : ℕ) → count < length places → at ≡ get_or places count 0
    → HasFinished olds mids places count → ForNameAt at mids (λ name. Made (finishes name ∷ []) [] mids news) → names news ≡ names mids
    → HasFinished olds news places (count + 1)
one_finished olds mids news places count at less is done made same = record {
  same_names = same ∙ done.same_names;
  made = λ all named.
      let there = name_there (names olds) places all count at named less is in
      let acts : finish_each (take (suc count) all) ≡ finish_each (take count all) ++ finishes there.name ∷ [] =
      ap finish_each there.more ∙ map-append (λ (name : List ℕ). finishes name) (take count all) (there.name ∷ []) in
      let P : List Act → Type 0 = λ list. Made list [] olds news in
      let Q : ℕ → Type 0 = λ done. Made (finish_each (take done all)) [] olds news in
      let next : suc count ≡ count + 1 = omega arith in
      subst Q next (subst P (sym acts) (Made-on (finish_each (take count all)) (finishes there.name ∷ []) [] [] olds mids news (done.made all named)
      (made there.name (place-kept olds mids at there.name done.same_names there.place))));
}

pub one_fails : (olds mids news : List PortView) (places : List ℕ) (count at : ℕ) → count < length places → at ≡ get_or places count 0
    → HasFinished olds mids places count → ForNameAt at mids (λ name. Fails never [] (finishes name ∷ []) mids news)
    → (all : List (List ℕ)) → AreNamed (names olds) places all → Fails never [] (finish_each all) olds news
one_fails olds mids news places count at less is done fails all named =
    let there = name_there (names olds) places all count at named less is in
    let acts : finish_each all ≡ finish_each (take count all) ++ finishes there.name ∷ finish_each (drop (suc count) all) =
    ap finish_each there.whole ∙ map-append (λ (name : List ℕ). finishes name) (take count all) (there.name ∷ drop (suc count) all) in
    then_fails never [] (finish_each (take count all)) (finishes there.name) (finish_each (drop (suc count) all)) (finish_each all) [] olds mids news acts
    (done.made all named) (fails there.name (place-kept olds mids at there.name done.same_names there.place))

as_many : (ports : List (List ℕ)) (places : List ℕ) (all : List (List ℕ)) → AreNamed ports places all → length all ≡ length places
as_many ports [] [] named = refl
as_many ports [] (name ∷ all) named = absurd named
as_many ports (at ∷ places) [] named = absurd named
as_many ports (at ∷ places) (name ∷ all) named = ap suc (as_many ports places all named.1)

pub all_finished : (olds news : List PortView) (places : List ℕ) (count : ℕ) → length places ≤ count → HasFinished olds news places count
    → (all : List (List ℕ)) → AreNamed (names olds) places all → Made (finish_each all) [] olds news
all_finished olds news places count past done all named =
    let P : List (List ℕ) → Type 0 = λ list. Made (finish_each list) [] olds news in
    subst P (take_all count all (omega (arith, past, as_many (names olds) places all named))) (done.made all named)
