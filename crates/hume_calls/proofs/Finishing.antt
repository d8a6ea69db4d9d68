-- The places of the ports that are finished, node after node.
use Rattle.std.proofs.Common.{◌≡◌, ◌==◌, ℕ, zero, suc, ◌+◌, ◌<◌, ◌≤◌, Bool, true, false, cond, if◌then◌else◌, List, [], ◌∷◌, ◌++◌, map, length, take, get_or, Option, Some, None, slice_get, refl, ap, sym, ◌∙◌, subst, arith, append-nil}
use Rattle.std.specs.List.{All, filter_map}
use Rattle.std.specs.Str.{bytes_eq}
use Rattle.std.proofs.lemmas.Bool.{eq-eqb, eqb-true}
use Rattle.std.proofs.lemmas.List.{map-append, take_all}
use Rattle.std.proofs.lemmas.List.Elements.{filter_map-append}
use Rattle.std.proofs.lemmas.Option.{slice_get-get_or}
use Rattle.hume_model.specs.declared.core_tree.NodeC.{NodeC}
use Rattle.hume_model.specs.declared.core_tree.NodeC.TheVariants.{Rules, From, To}
use Rattle.hume_model.specs.declared.core_tree.StreamC.{StreamC}
use Rattle.hume_model.specs.declared.core_tree.Core.{Core}
use Rattle.hume_ports.specs.Ports.{other_names, place_of}
use Rattle.hume_ports.proofs.Names.{bytes_eq-self, same_name}
use Rattle.port_acts.specs.Places.{IsPlace, IsPlaceOf, name_at}
use Rattle.port_acts.specs.Acts.{AreNamed}
use Rattle.run_rounds.specs.Streams.{ArePlacesOf, output_of, ports_of, std_out}
use Rattle.hume_calls.specs.Owed.{run_finishes}
use Rattle.hume_calls.specs.inner.FinishedPlaces.{finish_at}
use Rattle.hume_calls.proofs.Fitting.{up_to}

-- the names of the ports at these places
abbrev names_at : List (List ℕ) → List ℕ → List (List ℕ)
names_at names places = map (name_at names) places

abbrev outputs_in : List NodeC → List StreamC
outputs_in nodes = filter_map output_of nodes

last_more : (b : Bool) (last : List ℕ) → cond b [] (last ∷ []) ≡ [] ++ cond b [] (last ∷ [])
last_more true last = refl
last_more false last = refl

first_more : (b : Bool) (first : List ℕ) (whole few more : List (List ℕ)) → whole ≡ few ++ more
    → cond b whole (first ∷ whole) ≡ cond b few (first ∷ few) ++ more
first_more true first whole few more is = is
first_more false first whole few more is = ap (λ later. first ∷ later) is

other_more : (name : List ℕ) (names : List (List ℕ)) (last : List ℕ)
    → other_names name (names ++ last ∷ []) ≡ other_names name names ++ cond (bytes_eq name last) [] (last ∷ [])
other_more name [] last = last_more (bytes_eq name last) last
other_more name (first ∷ names) last =
    first_more (bytes_eq name first) first (other_names name (names ++ last ∷ [])) (other_names name names) (cond (bytes_eq name last) [] (last ∷ []))
    (other_more name names last)

one_there : (P : ℕ → Type 0) (x : ℕ) → P x → All P (x ∷ [])
one_there P x holds zero d less = holds
one_there P x holds (suc k) d less = absurd (omega (arith, less))

all_append : (P : ℕ → Type 0) (xs ys : List ℕ) → All P xs → All P ys → All P (xs ++ ys)
all_append P [] ys all more k d less = more k d less
all_append P (x ∷ xs) ys all more zero d less = all zero d (omega arith)
all_append P (x ∷ xs) ys all more (suc k) d less = all_append P xs ys (λ j e l. all (suc j) e (omega (arith, l))) more k d (omega (arith, less))

one_place : (a b : ℕ) → ◌≡◌ {A = Option ℕ} (Some a) (Some b) → a ≡ b
one_place a b e = cc

module _ (names : List (List ℕ)) (out : ℕ) (last : IsPlaceOf std_out names out) where
  -- the place is the last one just where the port is the report's
  same_port : (port : List ℕ) (at : ℕ) → IsPlaceOf port names at → (b : Bool) → (at == out) ≡ b → bytes_eq std_out port ≡ b
  same_port port at place true same =
      let equal : at ≡ out = eqb-true at out same in
      let named : port ≡ std_out = sym place.named ∙ ap (name_at names) equal ∙ last.named in
      ap (bytes_eq std_out) named ∙ bytes_eq-self std_out
  same_port port at place false same = by_bytes (bytes_eq std_out port) refl
    where
      by_bytes : (b : Bool) → bytes_eq std_out port ≡ b → b ≡ false
      by_bytes false e = refl
      by_bytes true e =
          let port_is : std_out ≡ port = same_name std_out port e in
          let there : place_of port names ≡ Some at = subst (λ name. place_of name names ≡ Some at) place.named place.place.first in
          let here : place_of std_out names ≡ Some out = subst (λ name. place_of name names ≡ Some out) last.named last.place.first in
          let equal : at ≡ out = one_place at out (sym there ∙ ap (λ name. place_of name names) (sym port_is) ∙ here) in
          let no : false ≡ true = sym same ∙ eq-eqb at out equal in cc

  -- what is finished for one node
  finished_name : (stream : StreamC) (at : ℕ) → IsPlaceOf stream.port names at
      → names_at names (finish_at (Some stream) at out) ≡ cond (bytes_eq std_out stream.port) [] (stream.port ∷ [])
  finished_name stream at place =
      by_same (at == out) ∙ ap (λ b. cond b [] (stream.port ∷ [])) (sym (same_port stream.port at place (at == out) refl))
    where
      by_same : (b : Bool) → names_at names (if b then [] else at ∷ []) ≡ cond b [] (stream.port ∷ [])
      by_same true = refl
      by_same false = ap (λ name. name ∷ []) place.named

  -- all places are ports'
  finished_place : (o : Option StreamC) (at : ℕ) → ((stream : StreamC) → o ≡ Some stream → IsPlaceOf stream.port names at)
      → All (IsPlace names) (finish_at o at out)
  finished_place None at place = λ k d less. absurd (omega (arith, less))
  finished_place (Some stream) at place = by_same (at == out)
    where
      by_same : (b : Bool) → All (IsPlace names) (if b then [] else at ∷ [])
      by_same true = λ k d less. absurd (omega (arith, less))
      by_same false = one_there (IsPlace names) at (place stream refl).place

-- the ports of the first nodes' streams are finished
pub record Finishing (core : Core) (places : List ℕ) (out : ℕ) (finishes : List ℕ) (count : ℕ) : Type 0 where
  pub named : (names : List (List ℕ)) → ArePlacesOf core names places → IsPlaceOf std_out names out
      → names_at names finishes ≡ other_names std_out (ports_of (outputs_in (take count core.nodes)))
  pub places_there : (names : List (List ℕ)) → ArePlacesOf core names places → IsPlaceOf std_out names out → All (IsPlace names) finishes

pub finishing_none : (core : Core) (places : List ℕ) (out : ℕ) → Finishing core places out [] 0
finishing_none core places out = record {
  named = λ names are last. refl;
  places_there = λ names are last k d less. absurd (omega (arith, less));
}

module _ (core : Core) (places : List ℕ) (out : ℕ) (finishes after : List ℕ) (count at : ℕ) (node : NodeC) (within : count < length core.nodes)
    (long : length places ≡ length core.nodes) (is : node ≡ get_or core.nodes count node) (place : at ≡ get_or places count 0)
    (added : after ≡ finishes ++ finish_at (output_of node) at out) (it : Finishing core places out finishes count) where
  there : slice_get core.nodes count ≡ Some node
  there = slice_get-get_or core.nodes count node within ∙ ap Some (sym is)

  place_there : slice_get places count ≡ Some at
  place_there = slice_get-get_or places count 0 (omega (arith, within, long)) ∙ ap Some (sym place)

  -- what the node adds
  adds : (names : List (List ℕ)) → ArePlacesOf core names places → IsPlaceOf std_out names out → (n : NodeC) → slice_get core.nodes count ≡ Some n
      → other_names std_out (ports_of (outputs_in (take count core.nodes)) ++ ports_of (filter_map output_of (n ∷ [])))
      ≡ other_names std_out (ports_of (outputs_in (take count core.nodes))) ++ names_at names (finish_at (output_of n) at out)
  adds names are last (Rules b) there =
      ap (other_names std_out) (append-nil (ports_of (outputs_in (take count core.nodes))))
      ∙ sym (append-nil (other_names std_out (ports_of (outputs_in (take count core.nodes)))))
  adds names are last (From stream) there =
      ap (other_names std_out) (append-nil (ports_of (outputs_in (take count core.nodes))))
      ∙ sym (append-nil (other_names std_out (ports_of (outputs_in (take count core.nodes)))))
  adds names are last (To stream) there =
      other_more std_out (ports_of (outputs_in (take count core.nodes))) stream.port
      ∙ ap (λ more. other_names std_out (ports_of (outputs_in (take count core.nodes))) ++ more)
      (sym (finished_name names out last stream at (are.each count at (To stream) stream there refl place_there)))

  place_of_output : (names : List (List ℕ)) → ArePlacesOf core names places → (n : NodeC) → slice_get core.nodes count ≡ Some n → (stream : StreamC)
      → output_of n ≡ Some stream
      → IsPlaceOf stream.port names at
  place_of_output names are (Rules b) there stream of = cc
  place_of_output names are (From other) there stream of = cc
  place_of_output names are (To other) there stream of =
      let same : other ≡ stream = cc in
      subst (λ (s : StreamC). IsPlaceOf s.port names at) same (are.each count at (To other) other there refl place_there)

  pub finishing_next : Finishing core places out after (count + 1)
  finishing_next = record {
    named = λ names are last.
        ap (names_at names) added ∙ map-append (name_at names) finishes (finish_at (output_of node) at out)
        ∙ ap (λ earlier. earlier ++ names_at names (finish_at (output_of node) at out)) (it.named names are last)
        ∙ sym (adds names are last node there)
        ∙ ap (other_names std_out) (sym (map-append (λ (stream : StreamC). stream.port) (outputs_in (take count core.nodes)) (filter_map output_of (node ∷ []))))
        ∙ ap (λ streams. other_names std_out (ports_of streams)) (sym (filter_map-append output_of (take count core.nodes) (node ∷ [])))
        ∙ ap (λ nodes. other_names std_out (ports_of (outputs_in nodes))) (sym (up_to core.nodes count node there));
    places_there = λ names are last. subst (All (IsPlace names)) (sym added)
        (all_append (IsPlace names) finishes (finish_at (output_of node) at out) (it.places_there names are last)
        (finished_place names out last (output_of node) at (place_of_output names are node there)));
  }

-- places of ports are named by the names there
are_named : (names : List (List ℕ)) (places : List ℕ) → All (IsPlace names) places → AreNamed names places (names_at names places)
are_named names [] all = tt
are_named names (at ∷ places) all =
    let later : All (IsPlace names) places = λ k d less. all (suc k) d (omega (arith, less)) in
    let here : IsPlace names at = all zero 0 (omega arith) in
    (here.first, are_named names places later)

-- and `std_out` last
pub finishing_over : (core : Core) (places : List ℕ) (out : ℕ) (finishes after : List ℕ) (count : ℕ) → length core.nodes ≤ count
    → after ≡ finishes ++ out ∷ []
    → Finishing core places out finishes count → (names : List (List ℕ)) → ArePlacesOf core names places → IsPlaceOf std_out names out
    → AreNamed names after (run_finishes core) × All (λ at. at < length names) after
finishing_over core places out finishes after count past added it names are last =
    let named : names_at names after ≡ run_finishes core =
    ap (names_at names) added ∙ map-append (name_at names) finishes (out ∷ [])
    ∙ ap (λ earlier. earlier ++ name_at names out ∷ []) (it.named names are last ∙ ap (λ nodes. other_names std_out (ports_of (outputs_in nodes))) (take_all count core.nodes past))
    ∙ ap (λ name. other_names std_out (ports_of (outputs_in core.nodes)) ++ name ∷ []) last.named in
    let all : All (IsPlace names) after =
    subst (All (IsPlace names)) (sym added) (all_append (IsPlace names) finishes (out ∷ []) (it.places_there names are last) (one_there (IsPlace names) out last.place)) in
    (subst (AreNamed names after) named (are_named names after all), λ k d less. (all k d less).within)
