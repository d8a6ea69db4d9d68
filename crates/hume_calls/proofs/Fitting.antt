-- The places of the ports of streams, node after node.
use Rattle.std.proofs.Common.{◌≡◌, ◌⊎◌, ℕ, zero, suc, ◌+◌, ◌<◌, ◌≤◌, Bool, true, false, cond, ◌||◌, List, [], ◌∷◌, ◌++◌, length, take, drop, get_or, Option, Some, None, slice_get, refl, ap, sym, ◌∙◌, subst, inl, inr, arith, append-nil, append_assoc, length-append}
use Rattle.std.specs.List.{filter_map}
use Rattle.std.specs.Option.{is_none}
use Rattle.std.specs.Str.{bytes_eq}
use Rattle.std.proofs.Math.Seq.{take-suc, drop-cons}
use Rattle.std.proofs.lemmas.Bool.{cases_lt, or_parts}
use Rattle.std.proofs.lemmas.List.{map-append}
use Rattle.std.proofs.lemmas.List.Elements.{filter_map-append}
use Rattle.std.proofs.lemmas.List.Folds.{list_any-append}
use Rattle.std.proofs.lemmas.Option.{get_or_from_slice_get, slice_get-get_or, slice_get_within}
use Rattle.hume_model.specs.declared.core_tree.NodeC.{NodeC}
use Rattle.hume_model.specs.declared.core_tree.NodeC.TheVariants.{Rules, From, To}
use Rattle.hume_model.specs.declared.core_tree.StreamC.{StreamC}
use Rattle.hume_ports.specs.Ports.{is_among, place_of}
use Rattle.hume_ports.proofs.Names.{bytes_eq-self}
use Rattle.port_acts.specs.Places.{IsPlaceOf}
use Rattle.hume_model.specs.declared.core_tree.Core.{Core}
use Rattle.run_rounds.specs.Streams.{ArePlacesOf, ArePortsApart, ports_of, stream_of}
use Rattle.hume_calls.specs.Streams.{is_unfit, unfit_line}
use Rattle.hume_calls.specs.inner.FoundPlaces.{IsFitAt, is_port_of}
use Rattle.hume_calls.proofs.FitPorts.{found_place}

-- the ports that these nodes name
abbrev pub ports_named : List NodeC → List (List ℕ)
ports_named nodes = ports_of (filter_map stream_of nodes)

-- the port of a stream among nodes is among those that they name
among : (nodes : List NodeC) (n : ℕ) (node : NodeC) (stream : StreamC) → slice_get nodes n ≡ Some node → stream_of node ≡ Some stream
    → is_among stream.port (ports_named nodes) ≡ true
among [] n node stream is of = cc
among (first ∷ nodes) zero node stream is of = here first stream nodes (ap stream_of (same_node first node is) ∙ of)
  where
    same_node : (a b : NodeC) → ◌≡◌ {A = Option NodeC} (Some a) (Some b) → a ≡ b
    same_node a b e = cc

    here : (first : NodeC) (stream : StreamC) (nodes : List NodeC) → stream_of first ≡ Some stream → is_among stream.port (ports_named (first ∷ nodes)) ≡ true
    here (Rules b) stream nodes of = cc
    here (From other) stream nodes of =
        let same : other ≡ stream = cc in
        ap (λ (s : StreamC). bytes_eq stream.port s.port || is_among stream.port (ports_named nodes)) same
        ∙ ap (λ b. b || is_among stream.port (ports_named nodes)) (bytes_eq-self stream.port)
    here (To other) stream nodes of =
        let same : other ≡ stream = cc in
        ap (λ (s : StreamC). bytes_eq stream.port s.port || is_among stream.port (ports_named nodes)) same
        ∙ ap (λ b. b || is_among stream.port (ports_named nodes)) (bytes_eq-self stream.port)
among (first ∷ nodes) (suc n) node stream is of = later first (among nodes n node stream is of)
  where
    or-true : (b c : Bool) → c ≡ true → (b || c) ≡ true
    or-true true c is = refl
    or-true false c is = is

    later : (first : NodeC) → is_among stream.port (ports_named nodes) ≡ true → is_among stream.port (ports_named (first ∷ nodes)) ≡ true
    later (Rules b) h = h
    later (From other) h = or-true (bytes_eq stream.port other.port) (is_among stream.port (ports_named nodes)) h
    later (To other) h = or-true (bytes_eq stream.port other.port) (is_among stream.port (ports_named nodes)) h

-- one node more

-- the nodes up to one, and those behind it
pub up_to : (nodes : List NodeC) (count : ℕ) (node : NodeC) → slice_get nodes count ≡ Some node → take (count + 1) nodes ≡ take count nodes ++ node ∷ []
up_to nodes count node is =
    let more : count + 1 ≡ suc count = omega arith in
    ap (λ k. take k nodes) more ∙ take-suc nodes count node (slice_get_within nodes count node is)
    ∙ ap (λ last. take count nodes ++ last ∷ []) (get_or_from_slice_get nodes count node node is)

from_on : (nodes : List NodeC) (count : ℕ) (node : NodeC) → slice_get nodes count ≡ Some node → drop count nodes ≡ node ∷ drop (count + 1) nodes
from_on nodes count node is =
    let more : suc count ≡ count + 1 = omega arith in
    drop-cons nodes count node (slice_get_within nodes count node is)
    ∙ ap (λ first. first ∷ drop (suc count) nodes) (get_or_from_slice_get nodes count node node is)
    ∙ ap (λ k. node ∷ drop k nodes) more

-- the ports that a node and those behind it name
pub among_first : (port : List ℕ) (node : NodeC) (later : List NodeC) → is_among port (ports_named (node ∷ later)) ≡ (is_port_of (stream_of node) port || is_among port (ports_named later))
among_first port (Rules b) later = refl
among_first port (From stream) later = refl
among_first port (To stream) later = refl

-- the next node names the port, or not
pub named_at : (port : List ℕ) (nodes : List NodeC) (index : ℕ) (node : NodeC) (named : Bool) → index < length nodes → node ≡ get_or nodes index node → named ≡ is_port_of (stream_of node) port
    → is_among port (ports_named (drop index nodes)) ≡ (named || is_among port (ports_named (drop (index + 1) nodes)))
named_at port nodes index node named within is tells =
    ap (λ rest. is_among port (ports_named rest)) (from_on nodes index node (slice_get-get_or nodes index node within ∙ ap Some (sym is)))
    ∙ among_first port node (drop (index + 1) nodes)
    ∙ ap (λ b. b || is_among port (ports_named (drop (index + 1) nodes))) (sym tells)

taken_get : (nodes : List NodeC) (count n : ℕ) → n < count → slice_get (take count nodes) n ≡ slice_get nodes n
taken_get nodes zero n less = absurd (omega (arith, less))
taken_get [] (suc count) n less = refl
taken_get (first ∷ nodes) (suc count) zero less = refl
taken_get (first ∷ nodes) (suc count) (suc n) less = taken_get nodes count n (omega (arith, less))

get_before : (places : List ℕ) (last n : ℕ) → n < length places → slice_get (places ++ last ∷ []) n ≡ slice_get places n
get_before [] last n less = absurd (omega (arith, less))
get_before (first ∷ places) last zero less = refl
get_before (first ∷ places) last (suc n) less = get_before places last n (omega (arith, less))

get_last : (places : List ℕ) (last n : ℕ) → n ≡ length places → slice_get (places ++ last ∷ []) n ≡ Some last
get_last [] last zero is = refl
get_last [] last (suc n) is = absurd (omega (arith, is))
get_last (first ∷ places) last zero is = absurd (omega (arith, is))
get_last (first ∷ places) last (suc n) is = get_last places last n (let before : n ≡ length places = omega (arith, is) in before)

before_or_last : (n count : ℕ) → n < count + 1 → (n < count) ⊎ (n ≡ count)
before_or_last zero zero less = inr refl
before_or_last zero (suc count) less = inl (omega arith)
before_or_last (suc n) zero less = absurd (omega (arith, less))
before_or_last (suc n) (suc count) less = elim (before_or_last n count (omega (arith, less))) [ inl l ↦ inl (omega (arith, l)) | inr e ↦ inr (ap suc e) ]

-- what a node adds to the streams
abbrev with_stream : Option StreamC → List StreamC → List StreamC
with_stream None later = later
with_stream (Some stream) later = stream ∷ later

streams_from : (node : NodeC) (later : List NodeC) → filter_map stream_of (node ∷ later) ≡ with_stream (stream_of node) (filter_map stream_of later)
streams_from (Rules b) later = refl
streams_from (From stream) later = refl
streams_from (To stream) later = refl

drop_past : (nodes : List NodeC) (count : ℕ) → length nodes ≤ count → drop count nodes ≡ []
drop_past [] zero past = refl
drop_past [] (suc count) past = refl
drop_past (node ∷ nodes) zero past = absurd (omega (arith, past))
drop_past (node ∷ nodes) (suc count) past = drop_past nodes count (omega (arith, past))

module _ (names : List (List ℕ)) (source : List ℕ) (others : List (List ℕ)) (nodes : List NodeC) where
  -- the ports that no stream may have behind these nodes
  abbrev behind : List NodeC → List (List ℕ)
  behind earlier = others ++ ports_named earlier

  -- the places of the first nodes
  pub record Placed (places : List ℕ) (count : ℕ) : Type 0 where
    pub length : length places ≡ count
    pub left : unfit_line names source (behind (take count nodes)) (filter_map stream_of (drop count nodes)) ≡ unfit_line names source others (filter_map stream_of nodes)
    pub each : (n at : ℕ) (node : NodeC) (stream : StreamC) → n < count → slice_get nodes n ≡ Some node → stream_of node ≡ Some stream → slice_get places n ≡ Some at
        → IsPlaceOf stream.port names at
    pub apart : (n m : ℕ) (node other : NodeC) (first second : StreamC) → n < m → m < count → slice_get nodes n ≡ Some node → slice_get nodes m ≡ Some other
        → stream_of node ≡ Some first → stream_of other ≡ Some second → first.port ≡ second.port → ⊥

  pub placed_none : Placed [] 0
  placed_none = record {
    length = refl;
    left = ap (λ named. unfit_line names source named (filter_map stream_of nodes)) (append-nil others);
    each = λ n at node stream less. absurd (omega (arith, less));
    apart = λ n m node other first second less most. absurd (omega (arith, most));
  }

  module _ (places : List ℕ) (count : ℕ) (placed : Placed places count) (node : NodeC) (is : slice_get nodes count ≡ Some node) where
    one_node : (n : ℕ) (o : NodeC) → n ≡ count → slice_get nodes n ≡ Some o → o ≡ node
    one_node n o same there = let e : ◌≡◌ {A = Option NodeC} (Some o) (Some node) = sym there ∙ ap (slice_get nodes) same ∙ is in cc

    abbrev earlier : List NodeC
    earlier = take count nodes

    abbrev later : List NodeC
    later = drop (count + 1) nodes

    named_now : ports_named (take (count + 1) nodes) ≡ ports_named earlier ++ ports_of (with_stream (stream_of node) [])
    named_now =
        ap ports_named (up_to nodes count node is)
        ∙ ap ports_of (filter_map-append stream_of earlier (node ∷ []) ∙ ap (λ last. filter_map stream_of earlier ++ last) (streams_from node []))
        ∙ map-append (λ (stream : StreamC). stream.port) (filter_map stream_of earlier) (with_stream (stream_of node) [])

    -- what no stream may have behind the next node
    behind_now : behind (take (count + 1) nodes) ≡ behind earlier ++ ports_of (with_stream (stream_of node) [])
    behind_now = ap (λ named. others ++ named) named_now ∙ sym (append_assoc others (ports_named earlier) (ports_of (with_stream (stream_of node) [])))

    left_now : unfit_line names source (behind earlier) (with_stream (stream_of node) (filter_map stream_of later)) ≡ unfit_line names source others (filter_map stream_of nodes)
    left_now =
        sym (ap (unfit_line names source (behind earlier)) (ap (filter_map stream_of) (from_on nodes count node is) ∙ streams_from node later))
        ∙ placed.left

    length_now : (at : ℕ) → length (places ++ at ∷ []) ≡ count + 1
    length_now at = length-append places (at ∷ []) ∙ ap (λ k. k + 1) placed.length

    earlier_place : (at n p : ℕ) → n < count → slice_get (places ++ at ∷ []) n ≡ Some p → slice_get places n ≡ Some p
    earlier_place at n p less found = let l = placed.length in sym (get_before places at n (omega (arith, less, l))) ∙ found

    -- a box has no port
    pub placed_box : stream_of node ≡ None → (at : ℕ) → Placed (places ++ at ∷ []) (count + 1)
    placed_box none at = record {
      length = length_now at;
      left =
          ap (λ named. unfit_line names source named (filter_map stream_of later))
          (behind_now ∙ ap (λ o. behind earlier ++ ports_of (with_stream o [])) none ∙ append-nil (behind earlier))
          ∙ sym (ap (λ o. unfit_line names source (behind earlier) (with_stream o (filter_map stream_of later))) none) ∙ left_now;
      each = λ n p o stream less there of found. elim (before_or_last n count less) [
        | inl l ↦ placed.each n p o stream l there of (earlier_place at n p l found)
        | inr e ↦ absurd (not_here n o stream e there of)
      ];
      apart = λ n m o other first second l k there elsewhere of of' same. elim (before_or_last m count k) [
        | inl b ↦ placed.apart n m o other first second l b there elsewhere of of' same
        | inr e ↦ absurd (not_here m other second e elsewhere of')
      ];
    }
      where
        not_here : (n : ℕ) (o : NodeC) (stream : StreamC) → n ≡ count → slice_get nodes n ≡ Some o → stream_of o ≡ Some stream → ⊥
        not_here n o stream e there of = let no : ◌≡◌ {A = Option StreamC} None (Some stream) = sym none ∙ ap stream_of (sym (one_node n o e there)) ∙ of in cc

    module _ (stream : StreamC) (of : stream_of node ≡ Some stream) where
      left_here : unfit_line names source (behind earlier) (stream ∷ filter_map stream_of later) ≡ unfit_line names source others (filter_map stream_of nodes)
      left_here = sym (ap (λ o. unfit_line names source (behind earlier) (with_stream o (filter_map stream_of later))) of) ∙ left_now

      abbrev Unfit : Bool
      Unfit = is_unfit names source (behind earlier) stream.port

      -- its port is unfit
      pub placed_unfit : Unfit ≡ true → unfit_line names source others (filter_map stream_of nodes) ≡ Some stream.line
      placed_unfit unfit =
          sym left_here ∙ ap (λ b. cond b (Some stream.line) (unfit_line names source (behind earlier ++ stream.port ∷ []) (filter_map stream_of later))) unfit

      -- its port is fit, and found
      pub placed_stream : Unfit ≡ false → (at : ℕ) → place_of stream.port names ≡ Some at → Placed (places ++ at ∷ []) (count + 1)
      placed_stream fit at place = record {
        length = length_now at;
        left =
            ap (λ named. unfit_line names source named (filter_map stream_of later))
            (behind_now ∙ ap (λ o. behind earlier ++ ports_of (with_stream o [])) of)
            ∙ sym (ap (λ b. cond b (Some stream.line) (unfit_line names source (behind earlier ++ stream.port ∷ []) (filter_map stream_of later))) fit)
            ∙ left_here;
        each = λ n p o other less there of' found. elim (before_or_last n count less) [
          | inl l ↦ placed.each n p o other l there of' (earlier_place at n p l found)
          | inr e ↦ here n p o other e there of' found
        ];
        apart = λ n m o other first second l k there elsewhere of' of'' same. elim (before_or_last m count k) [
          | inl b ↦ placed.apart n m o other first second l b there elsewhere of' of'' same
          | inr e ↦ differs n m o other first second l e there elsewhere of' of'' same
        ];
      }
        where
          one_stream : (n : ℕ) (o : NodeC) (other : StreamC) → n ≡ count → slice_get nodes n ≡ Some o → stream_of o ≡ Some other → other ≡ stream
          one_stream n o other e there of' =
              let same : ◌≡◌ {A = Option StreamC} (Some other) (Some stream) = sym of' ∙ ap stream_of (one_node n o e there) ∙ of in cc

          here : (n p : ℕ) (o : NodeC) (other : StreamC) → n ≡ count → slice_get nodes n ≡ Some o → stream_of o ≡ Some other → slice_get (places ++ at ∷ []) n ≡ Some p
              → IsPlaceOf other.port names p
          here n p o other e there of' found =
              let same = one_stream n o other e there of' in
              let l = placed.length in
              let last : ◌≡◌ {A = Option ℕ} (Some at) (Some p) = sym (get_last places at n (omega (arith, e, l))) ∙ found in
              let place_is : at ≡ p = cc in
              found_place other.port names p (ap (λ (s : StreamC). place_of s.port names) same ∙ place ∙ ap Some place_is)

          differs : (n m : ℕ) (o other : NodeC) (first second : StreamC) → n < m → m ≡ count → slice_get nodes n ≡ Some o → slice_get nodes m ≡ Some other
              → stream_of o ≡ Some first → stream_of other ≡ Some second → first.port ≡ second.port → ⊥
          differs n m o other first second l e there elsewhere of' of'' same =
              let one = one_stream m other second e elsewhere of'' in
              let port : first.port ≡ stream.port = same ∙ ap (λ (s : StreamC). s.port) one in
              let none = (or_parts (bytes_eq stream.port source) (is_among stream.port (behind earlier))
              (or_parts (is_none (place_of stream.port names)) (bytes_eq stream.port source || is_among stream.port (behind earlier)) fit).1).1 in
              let out = (or_parts (is_among stream.port others) (is_among stream.port (ports_named earlier))
              (sym (list_any-append (bytes_eq stream.port) others (ports_named earlier)) ∙ none)).1 in
              let inside = among earlier n o first (taken_get nodes count n (omega (arith, l, e)) ∙ there) of' in
              let no : true ≡ false = sym inside ∙ ap (λ name. is_among name (ports_named earlier)) port ∙ out in cc

  -- the next node is a box, or a stream whose port is fit
  pub placed_next : (places : List ℕ) (count : ℕ) → Placed places count → (node : NodeC) → slice_get nodes count ≡ Some node → (at : ℕ)
      → IsFitAt names source others (take count nodes) node at → Placed (places ++ at ∷ []) (count + 1)
  placed_next places count placed node is at fit = by_stream (stream_of node) refl
    where
      by_stream : (o : Option StreamC) → stream_of node ≡ o → Placed (places ++ at ∷ []) (count + 1)
      by_stream None none = placed_box places count placed node is none at
      by_stream (Some stream) of = let f = fit stream of in placed_stream places count placed node is stream of f.0 at f.1

  -- all nodes have their places
  pub placed_all : (places : List ℕ) (count : ℕ) → length nodes ≤ count → count ≤ length nodes → Placed places count → unfit_line names source others (filter_map stream_of nodes) ≡ None
  placed_all places count past within placed =
      let none : drop count nodes ≡ [] = drop_past nodes count past in
      sym placed.left ∙ ap (λ later. unfit_line names source (behind (take count nodes)) (filter_map stream_of later)) none

  pub placed_count : (places : List ℕ) (count : ℕ) → length nodes ≤ count → count ≤ length nodes → Placed places count → length places ≡ length nodes
  placed_count places count past within placed = let l = placed.length in omega (arith, l, past, within)

  pub placed_each : (places : List ℕ) (count : ℕ) → length nodes ≤ count → Placed places count → (n at : ℕ) (node : NodeC) (stream : StreamC) → slice_get nodes n ≡ Some node
      → stream_of node ≡ Some stream → slice_get places n ≡ Some at → IsPlaceOf stream.port names at
  placed_each places count past placed n at node stream there of found =
      let within = slice_get_within nodes n node there in placed.each n at node stream (omega (arith, within, past)) there of found

  pub placed_apart : (places : List ℕ) (count : ℕ) → length nodes ≤ count → Placed places count → (n m : ℕ) (node other : NodeC) (first second : StreamC)
      → slice_get nodes n ≡ Some node → slice_get nodes m ≡ Some other → stream_of node ≡ Some first → stream_of other ≡ Some second → first.port ≡ second.port → n ≡ m
  placed_apart places count past placed n m node other first second there elsewhere of of' same =
      let one = slice_get_within nodes n node there in
      let two = slice_get_within nodes m other elsewhere in
      elim (cases_lt n m) [
        | inl less ↦ absurd (placed.apart n m node other first second less (omega (arith, two, past)) there elsewhere of of' same)
        | inr most ↦ elim (cases_lt m n) [
          | inl more ↦ absurd (placed.apart m n other node second first more (omega (arith, one, past)) elsewhere there of' of (sym same))
          | inr least ↦ omega (arith, most, least)
        ]
      ]

-- the next node is read at its index, and its place is added
pub placed_read : (names : List (List ℕ)) (source : List ℕ) (others : List (List ℕ)) (nodes : List NodeC) (places after : List ℕ) (count : ℕ) (node : NodeC) (at : ℕ)
    → Placed names source others nodes places count → count < length nodes → node ≡ get_or nodes count node
    → IsFitAt names source others (take count nodes) node at → after ≡ places ++ at ∷ [] → Placed names source others nodes after (count + 1)
placed_read names source others nodes places after count node at placed within is fit added =
    subst (λ ps. Placed names source others nodes ps (count + 1)) (sym added)
    (placed_next names source others nodes places count placed node (slice_get-get_or nodes count node within ∙ ap Some (sym is)) at fit)

pub all_placed : (names : List (List ℕ)) (source : List ℕ) (others : List (List ℕ)) (core : Core) (nodes : List NodeC) (places : List ℕ) (count : ℕ) → nodes ≡ core.nodes → length nodes ≤ count → count ≤ length nodes
    → Placed names source others nodes places count → ArePlacesOf core names places
all_placed names source others core nodes places count same past within placed = record {
  count = placed_count names source others nodes places count past within placed ∙ ap length same;
  each = λ n at node stream there of found. placed_each names source others nodes places count past placed n at node stream
      (subst (λ (ns : List NodeC). slice_get ns n ≡ Some node) (sym same) there) of found;
}

pub all_apart : (names : List (List ℕ)) (source : List ℕ) (others : List (List ℕ)) (core : Core) (nodes : List NodeC) (places : List ℕ) (count : ℕ) → nodes ≡ core.nodes → length nodes ≤ count
    → Placed names source others nodes places count → ArePortsApart core
all_apart names source others core nodes places count same past placed = λ n m node other first second there elsewhere of of' equal.
    placed_apart names source others nodes places count past placed n m node other first second
    (subst (λ (ns : List NodeC). slice_get ns n ≡ Some node) (sym same) there) (subst (λ (ns : List NodeC). slice_get ns m ≡ Some other) (sym same) elsewhere) of of' equal
