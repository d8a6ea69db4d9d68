-- Which exchanges may be made, by the places of ports.
use Rattle.std.proofs.Common.{◌≡◌, ℕ, ◌<◌, eqb, not, Bool, true, false, ◌||◌, List, [], ◌∷◌, arith, length, get_or, refl, ap, sym, ◌∙◌, subst, Option, None, Some}
use Rattle.std.specs.Prelude.{slice_get, slice_index_or}
use Rattle.std.specs.List.{position_or_len}
use Rattle.std.proofs.lemmas.Bool.{true≢false}
use Rattle.std.proofs.lemmas.Option.{slice_get-get_or}
use Rattle.std.proofs.lemmas.List.Sums.{passes_at_first}
use Rattle.hume_model.specs.declared.core_tree.NodeC.{NodeC}
use Rattle.hume_model.specs.declared.core_tree.StreamC.{StreamC}
use Rattle.hume_model.specs.declared.core_tree.Core.{Core}
use Rattle.hume_ports.specs.Ports.{place_of}
use Rattle.run_rounds.specs.Streams.{stream_of}
use Rattle.hume_console.specs.declared.places.Places.{Places}
use Rattle.hume_console.specs.Session.{Session, has_name, is_stream_of, is_taken, may_exchange, stream_named}
use Rattle.hume_console.specs.inner.Placed.{ArePlaced}
use Rattle.hume_console.proofs.Placing.{may_by, some_within}

-- the stream of a node that has one
pub record HasStream (core : Core) (node : ℕ) : Type 0 where
  pub item : NodeC
  pub stream : StreamC
  pub there : slice_get core.nodes node ≡ Some item
  pub is : stream_of item ≡ Some stream

named_stream : (name : List ℕ) (found : Option StreamC) → has_name name found ≡ true → (stream : StreamC) × (found ≡ Some stream)
named_stream name None is = absurd (true≢false (sym is))
named_stream name (Some stream) is = (stream, refl)

any_of : (nodes : List NodeC) (node : ℕ) → node < length nodes → NodeC
any_of [] node within = absurd (omega (arith, within))
any_of (first ∷ nodes) node within = first

pub stream_there : (core : Core) (name : List ℕ) (node : ℕ) → stream_named core name ≡ Some node → HasStream core node
stream_there core name node e =
    let first = some_within (position_or_len (is_stream_of name) core.nodes) (length core.nodes) node e in
    let within : node < length core.nodes = subst (λ n. n < length core.nodes) first.0 first.1 in
    let some : NodeC = any_of core.nodes node within in
    let item : NodeC = get_or core.nodes node some in
    let passes : is_stream_of name item ≡ true =
    subst (λ n. is_stream_of name (get_or core.nodes n some) ≡ true) first.0 (passes_at_first (is_stream_of name) core.nodes some first.1) in
    let stream = named_stream name (stream_of item) passes in
    record { item = item; stream = stream.0; there = slice_get-get_or core.nodes node some within; is = stream.1 }

or_true : (b : Bool) → (b || true) ≡ true
or_true true = refl
or_true false = refl

-- the answer for the node that was found
may : (core : Core) (source : List ℕ) (session : Session) (names : List (List ℕ)) (places : Places) (name port : List ℕ) (node to : ℕ)
    → ArePlaced core source session names places → stream_named core name ≡ Some node → place_of port names ≡ Some to
    → may_exchange core source session node port ≡ not (eqb (slice_index_or places.streams.items node 0) places.std_out || is_taken core source session port)
may core source session names places name port node to placed found e =
    let has = stream_there core name node found in
    may_by core source session names places port node to has.item has.stream placed has.there has.is e

same_node : (core : Core) (name : List ℕ) (node n : ℕ) → stream_named core name ≡ Some node → stream_named core name ≡ Some n → n ≡ node
same_node core name node n e f = let joined : Some n ≡ Some node = sym f ∙ e in cc

pub none_from_std_out : (core : Core) (source : List ℕ) (session : Session) (names : List (List ℕ)) (places : Places) (name port : List ℕ) (node to : ℕ)
    → stream_named core name ≡ Some node → place_of port names ≡ Some to → eqb (slice_index_or places.streams.items node 0) places.std_out ≡ true
    → ArePlaced core source session names places → (n : ℕ) → stream_named core name ≡ Some n → may_exchange core source session n port ≡ false
none_from_std_out core source session names places name port node to found e out placed n is =
    ap (λ m. may_exchange core source session m port) (same_node core name node n found is)
    ∙ may core source session names places name port node to placed found e ∙ ap (λ b. not (b || is_taken core source session port)) out

pub none_to_taken : (core : Core) (source : List ℕ) (session : Session) (names : List (List ℕ)) (places : Places) (name port : List ℕ) (node to : ℕ)
    → stream_named core name ≡ Some node → place_of port names ≡ Some to → is_taken core source session port ≡ true
    → ArePlaced core source session names places → (n : ℕ) → stream_named core name ≡ Some n → may_exchange core source session n port ≡ false
none_to_taken core source session names places name port node to found e taken placed n is =
    ap (λ m. may_exchange core source session m port) (same_node core name node n found is)
    ∙ may core source session names places name port node to placed found e
    ∙ ap (λ b. not (eqb (slice_index_or places.streams.items node 0) places.std_out || b)) taken
    ∙ ap not (or_true (eqb (slice_index_or places.streams.items node 0) places.std_out))

pub may_be_made : (core : Core) (source : List ℕ) (session : Session) (names : List (List ℕ)) (places : Places) (name port : List ℕ) (node to : ℕ)
    → stream_named core name ≡ Some node → place_of port names ≡ Some to → eqb (slice_index_or places.streams.items node 0) places.std_out ≡ false
    → is_taken core source session port ≡ false → ArePlaced core source session names places → may_exchange core source session node port ≡ true
may_be_made core source session names places name port node to found e out free placed =
    may core source session names places name port node to placed found e ∙ rw (out, free) refl
